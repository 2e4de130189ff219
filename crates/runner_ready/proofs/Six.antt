-- The six words, and the answer.
use mathlib.Core.Path.{◌≡◌, refl, ap, sym, ◌∙◌, fun_ext}
use mathlib.Core.Bool.{Bool, true, false, not}
use mathlib.Core.List.{List, [], ◌∷◌}
use Prim.Native.Nat.{ℕ, ◌<◌}
use lib.Count.{ones}
use borrow.Author.Tests.{eq-eqb, ne_eqb}
use Rattle.spec_words.specs.Words.{size, pick, pass, halt}
use Rattle.spec_lists.specs.Counting.{over}
use Rattle.spec_layout.specs.Layout.{length_of}
use Rattle.law_in_range.specs.Sound.{rules_sound}
use Rattle.spec_runner.specs.declared.StepAnswer.{StepAnswer}
use Rattle.spec_runner.specs.declared.StepAnswer.TheVariants.{Moved, Refused}
use Rattle.spec_runner.specs.Answers.{has_moved, answer_of}
use Rattle.spec_runner.specs.Ready.{bits_from, words_for, lowest_from, map_of, ready_map, no_map, test_answer, mapped, ready_outcome}
use Rattle.spec_runner.specs.Moves.{step_moves}
use Rattle.spec_runner.proofs.MovesLaws.{ready_moves}
use Rattle.runner_words.specs.Tested.{map_refusal, refused_with, tests_pass, rules_held, held_size}

pub map_made : (f : ℕ → Bool) (w0 w1 w2 w3 n t : ℕ) → w0 ≡ bits_from f 32 0 → w1 ≡ bits_from f 32 32 → w2 ≡ bits_from f 32 64
    → w3 ≡ bits_from f 32 96 → n ≡ over (w0 ∷ w1 ∷ w2 ∷ w3 ∷ []) ones → t ≡ lowest_from 0 (w0 ∷ w1 ∷ w2 ∷ w3 ∷ [])
    → w0 ∷ w1 ∷ w2 ∷ w3 ∷ n ∷ t ∷ [] ≡ map_of (words_for f)
unfolding map_of words_for
map_made f w0 w1 w2 w3 n t e0 e1 e2 e3 en et = rw (en, et, e0, e1, e2, e3) refl

-- THE ANSWER
module _ (j m r o : List ℕ) where
  pub other_length : (size o ≡ 6 → ⊥) → mapped (Refused 1) o ≡ ready_outcome j m r o
  unfolding ready_outcome
  other_length n = sym (halt _ _ (ap not (ne_eqb _ _ n)))

  module _ {k : ℕ} (l : size o ≡ 6) (e : k ≡ map_refusal j m r) where
    pub map_refused : {p : List ℕ} → (k ≡ 0 → ⊥) → p ≡ no_map → mapped (Refused k) p ≡ ready_outcome j m r o
    unfolding ready_outcome
    map_refused {p} n ep =
        ap (mapped (Refused k)) ep
        ∙ sym (pass _ (ap not (eq-eqb _ _ l)) (ap (λ (a : StepAnswer). mapped a (pick (has_moved a) (ready_map j m r) no_map)) (refused_with j m r e n)
        ∙ ap (mapped (Refused k)) (pass _ none refl)))
      where
        none : has_moved (Refused k) ≡ false
        none = unfold has_moved in refl

    pub map_given : {p : List ℕ} → k ≡ 0 → p ≡ map_of (words_for (step_moves j m r)) → mapped Moved p ≡ ready_outcome j m r o
    unfolding ready_outcome
    map_given {p} z ep =
        ap (mapped Moved) (ep ∙ same)
        ∙ sym (pass _ (ap not (eq-eqb _ _ l)) (ap (λ (a : StepAnswer). mapped a (pick (has_moved a) (ready_map j m r) no_map)) answer
        ∙ ap (mapped Moved) (halt _ _ moved)))
      where
        moved : has_moved Moved ≡ true
        moved = unfold has_moved in refl

        answer : test_answer j m r ≡ Moved
        answer = unfold test_answer in ap answer_of (tests_pass j m r e z _) ∙ (unfold answer_of in refl)

        wide : (s : ℕ) → 0 < length_of m s
        wide s = ((rules_sound m (held_size j m r e z) (rules_held j m r e z)).length_range s).0

        same : map_of (words_for (step_moves j m r)) ≡ ready_map j m r
        same = unfold ready_map in ap (λ (f : ℕ → Bool). map_of (words_for f)) (fun_ext (λ t. sym (ready_moves j m r t wide (tests_pass j m r e z))))
