-- open: on words of the right number it tests the numbers alone, and leaves a core with the top's spot.
use Rattle.std.proofs.Math.Path.{◌≡◌}
use Rattle.std.specs.Prelude.{refl, Bool, not, List, ℕ, eqb}
use Rattle.std.proofs.Common.{ap, arith, eq-eqb}
use Rattle.std.proofs.Math.Bool.{true, false}
use Rattle.std.proofs.Math.Logic.{inl}
use Rattle.spec_words.specs.Words.{size, pick, pass as skip}
use Rattle.spec_layout.specs.Layout.{WORDS}
use Rattle.spec_answers.specs.declared.Answer.TheVariants.{Moved, Refused}
use Rattle.spec_answers.specs.Answers.{outcome, answer_of, words_of}
use Rattle.spec_answers.specs.Calls.{open_call}
use Rattle.spec_rules.specs.Test.{in_range}
use Rattle.spec_outcomes.specs.Open.{opened, open_outcome}
use Rattle.spec_order.specs.Steps.{Item, begin, counted, noted}
use Rattle.law_invariant_spawn.specs.Open.{open_represents}
use Rattle.law_in_order.proofs.Yields.{Yields, refuses, chooses_not, does_as}
use Rattle.law_in_order.proofs.State.{State}

pub open_does : (m : List ℕ) (xs : List Item) (l n : ℕ) → size m ≡ WORDS → State m xs
    → Yields State xs (open_call l n) (open_outcome m l n) (pick (in_range l n) (Moved 0) (Refused 3))
unfolding open_outcome answer_of words_of noted counted
open_does m xs l n e st =
    does_as State _ _ _ _ (skip _ (ap not (eq-eqb (size m) WORDS e)) refl) refl
    (chooses_not State (in_range l n) (in_range l n) refl
    (λ d. record { answer = refl; holds = inl (open_represents l n d) })
    (λ d. refuses State m xs (open_call l n) 3 st))

-- an opening that is not refused
pub opens : (w : List ℕ) (l n : ℕ) → answer_of (open_outcome w l n) ≡ Moved 0 → State (words_of (open_outcome w l n)) begin
unfolding open_outcome
opens w l n e = go (not (eqb (size w) WORDS)) (in_range l n) refl e
  where
    go : (a b : Bool) → in_range l n ≡ b
        → answer_of (pick a (outcome (Refused 1) w) (pick (not b) (outcome (Refused 3) w) (outcome (Moved 0) (opened l n)))) ≡ Moved 0
        → State (words_of (pick a (outcome (Refused 1) w) (pick (not b) (outcome (Refused 3) w) (outcome (Moved 0) (opened l n))))) begin
    go true b d f = unfold pick answer_of words_of in let z : ◌≡◌ {A = ℕ} 0 1 = cc in absurd (omega (arith, z))
    go false false d f = unfold pick answer_of words_of in let z : ◌≡◌ {A = ℕ} 0 1 = cc in absurd (omega (arith, z))
    go false true d f = unfold pick answer_of words_of in inl (open_represents l n d)
