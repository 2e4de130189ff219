-- A RUN IS ITS SINGLE PUSHES, on memory of any origin that passes the tests. "If segments run out part way the whole run is refused with 9"
-- and no word changes. The one difference: where already the first push would get 2, for a reduction that the paper leaves out, a run that is
-- longer than the room gets 9, since 9 goes first.
use Rattle.std.specs.Prelude.{◌≡◌, refl, Bool, false, ◌⊎◌, ℕ, suc, ◌<◌, length}
use Rattle.std.proofs.Common.{ap, ◌∙◌, arith}
use Rattle.std.proofs.Math.Path.{sym}
use Rattle.std.proofs.Math.Bool.{true}
use mathlib.Core.List.{List, [], ◌∷◌}
use Rattle.std.proofs.Math.Logic.{inl, inr}
use borrow.Author.Tests.{ltb-true}
use Rattle.spec_words.specs.Words.{size, pick, pass, halt, both_true}
use Rattle.spec_answers.specs.declared.Answer.TheVariants.{Moved, Waits, Refused}
use Rattle.spec_answers.specs.Answers.{Outcome, outcome, words_of, when_moved}
use Rattle.spec_layout.specs.Layout.{WORDS}
use Rattle.spec_rules.specs.Test.{rules_hold}
use Rattle.spec_outcomes.specs.Waits.{tested, unfinished}
use Rattle.spec_outcomes.specs.Push.{pushed, pushed_all, capacity, runs_out, pushed_run, push_tested, push_outcome}
use Rattle.law_in_range.specs.Sound.{unfinished_says}
use Rattle.law_push_runs.specs.Pushable.{Pushable, rules_pushable}
use Rattle.law_push_runs.specs.Runs.{short, starts, Starts, goes, stops, leaves_out}

-- the first push of the run gets 2, and the run 9
abbrev pub NineFirst : List ℕ → ℕ → ℕ → List ℕ → Type 0
NineFirst m t q [] = ⊥
NineFirst m t q (v ∷ vs) = (pushed m t q v ≡ outcome (Refused 2) m) × (pushed_run m t q (v ∷ vs) ≡ outcome (Refused 9) m)

module _ (t q : ℕ) (ht : t < 128) (hq : q < 4) (m : List ℕ) (p : Pushable m t q) where
  -- a run that is refused by its room
  too_long : (v : ℕ) (vs : List ℕ) → capacity m t q < suc (length vs) → pushed_run m t q (v ∷ vs) ≡ outcome (Refused 9) m
      → (pushed_run m t q (v ∷ vs) ≡ pushed_all m m t q 0 (v ∷ vs)) ⊎ NineFirst m t q (v ∷ vs)
  too_long v vs l is = go (starts t q ht hq m v vs p)
    where
      go : Starts t q ht hq m v vs → (pushed_run m t q (v ∷ vs) ≡ pushed_all m m t q 0 (v ∷ vs)) ⊎ NineFirst m t q (v ∷ vs)
      go (goes n) = unfold pushed_all when_moved in
          let c = n.less in
          inl (is ∙ sym (ap (λ (x : Outcome). when_moved m x (λ y w. pushed_all m w t q y vs)) n.is
          ∙ short t q ht hq vs m (words_of (pushed m t q v)) v n.filled (omega (arith, c, l))))
      go (stops e c) = unfold pushed_all when_moved in
          inl (is ∙ sym (ap (λ (x : Outcome). when_moved m x (λ y w. pushed_all m w t q y vs)) e))
      go (leaves_out e) = inr (e, is)

  -- THE LAW
  pub run_is_pushes : (vs : List ℕ) → (pushed_run m t q vs ≡ pushed_all m m t q 0 vs) ⊎ NineFirst m t q vs
  run_is_pushes vs = go vs (runs_out m t q (length vs)) refl
    where
      go : (vs : List ℕ) (b : Bool) → runs_out m t q (length vs) ≡ b → (pushed_run m t q vs ≡ pushed_all m m t q 0 vs) ⊎ NineFirst m t q vs
      go vs false e = unfold pushed_run in inl (pass _ e refl)
      go [] true e = unfold runs_out in let l : capacity m t q < 0 = ltb-true _ _ (both_true _ _ e).1 in let z : ⊥ = omega (arith, l) in absurd z
      go (v ∷ vs) true e = unfold runs_out in
          too_long v vs (ltb-true _ _ (both_true _ _ e).1) (unfold pushed_run in halt _ _ e)

-- ON EVERY MEMORY, and with any arguments: where a run moves, words and answer are those of its single pushes behind the tests.
past : (b : Bool) (x o : Outcome) {w : ℕ} {n : List ℕ} → (x ≡ outcome (Moved w) n → ⊥) → pick b x o ≡ outcome (Moved w) n → o ≡ outcome (Moved w) n
unfolding pick
past true x o f e = absurd (f e)
past false x o f e = e

refused : {k w : ℕ} {m n : List ℕ} → outcome (Refused k) m ≡ outcome (Moved w) n → ⊥
refused e = let z : ◌≡◌ {A = ℕ} 0 1 = cc in omega (arith, z)

waits : {w : ℕ} {m n : List ℕ} → outcome Waits m ≡ outcome (Moved w) n → ⊥
waits e = let z : ◌≡◌ {A = ℕ} 0 1 = cc in omega (arith, z)

pub moved_is_pushes : (m : List ℕ) (t q : ℕ) (vs : List ℕ) (w : ℕ) (n : List ℕ) → push_outcome m t q vs ≡ outcome (Moved w) n
    → pushed_all m m t q 0 vs ≡ outcome (Moved w) n
unfolding push_outcome tested push_tested pushed_run
moved_is_pushes m t q vs w n e =
    past _ _ _ refused (past _ _ _ waits (past _ _ _ refused (past _ _ _ refused (past _ _ _ refused (past _ _ _ refused (past _ _ _ refused e))))))

-- ON MEMORY THAT PASSES THE TESTS, of any origin: the law for a task that may push
pub passing_run : (m : List ℕ) (t q : ℕ) (vs : List ℕ) → size m ≡ WORDS → rules_hold m ≡ true → unfinished m t ≡ true → q < 4
    → (pushed_run m t q vs ≡ pushed_all m m t q 0 vs) ⊎ NineFirst m t q vs
passing_run m t q vs big ok there small = run_is_pushes t q (unfinished_says m t there).0 small m (rules_pushable m t q big ok there small) vs
