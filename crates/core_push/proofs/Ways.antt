-- A push is lent the whole memory as a part of itself, and what the rules promise to it.
use mathlib.Core.Path.{◌≡◌, refl, ap, sym, ◌∙◌, subst}
use mathlib.Core.Bool.{true, false, not}
use mathlib.Core.List.{List, ◌++◌, append-nil}
use Prim.Native.Nat.{ℕ, ◌-◌, ◌<◌}
use native.Mathlib.Omega.{arith}
use borrow.Author.Tests.{lt-leb}
use lib.ListN.{length, drop_of_length-le}
use lib.Seq.{take_all}
use borrow.Rule.Slice.PartMut.{mid_of, put_mid}
use Rattle.spec_words.specs.Words.{size, pass}
use Rattle.spec_layout.specs.Layout.{rights_of}
use Rattle.spec_answers.specs.declared.Answer.{Answer}
use Rattle.spec_answers.specs.Answers.{outcome}
use Rattle.spec_tree.specs.Rights.{pushes}
use Rattle.spec_rules.specs.Test.{rules_hold}
use Rattle.spec_outcomes.specs.Waits.{unfinished, blocked}
use Rattle.law_in_range.specs.Sound.{unfinished_says}
use Rattle.law_push_runs.specs.Pushable.{Pushable, rules_pushable}
use Rattle.spec_outcomes.specs.Push.{pushed_run, push_tested}

-- the whole memory lent on as a part of itself
pub whole_part : (m : List ℕ) → length m ≡ 16384 → mid_of 0 (16384 - 0) m ≡ m
whole_part m e = take_all (16384 - 0) m (omega (arith, e))

pub whole_put : (m n : List ℕ) → length m ≡ 16384 → put_mid 0 (16384 - 0) m n ≡ n
whole_put m n e = ap (λ (l : List ℕ). n ++ l) (drop_of_length-le m {i = 16384 - 0} (omega (arith, e))) ∙ append-nil n

-- what the rules promise to a push
pub can_push_lem : (m : List ℕ) (t q : ℕ) → length m ≡ 16384 → rules_hold m ≡ true → unfinished m t ≡ true → q < 4
    → (Pushable (mid_of 0 (16384 - 0) m) t q) × (t < 128) × (q < 4)
unfolding size
can_push_lem m t q big ok there small =
    (subst (λ (l : List ℕ). Pushable l t q) (sym (whole_part m big)) (rules_pushable m t q big ok there small), (unfinished_says m t there).0, small)

pub behind_tests : (m : List ℕ) (t q : ℕ) (vs : List ℕ) → unfinished m t ≡ true → q < 4 → pushes (rights_of m t) q ≡ true → blocked m t ≡ false
    → push_tested m t q vs ≡ pushed_run m t q vs
unfolding push_tested
behind_tests m t q vs e1 f e3 e4 = pass _ (ap not e1) (pass _ (lt-leb 4 q f) (pass _ (ap not e3) (pass _ e4 refl)))

-- a push behind the tests
pub lent : (m n : List ℕ) (t q : ℕ) (vs : List ℕ) {a : Answer} → length m ≡ 16384 → outcome a n ≡ pushed_run (mid_of 0 (16384 - 0) m) t q vs
    → outcome a (put_mid 0 (16384 - 0) m n) ≡ pushed_run m t q vs
lent m n t q vs {a} big e = ap (outcome a) (whole_put m n big) ∙ e ∙ ap (λ (l : List ℕ). pushed_run l t q vs) (whole_part m big)
