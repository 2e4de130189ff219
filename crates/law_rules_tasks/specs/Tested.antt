-- What the tests of the top and of the free records say, both ways.
use Rattle.std.specs.Prelude.{◌≡◌, true, ◌⊎◌, ℕ, ◌<◌, ◌≤◌, length}
use Rattle.std.proofs.Math.Logic.{inl, inr, ⊎_elim}
use Rattle.std.proofs.Common.{arith}
use borrow.Author.Tests.{leb-true, le-leb, eqb-true, eq-eqb}
use Rattle.spec_words.specs.Words.{both_true, true_both, either_true, true_left, true_right}
use Rattle.spec_lists.specs.Counting.{occurrences}
use Rattle.spec_lists.specs.Tests.{each_says, says_each}
use Rattle.spec_lists.specs.Distinct.{Distinct, distinct_says, says_distinct}
use Rattle.spec_layout.specs.Layout.{NONE, STATUS, PARENT, OLDER, YOUNGER, YOUNGEST, FREE, UNFINISHED, FINISHED}
use Rattle.spec_rules.specs.Contents.{Contents, word, task_rights}
use Rattle.spec_rules.specs.Test.{top_test, idle_test}

module _ (c : Contents) where
  pub record Top : Type 0 where
    pub status : (word c 0 STATUS ≡ UNFINISHED) ⊎ ((word c 0 STATUS ≡ FINISHED) × (word c 0 YOUNGEST ≡ NONE))
    pub rights : task_rights c 0 ≡ 255
    pub parent : word c 0 PARENT ≡ NONE
    pub older : word c 0 OLDER ≡ NONE
    pub younger : word c 0 YOUNGER ≡ NONE

  pub record Idle : Type 0 where
    pub few : length c.idle ≤ 127
    pub apart : Distinct 128 c.idle
    pub above : (t : ℕ) → 0 < occurrences t c.idle → 0 < t
    pub free : (t : ℕ) → 0 < occurrences t c.idle → word c t STATUS ≡ FREE

  pub top_says : top_test c ≡ true → Top
  unfolding top_test
  top_says e =
      let a = both_true _ _ e in
      let b = both_true _ _ a.1 in
      let d = both_true _ _ b.1 in
      let f = both_true _ _ d.1 in
      record {
        status = ⊎_elim (λ q. inl (eqb-true _ _ q)) (λ q. let w = both_true _ _ q in inr (eqb-true _ _ w.0, eqb-true _ _ w.1)) (either_true _ _ a.0);
        rights = eqb-true _ _ b.0;
        parent = eqb-true _ _ d.0;
        older = eqb-true _ _ f.0;
        younger = eqb-true _ _ f.1;
      }

  pub says_top : Top → top_test c ≡ true
  unfolding top_test
  says_top w =
      true_both
      (⊎_elim (λ q. true_left _ (eq-eqb _ _ q)) (λ q. true_right _ (true_both (eq-eqb _ _ q.0) (eq-eqb _ _ q.1))) w.status)
      (true_both (eq-eqb _ _ w.rights) (true_both (eq-eqb _ _ w.parent) (true_both (eq-eqb _ _ w.older) (eq-eqb _ _ w.younger))))

  pub idle_says : idle_test c ≡ true → Idle
  unfolding idle_test
  idle_says e =
      let a = both_true _ _ e in
      let b = both_true _ _ a.1 in
      record {
        few = leb-true _ _ a.0;
        apart = distinct_says 128 c.idle (omega arith) b.0;
        above = λ t p. let l = leb-true 1 t (both_true _ _ (each_says _ _ b.1 t p)).0 in omega (arith, l);
        free = λ t p. eqb-true _ _ (both_true _ _ (each_says _ _ b.1 t p)).1;
      }

  pub says_idle : Idle → idle_test c ≡ true
  unfolding idle_test
  says_idle w =
      true_both (le-leb _ _ w.few)
      (true_both (says_distinct 128 c.idle (omega arith) w.apart)
      (says_each _ _ (λ t p. true_both (le-leb 1 t (w.above t p)) (eq-eqb _ _ (w.free t p)))))
