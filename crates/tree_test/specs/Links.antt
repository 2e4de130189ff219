-- One link of the task tree, test by test, as the code makes them.
use Rattle.std.specs.Prelude.{◌≡◌, Bool, true, ℕ, leb, eqb}
use Rattle.std.proofs.Common.{arith}
use borrow.Author.Tests.{leb-true, le-leb, eqb-true, eq-eqb}
use Rattle.spec_words.specs.Words.{both, both_true, true_both}
use Rattle.spec_layout.specs.Layout.{STATUS, PARENT, YOUNGER, UNFINISHED}
use Rattle.spec_tree.specs.Rights.{subset}
use Rattle.spec_rules.specs.Contents.{Contents, word, task_rights}
use Rattle.law_rules_tasks.specs.Marks.{Kin}

module _ (c : Contents) where
  -- t is an unfinished task other than the top with parent p and younger sibling y, and no right that b lacks
  unfoldable pub fitting : ℕ → ℕ → ℕ → ℕ → Bool
  fitting t p y b =
      both (leb 1 t) (both (leb t 127) (both (eqb (word c t STATUS) UNFINISHED) (both (eqb (word c t PARENT) p) (both (eqb (word c t YOUNGER) y)
      (subset (task_rights c t) b)))))

  -- the same of its record alone
  unfoldable pub record_fits : ℕ → ℕ → ℕ → ℕ → Bool
  record_fits t p y b =
      both (eqb (word c t STATUS) UNFINISHED) (both (eqb (word c t PARENT) p) (both (eqb (word c t YOUNGER) y) (subset (task_rights c t) b)))

  -- what the tests say together
  pub fit_says : (t p y : ℕ) → fitting t p y (task_rights c p) ≡ true → Kin c t p y
  unfolding fitting
  fit_says t p y e =
      let l = both_true _ _ e in
      let h = both_true _ _ l.1 in
      let s = both_true _ _ h.1 in
      let f = both_true _ _ s.1 in
      let g = both_true _ _ f.1 in
      let low = leb-true 1 t l.0 in
      let high = leb-true t 127 h.0 in
      record {
        above = omega (arith, low);
        below = omega (arith, high);
        status = eqb-true _ _ s.0;
        parent = eqb-true _ _ f.0;
        younger = eqb-true _ _ g.0;
        rights = g.1;
      }

  pub says_fit : (t p y : ℕ) → Kin c t p y → fitting t p y (task_rights c p) ≡ true
  unfolding fitting
  says_fit t p y w =
      let a = w.above in
      let b = w.below in
      true_both (le-leb 1 t (omega (arith, a))) (true_both (le-leb t 127 (omega (arith, b)))
      (true_both (eq-eqb _ _ w.status) (true_both (eq-eqb _ _ w.parent) (true_both (eq-eqb _ _ w.younger) w.rights))))
