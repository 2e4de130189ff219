-- The marks of the tour: which mark comes after one, and what the test of the tree says at it, both ways.
use Rattle.std.specs.Prelude.{◌≡◌, true, [], ◌∷◌, ◌⊎◌}
use Rattle.std.proofs.Math.Path.{refl}
use Rattle.std.proofs.Common.{ap, sym, ◌∙◌}
use Rattle.std.proofs.Math.Bool.{false≢true}
use Rattle.std.proofs.Math.Logic.{inl, inr, ⊎_elim}
use Prim.Native.Nat.{ℕ, zero, suc, ◌+◌, ◌-◌, ◌<◌, ◌≤◌}
use native.Mathlib.Omega.{arith}
use borrow.Author.Tests.{lt-ltb, le-ltb, leb-true, le-leb, lt-leb, eqb-true, eq-eqb, ne_eqb}
use Rattle.spec_words.specs.Words.{pass, halt, both_true, true_both, either_true, true_left, true_right}
use Rattle.spec_layout.specs.Layout.{NONE, STATUS, PARENT, OLDER, YOUNGER, YOUNGEST, UNFINISHED}
use Rattle.spec_tree.specs.Rights.{subset}
use Rattle.spec_tree.specs.Tour.{after, entering, exiting, tour}
use Rattle.spec_rules.specs.Contents.{Contents, word, task_rights}
use Rattle.spec_rules.specs.Test.{kin, within, link_test, tree_test}

module _ (c : Contents) where
  -- t is an unfinished task other than the top, with parent p and younger sibling y, and no right that p lacks
  pub record Kin (t p y : ℕ) : Type 0 where
    pub above : 0 < t
    pub below : t < 128
    pub status : word c t STATUS ≡ UNFINISHED
    pub parent : word c t PARENT ≡ p
    pub younger : word c t YOUNGER ≡ y
    pub rights : subset (task_rights c t) (task_rights c p) ≡ true

  kin_says : (t p y : ℕ) → kin c t p y ≡ true → (t ≡ NONE) ⊎ Kin t p y
  unfolding kin within
  kin_says t p y e =
      ⊎_elim
      (λ q. inl (eqb-true _ _ q))
      (λ q.
      let a = both_true _ _ q in
      let r = both_true _ _ a.0 in
      let b = both_true _ _ a.1 in
      let d = both_true _ _ b.1 in
      let f = both_true _ _ d.1 in
      let low = leb-true 1 t r.0 in
      let high = leb-true t 127 r.1 in
      inr (record {
        above = omega (arith, low);
        below = omega (arith, high);
        status = eqb-true _ _ b.0;
        parent = eqb-true _ _ d.0;
        younger = eqb-true _ _ f.0;
        rights = f.1;
      }))
      (either_true _ _ e)

  none_kin : (t p y : ℕ) → t ≡ NONE → kin c t p y ≡ true
  unfolding kin
  none_kin t p y e = true_left _ (eq-eqb _ _ e)

  says_kin : (t p y : ℕ) → Kin t p y → kin c t p y ≡ true
  unfolding kin within
  says_kin t p y w =
      let a = w.above in
      let b = w.below in
      true_right _ (true_both (true_both (le-leb 1 t (omega (arith, a))) (le-leb t 127 (omega (arith, b))))
      (true_both (eq-eqb _ _ w.status) (true_both (eq-eqb _ _ w.parent) (true_both (eq-eqb _ _ w.younger) w.rights))))

  -- THE MARK AFTER ONE
  after_entered : (t : ℕ) → t < 128 → after c.recs t ≡ entering t (word c t YOUNGEST)
  unfolding after word
  after_entered t l = halt _ _ (lt-ltb t 128 l)

  after_exited : (t : ℕ) → after c.recs (128 + t) ≡ entering (word c t PARENT) (word c t OLDER)
  unfolding after word
  after_exited t =
      pass _ (le-ltb (128 + t) 128 (omega arith)) (ap (λ (u : ℕ). entering (word c u PARENT) (word c u OLDER)) (let z : 128 + t - 128 ≡ t = omega arith in z))

  enters : (p u : ℕ) → u < 128 → entering p u ≡ u
  unfolding entering
  enters p u l = halt _ _ (lt-ltb u 128 l)

  leaves : (p u : ℕ) → u ≡ NONE → p < 128 → entering p u ≡ 128 + p
  unfolding entering exiting
  leaves p u e l = pass _ (le-ltb u 128 (omega (arith, e))) (halt _ _ (lt-ltb p 128 l))

  pub after_childless : (t : ℕ) → t < 128 → word c t YOUNGEST ≡ NONE → after c.recs t ≡ 128 + t
  after_childless t l q = after_entered t l ∙ leaves t (word c t YOUNGEST) q l

  pub after_parent : (t : ℕ) → t < 128 → word c t YOUNGEST < 128 → after c.recs t ≡ word c t YOUNGEST
  after_parent t l h = after_entered t l ∙ enters t (word c t YOUNGEST) h

  pub after_oldest : (t : ℕ) → word c t PARENT < 128 → word c t OLDER ≡ NONE → after c.recs (128 + t) ≡ 128 + word c t PARENT
  after_oldest t l q = after_exited t ∙ leaves (word c t PARENT) (word c t OLDER) q l

  pub after_younger : (t : ℕ) → word c t OLDER < 128 → after c.recs (128 + t) ≡ word c t OLDER
  after_younger t h = after_exited t ∙ enters (word c t PARENT) (word c t OLDER) h

  -- past the end
  pub after_top : word c 0 PARENT ≡ NONE → word c 0 OLDER ≡ NONE → after c.recs 128 ≡ 256
  unfolding entering exiting
  after_top e f = after_exited 0 ∙ past (word c 0 PARENT) (word c 0 OLDER) e f
    where
      past : (p u : ℕ) → p ≡ NONE → u ≡ NONE → entering p u ≡ 256
      past p u e f = pass _ (le-ltb u 128 (omega (arith, f))) (pass _ (le-ltb p 128 (omega (arith, e))) refl)

  -- THE TEST at one mark
  pub tree_none : (x : ℕ) → tree_test c 0 x ≡ true → ⊥
  unfolding tree_test
  tree_none x e = false≢true e

  pub tree_last : tree_test c 1 128 ≡ true
  unfolding tree_test
  tree_last = halt _ _ (eq-eqb 128 128 refl) ∙ eq-eqb 0 0 refl

  pub last_tree : (k : ℕ) → tree_test c (suc k) 128 ≡ true → k ≡ 0
  unfolding tree_test
  last_tree k e = eqb-true k 0 (sym (halt _ _ (eq-eqb 128 128 refl)) ∙ e)

  tree_step : (k x : ℕ) → (x ≡ 128 → ⊥) → link_test c x ≡ true → tree_test c k (after c.recs x) ≡ true → tree_test c (suc k) x ≡ true
  unfolding tree_test
  tree_step k x n l e = pass _ (ne_eqb x 128 n) (true_both l e)

  step_tree : (k x : ℕ) → (x ≡ 128 → ⊥) → tree_test c (suc k) x ≡ true → (link_test c x ≡ true) × (tree_test c k (after c.recs x) ≡ true)
  unfolding tree_test
  step_tree k x n e = both_true _ _ (sym (pass _ (ne_eqb x 128 n) refl) ∙ e)

  pub tree_rest : (k x : ℕ) → (x ≡ 128 → ⊥) → tree_test c (suc k) x ≡ true → tree_test c k (after c.recs x) ≡ true
  tree_rest k x n e = (step_tree k x n e).1

  link_entered : (t : ℕ) → t < 128 → link_test c t ≡ kin c (word c t YOUNGEST) t NONE
  unfolding link_test
  link_entered t l = halt _ _ (lt-ltb t 128 l)

  link_exited : (t : ℕ) → link_test c (128 + t) ≡ kin c (word c t OLDER) (word c t PARENT) t
  unfolding link_test
  link_exited t =
      pass _ (le-ltb (128 + t) 128 (omega arith)) (ap (λ (u : ℕ). kin c (word c u OLDER) (word c u PARENT) u) (let z : 128 + t - 128 ≡ t = omega arith in z))

  -- where a task is entered: its youngest child is entered next, or it is exited
  pub entered_on : (k t : ℕ) → t < 128 → tree_test c (suc k) t ≡ true
      → ((word c t YOUNGEST ≡ NONE) × (after c.recs t ≡ 128 + t)) ⊎ (Kin (word c t YOUNGEST) t NONE × (after c.recs t ≡ word c t YOUNGEST))
  entered_on k t l e =
      ⊎_elim
      (λ q. inl (q, after_childless t l q))
      (λ w. inr (w, after_parent t l w.below))
      (kin_says _ _ _ (sym (link_entered t l) ∙ (step_tree k t (λ q. omega (arith, q, l)) e).0))

  pub entered_none : (k t : ℕ) → t < 128 → word c t YOUNGEST ≡ NONE → tree_test c k (128 + t) ≡ true → tree_test c (suc k) t ≡ true
  entered_none k t l q e =
      tree_step k t (λ z. omega (arith, z, l)) (link_entered t l ∙ none_kin _ _ _ q)
      (ap (tree_test c k) (after_childless t l q) ∙ e)

  pub entered_child : (k t : ℕ) → t < 128 → Kin (word c t YOUNGEST) t NONE → tree_test c k (word c t YOUNGEST) ≡ true → tree_test c (suc k) t ≡ true
  entered_child k t l w e =
      tree_step k t (λ z. omega (arith, z, l)) (link_entered t l ∙ says_kin _ _ _ w)
      (ap (tree_test c k) (after_parent t l w.below) ∙ e)

  -- where a task other than the top is exited: its older sibling is entered next, or its parent is exited
  pub exited_on : (k t : ℕ) → 0 < t → word c t PARENT < 128 → tree_test c (suc k) (128 + t) ≡ true
      → ((word c t OLDER ≡ NONE) × (after c.recs (128 + t) ≡ 128 + word c t PARENT))
      ⊎ (Kin (word c t OLDER) (word c t PARENT) t × (after c.recs (128 + t) ≡ word c t OLDER))
  exited_on k t n l e =
      ⊎_elim
      (λ q. inl (q, after_oldest t l q))
      (λ w. inr (w, after_younger t w.below))
      (kin_says _ _ _ (sym (link_exited t) ∙ (step_tree k (128 + t) (λ q. omega (arith, q, n)) e).0))

  pub exited_none : (k t : ℕ) → 0 < t → word c t PARENT < 128 → word c t OLDER ≡ NONE → tree_test c k (128 + word c t PARENT) ≡ true
      → tree_test c (suc k) (128 + t) ≡ true
  exited_none k t n l q e =
      tree_step k (128 + t) (λ z. omega (arith, z, n)) (link_exited t ∙ none_kin _ _ _ q)
      (ap (tree_test c k) (after_oldest t l q) ∙ e)

  pub exited_older : (k t : ℕ) → 0 < t → Kin (word c t OLDER) (word c t PARENT) t → tree_test c k (word c t OLDER) ≡ true → tree_test c (suc k) (128 + t) ≡ true
  exited_older k t n w e =
      tree_step k (128 + t) (λ z. omega (arith, z, n)) (link_exited t ∙ says_kin _ _ _ w)
      (ap (tree_test c k) (after_younger t w.below) ∙ e)

  -- THE TOUR at one mark
  pub tour_cons : (k x : ℕ) → x < 256 → tour (suc k) c.recs x ≡ x ∷ tour k c.recs (after c.recs x)
  unfolding tour
  tour_cons k x l = pass _ (lt-leb 256 x l) refl

  pub tour_past : (k x : ℕ) → 256 ≤ x → tour k c.recs x ≡ []
  unfolding tour
  tour_past zero x l = refl
  tour_past (suc k) x l = halt _ _ (le-leb 256 x l)

  pub tour_none : (x : ℕ) → tour 0 c.recs x ≡ []
  unfolding tour
  tour_none x = refl
