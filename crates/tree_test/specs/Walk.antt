-- The walk along the task tree, mark by mark, as the code makes it; and that it tests what tree_test says.
use Rattle.std.specs.Prelude.{Some as known, None as unknown, ◌≡◌, Bool, List, [], ◌∷◌, ◌⊎◌, ltb, eqb}
use Rattle.std.proofs.Math.Path.{refl, ap, sym}
use Rattle.std.proofs.Common.{◌∙◌, subst, inl, inr, arith}
use Rattle.std.proofs.Math.Bool.{true, false}
use Rattle.std.proofs.lemmas.Bool.{false≢true}
use Rattle.std.proofs.Math.Logic.{⊎_elim}
use Prim.Native.Nat.{ℕ, zero, suc, ◌+◌, ◌-◌, ◌<◌, ◌≤◌}
use Rattle.std.proofs.Math.Dec.{leb}
use borrow.Author.Tests.{ltb-true, ltb-false, lt-ltb, le-ltb, leb-true, leb-false, le-leb, lt-leb, eqb-true, ne_eqb, eq-eqb}
use Rattle.std.specs.Bool.{then_some}
use Rattle.spec_words.specs.Found.{found, found_some, found_none}
use Rattle.spec_words.specs.Words.{pick, pick_true, pick_false, pass, halt, same_test}
use Rattle.spec_lists.specs.Counting.{equal?}
use Rattle.spec_layout.specs.Layout.{NONE, PARENT, OLDER, YOUNGEST}
use Rattle.spec_tree.specs.Tour.{END, after, tour}
use Rattle.spec_rules.specs.Contents.{Contents, word, task_rights}
use Rattle.spec_rules.specs.Test.{tree_test}
use Rattle.law_rules_tasks.specs.Marks.{Kin, tree_none, tree_last, last_tree, tree_rest, entered_on, entered_none, entered_child, exited_on, exited_none, exited_older, tour_cons}
use Rattle.law_rules_tasks.specs.Marks.{tour_none}
use Rattle.law_rules_tasks.specs.Reached.{Reached, top, reached_below, reached_parent, Standing, standing_range, standing_next}
use Rattle.tree_test.specs.Links.{fitting, fit_says, says_fit}

module _ (c : Contents) where
  -- the mark after the one where task t is entered; END where the link is wrong
  unfoldable pub entered_next : ℕ → ℕ
  entered_next t =
      let u = word c t YOUNGEST in
      pick (eqb u NONE) (128 + t) (pick (fitting c u t NONE (task_rights c t)) u END)

  -- the mark after the one where task t is exited; END where the link is wrong or the parent is no task
  unfoldable pub exited_next : ℕ → ℕ
  exited_next t =
      let u = word c t OLDER in
      let p = word c t PARENT in
      pick (leb 128 p) END (pick (eqb u NONE) (128 + p) (pick (fitting c u p t (task_rights c p)) u END))

  unfoldable pub next_mark : ℕ → ℕ
  next_mark x = pick (ltb x 128) (entered_next x) (exited_next (x - 128))

  -- from mark x on there are k marks, the last of them where the top is exited
  unfoldable pub walk_test : ℕ → ℕ → Bool
  walk_test zero x = false
  walk_test (suc k) x = let y = next_mark x in let rest = walk_test k y in pick (eqb x 128) (eqb k 0) (pick (leb END y) false rest)

  -- the k marks from x on
  unfoldable pub path : ℕ → ℕ → List ℕ
  path zero x = []
  path (suc k) x = let rest = path k (next_mark x) in x ∷ rest

  -- THE MARK AFTER ONE, by the tests of the code
  pub entered_leaf : (t u : ℕ) → u ≡ word c t YOUNGEST → u ≡ NONE → 128 + t ≡ entered_next t
  unfolding entered_next
  entered_leaf t u e q = sym (halt _ _ (eq-eqb _ _ (sym e ∙ q)))

  pub entered_down : (t u : ℕ) → u ≡ word c t YOUNGEST → (u ≡ NONE → ⊥) → fitting c u t NONE (task_rights c t) ≡ true → u ≡ entered_next t
  unfolding entered_next
  entered_down t u e n f =
      e ∙ sym (pass _ (ne_eqb _ _ (λ q. n (e ∙ q))) (halt _ _ (ap (λ (v : ℕ). fitting c v t NONE (task_rights c t)) (sym e) ∙ f)))

  pub entered_wrong : (t u : ℕ) → u ≡ word c t YOUNGEST → (u ≡ NONE → ⊥) → fitting c u t NONE (task_rights c t) ≡ false → END ≡ entered_next t
  unfolding entered_next
  entered_wrong t u e n f =
      sym (pass _ (ne_eqb _ _ (λ q. n (e ∙ q))) (pass _ (ap (λ (v : ℕ). fitting c v t NONE (task_rights c t)) (sym e) ∙ f) refl))

  -- the answer as the code has it
  pub entered_up : (t u : ℕ) → t < 128 → u ≡ word c t YOUNGEST → u ≡ NONE → known (128 + t) ≡ found END (entered_next t)
  entered_up t u l e q = found_some END (128 + t) (omega arith) ∙ ap (found END) (entered_leaf t u e q)

  pub entered_fits : (t u : ℕ) (b : Bool) → u ≡ word c t YOUNGEST → (u ≡ NONE → ⊥) → b ≡ fitting c u t NONE (task_rights c t)
      → then_some b u ≡ found END (entered_next t)
  entered_fits t u true e n f =
      let k = (fit_says c u t NONE (sym f)).below in
      found_some END u (omega (arith, k)) ∙ ap (found END) (entered_down t u e n (sym f))
  entered_fits t u false e n f = found_none END END (omega arith) ∙ ap (found END) (entered_wrong t u e n (sym f))

  module _ (t p : ℕ) (a : p ≡ word c t PARENT) where
    pub left_out : 127 < p → END ≡ exited_next t
    unfolding exited_next
    left_out h = sym (halt _ _ (le-leb 128 (word c t PARENT) (omega (arith, a, h))))

    pub left_none : 127 < p → unknown ≡ found END (exited_next t)
    left_none h = found_none END END (omega arith) ∙ ap (found END) (left_out h)

    module _ (h : p ≤ 127) (u : ℕ) (e : u ≡ word c t OLDER) where
      inside : leb 128 (word c t PARENT) ≡ false
      inside = lt-leb 128 (word c t PARENT) (omega (arith, a, h))

      same : fitting c (word c t OLDER) (word c t PARENT) t (task_rights c (word c t PARENT)) ≡ fitting c u p t (task_rights c p)
      same = rw (e, a) refl

      pub exited_up : u ≡ NONE → 128 + p ≡ exited_next t
      unfolding exited_next
      exited_up q = ap (λ (v : ℕ). 128 + v) a ∙ sym (pass _ inside (halt _ _ (eq-eqb _ _ (sym e ∙ q))))

      pub exited_over : (u ≡ NONE → ⊥) → fitting c u p t (task_rights c p) ≡ true → u ≡ exited_next t
      unfolding exited_next
      exited_over n f = e ∙ sym (pass _ inside (pass _ (ne_eqb _ _ (λ q. n (e ∙ q))) (halt _ _ (same ∙ f))))

      pub exited_wrong : (u ≡ NONE → ⊥) → fitting c u p t (task_rights c p) ≡ false → END ≡ exited_next t
      unfolding exited_next
      exited_wrong n f = sym (pass _ inside (pass _ (ne_eqb _ _ (λ q. n (e ∙ q))) (pass _ (same ∙ f) refl)))

      pub exited_rises : u ≡ NONE → known (128 + p) ≡ found END (exited_next t)
      exited_rises q = found_some END (128 + p) (omega (arith, h)) ∙ ap (found END) (exited_up q)

      pub exited_fits : (b : Bool) → (u ≡ NONE → ⊥) → b ≡ fitting c u p t (task_rights c p) → then_some b u ≡ found END (exited_next t)
      exited_fits true n f =
          let k = (fit_says c u p t (sym f)).below in
          found_some END u (omega (arith, k)) ∙ ap (found END) (exited_over n (sym f))
      exited_fits false n f = found_none END END (omega arith) ∙ ap (found END) (exited_wrong n (sym f))

  pub next_entered : (x : ℕ) → x < 128 → entered_next x ≡ next_mark x
  unfolding next_mark
  next_entered x l = sym (halt _ _ (lt-ltb x 128 l))

  pub next_exited : (x : ℕ) → 128 ≤ x → exited_next (x - 128) ≡ next_mark x
  unfolding next_mark
  next_exited x l = sym (pass _ (le-ltb x 128 l) refl)

  pub next_up : (t : ℕ) → exited_next t ≡ next_mark (128 + t)
  next_up t = ap exited_next (let z : t ≡ 128 + t - 128 = omega arith in z) ∙ next_exited (128 + t) (omega arith)

  -- what the mark after one says where it is below END
  abbrev Entered : ℕ → Type 0
  Entered t = ((word c t YOUNGEST ≡ NONE) × (entered_next t ≡ 128 + t)) ⊎ (Kin c (word c t YOUNGEST) t NONE × (entered_next t ≡ word c t YOUNGEST))

  abbrev Left : ℕ → Type 0
  Left t =
      ((word c t OLDER ≡ NONE) × (exited_next t ≡ 128 + word c t PARENT))
      ⊎ (Kin c (word c t OLDER) (word c t PARENT) t × (exited_next t ≡ word c t OLDER))

  entered_cases : (t : ℕ) → entered_next t < END → Entered t
  entered_cases t h =
      ⊎_elim (λ q. inl (q, sym (entered_leaf t _ refl q))) (λ n. go n (fitting c (word c t YOUNGEST) t NONE (task_rights c t)) refl) (equal? _ NONE)
    where
      go : (word c t YOUNGEST ≡ NONE → ⊥) → (b : Bool) → fitting c (word c t YOUNGEST) t NONE (task_rights c t) ≡ b → Entered t
      go n true f = inr (fit_says c _ _ _ f, sym (entered_down t _ refl n f))
      go n false f = let a = entered_wrong t _ refl n f in let z : ⊥ = omega (arith, a, h) in absurd z

  exited_cases : (t : ℕ) → exited_next t < END → (word c t PARENT < 128) × Left t
  exited_cases t h = near (leb 128 (word c t PARENT)) refl
    where
      go : word c t PARENT ≤ 127 → (word c t OLDER ≡ NONE → ⊥) → (b : Bool)
          → fitting c (word c t OLDER) (word c t PARENT) t (task_rights c (word c t PARENT)) ≡ b → Left t
      go l n true f = inr (fit_says c _ _ _ f, sym (exited_over t _ refl l _ refl n f))
      go l n false f = let a = exited_wrong t _ refl l _ refl n f in let z : ⊥ = omega (arith, a, h) in absurd z

      links : word c t PARENT ≤ 127 → Left t
      links l = ⊎_elim (λ q. inl (q, sym (exited_up t _ refl l _ refl q))) (λ n. go l n _ refl) (equal? _ NONE)

      near : (b : Bool) → leb 128 (word c t PARENT) ≡ b → (word c t PARENT < 128) × Left t
      near true q =
          let l = leb-true 128 (word c t PARENT) q in let a = left_out t (word c t PARENT) refl (omega (arith, l)) in let z : ⊥ = omega (arith, a, h) in
          absurd z
      near false q = let l = leb-false 128 (word c t PARENT) q in (l, links (omega (arith, l)))

  walk_step : (k x : ℕ) → (x ≡ 128 → ⊥) → walk_test (suc k) x ≡ true → (next_mark x < END) × (walk_test k (next_mark x) ≡ true)
  unfolding walk_test
  walk_step k x n e = go (leb END (next_mark x)) refl (sym (pass _ (ne_eqb x 128 n) refl) ∙ e)
    where
      go : (b : Bool) → leb END (next_mark x) ≡ b → pick b false (walk_test k (next_mark x)) ≡ true → (next_mark x < END) × (walk_test k (next_mark x) ≡ true)
      go true q f = absurd (false≢true (sym (pick_true _ _) ∙ f))
      go false q f = (leb-false END _ q, sym (pick_false _ _) ∙ f)

  walk_tree : (k x : ℕ) → x < 256 → walk_test k x ≡ true → tree_test c k x ≡ true
  unfolding walk_test
  walk_tree zero x l e = absurd (false≢true e)
  walk_tree (suc k) x l e = ⊎_elim last (λ n. side n (ltb x 128) refl (let w = walk_step k x n e in walk_tree k (next_mark x) w.0 w.1)) (equal? x 128)
    where
      last : x ≡ 128 → tree_test c (suc k) x ≡ true
      last q =
          let z = eqb-true k 0 (sym (halt _ _ (eq-eqb x 128 q)) ∙ e) in
          ap (tree_test c (suc k)) q ∙ ap (λ (j : ℕ). tree_test c (suc j) 128) z ∙ tree_last c

      entered : (x ≡ 128 → ⊥) → x < 128 → tree_test c k (next_mark x) ≡ true → tree_test c (suc k) x ≡ true
      entered n h rest =
          ⊎_elim
          (λ w. entered_none c k x h w.0 (ap (tree_test c k) (sym w.1 ∙ next_entered x h) ∙ rest))
          (λ w. entered_child c k x h w.0 (ap (tree_test c k) (sym w.1 ∙ next_entered x h) ∙ rest))
          (entered_cases x (subst (λ (y : ℕ). y < END) (sym (next_entered x h)) (walk_step k x n e).0))

      exited : (x ≡ 128 → ⊥) → 128 ≤ x → tree_test c k (next_mark x) ≡ true → tree_test c (suc k) x ≡ true
      exited n h rest =
          let t = x - 128 in
          let w = exited_cases t (subst (λ (y : ℕ). y < END) (sym (next_exited x h)) (walk_step k x n e).0) in
          ap (tree_test c (suc k)) (let z : x ≡ 128 + (x - 128) = omega (arith, h) in z)
          ∙ ⊎_elim
          (λ v. exited_none c k t (omega (arith, n, h)) w.0 v.0 (ap (tree_test c k) (sym v.1 ∙ next_exited x h) ∙ rest))
          (λ v. exited_older c k t (omega (arith, n, h)) v.0 (ap (tree_test c k) (sym v.1 ∙ next_exited x h) ∙ rest))
          w.1

      side : (x ≡ 128 → ⊥) → (b : Bool) → ltb x 128 ≡ b → tree_test c k (next_mark x) ≡ true → tree_test c (suc k) x ≡ true
      side n true q = entered n (ltb-true x 128 q)
      side n false q = exited n (ltb-false x 128 q)

  -- where the test of the tree holds, the walk goes on as the tour does
  module _ (n : ℕ) where
    next_after : (k x : ℕ) → Standing c n (suc k) x → tree_test c (suc k) x ≡ true → (x ≡ 128 → ⊥) → next_mark x ≡ after c.recs x
    next_after k x (inl r) e o =
        let l = reached_below c n (suc k) x r in
        sym (next_entered x l)
        ∙ ⊎_elim
        (λ w. sym (entered_leaf x _ refl w.0) ∙ sym w.1)
        (λ w. sym (entered_down x _ refl (λ q. let b = w.0.below in omega (arith, b, q)) (says_fit c _ _ _ w.0)) ∙ sym w.1)
        (entered_on c k x l e)
    next_after k x (inr s) e o = go s.0 s.1 s.2 s.4
      where
        go : (t : ℕ) → x ≡ 128 + t → (i : ℕ) → Reached c n i t → next_mark x ≡ after c.recs x
        go t q i r =
            let h : 0 < t = omega (arith, q, o) in
            let f = reached_parent c n i t r h in
            let l = reached_below c n f.0 (word c t PARENT) f.2 in
            let d = ap (after c.recs) q in
            sym (next_exited x (omega (arith, q)))
            ∙ ap exited_next (let z : x - 128 ≡ t = omega (arith, q) in z)
            ∙ ⊎_elim
            (λ w. sym (exited_up t _ refl (omega (arith, l)) _ refl w.0) ∙ sym (d ∙ w.1))
            (λ w. sym (exited_over t _ refl (omega (arith, l)) _ refl (λ z. let b = w.0.below in omega (arith, b, z)) (says_fit c _ _ _ w.0))
            ∙ sym (d ∙ w.1))
            (exited_on c k t h l (rw q at e))

    tree_walk : (k x : ℕ) → Standing c n k x → tree_test c k x ≡ true → (walk_test k x ≡ true) × (path k x ≡ tour k c.recs x)
    unfolding walk_test path
    tree_walk zero x s e = absurd (tree_none c x e)
    tree_walk (suc k) x s e =
        ⊎_elim last (λ o. on o (tree_walk k (after c.recs x) (standing_next c n k x s e o) (tree_rest c k x o e))) (equal? x 128)
      where
        range : x < 256
        range = standing_range c n (suc k) x s

        last : x ≡ 128 → (walk_test (suc k) x ≡ true) × (path (suc k) x ≡ tour (suc k) c.recs x)
        last q =
            let z = last_tree c k (rw q at e) in (
              halt _ _ (eq-eqb x 128 q) ∙ eq-eqb k 0 z,
              ap (λ (j : ℕ). x ∷ path j (next_mark x)) z
                  ∙ ap (λ (l : List ℕ). x ∷ l) (sym (tour_none c (after c.recs x)))
                  ∙ ap (λ (j : ℕ). x ∷ tour j c.recs (after c.recs x)) (sym z)
                  ∙ sym (tour_cons c k x range),
            )

        on : (x ≡ 128 → ⊥) → (walk_test k (after c.recs x) ≡ true) × (path k (after c.recs x) ≡ tour k c.recs (after c.recs x))
            → (walk_test (suc k) x ≡ true) × (path (suc k) x ≡ tour (suc k) c.recs x)
        on o w =
            let a = next_after k x s e o in
            let l = standing_range c n k (after c.recs x) (standing_next c n k x s e o) in (
              pass _ (ne_eqb x 128 o) (pass _ (lt-leb END (next_mark x) (omega (arith, a, l))) (ap (walk_test k) a ∙ w.0)),
              ap (λ (l : List ℕ). x ∷ l) (ap (path k) a ∙ w.1) ∙ sym (tour_cons c k x range),
            )

  -- THE WALK FROM THE TOP: it tests what the test of the tree says, and its marks are the tour's
  pub walk_same : (k : ℕ) → walk_test k 0 ≡ tree_test c k 0
  walk_same k = same_test _ _ (walk_tree k 0 (omega arith)) (λ e. (tree_walk k k 0 (inl (top refl refl e)) e).0)

  pub path_tour : (k : ℕ) → tree_test c k 0 ≡ true → path k 0 ≡ tour k c.recs 0
  path_tour k e = (tree_walk k k 0 (inl (top refl refl e)) e).1
