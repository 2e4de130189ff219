-- From the tests: no ring of siblings and no ring of parents, since each step of either leads on in the tour.
use Rattle.std.specs.Prelude.{◌≡◌, ◌⊎◌}
use Rattle.std.proofs.Common.{ap, sym, ◌∙◌, inl, inr, arith, eq-zero-or-pos}
use Rattle.std.proofs.Math.Bool.{true}
use Rattle.std.proofs.Math.Logic.{⊎_elim}
use Prim.Native.Nat.{ℕ, zero, suc, ◌+◌, ◌*◌, ◌<◌, ◌≤◌}
use Rattle.spec_layout.specs.Layout.{NONE, PARENT, OLDER, YOUNGEST}
use Rattle.spec_tree.specs.Tour.{after}
use Rattle.spec_rules.specs.Contents.{Contents, word}
use Rattle.spec_rules.specs.Rules.{Holder, walk}
use Rattle.spec_rules.specs.Test.{tree_test}
use Rattle.law_rules_tasks.specs.Marks.{Kin, tree_none, tree_rest, entered_on, exited_on}
use Rattle.law_rules_tasks.specs.Tested.{Idle}
use Rattle.law_rules_tasks.specs.Tours.{tree_same}
use Rattle.law_rules_tasks.specs.Reached.{reached_tree, reached_holder, reached_below, reached_parent}
use Rattle.law_rules_tasks.specs.Visits.{count, Visit, holder_visit}

module _ (c : Contents) (idle : Idle c) (e : tree_test c (count c) 0 ≡ true) where
  abbrev Visited : ℕ → Type 0
  Visited = Visit c idle e

  some_left : (j x : ℕ) → tree_test c j x ≡ true → 0 < j
  some_left zero x f = absurd (tree_none c x f)
  some_left (suc j) x f = omega arith

  -- the parent of a task that is entered
  pub parent_visit : (t : ℕ) → (v : Visited t) → 0 < t → (w : Visited (word c t PARENT)) × (v.entered < w.entered) × Holder c (word c t PARENT)
  parent_visit t v h =
      let r = reached_parent c (count c) v.entered t v.reached h in
      let o = reached_holder c (count c) r.0 (word c t PARENT) r.2 in
      let w = holder_visit c idle e (word c t PARENT) o in
      let s = tree_same c r.0 w.entered (word c t PARENT) (reached_tree c (count c) r.0 _ r.2) (reached_tree c (count c) w.entered _ w.reached) in
      let m = r.1 in
      (w, omega (arith, m, s), o)

  pub parent_below : (t : ℕ) → Visited t → 0 < t → word c t PARENT < 128
  parent_below t v h = let r = reached_parent c (count c) v.entered t v.reached h in reached_below c (count c) r.0 _ r.2

  -- the links of a task that is entered and exited
  pub down : (t : ℕ) → Visited t → (word c t YOUNGEST ≡ NONE) ⊎ Kin c (word c t YOUNGEST) t NONE
  down t v = go v.entered (reached_tree c (count c) v.entered t v.reached)
    where
      go : (j : ℕ) → tree_test c j t ≡ true → (word c t YOUNGEST ≡ NONE) ⊎ Kin c (word c t YOUNGEST) t NONE
      go zero f = absurd (tree_none c t f)
      go (suc j) f = ⊎_elim (λ w. inl w.0) (λ w. inr w.0) (entered_on c j t (reached_below c (count c) v.entered t v.reached) f)

  pub along : (t : ℕ) → Visited t → 0 < t → (word c t OLDER ≡ NONE) ⊎ Kin c (word c t OLDER) (word c t PARENT) t
  along t v h = go v.exited v.leaves
    where
      go : (j : ℕ) → tree_test c j (128 + t) ≡ true → (word c t OLDER ≡ NONE) ⊎ Kin c (word c t OLDER) (word c t PARENT) t
      go zero f = absurd (tree_none c (128 + t) f)
      go (suc j) f = ⊎_elim (λ w. inl w.0) (λ w. inr w.0) (exited_on c j t h (parent_below t v h) f)

  -- From where t is exited the tour goes through its older siblings, and then leaves its parent.
  pub record Ends (j t : ℕ) : Type 0 where
    pub steps : ℕ
    pub few : 2 * steps ≤ j
    pub end : walk (λ x. word c x OLDER) steps t ≡ NONE
    pub later : ℕ
    pub order : later < j
    pub parent : tree_test c later (128 + word c t PARENT) ≡ true

  -- one task of them, where the others end
  ends_one : (j t : ℕ) → 0 < t → Visited t → tree_test c (suc j) (128 + t) ≡ true
      → ((i u : ℕ) → i < j → 0 < u → Visited u → tree_test c i (128 + u) ≡ true → Ends i u) → Ends (suc j) t
  unfolding walk
  ends_one j t h v f others =
      ⊎_elim
      (λ w. last w.0 (ap (tree_test c j) (sym w.1) ∙ rest))
      (λ w.
      let k = w.0 in
      let u = holder_visit c idle e (word c t OLDER) (inr (k.below, k.status)) in
      let s = tree_same c u.entered j (word c t OLDER) (reached_tree c (count c) u.entered _ u.reached) (ap (tree_test c j) (sym w.1) ∙ rest) in
      let o = u.order in
      more u.exited (omega (arith, o, s)) k (others u.exited (word c t OLDER) (omega (arith, o, s)) k.above u u.leaves))
      (exited_on c j t h (parent_below t v h) f)
    where
      rest : tree_test c j (after c.recs (128 + t)) ≡ true
      rest = tree_rest c j (128 + t) (λ q. omega (arith, q, h)) f

      last : word c t OLDER ≡ NONE → tree_test c j (128 + word c t PARENT) ≡ true → Ends (suc j) t
      last q g =
          let a = some_left j (128 + word c t PARENT) g in
          record { steps = 1; few = omega (arith, a); end = q; later = j; order = omega arith; parent = g }

      more : (i : ℕ) → i < j → Kin c (word c t OLDER) (word c t PARENT) t → Ends i (word c t OLDER) → Ends (suc j) t
      more i o k w =
          let a = w.few in
          let b = w.order in
          record {
            steps = suc w.steps;
            few = omega (arith, a, o);
            end = w.end;
            later = w.later;
            order = omega (arith, b, o);
            parent = ap (λ (p : ℕ). tree_test c w.later (128 + p)) (sym k.parent) ∙ w.parent;
          }

  ends : (n j t : ℕ) → j ≤ n → 0 < t → Visited t → tree_test c j (128 + t) ≡ true → Ends j t
  ends zero j t l h v f = let a = some_left j (128 + t) f in let z : ⊥ = omega (arith, a, l) in absurd z
  ends (suc n) j t l h v f = go j l f (λ i u o g w k. ends n i u o g w k)
    where
      go : (j : ℕ) → j ≤ suc n → tree_test c j (128 + t) ≡ true
          → ((i u : ℕ) → i ≤ n → 0 < u → Visited u → tree_test c i (128 + u) ≡ true → Ends i u) → Ends j t
      go zero l f others = absurd (tree_none c (128 + t) f)
      go (suc j) l f others = ends_one j t h v f (λ i u o g w k. others i u (omega (arith, o, l)) g w k)

  pub siblings_end : (t : ℕ) → 0 < t → (v : Visited t) → Ends v.exited t
  siblings_end t h v = ends v.exited v.exited t (omega arith) h v v.leaves

  -- From where t is entered back to where it is exited there are more marks for its parent, at least one on either side.
  pub record Rises (t : ℕ) (v : Visited t) : Type 0 where
    pub steps : ℕ
    pub few : 2 * steps + v.entered + 1 ≤ count c + v.exited
    pub end : walk (λ x. word c x PARENT) steps t ≡ 0

  rises_one : (t : ℕ) → (v : Visited t) → 0 < t → (w : Visited (word c t PARENT)) → v.entered < w.entered → Rises (word c t PARENT) w → Rises t v
  unfolding walk
  rises_one t v h w m r =
      let s = siblings_end t h v in
      let a = tree_same c s.later w.exited (128 + word c t PARENT) s.parent w.leaves in
      let b = s.order in
      let d = r.few in
      record { steps = suc r.steps; few = omega (arith, a, b, d, m); end = r.end }

  rises_none : (t : ℕ) → (v : Visited t) → t ≡ 0 → Rises t v
  unfolding walk
  rises_none t v q =
      let a = v.most in
      let b = some_left v.exited (128 + t) v.leaves in
      record { steps = 0; few = omega (arith, a, b); end = q }

  rises : (n t : ℕ) → (v : Visited t) → count c ≤ v.entered + n → Rises t v
  rises zero t v l =
      ⊎_elim
      (rises_none t v)
      (λ h.
      let w = parent_visit t v h in
      let m = w.1 in
      let u = w.0.most in
      let z : ⊥ = omega (arith, l, m, u) in
      absurd z)
      (eq-zero-or-pos t)
  rises (suc n) t v l =
      ⊎_elim
      (rises_none t v)
      (λ h. let w = parent_visit t v h in let m = w.1 in rises_one t v h w.0 m (rises n (word c t PARENT) w.0 (omega (arith, l, m))))
      (eq-zero-or-pos t)

  pub parents_end : (t : ℕ) → (v : Visited t) → Rises t v
  parents_end t v = rises (count c) t v (omega arith)
