-- How the tour came to a task: from its parent or from its younger sibling, which were entered before.
use Rattle.std.specs.Prelude.{◌≡◌, true, ◌⊎◌, ℕ, suc, ◌+◌, ◌<◌}
use Rattle.std.proofs.Common.{ap, sym, ◌∙◌, subst, inl, inr, ⊎_elim, arith}
use Rattle.spec_layout.specs.Layout.{NONE, PARENT, OLDER, YOUNGEST}
use Rattle.spec_tree.specs.Tour.{after}
use Rattle.spec_rules.specs.Contents.{Contents, word}
use Rattle.spec_rules.specs.Rules.{Holder}
use Rattle.spec_rules.specs.Test.{tree_test}
use Rattle.law_rules_tasks.specs.Marks.{Kin, tree_rest, entered_on, exited_on}

-- n is the count of marks at the first one
module _ (c : Contents) (n : ℕ) where
  -- t is entered where j marks are left
  pub data Reached : ℕ → ℕ → Type 0 where
    top : {j t : ℕ} → t ≡ 0 → j ≡ n → tree_test c j t ≡ true → Reached j t
    youngest : {j t : ℕ} (i p : ℕ) → Reached i p → j < i → word c p YOUNGEST ≡ t → Kin c t p NONE → tree_test c j t ≡ true → Reached j t
    older : {j t : ℕ} (i u : ℕ) → Reached i u → j < i → 0 < u → word c u OLDER ≡ t → Kin c t (word c u PARENT) u → tree_test c j t ≡ true → Reached j t

  pub reached_tree : (j t : ℕ) → Reached j t → tree_test c j t ≡ true
  reached_tree j t (top a b e) = e
  reached_tree j t (youngest i p r l q w e) = e
  reached_tree j t (older i u r l a q w e) = e

  pub reached_holder : (j t : ℕ) → Reached j t → Holder c t
  reached_holder j t (top a b e) = inl a
  reached_holder j t (youngest i p r l q w e) = inr (w.below, w.status)
  reached_holder j t (older i u r l a q w e) = inr (w.below, w.status)

  pub reached_below : (j t : ℕ) → Reached j t → t < 128
  reached_below j t r = ⊎_elim (λ q. omega (arith, q)) (λ w. w.0) (reached_holder j t r)

  -- its parent was entered before
  pub reached_parent : (j t : ℕ) → Reached j t → 0 < t → (i : ℕ) × (j < i) × Reached i (word c t PARENT)
  reached_parent j t (top a b e) h = let z : ⊥ = omega (arith, a, h) in absurd z
  reached_parent j t (youngest i p r l q w e) h = (i, l, subst (λ (x : ℕ). Reached i x) (sym w.parent) r)
  reached_parent j t (older i u r l a q w e) h =
      let f = reached_parent i u r a in
      let m = f.1 in
      (f.0, omega (arith, l, m), subst (λ (x : ℕ). Reached f.0 x) (sym w.parent) f.2)

  -- where the tour stands with j marks left: a task is entered, or exited that was entered before
  abbrev pub Standing : ℕ → ℕ → Type 0
  Standing j x = Reached j x ⊎ ((t : ℕ) × (x ≡ 128 + t) × (i : ℕ) × (j < i) × Reached i t)

  pub standing_range : (j x : ℕ) → Standing j x → x < 256
  standing_range j x (inl r) = let a = reached_below j x r in omega (arith, a)
  standing_range j x (inr w) = let a = reached_below w.2 w.0 w.4 in let q = w.1 in omega (arith, a, q)

  pub standing_next : (j x : ℕ) → Standing (suc j) x → tree_test c (suc j) x ≡ true → (x ≡ 128 → ⊥) → Standing j (after c.recs x)
  standing_next j x (inl r) e n =
      ⊎_elim
      (λ w. inr (x, w.1, suc j, omega arith, r))
      (λ w.
      inl (youngest (suc j) x r (omega arith) (sym w.1) (subst (λ (y : ℕ). Kin c y x NONE) (sym w.1) w.0) (tree_rest c j x n e)))
      (entered_on c j x (reached_below (suc j) x r) e)
  standing_next j x (inr s) e n = go s.0 s.1 s.2 s.3 s.4
    where
      go : (t : ℕ) → x ≡ 128 + t → (i : ℕ) → suc j < i → Reached i t → Standing j (after c.recs x)
      go t q i l r =
          let h : 0 < t = omega (arith, q, n) in
          let f = reached_parent i t r h in
          let m = f.1 in
          let d = ap (after c.recs) q in
          ⊎_elim
          (λ w. inr (word c t PARENT, d ∙ w.1, f.0, omega (arith, l, m), f.2))
          (λ w.
          let b = d ∙ w.1 in
          inl (older i t r (omega (arith, l)) h (sym b) (subst (λ (y : ℕ). Kin c y (word c t PARENT) t) (sym b) w.0) (tree_rest c j x n e)))
          (exited_on c j t h (reached_below f.0 (word c t PARENT) f.2) (rw q at e))
