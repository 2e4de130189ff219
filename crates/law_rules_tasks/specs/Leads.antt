-- From the rules: from each mark the tour comes to its end, and each mark but the first has one before it.
use Rattle.std.specs.Prelude.{◌≡◌, refl, true, ◌⊎◌}
use Rattle.std.proofs.Common.{ap, sym, ◌∙◌, subst, inl, inr, arith, eq-zero-or-pos}
use Rattle.std.proofs.Math.Logic.{⊎_elim}
use Prim.Native.Nat.{ℕ, zero, suc, ◌+◌, ◌<◌, ◌≤◌}
use Rattle.spec_layout.specs.Layout.{NONE, PARENT, OLDER, YOUNGER, YOUNGEST}
use Rattle.spec_rules.specs.Contents.{Contents, word}
use Rattle.spec_rules.specs.Rules.{Holder, Child, TaskRules, walk}
use Rattle.spec_rules.specs.Test.{tree_test}
use Rattle.law_rules_tasks.specs.Marks.{Kin, tree_last, entered_none, entered_child, exited_none, exited_older}
use Rattle.law_rules_tasks.specs.Holders.{holder_below, child_above}

module _ (c : Contents) (r : TaskRules c) where
  -- a holder other than the top
  pub holder_child : (t : ℕ) → Holder c t → 0 < t → Child c (word c t PARENT) t
  holder_child t h g = ((λ q. omega (arith, q, g)), (⊎_elim (λ q. let z : ⊥ = omega (arith, q, g) in absurd z) (λ w. w) h, refl))

  child_kin : (t p y : ℕ) → Child c p t → word c t YOUNGER ≡ y → Kin c t p y
  child_kin t p y h q =
      record {
        above = child_above c t p h;
        below = h.1.0.0;
        status = h.1.0.1;
        parent = h.1.1;
        younger = q;
        rights = r.child_rights t p h;
      }

  pub down : (t : ℕ) → Holder c t → (word c t YOUNGEST ≡ NONE) ⊎ (Child c t (word c t YOUNGEST) × Kin c (word c t YOUNGEST) t NONE)
  down t h = ⊎_elim inl (λ w. inr (w.0, child_kin _ _ _ w.0 w.1)) (r.youngest_linked t h)

  pub along : (t p : ℕ) → Child c p t → (word c t OLDER ≡ NONE) ⊎ (Child c p (word c t OLDER) × Kin c (word c t OLDER) (word c t PARENT) t)
  along t p h =
      ⊎_elim
      inl
      (λ w. inr (w.0, subst (λ (x : ℕ). Kin c (word c t OLDER) x t) (sym h.1.1) (child_kin _ _ _ w.0 w.1)))
      (r.older_linked t p h)

  -- how far t is below the top
  data Depth : ℕ → ℕ → Type 0 where
    top : {d t : ℕ} → t ≡ 0 → d ≡ 0 → Depth d t
    deeper : {d t : ℕ} (i p : ℕ) → Child c p t → Depth i p → d ≡ suc i → Depth d t

  depth_most : (d t k : ℕ) → Depth d t → walk (λ x. word c x PARENT) k t ≡ 0 → d ≤ k
  unfolding walk
  depth_most d t k (top a b) e = omega (arith, b)
  depth_most d t zero (deeper i p h w q) e = absurd (h.0 e)
  depth_most d t (suc k) (deeper i p h w q) e =
      let a = depth_most i p k w (ap (walk (λ x. word c x PARENT) k) (sym h.1.1) ∙ e) in omega (arith, a, q)

  depth_few : (d t : ℕ) → Holder c t → Depth d t → d ≤ 127
  unfolding walk
  depth_few d t h w =
      ⊎_elim
      (λ q. let a = depth_most d t 0 w q in omega (arith, a))
      (λ u. let k = r.no_parent_ring t u in let l = k.1 in let a = depth_most d t k.0 w k.2 in omega (arith, a, l))
      h

  depth_from : (k t : ℕ) → Holder c t → walk (λ x. word c x PARENT) k t ≡ 0 → (d : ℕ) × Depth d t
  unfolding walk
  depth_from zero t h e = (0, top e refl)
  depth_from (suc k) t h e =
      ⊎_elim
      (λ q. (0, top q refl))
      (λ g.
      let w = holder_child t h g in
      let f = depth_from k (word c t PARENT) (inr (r.parents t _ w)) e in
      (suc f.0, deeper f.0 (word c t PARENT) w f.1 refl))
      (eq-zero-or-pos t)

  depth : (t : ℕ) → Holder c t → (d : ℕ) × Depth d t
  depth t h = ⊎_elim (λ q. (0, top q refl)) (λ u. let k = r.no_parent_ring t u in depth_from k.0 t h k.2) h

  -- from mark x the tour comes to its end
  abbrev pub Leads : ℕ → Type 0
  Leads x = (k : ℕ) × (tree_test c k x ≡ true)

  -- from where a child of p is exited, over its older siblings
  siblings : (p : ℕ) → Leads (128 + p) → ((u : ℕ) → Child c p u → Leads (128 + u) → Leads u)
      → (m u : ℕ) → Child c p u → walk (λ x. word c x OLDER) m u ≡ NONE → Leads (128 + u)
  unfolding walk
  siblings p lead through zero u h e = let l = h.1.0.0 in let z : ⊥ = omega (arith, l, e) in absurd z
  siblings p lead through (suc m) u h e =
      ⊎_elim
      (λ q.
      let a = h.1.1 in
      let l = (r.parents u p h).0 in
      (suc lead.0, exited_none c lead.0 u (child_above c u p h) (omega (arith, a, l)) q (ap (λ (x : ℕ). tree_test c lead.0 (128 + x)) a ∙ lead.1)))
      (λ w.
      let f = through (word c u OLDER) w.0 (siblings p lead through m (word c u OLDER) w.0 e) in
      (suc f.0, exited_older c f.0 u (child_above c u p h) w.1 f.1))
      (along u p h)

  -- from where a task is entered to where it is exited, n being more than the levels below it
  passes : (n d t : ℕ) → Depth d t → 128 ≤ d + n → Holder c t → Leads (128 + t) → Leads t
  passes zero d t w l h lead = let a = depth_few d t h w in let z : ⊥ = omega (arith, a, l) in absurd z
  passes (suc n) d t w l h lead =
      ⊎_elim
      (λ q. (suc lead.0, entered_none c lead.0 t (holder_below c t h) q lead.1))
      (λ k.
      let through : (u : ℕ) → Child c t u → Leads (128 + u) → Leads u = λ u g. passes n (suc d) u (deeper d t g w refl) (omega (arith, l)) (inr g.1.0) in
      let m = r.no_sibling_ring _ t k.0 in
      let f = through (word c t YOUNGEST) k.0 (siblings t lead through m.0 (word c t YOUNGEST) k.0 m.2) in
      (suc f.0, entered_child c f.0 t (holder_below c t h) k.1 f.1))
      (down t h)

  leaves : (d t : ℕ) → Depth d t → Leads (128 + t)
  leaves d t (top a b) = (1, ap (λ (x : ℕ). tree_test c 1 (128 + x)) a ∙ tree_last c)
  leaves d t (deeper i p h w q) =
      let m = r.no_sibling_ring t p h in
      siblings p (leaves i p w) (λ u g. passes 128 (suc i) u (deeper i p g w refl) (omega arith) (inr g.1.0)) m.0 t h m.2

  pub exited_leads : (t : ℕ) → Holder c t → Leads (128 + t)
  exited_leads t h = let w = depth t h in leaves w.0 t w.1

  pub entered_leads : (t : ℕ) → Holder c t → Leads t
  entered_leads t h = let w = depth t h in passes 128 w.0 t w.1 (omega arith) h (exited_leads t h)

  -- the oldest sibling
  pub oldest : (m u p : ℕ) → Child c p u → walk (λ x. word c x OLDER) m u ≡ NONE → (v : ℕ) × Child c p v × (word c v OLDER ≡ NONE)
  unfolding walk
  oldest zero u p h e = let l = h.1.0.0 in let z : ⊥ = omega (arith, l, e) in absurd z
  oldest (suc m) u p h e = ⊎_elim (λ q. (u, h, q)) (λ w. oldest m (word c u OLDER) p w.0 e) (along u p h)
