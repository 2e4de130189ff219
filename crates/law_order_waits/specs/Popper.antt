-- THE FIRST POPPER of a queue: of the tasks with the pop right on it the one whose spot stands first. A task that may
-- pop, that no older sibling and no child keeps from it, is the first popper.
use Rattle.std.specs.Prelude.{◌≡◌, refl, Bool, true, List, [], ◌∷◌, ◌++◌, ◌⊎◌, ℕ, zero, suc, ◌<◌}
use Rattle.std.proofs.Common.{ap, sym, ◌∙◌, subst, inl, inr, ⊎_elim, arith}
use Rattle.std.proofs.Math.Option.{Option, none, some}
use Rattle.spec_words.specs.Words.{pick, halt, both, true_left, true_right}
use Rattle.spec_tree.specs.Rights.{pops, some_queue, shares_pop}
use Rattle.spec_order.specs.Steps.{Name, Task, Item, step, spot, name_of, number_of, rights_of}
use Rattle.spec_order.specs.Waits.{is_older}
use Rattle.law_order.specs.Names.{Under}
use Rattle.law_order.specs.Items.{In}
use Rattle.law_order.specs.Reached.{Reached}
use Rattle.spec_tree.specs.Users.{subset_pops}
use Rattle.law_order_waits.specs.Spots.{says_older}
use Rattle.law_order_waits.specs.Changes.{in_left, in_right}
use Rattle.law_order_waits.specs.Kinship.{Kinship}
use Rattle.law_order_waits.specs.Order.{precedes}

-- the number of the first popper of queue q
unfoldable pub first_popper : ℕ → List Item → Option ℕ
first_popper q [] = none
first_popper q (step p a ∷ xs) = first_popper q xs
first_popper q (spot s ∷ xs) = pick (pops (rights_of s) q) (some (number_of s)) (first_popper q xs)

-- RIGHTS, queue by queue
says_some_queue : (f : ℕ → Bool) (q : ℕ) → q < 4 → f q ≡ true → some_queue f ≡ true
unfolding some_queue
says_some_queue f zero l e = true_left _ e
says_some_queue f (suc zero) l e = true_right (f 0) (true_left _ e)
says_some_queue f (suc (suc zero)) l e = true_right (f 0) (true_right (f 1) (true_left _ e))
says_some_queue f (suc (suc (suc zero))) l e = true_right (f 0) (true_right (f 1) (true_right (f 2) e))
says_some_queue f (suc (suc (suc (suc q)))) l e = let z : ⊥ = omega (arith, l) in absurd z

pub both_share : (a b q : ℕ) → q < 4 → pops a q ≡ true → pops b q ≡ true → shares_pop a b ≡ true
unfolding shares_pop both
both_share a b q l e f = says_some_queue _ q l (halt _ _ e ∙ f)

module _ (xs : List Item) (kin : Kinship xs) (q : ℕ) (small : q < 4) where
  abbrev Popper : Task → Type 0
  Popper s = In (spot s) xs × (pops (rights_of s) q ≡ true)

  -- an ancestor of a popper is one; and one that is not the task itself has a child that is one
  climb : (path : List ℕ) (p : Name) (s : Task) → Popper s → name_of s ≡ path ++ p
      → (o : Task) × Popper o × (name_of o ≡ p) × ((s ≡ o) ⊎ ((c : Task) × (k : ℕ) × Popper c × (name_of c ≡ k ∷ p)))
  climb [] p s h e = (s, h, e, inl refl)
  climb (k ∷ path) p s h e =
      let w = kin.parent s k (path ++ p) h.0 e in
      let v = climb path p w.0 (w.1, subset_pops _ _ q small w.3 h.1) w.2 in
      (v.0, v.1, v.2, ⊎_elim (λ d. inr (s, k, h, e ∙ ap (λ (n : Name). k ∷ n) (sym w.2 ∙ ap name_of d ∙ v.2))) (λ u. inr u) v.3)

  pub no_earlier : (ys zs : List Item) (s : Task) → Reached xs → xs ≡ ys ++ spot s ∷ zs → pops (rights_of s) q ≡ true
      → ((o : Task) → In (spot o) xs → is_older (name_of o) (name_of s) ≡ true → pops (rights_of o) q ≡ true → ⊥)
      → ((c : Task) (k : ℕ) → In (spot c) xs → name_of c ≡ k ∷ name_of s → pops (rights_of c) q ≡ true → ⊥)
      → (o : Task) → In (spot o) ys → pops (rights_of o) q ≡ true → ⊥
  no_earlier ys zs s h e m older child o i n = ⊎_elim below apart (precedes ys zs s o (subst Reached e h) i)
    where
      there : In (spot o) xs
      there = subst (In (spot o)) (sym e) (in_left (spot o) ys (spot s ∷ zs) i)

      mine : In (spot s) xs
      mine = subst (In (spot s)) (sym e) (in_right (spot s) ys (spot s ∷ zs) (inl refl))

      below : (k : ℕ) × Under (k ∷ name_of s) (name_of o) → ⊥
      below w = let v = climb w.1.0 (w.0 ∷ name_of s) o (there, n) w.1.1 in child v.0 w.0 v.1.0 v.2 v.1.1

      apart : (p : Name) × (i : ℕ) × (j : ℕ) × (i < j) × Under (i ∷ p) (name_of o) × Under (j ∷ p) (name_of s) → ⊥
      apart w =
          let a = climb w.4.0 (w.1 ∷ w.0) o (there, n) w.4.1 in
          let b = climb w.5.0 (w.2 ∷ w.0) s (mine, m) w.5.1 in
          let old : is_older (name_of a.0) (name_of b.0) ≡ true = subst (λ (x : Name). is_older x (name_of b.0) ≡ true) (sym a.2)
          (subst (λ (x : Name). is_older (w.1 ∷ w.0) x ≡ true) (sym b.2) (says_older w.1 w.2 w.0 w.3)) in
          ⊎_elim
          (λ d. older a.0 a.1.0 (subst (λ (x : Task). is_older (name_of a.0) (name_of x) ≡ true) (sym d) old) a.1.1)
          (λ c.
          kin.idle a.0 b.0 c.0 c.1 (a.1.0, old, both_share _ _ q small a.1.1 b.1.1) b.1.0 c.2.0
          (c.3 ∙ ap (λ (x : Name). c.1 ∷ x) (sym b.2)))
          b.3
