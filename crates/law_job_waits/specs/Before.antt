-- WHO STANDS BEFORE A TASK: nobody above it; its unfinished older siblings and children do.
use Rattle.std.proofs.Math.Path.{◌≡◌, subst}
use Rattle.std.specs.Prelude.{refl, true, ◌⊎◌, ℕ, ◌<◌}
use Rattle.std.proofs.Common.{ap, sym, ◌∙◌, inl, inr, ⊎_elim, arith}
use mathlib.Core.List.{List, [], ◌∷◌, ◌++◌, append_assoc, head-eq_of_cons-eq, tail-eq_of_cons-eq, map}
use Rattle.spec_words.specs.Words.{either_true}
use Rattle.spec_order.specs.Steps.{Name, Task, Item as Mark, step, spot as place, name_of}
use Rattle.spec_order.specs.Waits.{is_child, is_older}
use Rattle.law_order.specs.Names.{Under, under_self, under_trans, under_parent, not_under_child, one_branch, same_true}
use Rattle.law_order.specs.Items.{In, in_parts, in_split}
use Rattle.law_order.specs.Reached.{Reached}
use Rattle.law_order_waits.specs.Spots.{same_spot, child_says, older_says}
use Rattle.law_order_waits.specs.Changes.{in_right}
use Rattle.law_order_waits.specs.Order.{Precedes, precedes}
use Rattle.spec_lists.specs.Maps.{All}
use Rattle.spec_line.specs.Line.{Item, value, spot, finished, gave}
use Rattle.law_job_order.specs.Beside.{Numbered, standing, places, task_of}
use Rattle.law_job_order.specs.Searches.{Spots}
use Rattle.law_named_waits.specs.Names.{above}

-- NAMES
pub above_under : (p q : Name) → above p q ≡ true → Under p q
unfolding above
above_under p [] e = ([], sym (same_true p [] e))
above_under p (i ∷ q) e =
    ⊎_elim
    (λ d. ([], sym (same_true p (i ∷ q) d)))
    (λ d. let w = above_under p q d in (i ∷ w.0, ap (λ (l : Name). i ∷ l) w.1))
    (either_true _ _ e)

under_parts : {i k : ℕ} {p q : Name} → Under (i ∷ p) (k ∷ q) → ((i ≡ k) × (p ≡ q)) ⊎ Under (i ∷ p) q
under_parts {i} {k} {p} {q} u = go u.0 u.1
  where
    go : (path : List ℕ) → k ∷ q ≡ path ++ i ∷ p → ((i ≡ k) × (p ≡ q)) ⊎ Under (i ∷ p) q
    go [] e = inl (sym (head-eq_of_cons-eq e), sym (tail-eq_of_cons-eq e))
    go (x ∷ path) e = inr (path, tail-eq_of_cons-eq e)

not_older : (i k : ℕ) (p : Name) → i < k → Precedes (k ∷ p) (i ∷ p) → ⊥
not_older i k p l (inl w) = let e : i ≡ k = one_branch (under_parent w.1) (under_self (k ∷ p)) in omega (arith, l, e)
not_older i k p l (inr w) = ⊎_elim same below (under_parts w.4)
  where
    same : (w.1 ≡ k) × (w.0 ≡ p) → ⊥
    same d =
        let e : w.2 ≡ i = one_branch (subst (λ (r : Name). Under (w.2 ∷ r) (i ∷ p)) d.1 w.5) (under_self (i ∷ p)) in
        let f = d.0 in
        let g = w.3 in
        omega (arith, l, e, f, g)

    below : Under (w.1 ∷ w.0) p → ⊥
    below d = let e : w.1 ≡ w.2 = one_branch (under_trans d (i ∷ [], refl)) w.5 in let g = w.3 in omega (arith, e, g)

not_parent : (k : ℕ) (p : Name) → Precedes p (k ∷ p) → ⊥
not_parent k p (inl w) = not_under_child (k ∷ [], refl) w.1
not_parent k p (inr w) = let e : w.1 ≡ w.2 = one_branch (under_trans w.4 (k ∷ [], refl)) w.5 in let g = w.3 in omega (arith, e, g)

-- a task that stands before another is not above it
before_below : (p q : Name) → Precedes p q → Under p q → ⊥
before_below p q (inl w) u = not_under_child u w.1
before_below p q (inr w) u = let e : w.1 ≡ w.2 = one_branch (under_trans w.4 u) w.5 in let g = w.3 in omega (arith, e, g)

-- AROUND A SPOT
module _ (ys zs : List Mark) (s : Task) (reached : Reached (ys ++ place s ∷ zs)) where
  pub not_above : (o : Task) → In (place o) ys → above (name_of o) (name_of s) ≡ true → ⊥
  not_above o i e = before_below (name_of o) (name_of s) (precedes ys zs s o reached i) (above_under (name_of o) (name_of s) e)

  -- a task elsewhere stands behind
  behind : (o : Task) → In (place o) zs → Precedes (name_of s) (name_of o)
  behind o k =
      let w = in_split (place o) zs k in
      let e : ys ++ place s ∷ zs ≡ (ys ++ place s ∷ w.0) ++ place o ∷ w.1 =
      ap (λ (l : List Mark). ys ++ place s ∷ l) w.2 ∙ sym (append_assoc ys (place s ∷ w.0) (place o ∷ w.1)) in
      precedes (ys ++ place s ∷ w.0) w.1 o s (subst Reached e reached) (in_right (place s) ys (place s ∷ w.0) (inl refl))

  -- so where neither the task itself nor one behind it is such, one that is stands before it
  stands_before : (o : Task) → In (place o) (ys ++ place s ∷ zs) → ¬ (o ≡ s) → ¬ Precedes (name_of s) (name_of o) → In (place o) ys
  stands_before o i n m = ⊎_elim (λ k. k) (λ k. absurd (rest k)) (in_parts (place o) ys (place s ∷ zs) i)
    where
      rest : In (place o) (place s ∷ zs) → ⊥
      rest (inl e) = n (same_spot e)
      rest (inr k) = m (behind o k)

  pub older_before : (o : Task) → In (place o) (ys ++ place s ∷ zs) → is_older (name_of o) (name_of s) ≡ true → In (place o) ys
  older_before o i e =
      let v = older_says (name_of o) (name_of s) e in
      let l = v.5 in
      stands_before o i
      (λ d. let f : v.0 ≡ v.1 = head-eq_of_cons-eq (sym v.3 ∙ ap name_of d ∙ v.4) in omega (arith, l, f))
      (λ d. not_older v.0 v.1 v.2 l (subst (λ (x : Name). Precedes x (v.0 ∷ v.2)) v.4 (subst (Precedes (name_of s)) v.3 d)))

  pub child_before : (o : Task) → In (place o) (ys ++ place s ∷ zs) → is_child (name_of o) (name_of s) ≡ true → In (place o) ys
  child_before o i e =
      let w = child_says (name_of o) (name_of s) e in
      stands_before o i
      (λ d. not_under_child (under_self (name_of s)) ([], ap name_of (sym d) ∙ w.1))
      (λ d. not_parent w.0 (name_of s) (subst (Precedes (name_of s)) w.1 d))

-- FROM THE LINE TO THE SPOTS: what holds of all tasks of a part of the line holds of their spots
module _ (j : List ℕ) (P : Task → Type 0) where
  standing_all : (a : List (Item Numbered)) → All (Spots j P) a → All P (map (task_of j) (standing a))
  unfolding standing
  standing_all [] h = tt
  standing_all (value q v ∷ a) h = standing_all a h.1
  standing_all (spot n ∷ a) h = (h.0, standing_all a h.1)
  standing_all (finished n ∷ a) h = standing_all a h.1
  standing_all (gave q ∷ a) h = standing_all a h.1

  places_all : (ys : List Mark) → All P (places ys) → (o : Task) → In (place o) ys → P o
  unfolding places
  places_all [] h o i = absurd i
  places_all (step p a ∷ ys) h o (inl d) = let z : ◌≡◌ {A = ℕ} 0 1 = cc in absurd (omega (arith, z))
  places_all (step p a ∷ ys) h o (inr i) = places_all ys h o i
  places_all (place s ∷ ys) h o (inl d) = subst P (sym (same_spot d)) h.0
  places_all (place s ∷ ys) h o (inr i) = places_all ys h.1 o i

  pub off_line : (ys : List Mark) (a : List (Item Numbered)) → places ys ≡ map (task_of j) (standing a) → All (Spots j P) a
      → (o : Task) → In (place o) ys → P o
  off_line ys a e h o i = places_all ys (subst (All P) (sym e) (standing_all a h)) o i
