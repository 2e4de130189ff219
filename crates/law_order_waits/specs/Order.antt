-- The order of the spots by the names of their tasks.
use Rattle.std.specs.Prelude.{◌≡◌, refl, List, [], ◌∷◌, ◌++◌, ◌⊎◌, ℕ, ◌+◌, ◌<◌}
use Rattle.std.proofs.Common.{sym, subst, inl, inr, ⊎_elim, arith}
use Rattle.spec_order.specs.Steps.{Name, Task, Item, step, spot, name_of}
use Rattle.law_order.specs.Names.{Under}
use Rattle.law_order.specs.Items.{In, in_parts, whose}
use Rattle.law_order.specs.Reached.{Reached}
use Rattle.law_order.specs.Courses.{Course, stands, ended, goes, forks, items, course}
use Rattle.law_order.specs.Kin.{kin, own}
use Rattle.law_order_waits.specs.Changes.{in_right}

-- The spot of n stands before that of m: n descends from a child of m, or from an older sibling of m or of an ancestor of m.
abbrev pub Precedes : Name → Name → Type 0
Precedes n m = ((k : ℕ) × Under (k ∷ m) n) ⊎ ((p : Name) × (i : ℕ) × (j : ℕ) × (i < j) × Under (i ∷ p) n × Under (j ∷ p) m)

abbrev Ordered : List Item → Type 0
Ordered [] = Unit {0}
Ordered (step p a ∷ xs) = Ordered xs
Ordered (spot o ∷ xs) = ((s : Task) → In (spot s) xs → Precedes (name_of o) (name_of s)) × Ordered xs

ordered_append : (xs ys : List Item) → Ordered xs → Ordered ys → ((o s : Task) → In (spot o) xs → In (spot s) ys → Precedes (name_of o) (name_of s))
    → Ordered (xs ++ ys)
ordered_append [] ys a b f = b
ordered_append (step p x ∷ xs) ys a b f = ordered_append xs ys a b (λ o s i j. f o s (inr i) j)
ordered_append (spot o ∷ xs) ys a b f = (
  (λ s i. ⊎_elim (λ j. a.0 s j) (λ j. f o s (inl refl) j) (in_parts (spot s) xs ys i)),
  ordered_append xs ys a.1 b (λ u s i j. f u s (inr i) j),
)

course_ordered : (p : Name) (t r k : ℕ) (w : Course) → Ordered (items p t r k w)
unfolding items whose
course_ordered p t r k stands = ((λ s i. absurd i), tt)
course_ordered p t r k ended = tt
course_ordered p t r k (goes a d w) = course_ordered p t r k w
course_ordered p t r k (forks c u v w) =
    ordered_append (items (k ∷ p) c u 0 v) (items p t r (k + 1) w) (course_ordered (k ∷ p) c u 0 v) (course_ordered p t r (k + 1) w)
    (λ o s i j.
    let n = own (k ∷ p) c u 0 v (spot o) i in
    ⊎_elim
    (λ e. inl (k, subst (λ (q : Name). Under (k ∷ q) (name_of o)) (sym e) n))
    (λ m. inr (p, k, m.0, (let l = m.1 in omega (arith, l)), n, m.2))
    (kin p t r (k + 1) w (spot s) j))

ordered_at : (ys zs : List Item) (s o : Task) → Ordered (ys ++ spot s ∷ zs) → In (spot o) ys → Precedes (name_of o) (name_of s)
unfolding whose
ordered_at [] zs s o h i = absurd i
ordered_at (step p a ∷ ys) zs s o h (inl e) = let z : ◌≡◌ {A = ℕ} 0 1 = cc in absurd (omega (arith, z))
ordered_at (step p a ∷ ys) zs s o h (inr i) = ordered_at ys zs s o h i
ordered_at (spot u ∷ ys) zs s o h (inl e) = subst (λ (x : Item). Precedes (whose x) (name_of s)) (sym e) (h.0 s (in_right (spot s) ys (spot s ∷ zs) (inl refl)))
ordered_at (spot u ∷ ys) zs s o h (inr i) = ordered_at ys zs s o h.1 i

-- In a reached list.
pub precedes : (ys zs : List Item) (s o : Task) → Reached (ys ++ spot s ∷ zs) → In (spot o) ys → Precedes (name_of o) (name_of s)
precedes ys zs s o h i =
    let w = course h in
    ordered_at ys zs s o (subst Ordered (sym w.1) (course_ordered [] 0 255 0 w.0)) i
