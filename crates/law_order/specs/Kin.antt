-- Whose the items of a course are: the task's own, or a descendant's by one of the children that it makes there.
use Rattle.std.specs.Prelude.{◌≡◌, refl, List, [], ◌∷◌, ◌++◌, ◌⊎◌, ℕ, ◌+◌, ◌<◌, ◌≤◌}
use Rattle.std.proofs.Common.{ap, subst, inl, inr, ⊎_elim, arith}
use Rattle.spec_order.specs.Steps.{Name, Item, step, spot, task, spawns, finishes, name_of}
use Rattle.law_order.specs.Names.{Under, under_self, under_parent, not_under_child, one_branch}
use Rattle.law_order.specs.Items.{In, in_parts, whose, children_of, children_some}
use Rattle.law_order.specs.Courses.{Course, stands, ended, goes, forks, items}

-- q is p, or descends from child number k of p or a younger one
abbrev pub Kin : Name → ℕ → Name → Type 0
Kin p k q = (q ≡ p) ⊎ ((i : ℕ) × (k ≤ i) × Under (i ∷ p) q)

pub kin_under : (p : Name) (k : ℕ) (q : Name) → Kin p k q → Under p q
kin_under p k q (inl e) = ([], e)
kin_under p k q (inr w) = under_parent w.2

kin_fewer : (p : Name) (k : ℕ) (q : Name) → Kin p (k + 1) q → Kin p k q
kin_fewer p k q (inl e) = inl e
kin_fewer p k q (inr w) = let l = w.1 in inr (w.0, omega (arith, l), w.2)

-- the younger children's descendants are not those of child number k
pub kin_apart : (p : Name) (k : ℕ) (q : Name) → Kin p (k + 1) q → Under (k ∷ p) q → ⊥
kin_apart p k q (inl e) u = not_under_child (under_self p) (subst (λ (n : Name). Under (k ∷ p) n) e u)
kin_apart p k q (inr w) u = let l = w.1 in let e = one_branch w.2 u in omega (arith, l, e)

pub kin : (p : Name) (t r k : ℕ) (w : Course) (x : Item) → In x (items p t r k w) → Kin p k (whose x)
unfolding items whose name_of
kin p t r k stands x (inl e) = inl (ap whose e)
kin p t r k stands x (inr h) = absurd h
kin p t r k ended x (inl e) = inl (ap whose e)
kin p t r k ended x (inr h) = absurd h
kin p t r k (goes a d w) x (inl e) = inl (ap whose e)
kin p t r k (goes a d w) x (inr h) = kin p t r k w x h
kin p t r k (forks c s v w) x (inl e) = inl (ap whose e)
kin p t r k (forks c s v w) x (inr h) =
    ⊎_elim
    (λ i. inr (k, omega arith, kin_under (k ∷ p) 0 (whose x) (kin (k ∷ p) c s 0 v x i)))
    (λ i. kin_fewer p k (whose x) (kin p t r (k + 1) w x i))
    (in_parts x (items (k ∷ p) c s 0 v) (items p t r (k + 1) w) h)

-- so all are the task's or its descendants'
pub own : (p : Name) (t r k : ℕ) (w : Course) (x : Item) → In x (items p t r k w) → Under p (whose x)
own p t r k w x h = kin_under p k (whose x) (kin p t r k w x h)

-- the first item is the task's own
pub first : (p : Name) (t r k : ℕ) (w : Course) → (x : Item) × (rest : List Item) × (items p t r k w ≡ x ∷ rest) × (whose x ≡ p)
unfolding items whose name_of
first p t r k stands = (spot (task p t r k), [], refl, refl)
first p t r k ended = (step p finishes, [], refl, refl)
first p t r k (goes a d w) = (step p a, items p t r k w, refl, refl)
first p t r k (forks c s v w) = (step p (spawns c s), items (k ∷ p) c s 0 v ++ items p t r (k + 1) w, refl, refl)

-- who has children in a course has a step there
pub kin_spawner : (p : Name) (t r k : ℕ) (w : Course) (q : Name) → 0 < children_of q (items p t r k w) → Kin p k q
kin_spawner p t r k w q h =
    let s = children_some q (items p t r k w) h in
    subst (λ (n : Name). Kin p k n) s.2 (kin p t r k w s.0 s.1)
