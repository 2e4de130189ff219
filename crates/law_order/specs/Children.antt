-- All children that were made, in the items of a course.
use Rattle.std.specs.Prelude.{◌≡◌, refl, List, [], ◌∷◌, ◌++◌, ℕ, zero, suc, ◌+◌, ◌<◌}
use Rattle.std.proofs.Common.{sym, ◌∙◌, subst, inl, inr, ⊎_elim, arith, eq-zero-or-pos}
use Rattle.spec_order.specs.Steps.{Name, Item, step, spawns}
use Rattle.law_order.specs.Names.{Under, under_self, under_trans, under_parent, not_under_child, one_branch, same?}
use Rattle.law_order.specs.Items.{Free, whose, children_of, children_past}
use Rattle.law_order.specs.Reached.{Reached}
use Rattle.law_order.specs.Courses.{Course, stands, ended, goes, forks, items, course}
use Rattle.law_order.specs.Kin.{Kin, kin, kin_under, kin_apart, own, kin_spawner}
use Rattle.law_order.specs.Counts.{children_plain, plain_alone, other_alone, none_standing, none_ended, one_forked, forked, forked_other}
use Rattle.law_order.specs.Spawned.{Spawned, free_append, free_one, front, back, here}

-- a step of p is of no child of p or of p's descendants
step_free : (p q : Name) (i : ℕ) (y : Item) → whose y ≡ p → Under p q → Free (i ∷ q) (y ∷ [])
step_free p q i y e u = free_one (i ∷ q) y (λ v. not_under_child u (subst (λ (n : Name). Under (i ∷ q) n) e v))

-- the items of child number k are of no other child
course_free : (p : Name) (c s k i : ℕ) (w : Course) → (i ≡ k → ⊥) → Free (i ∷ p) (items (k ∷ p) c s 0 w)
course_free p c s k i w n x h u = n (one_branch u (own (k ∷ p) c s 0 w x h))

-- The children that the task of a course makes there.
own_children : (p : Name) (t r k : ℕ) (w : Course) (j n : ℕ) → n ≡ k + j → j < children_of p (items p t r k w) → Spawned p (n ∷ p) j (items p t r k w)
unfolding items whose
own_children p t r k stands j n e h = let a = none_standing p p t r k in let z : ⊥ = omega (arith, a, h) in absurd z
own_children p t r k ended j n e h = let a = none_ended p p t r k in let z : ⊥ = omega (arith, a, h) in absurd z
own_children p t r k (goes a d w) j n e h =
    let b = children_plain p p a (items p t r k w) d in
    front p (n ∷ p) 0 j j (step p a ∷ []) (items p t r k w) (plain_alone p p a d) (omega arith)
    (step_free p p n (step p a) refl (under_self p))
    (own_children p t r k w j n e (omega (arith, b, h)))
own_children p t r k (forks c s v w) zero n e h =
    subst (λ (i : ℕ). Spawned p (i ∷ p) 0 (items p t r k (forks c s v w))) (omega (arith, e)) (here p t r k c s v w)
own_children p t r k (forks c s v w) (suc j) n e h =
    let b = forked p t r k c s v w in
    front p (n ∷ p) 1 j (suc j) (step p (spawns c s) ∷ items (k ∷ p) c s 0 v) (items p t r (k + 1) w) (one_forked p k c s v) (omega arith)
    (free_append (n ∷ p) (step p (spawns c s) ∷ []) (items (k ∷ p) c s 0 v)
    (step_free p p n (step p (spawns c s)) refl (under_self p))
    (course_free p c s k n v (λ q. omega (arith, q, e))))
    (own_children p t r (k + 1) w j n (omega (arith, e)) (omega (arith, b, h)))

-- The children that its descendants make.
inner_children : (p : Name) (t r k : ℕ) (w : Course) (q : Name) (j : ℕ) → (p ≡ q → ⊥) → j < children_of q (items p t r k w)
    → Spawned q (j ∷ q) j (items p t r k w)
unfolding items whose
inner_children p t r k stands q j n h = let a = none_standing q p t r k in let z : ⊥ = omega (arith, a, h) in absurd z
inner_children p t r k ended q j n h = let a = none_ended q p t r k in let z : ⊥ = omega (arith, a, h) in absurd z
inner_children p t r k (goes a d w) q j n h =
    let b = children_plain q p a (items p t r k w) d in
    let l : j < children_of q (items p t r k w) = omega (arith, b, h) in
    let u = kin_under p k q (kin_spawner p t r k w q (omega (arith, l))) in
    front q (j ∷ q) 0 j j (step p a ∷ []) (items p t r k w) (plain_alone q p a d) (omega arith) (step_free p q j (step p a) refl u)
    (inner_children p t r k w q j n l)
inner_children p t r k (forks c s v w) q j n h =
    let b = forked_other q p t r k c s v w n in
    ⊎_elim
    (λ z. let l : j < children_of q (items p t r (k + 1) w) = omega (arith, b, z, h) in younger z l (inner_children p t r (k + 1) w q j n l))
    (λ z.
    let u = kin_under (k ∷ p) 0 q (kin_spawner (k ∷ p) c s 0 v q z) in
    let y = nowhere u in
    let l : j < children_of q (items (k ∷ p) c s 0 v) = omega (arith, b, y, h) in
    inside u
    (⊎_elim
    (λ e.
    subst (λ (m : Name). j < children_of m (items (k ∷ p) c s 0 v) → Spawned m (j ∷ m) j (items (k ∷ p) c s 0 v)) e
    (own_children (k ∷ p) c s 0 v j j (omega arith)) l)
    (λ m. inner_children (k ∷ p) c s 0 v q j m l)
    (same? (k ∷ p) q)))
    (eq-zero-or-pos (children_of q (items (k ∷ p) c s 0 v)))
  where
    apart : Kin p (k + 1) q → Free (j ∷ q) (items (k ∷ p) c s 0 v)
    apart (inl e) x i u = n (sym e)
    apart (inr g) x i u =
        let l = g.1 in
        let e = one_branch (under_trans g.2 (under_parent u)) (own (k ∷ p) c s 0 v x i) in
        omega (arith, l, e)

    -- q descends from a younger child
    younger : children_of q (items (k ∷ p) c s 0 v) ≡ 0 → j < children_of q (items p t r (k + 1) w) → Spawned q (j ∷ q) j (items p t r (k + 1) w)
        → Spawned q (j ∷ q) j (items p t r k (forks c s v w))
    younger z l b =
        let g = kin_spawner p t r (k + 1) w q (omega (arith, l)) in
        front q (j ∷ q) 0 j j (step p (spawns c s) ∷ items (k ∷ p) c s 0 v) (items p t r (k + 1) w)
        (children_past q p (spawns c s) (items (k ∷ p) c s 0 v) n ∙ z) (omega arith)
        (free_append (j ∷ q) (step p (spawns c s) ∷ []) (items (k ∷ p) c s 0 v)
        (step_free p q j (step p (spawns c s)) refl (kin_under p (k + 1) q g)) (apart g))
        b

    nowhere : Under (k ∷ p) q → children_of q (items p t r (k + 1) w) ≡ 0
    nowhere u =
        ⊎_elim (λ z. z) (λ z. absurd (kin_apart p k q (kin_spawner p t r (k + 1) w q z) u)) (eq-zero-or-pos (children_of q (items p t r (k + 1) w)))

    -- q is the child made here or descends from it
    inside : Under (k ∷ p) q → Spawned q (j ∷ q) j (items (k ∷ p) c s 0 v) → Spawned q (j ∷ q) j (items p t r k (forks c s v w))
    inside u b =
        front q (j ∷ q) 0 j j (step p (spawns c s) ∷ []) (items (k ∷ p) c s 0 v ++ items p t r (k + 1) w) (other_alone q p (spawns c s) n) (omega arith)
        (step_free p q j (step p (spawns c s)) refl (under_parent u))
        (back q (j ∷ q) j (items (k ∷ p) c s 0 v) (items p t r (k + 1) w)
        (λ x i d. kin_apart p k (whose x) (kin p t r (k + 1) w x i) (under_trans u (under_parent d))) b)

top_children : (t r : ℕ) (w : Course) (q : Name) (j : ℕ) → j < children_of q (items [] t r 0 w) → Spawned q (j ∷ q) j (items [] t r 0 w)
top_children t r w q j h =
    ⊎_elim
    (λ e.
    subst (λ (n : Name). j < children_of n (items [] t r 0 w) → Spawned n (j ∷ n) j (items [] t r 0 w)) e (own_children [] t r 0 w j j (omega arith)) h)
    (λ n. inner_children [] t r 0 w q j n h)
    (same? [] q)

-- In a reached list every child that was made.
pub spawned : (xs : List Item) → Reached xs → (q : Name) (j : ℕ) → j < children_of q xs → Spawned q (j ∷ q) j xs
spawned xs h q j =
    let w = course h in
    subst (λ (l : List Item). j < children_of q l → Spawned q (j ∷ q) j l) (sym w.1) (top_children 0 255 w.0 q j)
