-- How many children a task has made in a course.
use Rattle.std.specs.Prelude.{◌≡◌, refl, true, List, [], ◌∷◌, ℕ, ◌+◌}
use Rattle.std.proofs.Common.{sym, ◌∙◌, subst, ⊎_elim, arith}
use Rattle.std.proofs.lemmas.Bool.{false≢true}
use Rattle.spec_order.specs.Steps.{Name, Item, Act, step, spawns, pushes, pops, tests, syncs, finishes}
use Rattle.law_order.specs.Names.{Under, under_self, not_under_child, same?}
use Rattle.law_order.specs.Items.{steps_of, children_of, spawns_in, children_append, children_none, children_here, children_spawn, children_past}
use Rattle.law_order.specs.Courses.{Course, stands, ended, forks, items, plain}
use Rattle.law_order.specs.Kin.{own}

plain_none : (a : Act) → plain a ≡ true → spawns_in (a ∷ []) ≡ 0
unfolding plain spawns_in
plain_none (spawns c r) e = absurd (false≢true e)
plain_none (pushes q v) e = refl
plain_none (pops q) e = refl
plain_none (tests q) e = refl
plain_none syncs e = refl
plain_none finishes e = refl

-- a step that is no spawn makes no child
children_step : (q p : Name) (a : Act) (xs : List Item) → spawns_in (a ∷ []) ≡ 0 → children_of q (step p a ∷ xs) ≡ children_of q xs
children_step q p a xs e =
    ⊎_elim
    (λ d. subst (λ (n : Name). children_of q (step n a ∷ xs) ≡ children_of q xs) (sym d) (let b = children_here q a xs in omega (arith, b, e)))
    (children_past q p a xs)
    (same? p q)

pub children_plain : (q p : Name) (a : Act) (xs : List Item) → plain a ≡ true → children_of q (step p a ∷ xs) ≡ children_of q xs
children_plain q p a xs e = children_step q p a xs (plain_none a e)

pub plain_alone : (q p : Name) (a : Act) → plain a ≡ true → children_of q (step p a ∷ []) ≡ 0
unfolding children_of steps_of spawns_in
plain_alone q p a e = children_plain q p a [] e

-- what another does makes no child of q
pub other_alone : (q p : Name) (a : Act) → (p ≡ q → ⊥) → children_of q (step p a ∷ []) ≡ 0
unfolding children_of steps_of spawns_in
other_alone q p a n = children_past q p a [] n

pub none_standing : (q p : Name) (t r k : ℕ) → children_of q (items p t r k stands) ≡ 0
unfolding items children_of steps_of spawns_in
none_standing q p t r k = refl

pub none_ended : (q p : Name) (t r k : ℕ) → children_of q (items p t r k ended) ≡ 0
unfolding items children_of steps_of spawns_in
none_ended q p t r k = children_step q p finishes [] refl

-- a child makes none of its parent's children
none_inside : (p : Name) (c s k : ℕ) (w : Course) → children_of p (items (k ∷ p) c s 0 w) ≡ 0
none_inside p c s k w =
    children_none p _ (λ x i e. not_under_child (under_self p) (subst (λ (n : Name). Under (k ∷ p) n) e (own (k ∷ p) c s 0 w x i)))

-- up to the next item of the spawner, one child
pub one_forked : (p : Name) (k c s : ℕ) (v : Course) → children_of p (step p (spawns c s) ∷ items (k ∷ p) c s 0 v) ≡ 1
one_forked p k c s v = let a = children_spawn p c s (items (k ∷ p) c s 0 v) in let b = none_inside p c s k v in omega (arith, a, b)

pub forked : (p : Name) (t r k c s : ℕ) (v w : Course) → children_of p (items p t r k (forks c s v w)) ≡ 1 + children_of p (items p t r (k + 1) w)
unfolding items
forked p t r k c s v w =
    let a = children_append p (step p (spawns c s) ∷ items (k ∷ p) c s 0 v) (items p t r (k + 1) w) in
    let b = one_forked p k c s v in
    omega (arith, a, b)

pub forked_other : (q p : Name) (t r k c s : ℕ) (v w : Course) → (p ≡ q → ⊥)
    → children_of q (items p t r k (forks c s v w)) ≡ children_of q (items (k ∷ p) c s 0 v) + children_of q (items p t r (k + 1) w)
unfolding items
forked_other q p t r k c s v w n =
    children_past q p (spawns c s) _ n ∙ children_append q (items (k ∷ p) c s 0 v) (items p t r (k + 1) w)
