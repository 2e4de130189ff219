-- Every item is of the top or of a child that was made.
use Rattle.std.specs.Prelude.{◌≡◌, List, [], ◌∷◌, ◌++◌, ℕ, ◌+◌, ◌<◌, ◌≤◌}
use Rattle.std.proofs.Common.{ap, sym, ◌∙◌, subst, append_assoc, inl, inr, ⊎_elim, arith}
use Rattle.spec_order.specs.Steps.{Name, Item, step, spawns, name_of}
use Rattle.law_order.specs.Items.{In, in_parts, whose, children_of, WasMade, children_append, children_spawn}
use Rattle.law_order.specs.Reached.{Reached}
use Rattle.law_order.specs.Courses.{Course, stands, ended, goes, forks, items, course}
use Rattle.law_order.specs.Counts.{one_forked}

made_append : (p : Name) (xs ys : List Item) → WasMade p xs → WasMade p (xs ++ ys)
unfolding WasMade
made_append [] xs ys h = tt
made_append (k ∷ q) xs ys h = let a = children_append q xs ys in omega (arith, a, h)

made_child : (p : Name) (k : ℕ) (xs : List Item) → k < children_of p xs → WasMade (k ∷ p) xs
unfolding WasMade
made_child p k xs h = h

-- an item of the course's own task
mine : (p : Name) (t r k : ℕ) (w : Course) (past : List Item) → WasMade p past → (x : Item) → whose x ≡ p → WasMade (whose x) (past ++ items p t r k w)
mine p t r k w past m x e = made_append (whose x) past (items p t r k w) (subst (λ (n : Name). WasMade n past) (sym e) m)

-- In the items of a course, which follow on others.
known : (p : Name) (t r k : ℕ) (w : Course) (past : List Item) → k ≤ children_of p past → WasMade p past
    → (x : Item) → In x (items p t r k w) → WasMade (whose x) (past ++ items p t r k w)
unfolding items whose name_of
known p t r k stands past l m x (inl e) = mine p t r k stands past m x (ap whose e)
known p t r k stands past l m x (inr h) = absurd h
known p t r k ended past l m x (inl e) = mine p t r k ended past m x (ap whose e)
known p t r k ended past l m x (inr h) = absurd h
known p t r k (goes a d w) past l m x (inl e) = mine p t r k (goes a d w) past m x (ap whose e)
known p t r k (goes a d w) past l m x (inr h) =
    let b = children_append p past (step p a ∷ []) in
    subst (WasMade (whose x)) (append_assoc past (step p a ∷ []) (items p t r k w))
    (known p t r k w (past ++ step p a ∷ []) (omega (arith, b, l)) (made_append p past (step p a ∷ []) m) x h)
known p t r k (forks c s v w) past l m x (inl e) = mine p t r k (forks c s v w) past m x (ap whose e)
known p t r k (forks c s v w) past l m x (inr h) =
    let b = children_append p past (step p (spawns c s) ∷ []) in
    let d = children_spawn p c s [] in
    let child = items (k ∷ p) c s 0 v in
    let rest = items p t r (k + 1) w in
    let spawned = past ++ step p (spawns c s) ∷ [] in
    let f = children_append p past (step p (spawns c s) ∷ child) in
    let g = one_forked p k c s v in
    ⊎_elim
    (λ i.
    subst (WasMade (whose x)) (append_assoc spawned child rest ∙ append_assoc past (step p (spawns c s) ∷ []) (child ++ rest))
    (made_append (whose x) (spawned ++ child) rest
    (known (k ∷ p) c s 0 v spawned (omega arith) (made_child p k spawned (omega (arith, b, d, l))) x i)))
    (λ i.
    subst (WasMade (whose x)) (append_assoc past (step p (spawns c s) ∷ child) rest)
    (known p t r (k + 1) w (past ++ step p (spawns c s) ∷ child) (omega (arith, f, g, l)) (made_append p past (step p (spawns c s) ∷ child) m) x i))
    (in_parts x child rest h)

top_known : (t r : ℕ) (w : Course) (x : Item) → In x (items [] t r 0 w) → WasMade (whose x) (items [] t r 0 w)
unfolding WasMade
top_known t r w x h = known [] t r 0 w [] (omega arith) tt x h

-- In a reached list.
pub whose_made : (xs : List Item) → Reached xs → (x : Item) → In x xs → WasMade (whose x) xs
whose_made xs h x =
    let w = course h in
    subst (λ (l : List Item). In x l → WasMade (whose x) l) (sym w.1) (top_known 0 255 w.0 x)
