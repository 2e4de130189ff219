-- What is said of a list of items: what stands in it, the steps of a task, its children, who was made.
use Rattle.std.specs.Prelude.{◌≡◌, refl, Bool, true, false, List, [], ◌∷◌, ◌++◌, ◌⊎◌, ℕ, ◌+◌, ◌<◌}
use Rattle.std.proofs.Common.{ap, sym, ◌∙◌, inl, inr, ⊎_elim, arith}
use Rattle.spec_words.specs.Words.{pick, pass, halt}
use Rattle.spec_order.specs.Steps.{Name, Item, step, spot, Act, spawns, pushes, pops, tests, syncs, finishes, name_of}
use Rattle.spec_order.specs.Waits.{same_name}
use Rattle.law_order.specs.Names.{Under, same?, same_yes, same_no}

-- x stands in a list
abbrev pub In : Item → List Item → Type 0
In x [] = ⊥
In x (y ∷ ys) = (x ≡ y) ⊎ In x ys

-- the name of the task that an item is of
unfoldable pub whose : Item → Name
whose (step p a) = p
whose (spot s) = name_of s

-- the steps of the task named p
unfoldable pub steps_of : Name → List Item → List Act
steps_of p [] = []
steps_of p (step q a ∷ xs) = let rest = steps_of p xs in pick (same_name q p) (a ∷ rest) rest
steps_of p (spot s ∷ xs) = steps_of p xs

-- how many of some steps are spawns
unfoldable pub spawns_in : List Act → ℕ
spawns_in [] = 0
spawns_in (spawns c r ∷ acts) = 1 + spawns_in acts
spawns_in (pushes q v ∷ acts) = spawns_in acts
spawns_in (pops q ∷ acts) = spawns_in acts
spawns_in (tests q ∷ acts) = spawns_in acts
spawns_in (syncs ∷ acts) = spawns_in acts
spawns_in (finishes ∷ acts) = spawns_in acts

-- how many children the task named p has made: their names are 0 ∷ p, 1 ∷ p, and so on
unfoldable pub children_of : Name → List Item → ℕ
children_of p xs = spawns_in (steps_of p xs)

-- p is the top, or child number k (from 0) of q, which has made more than k
unfoldable pub WasMade : Name → List Item → Type 0
WasMade [] xs = Unit
WasMade (k ∷ q) xs = k < children_of q xs

-- no item is of c or of a descendant of c
abbrev pub Free : Name → List Item → Type 0
Free c xs = (x : Item) → In x xs → Under c (whose x) → ⊥

pub in_parts : (x : Item) (xs ys : List Item) → In x (xs ++ ys) → In x xs ⊎ In x ys
in_parts x [] ys h = inr h
in_parts x (z ∷ xs) ys (inl e) = inl (inl e)
in_parts x (z ∷ xs) ys (inr h) = ⊎_elim (λ i. inl (inr i)) (λ i. inr i) (in_parts x xs ys h)

-- what stands in a list parts it
pub in_split : (x : Item) (xs : List Item) → In x xs → (before : List Item) × (behind : List Item) × (xs ≡ before ++ x ∷ behind)
in_split x [] h = absurd h
in_split x (z ∷ xs) (inl e) = ([], xs, ap (λ (y : Item). y ∷ xs) (sym e))
in_split x (z ∷ xs) (inr h) = let w = in_split x xs h in (z ∷ w.0, w.1, ap (λ (l : List Item). z ∷ l) w.2)

pub steps_here : (p : Name) (a : Act) (xs : List Item) → steps_of p (step p a ∷ xs) ≡ a ∷ steps_of p xs
unfolding steps_of
steps_here p a xs = halt _ _ (same_yes p p refl)

pub steps_past : (p q : Name) (a : Act) (xs : List Item) → (q ≡ p → ⊥) → steps_of p (step q a ∷ xs) ≡ steps_of p xs
unfolding steps_of
steps_past p q a xs n = pass _ (same_no q p n) refl

pub steps_append : (p : Name) (xs ys : List Item) → steps_of p (xs ++ ys) ≡ steps_of p xs ++ steps_of p ys
unfolding steps_of pick
steps_append p [] ys = refl
steps_append p (spot s ∷ xs) ys = steps_append p xs ys
steps_append p (step q a ∷ xs) ys = go (same_name q p) (steps_append p xs ys)
  where
    go : (b : Bool) → steps_of p (xs ++ ys) ≡ steps_of p xs ++ steps_of p ys
        → pick b (a ∷ steps_of p (xs ++ ys)) (steps_of p (xs ++ ys)) ≡ pick b (a ∷ steps_of p xs) (steps_of p xs) ++ steps_of p ys
    go true e = ap (λ (l : List Act). a ∷ l) e
    go false e = e

-- a task of which no item is there has no steps there
pub steps_none : (p : Name) (xs : List Item) → ((x : Item) → In x xs → whose x ≡ p → ⊥) → steps_of p xs ≡ []
unfolding steps_of whose
steps_none p [] h = refl
steps_none p (spot s ∷ xs) h = steps_none p xs (λ x i. h x (inr i))
steps_none p (step q a ∷ xs) h = pass _ (same_no q p (h (step q a) (inl refl))) (steps_none p xs (λ x i. h x (inr i)))

spawns_append : (acts more : List Act) → spawns_in (acts ++ more) ≡ spawns_in acts + spawns_in more
unfolding spawns_in
spawns_append [] more = omega arith
spawns_append (spawns c r ∷ acts) more = let a = spawns_append acts more in omega (arith, a)
spawns_append (pushes q v ∷ acts) more = spawns_append acts more
spawns_append (pops q ∷ acts) more = spawns_append acts more
spawns_append (tests q ∷ acts) more = spawns_append acts more
spawns_append (syncs ∷ acts) more = spawns_append acts more
spawns_append (finishes ∷ acts) more = spawns_append acts more

pub children_append : (p : Name) (xs ys : List Item) → children_of p (xs ++ ys) ≡ children_of p xs + children_of p ys
unfolding children_of
children_append p xs ys = ap spawns_in (steps_append p xs ys) ∙ spawns_append (steps_of p xs) (steps_of p ys)

pub children_none : (p : Name) (xs : List Item) → ((x : Item) → In x xs → whose x ≡ p → ⊥) → children_of p xs ≡ 0
unfolding children_of spawns_in
children_none p xs h = ap spawns_in (steps_none p xs h)

-- a task that has made a child has a step
pub children_some : (p : Name) (xs : List Item) → 0 < children_of p xs → (x : Item) × In x xs × (whose x ≡ p)
unfolding children_of spawns_in steps_of whose
children_some p [] h = let z : ⊥ = omega (arith, h) in absurd z
children_some p (spot s ∷ xs) h = let w = children_some p xs h in (w.0, inr w.1, w.2)
children_some p (step q a ∷ xs) h =
    ⊎_elim
    (λ e. (step q a, inl refl, e))
    (λ n.
    let w = children_some p xs (let d = ap spawns_in (steps_past p q a xs n) in omega (arith, d, h)) in (w.0, inr w.1, w.2))
    (same? q p)

pub children_here : (p : Name) (a : Act) (xs : List Item) → children_of p (step p a ∷ xs) ≡ spawns_in (a ∷ []) + children_of p xs
unfolding children_of
children_here p a xs = ap spawns_in (steps_here p a xs) ∙ spawns_append (a ∷ []) (steps_of p xs)

pub children_spawn : (p : Name) (c r : ℕ) (xs : List Item) → children_of p (step p (spawns c r) ∷ xs) ≡ 1 + children_of p xs
unfolding children_of spawns_in
children_spawn p c r xs = ap spawns_in (steps_here p (spawns c r) xs)

pub children_past : (p q : Name) (a : Act) (xs : List Item) → (q ≡ p → ⊥) → children_of p (step q a ∷ xs) ≡ children_of p xs
unfolding children_of
children_past p q a xs n = ap spawns_in (steps_past p q a xs n)
