-- How many items of a list pass a test; the tests for spots and for the finish of a task.
use Rattle.std.specs.Prelude.{◌≡◌, refl, Bool, true, false, List, [], ◌∷◌, ◌++◌, ℕ, ◌+◌, ◌<◌, eqb}
use Rattle.std.proofs.Common.{ap, sym, ◌∙◌, inl, inr, arith}
use Rattle.std.proofs.lemmas.Bool.{false≢true}
use Rattle.spec_words.specs.Words.{pick, both}
use Rattle.spec_lists.specs.Counting.{one, one_true, one_false}
use Rattle.spec_order.specs.Steps.{Name, Task, Item, step, spot, Act, spawns, pushes, pops, tests, syncs, finishes, name_of, number_of}
use Rattle.spec_order.specs.Waits.{same_name}
use Rattle.law_order.specs.Names.{same_true, same_yes}
use Rattle.law_order.specs.Items.{In, whose}

unfoldable pub count : (Item → Bool) → List Item → ℕ
count f [] = 0
count f (x ∷ xs) = one (f x) + count f xs

unfoldable pub spot_named : Name → Item → Bool
spot_named p (step q a) = false
spot_named p (spot s) = same_name (name_of s) p

unfoldable pub spot_numbered : ℕ → Item → Bool
spot_numbered t (step q a) = false
spot_numbered t (spot s) = eqb (number_of s) t

unfoldable pub is_finish : Act → Bool
is_finish (spawns c r) = false
is_finish (pushes q v) = false
is_finish (pops q) = false
is_finish (tests q) = false
is_finish syncs = false
is_finish finishes = true

unfoldable pub finish_of : Name → Item → Bool
finish_of p (step q a) = both (is_finish a) (same_name q p)
finish_of p (spot s) = false

pub count_append : (f : Item → Bool) (xs ys : List Item) → count f (xs ++ ys) ≡ count f xs + count f ys
unfolding count
count_append f [] ys = omega arith
count_append f (x ∷ xs) ys = let a = count_append f xs ys in omega (arith, a)

pub count_none : (f : Item → Bool) (xs : List Item) → ((x : Item) → In x xs → f x ≡ true → ⊥) → count f xs ≡ 0
unfolding count
count_none f [] h = refl
count_none f (x ∷ xs) h =
    let a = count_none f xs (λ y i. h y (inr i)) in
    let b = go (f x) refl in
    omega (arith, a, b)
  where
    go : (b : Bool) → f x ≡ b → one (f x) ≡ 0
    go true e = absurd (h x (inl refl) e)
    go false e = one_false e

pub count_some : (f : Item → Bool) (xs : List Item) → 0 < count f xs → (x : Item) × In x xs × (f x ≡ true)
unfolding count
count_some f [] h = let z : ⊥ = omega (arith, h) in absurd z
count_some f (x ∷ xs) h = go (f x) refl (count_some f xs)
  where
    go : (b : Bool) → f x ≡ b → (0 < count f xs → (y : Item) × In y xs × (f y ≡ true)) → (y : Item) × In y (x ∷ xs) × (f y ≡ true)
    go true e rest = (x, inl refl, e)
    go false e rest = let a = one_false e in let w = rest (omega (arith, a, h)) in (w.0, inr w.1, w.2)

pub count_in : (f : Item → Bool) (x : Item) (xs : List Item) → In x xs → f x ≡ true → 0 < count f xs
unfolding count
count_in f x [] h e = absurd h
count_in f x (y ∷ xs) (inl d) e = let a = one_true (ap f (sym d) ∙ e) in omega (arith, a)
count_in f x (y ∷ xs) (inr h) e = let a = count_in f x xs h e in omega (arith, a)

-- what the tests say
pub named_true : (p : Name) (x : Item) → spot_named p x ≡ true → (s : Task) × (x ≡ spot s) × (name_of s ≡ p)
unfolding spot_named
named_true p (step q a) e = absurd (false≢true e)
named_true p (spot s) e = (s, refl, same_true (name_of s) p e)

pub named_yes : (p : Name) (s : Task) → name_of s ≡ p → spot_named p (spot s) ≡ true
unfolding spot_named
named_yes p s e = same_yes (name_of s) p e

pub finish_true : (p : Name) (x : Item) → finish_of p x ≡ true → x ≡ step p finishes
unfolding finish_of is_finish both pick
finish_true p (spot s) e = absurd (false≢true e)
finish_true p (step q (spawns c r)) e = absurd (false≢true e)
finish_true p (step q (pushes k v)) e = absurd (false≢true e)
finish_true p (step q (pops k)) e = absurd (false≢true e)
finish_true p (step q (tests k)) e = absurd (false≢true e)
finish_true p (step q syncs) e = absurd (false≢true e)
finish_true p (step q finishes) e = ap (λ (n : Name). step n finishes) (same_true q p e)

pub finish_yes : (p : Name) → finish_of p (step p finishes) ≡ true
unfolding finish_of is_finish both pick
finish_yes p = same_yes p p refl

pub named_whose : (p : Name) (x : Item) → spot_named p x ≡ true → whose x ≡ p
unfolding whose
named_whose p x e = let w = named_true p x e in ap whose w.1 ∙ w.2

pub finish_whose : (p : Name) (x : Item) → finish_of p x ≡ true → whose x ≡ p
unfolding whose
finish_whose p x e = ap whose (finish_true p x e)
