-- "Three more waits, which go before the rules above."
use Rattle.std.specs.Prelude.{Bool, true, false, List, [], ◌∷◌, ℕ, ltb, eqb}
use Rattle.spec_words.specs.Words.{both, either}
use Rattle.spec_tree.specs.Rights.{pops, shares_pop}
use Rattle.spec_order.specs.Steps.{Name, Task, Item, step, spot, name_of, number_of, rights_of}

unfoldable pub same_name : Name → Name → Bool
same_name [] [] = true
same_name [] (j ∷ q) = false
same_name (i ∷ p) [] = false
same_name (i ∷ p) (j ∷ q) = both (eqb i j) (same_name p q)

-- p is a child of q
unfoldable pub is_child : Name → Name → Bool
is_child [] q = false
is_child (i ∷ p) q = same_name p q

-- p is an older sibling of q: a child of the same task, made before it
unfoldable pub is_older : Name → Name → Bool
is_older [] q = false
is_older (i ∷ p) [] = false
is_older (i ∷ p) (j ∷ q) = both (ltb i j) (same_name p q)

-- some spot's task is such that f holds
unfoldable pub some_spot : (Task → Bool) → List Item → Bool
some_spot f [] = false
some_spot f (step p a ∷ xs) = some_spot f xs
some_spot f (spot s ∷ xs) = either (f s) (some_spot f xs)

-- task number t is unfinished
unfoldable pub unfinished : ℕ → List Item → Bool
unfinished t xs = some_spot (λ s. eqb (number_of s) t) xs

-- f holds of the task with number t and some unfinished one
unfoldable pub some_pair : (Task → Task → Bool) → ℕ → List Item → Bool
some_pair f t xs = some_spot (λ s. both (eqb (number_of s) t) (some_spot (f s) xs)) xs

-- "Every call of a task .. waits while an older sibling is unfinished that shares a pop right with it on some queue."
unfoldable pub blocked : ℕ → List Item → Bool
blocked = some_pair (λ s o. both (is_older (name_of o) (name_of s)) (shares_pop (rights_of o) (rights_of s)))

-- "Pop and test wait while a child of the caller with pop right on q is unfinished."
unfoldable pub child_pops : ℕ → ℕ → List Item → Bool
child_pops q = some_pair (λ s c. both (is_child (name_of c) (name_of s)) (pops (rights_of c) q))

-- "Sync and finish wait while any child is unfinished."
unfoldable pub has_child : ℕ → List Item → Bool
has_child = some_pair (λ s c. is_child (name_of c) (name_of s))
