-- Behind a spot stands no item of its task or of a descendant; so no name has two spots.
use Rattle.std.specs.Prelude.{◌≡◌, refl, Bool, true, false, List, [], ◌∷◌, ◌++◌, ℕ, ◌+◌, ◌≤◌}
use Rattle.std.proofs.Common.{sym, ◌∙◌, subst, inl, inr, arith}
use Rattle.spec_lists.specs.Counting.{one, one_true, one_false}
use Rattle.spec_order.specs.Steps.{Name, Task, Item, step, spot, name_of}
use Rattle.law_order.specs.Names.{under_trans}
use Rattle.law_order.specs.Items.{In, Free, whose}
use Rattle.law_order.specs.Count.{count, spot_named, count_none, named_whose}
use Rattle.law_order.specs.Reached.{Reached}
use Rattle.law_order.specs.Courses.{Course, stands, ended, goes, forks, items, course}
use Rattle.law_order.specs.Kin.{kin, kin_apart, own}
use Rattle.law_order.specs.Spawned.{free_append}

abbrev pub Placed : List Item → Type 0
Placed [] = Unit
Placed (step p a ∷ xs) = Placed xs
Placed (spot s ∷ xs) = Free (name_of s) xs × Placed xs

placed_append : (xs ys : List Item) → Placed xs → Placed ys → ((s : Task) → In (spot s) xs → Free (name_of s) ys) → Placed (xs ++ ys)
placed_append [] ys a b f = b
placed_append (step p d ∷ xs) ys a b f = placed_append xs ys a b (λ s i. f s (inr i))
placed_append (spot s ∷ xs) ys a b f = (free_append (name_of s) xs ys a.0 (f s (inl refl)), placed_append xs ys a.1 b (λ u i. f u (inr i)))

course_placed : (p : Name) (t r k : ℕ) (w : Course) → Placed (items p t r k w)
unfolding items whose
course_placed p t r k stands = (λ x h u. h, tt)
course_placed p t r k ended = tt
course_placed p t r k (goes a d w) = course_placed p t r k w
course_placed p t r k (forks c s v w) =
    placed_append (items (k ∷ p) c s 0 v) (items p t r (k + 1) w) (course_placed (k ∷ p) c s 0 v) (course_placed p t r (k + 1) w)
    (λ o i x h u. kin_apart p k (whose x) (kin p t r (k + 1) w x h) (under_trans (own (k ∷ p) c s 0 v (spot o) i) u))

pub placed : (xs : List Item) → Reached xs → Placed xs
placed xs h = let w = course h in subst Placed (sym w.1) (course_placed [] 0 255 0 w.0)

pub placed_behind : (before behind : List Item) (s : Task) → Placed (before ++ spot s ∷ behind) → Free (name_of s) behind
placed_behind [] behind s h = h.0
placed_behind (step p a ∷ before) behind s h = placed_behind before behind s h
placed_behind (spot o ∷ before) behind s h = placed_behind before behind s h.1

pub placed_one : (p : Name) (xs : List Item) → Placed xs → count (spot_named p) xs ≤ 1
unfolding count whose spot_named
placed_one p [] h = omega arith
placed_one p (step q a ∷ xs) h = let i = placed_one p xs h in let b = one_false {b = false} refl in omega (arith, i, b)
placed_one p (spot s ∷ xs) h = go (spot_named p (spot s)) refl (placed_one p xs h.1)
  where
    alone : spot_named p (spot s) ≡ true → count (spot_named p) xs ≡ 0
    alone e = count_none (spot_named p) xs (λ x i d. h.0 x i ([], named_whose p x d ∙ sym (named_whose p (spot s) e)))

    go : (b : Bool) → spot_named p (spot s) ≡ b → count (spot_named p) xs ≤ 1 → one (spot_named p (spot s)) + count (spot_named p) xs ≤ 1
    go true e i = let a = alone e in let b = one_true e in omega (arith, a, b)
    go false e i = let b = one_false e in omega (arith, i, b)
