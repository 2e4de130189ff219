-- PROGRAM ORDER: in every list that steps lead to, the steps and spots stand as document 01 says. Each law has its
-- sentence above it.
use Rattle.std.specs.Prelude.{◌≡◌, refl, List, [], ◌∷◌, ◌++◌, map, ◌↔◌, ℕ, ◌<◌, ◌≤◌}
use Rattle.std.proofs.Common.{ap, sym, ◌∙◌, subst}
use Rattle.spec_order.specs.Steps.{Name, Task, Item, step, spot, Act, spawns, finishes, name_of, number_of, rights_of, advance}
use Rattle.law_order.specs.Names.{Under, under_self, not_under_child}
use Rattle.law_order.specs.Items.{In, in_split, whose, steps_of, children_of, WasMade, Free}
use Rattle.law_order.specs.Count.{count, spot_named, spot_numbered}
use Rattle.law_order.specs.Reached.{Reached}
use Rattle.law_order.specs.Courses.{items}
use Rattle.law_order.specs.Kin.{own}
use Rattle.law_order.specs.Standing.{as_made}
use Rattle.law_order.specs.Spawned.{free_append, free_one}
use Rattle.law_order.specs.Children.{spawned}
use Rattle.law_order.specs.Placed.{placed, placed_behind, placed_one}
use Rattle.law_order.specs.Numbers.{one_number, advance_at}
use Rattle.law_order.specs.Unfinished.{spot_made, spot_open, open_spot}
use Rattle.law_order.specs.Moves.{made_step, own_steps, others_steps}

-- "A task's steps stand in the order made.": the next step of a task stands behind all its steps so far ..
pub steps_in_order : (xs : List Item) → Reached xs → (s : Task) → In (spot s) xs → (a : Act)
    → steps_of (name_of s) (advance (number_of s) a xs) ≡ steps_of (name_of s) xs ++ (a ∷ [])
steps_in_order xs h s i a =
    let w = in_split (spot s) xs i in
    subst (λ (l : List Item). Reached l → steps_of (name_of s) (advance (number_of s) a l) ≡ steps_of (name_of s) l ++ (a ∷ [])) (sym w.2)
    (λ g. own_steps w.0 w.1 s a (one_number g (number_of s)) (placed_behind w.0 w.1 s (placed _ g)))
    h

-- .. and the steps of the others stay.
pub others_stay : (xs : List Item) → Reached xs → (s : Task) → In (spot s) xs → (a : Act) (q : Name) → (name_of s ≡ q → ⊥)
    → steps_of q (advance (number_of s) a xs) ≡ steps_of q xs
others_stay xs h s i a q n =
    let w = in_split (spot s) xs i in
    subst (λ (l : List Item). Reached l → steps_of q (advance (number_of s) a l) ≡ steps_of q l) (sym w.2)
    (λ g. others_steps w.0 w.1 s a (one_number g (number_of s)) q n)
    h

-- "All steps of a child, and of its children, stand after the spawn that made it and before the spawner's next step.":
-- k ∷ p is child number k of p.
pub record Between (p : Name) (k : ℕ) (xs : List Item) : Type 0 where
  pub before : List Item
  pub number : ℕ
  pub rights : ℕ
  pub block : List Item
  pub next : Item
  pub behind : List Item
  pub parts : xs ≡ before ++ step p (spawns number rights) ∷ (block ++ next ∷ behind)
  -- the spawn is number k of p
  pub nth : children_of p before ≡ k
  -- the spawner's next step, or its spot
  pub mine : whose next ≡ p
  -- the child's items and those of its descendants are in the block, and no other item is
  pub inside : (x : Item) → In x block → Under (k ∷ p) (whose x)
  pub outside : Free (k ∷ p) (before ++ step p (spawns number rights) ∷ next ∷ behind)
  -- while the child is unfinished it has the number and the rights that the spawn gave
  pub as_spawned : (s : Task) → In (spot s) block → name_of s ≡ k ∷ p → (number_of s ≡ number) × (rights_of s ≡ rights)

pub child_between : (xs : List Item) → Reached xs → (p : Name) (k : ℕ) → k < children_of p xs → Between p k xs
unfolding whose
child_between xs h p k l =
    let b = spawned xs h p k l in
    let made = step p (spawns b.number b.rights) in
    record {
      before = b.before;
      number = b.number;
      rights = b.rights;
      block = items (k ∷ p) b.number b.rights 0 b.course;
      next = b.next;
      behind = b.behind;
      parts = b.parts;
      nth = b.nth;
      mine = b.mine;
      inside = own (k ∷ p) b.number b.rights 0 b.course;
      outside =
          free_append (k ∷ p) b.before (made ∷ b.next ∷ b.behind) b.free_before
          (free_append (k ∷ p) (made ∷ []) (b.next ∷ b.behind) (free_one (k ∷ p) made (up p refl))
          (free_append (k ∷ p) (b.next ∷ []) b.behind (free_one (k ∷ p) b.next (up (whose b.next) b.mine)) b.free_behind));
      as_spawned = as_made (k ∷ p) b.number b.rights 0 b.course;
    }
  where
    up : (n : Name) → n ≡ p → Under (k ∷ p) n → ⊥
    up n e u = not_under_child (under_self p) (subst (Under (k ∷ p)) e u)

-- "An unfinished task's spot is where its next step would stand.": there its next step comes, with spots behind it, and
-- all else stays in its place.
pub next_at_spot : (before behind : List Item) (s : Task) → Reached (before ++ spot s ∷ behind) → (a : Act)
    → (ts : List Task) × (advance (number_of s) a (before ++ spot s ∷ behind) ≡ before ++ (step (name_of s) a ∷ (map spot ts ++ behind)))
next_at_spot before behind s h a =
    let w = made_step s a in
    (w.0, advance_at before behind s a (one_number h (number_of s)) ∙ ap (λ (l : List Item). before ++ (l ++ behind)) w.1)

-- A task has a spot exactly where it was made and has not finished.
pub spots_unfinished : (xs : List Item) → Reached xs → (p : Name)
    → ((s : Task) × In (spot s) xs × (name_of s ≡ p)) ↔ (WasMade p xs × (In (step p finishes) xs → ⊥))
spots_unfinished xs h p = (λ w. (spot_made xs h p w, spot_open xs h p w), λ m. open_spot xs h p m.0 m.1)

-- No two spots have one name, no two one number.
pub one_spot : (xs : List Item) → Reached xs → ((p : Name) → count (spot_named p) xs ≤ 1) × ((t : ℕ) → count (spot_numbered t) xs ≤ 1)
one_spot xs h = (λ p. placed_one p xs (placed xs h), λ t. one_number h t)

-- Behind a task's spot stands no item of it and none of its descendants: their spots stand before it.
pub children_first : (before behind : List Item) (s : Task) → Reached (before ++ spot s ∷ behind) → Free (name_of s) behind
children_first before behind s h = placed_behind before behind s (placed _ h)
