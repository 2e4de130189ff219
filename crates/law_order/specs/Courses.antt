-- The shape of a list of items: for each task a course, which holds those of its children.
use Rattle.std.specs.Prelude.{◌≡◌, refl, Bool, true, false, List, [], ◌∷◌, ◌++◌, ℕ, ◌+◌, eqb}
use Rattle.std.proofs.Common.{ap, sym, ◌∙◌, append_assoc, append-nil}
use Rattle.spec_words.specs.Words.{pick, pass, halt}
use Rattle.spec_order.specs.Steps.{Name, Item, Act, step, spot, task, spawns, pushes, pops, tests, syncs, finishes, number_of, begin, made, moved, advance}
use Rattle.law_order.specs.Reached.{Reached, start, more}

-- neither a spawn nor a finish
unfoldable pub plain : Act → Bool
plain (spawns c r) = false
plain (pushes q v) = true
plain (pops q) = true
plain (tests q) = true
plain syncs = true
plain finishes = false

-- What a task still does in a list: it stands there, or has finished, or makes a plain step and goes on, or makes a
-- child (number, rights, course) and goes on.
pub data Course : Type 0 where
  stands : Course
  ended : Course
  goes : (a : Act) → plain a ≡ true → Course → Course
  forks : ℕ → ℕ → Course → Course → Course

-- its items, for the task with this name, number and rights that has made k children before
unfoldable pub items : Name → ℕ → ℕ → ℕ → Course → List Item
items p t r k stands = spot (task p t r k) ∷ []
items p t r k ended = step p finishes ∷ []
items p t r k (goes a e w) = step p a ∷ items p t r k w
items p t r k (forks c s v w) = step p (spawns c s) ∷ (items (k ∷ p) c s 0 v ++ items p t r (k + 1) w)

pub advance_append : (u : ℕ) (a : Act) (xs ys : List Item) → advance u a (xs ++ ys) ≡ advance u a xs ++ advance u a ys
unfolding advance
advance_append u a [] ys = refl
advance_append u a (x ∷ xs) ys =
    ap (λ (l : List Item). moved u a x ++ l) (advance_append u a xs ys) ∙ sym (append_assoc (moved u a x) (advance u a xs) (advance u a ys))

-- a step of the task that stands
unfoldable onward : Act → Course
unfolding plain
onward (spawns c s) = forks c s stands stands
onward (pushes q v) = goes (pushes q v) refl stands
onward (pops q) = goes (pops q) refl stands
onward (tests q) = goes (tests q) refl stands
onward syncs = goes syncs refl stands
onward finishes = ended

made_items : (p : Name) (t r k : ℕ) (a : Act) → made (task p t r k) a ≡ items p t r k (onward a)
unfolding made items onward plain
made_items p t r k (spawns c s) = refl
made_items p t r k (pushes q v) = refl
made_items p t r k (pops q) = refl
made_items p t r k (tests q) = refl
made_items p t r k syncs = refl
made_items p t r k finishes = refl

-- A step leads from a course to a course.
stepped : (p : Name) (t r k : ℕ) (w : Course) (u : ℕ) (a : Act) → (w' : Course) × (advance u a (items p t r k w) ≡ items p t r k w')
unfolding items advance moved number_of
stepped p t r k stands u a = go (eqb t u) refl
  where
    go : (b : Bool) → eqb t u ≡ b
        → (w' : Course) × (pick (eqb t u) (made (task p t r k) a) (spot (task p t r k) ∷ []) ++ [] ≡ items p t r k w')
    go true e = (onward a, append-nil _ ∙ halt _ _ e ∙ made_items p t r k a)
    go false e = (stands, append-nil _ ∙ pass _ e refl)
stepped p t r k ended u a = (ended, refl)
stepped p t r k (goes b e w) u a = let s = stepped p t r k w u a in (goes b e s.0, ap (λ (l : List Item). step p b ∷ l) s.1)
stepped p t r k (forks c s v w) u a =
    let x = stepped (k ∷ p) c s 0 v u a in
    let y = stepped p t r (k + 1) w u a in (
      forks c s x.0 y.0,
      ap (λ (l : List Item). step p (spawns c s) ∷ l)
          (advance_append u a (items (k ∷ p) c s 0 v) (items p t r (k + 1) w)
          ∙ ap (λ (l : List Item). l ++ advance u a (items p t r (k + 1) w)) x.1
          ∙ ap (λ (l : List Item). items (k ∷ p) c s 0 x.0 ++ l) y.1),
    )

-- A reached list is the items of a course of the top.
pub course : {xs : List Item} → Reached xs → (w : Course) × (xs ≡ items [] 0 255 0 w)
unfolding begin items
course start = (stands, refl)
course (more t a h e f) =
    let s = course h in
    let d = stepped [] 0 255 0 s.0 t a in
    (d.0, ap (advance t a) s.1 ∙ d.1)
