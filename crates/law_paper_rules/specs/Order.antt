-- THE PAPER'S ORDER OF VIEWS (section 4.4), for one queue: a total order that reflects program order. Views are numbered
-- along the tour of the task tree; the paper's laws (i), (ii) and (iii) are proved of these numbers in OrderLaws.antt.
use Rattle.std.specs.Prelude.{◌≡◌, refl, List, [], ◌∷◌, ◌++◌, ℕ, ◌+◌, ◌*◌, ◌<◌, ◌≤◌, eqb, length}
use Rattle.std.proofs.Common.{⊎_elim, arith, eq-eqb, ne_eqb}
use Rattle.spec_words.specs.Words.{pick, pass, halt}
use Rattle.spec_lists.specs.Counting.{occurrences, occurs_cons, occurs_here, occurs_append, equal?}
use Rattle.spec_layout.specs.Layout.{record_of}
use Rattle.spec_tree.specs.Tour.{MARKS, tour}

-- the four views of a task
pub data ViewName : Type 0 where
  queue : ℕ → ViewName
  children : ℕ → ViewName
  user : ℕ → ViewName
  right : ℕ → ViewName

-- how many marks of a tour come after mark x; the tour goes backwards, so these stand before x in program order
unfoldable pub behind : ℕ → List ℕ → ℕ
behind x [] = 0
behind x (y ∷ l) = pick (eqb y x) (length l) (behind x l)

-- The place of a view along a tour: where a task is exited its queue view and its children view stand, where it is entered its
-- user view and its right view.
unfoldable pub place_in : List ℕ → ViewName → ℕ
place_in T (queue t) = 2 * behind (128 + t) T
place_in T (children t) = 2 * behind (128 + t) T + 1
place_in T (user t) = 2 * behind t T
place_in T (right t) = 2 * behind t T + 1

-- the place of a view in memory
unfoldable pub place : List ℕ → ViewName → ℕ
place m v = place_in (tour MARKS (record_of m) 0) v

-- "v < w" of the paper
abbrev pub Before : List ℕ → ViewName → ViewName → Type 0
Before m v w = place m v < place m w

-- what comes after a mark that stands in a tour once
pub behind_at : (a : List ℕ) (x : ℕ) (e : List ℕ) → occurrences x (a ++ x ∷ e) ≤ 1 → behind x (a ++ x ∷ e) ≡ length e
unfolding behind
behind_at [] x e h = halt _ _ (eq-eqb x x refl)
behind_at (y ∷ a) x e h =
    ⊎_elim
    (λ d.
    let i = occurs_here y x (a ++ x ∷ e) d in
    let j = occurs_append x a (x ∷ e) in
    let k = occurs_here x x e refl in
    let z : ⊥ = omega (arith, h, i, j, k) in
    absurd z)
    (λ n. pass _ (ne_eqb y x n) (behind_at a x e (let i = occurs_cons y x (a ++ x ∷ e) in omega (arith, h, i))))
    (equal? y x)
