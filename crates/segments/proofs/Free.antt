-- The stack of free segments as a part of the memory; one segment sought in it, or all of them marked.
use Rattle.std.proofs.Common.{◌≡◌, ap, sym, ◌∙◌, ℕ, suc, ◌+◌, ◌-◌, ◌<◌, ◌≤◌, not, eqb, eq-eqb, ne_eqb, List, [], ◌∷◌, length, take, drop, min, get_or, set}
use Rattle.std.specs.List.{list_any}
use lib.ListN.{length-drop, drop_of_length-le}
use lib.Seq.{take_all, set_out, drop-cons}
use native.Mathlib.Numerals.{add-one}
use Rattle.std.proofs.Common.{⊎_elim}
use Rattle.spec_lists.specs.Counting.{below?, equal?}
use native.Mathlib.Omega.{arith}
use Rattle.std.proofs.lemmas.Bool.Decides.{nat_tests}
use Rattle.spec_words.specs.Words.{load, store}
use Rattle.spec_lists.specs.Counting.{occurrences, occurs_nil, occurs_here, occurs_past}
use Rattle.spec_lists.specs.Marks.{marking, marked_occurs}
use Rattle.spec_layout.specs.Layout.{free_height, free_stack}
use Rattle.segments.specs.Names.{held, free_marks}

from_inside : (m : List ℕ) (from : ℕ) → from ≡ min 64 (length m) → drop from m ≡ drop 64 m
from_inside m from e =
    ⊎_elim
    (λ h. drop_of_length-le m {i = from} (omega arith) ∙ sym (drop_of_length-le m {i = 64} (omega arith)))
    (λ h. ap (λ (k : ℕ). drop k m) (let z : from ≡ 64 = omega arith in z))
    (below? (length m) 64)

take_inside : (r : List ℕ) (h k n : ℕ) → k ≡ length r → h ≡ min (length (take k r)) n → take h (take k r) ≡ take n r
take_inside r h k n ek e =
    let a = ap length (take_all k r (omega arith)) in
    ap (take h) (take_all k r (omega arith))
    ∙ ⊎_elim
    (λ l. take_all h r (omega arith) ∙ sym (take_all n r (omega arith)))
    (λ l. ap (λ (i : ℕ). take i r) (let z : h ≡ n = omega arith in z))
    (below? (length r) n)

pub stack_slice : (m : List ℕ) (q from h n : ℕ) → n ≡ free_height m q → from ≡ min 64 (length m) → h ≡ min (length (take (length m - from) (drop from m))) n
    → take h (take (length m - from) (drop from m)) ≡ free_stack m q
stack_slice m q from h n en ef eh =
    take_inside (drop from m) h (length m - from) n (sym (length-drop from m)) eh
    ∙ ap (take n) (from_inside m from ef) ∙ ap (λ (k : ℕ). take k (drop 64 m)) en

-- y is not among the entries
pub held_none : (y : ℕ) (xs : List ℕ) → not (list_any (λ x. eqb x y) xs) ≡ eqb (occurrences y xs) 0
held_none y [] = sym (ap (λ (k : ℕ). eqb k 0) (occurs_nil y))
held_none y (x ∷ xs) =
    ⊎_elim
    (λ e. let a = occurs_here x y xs e in let b = eq-eqb x y e in grind (arith, nat_tests, a, b))
    (λ n. let a = occurs_past x y xs n in let b = ne_eqb x y n in let r = held_none y xs in rw (a, b) r)
    (equal? x y)

-- MARKING them all: the first i are marked
module _ (xs d : List ℕ) (i : ℕ) where
  pub marks_next : (d' : List ℕ) → i < length xs → d' ≡ store d (get_or xs i 0) 1 → marking (drop (i + 1) xs) d' ≡ marking (drop i xs) d
  unfolding marking
  marks_next d' h e =
      ap (λ (k : ℕ). marking (drop k xs) d') (add-one i)
      ∙ ap (marking (drop (suc i) xs)) e
      ∙ sym (ap (λ (l : List ℕ). marking l d) (drop-cons xs i 0 h))

  pub marks_done : length xs ≤ i → d ≡ marking (drop i xs) d
  unfolding marking
  marks_done h = sym (ap (λ (l : List ℕ). marking l d) (drop_of_length-le xs {i = i} h))

-- a mark past the end
pub out_of_place : (d : List ℕ) (y : ℕ) → length d ≤ y → d ≡ set d y 1
out_of_place d y h = sym (set_out d y 1 h)

-- a segment below 256 is held where it has no mark
pub unmarked_held : (m d : List ℕ) (q y : ℕ) → d ≡ free_marks m q → y < 256 → eqb (get_or d y 0) 0 ≡ held m q y
unfolding held free_marks load
unmarked_held m d q y e l = ap (λ (x : List ℕ). eqb (get_or x y 0) 0) e ∙ marked_occurs 256 (free_stack m q) y l
