-- The stack of free segments, place by place, as the code goes through it.
use Rattle.std.specs.Prelude.{◌≡◌, Bool, true, false, ℕ, ◌+◌, ◌<◌, ◌≤◌, ◌-◌, ltb, length, get_or, set, take, drop}
use Rattle.std.proofs.Common.{ap, ◌∙◌, lt-ltb, le-ltb}
use Rattle.std.proofs.Math.Path.{sym}
use mathlib.Core.List.{List}
use Rattle.spec_words.specs.Words.{load, store, both_on, both_off}
use Rattle.spec_lists.specs.Tests.{each}
use Rattle.spec_lists.specs.Marks.{marking}
use Rattle.spec_layout.specs.Layout.{read, address}
use Rattle.spec_rules.specs.Contents.{decode}
use lib.ListN.{drop_of_length-le}
use lib.Seq.{drop-cons}
use native.Mathlib.Numerals.{add-one}
use native.Mathlib.Omega.{arith}
use Rattle.spec_view_events.specs.Parts.{number_at}

pub stack_all : (m : List ℕ) → take (64 + get_or m 2 0 - 64) (drop 64 m) ≡ (decode m).free
unfolding read address load
stack_all m = ap (λ (k : ℕ). take k (drop 64 m)) (let z : 64 + get_or m 2 0 - 64 ≡ get_or m 2 0 = omega arith in z)

-- all numbers of a list are below n
unfoldable pub all_below : ℕ → List ℕ → Bool
all_below n xs = each (λ s. ltb s n) xs

module _ (m xs : List ℕ) (i : ℕ) where
  abbrev N : ℕ
  N = (decode m).number

  module _ (l : i < length xs) where
    pub below_far : get_or m 1 0 ≤ get_or xs i 0 → false ≡ all_below N (drop i xs)
    unfolding all_below each
    below_far e = sym (ap (all_below N) (drop-cons xs i 0 l) ∙ both_off _ (le-ltb _ _ (rw (number_at m) at e)))

    pub below_more : get_or xs i 0 < get_or m 1 0 → all_below N (drop (i + 1) xs) ≡ all_below N (drop i xs)
    unfolding all_below each
    below_more e =
        ap (λ (k : ℕ). all_below N (drop k xs)) (add-one i)
        ∙ sym (ap (all_below N) (drop-cons xs i 0 l) ∙ both_on (lt-ltb _ _ (rw (number_at m) at e)))

    pub marking_more : (d : List ℕ) → marking (drop (i + 1) xs) (set d (get_or xs i 0) 1) ≡ marking (drop i xs) d
    unfolding marking store
    marking_more d =
        ap (λ (k : ℕ). marking (drop k xs) (set d (get_or xs i 0) 1)) (add-one i)
        ∙ sym (ap (λ (l : List ℕ). marking l d) (drop-cons xs i 0 l))

  pub below_done : length xs ≤ i → true ≡ all_below N (drop i xs)
  unfolding all_below each
  below_done l = sym (ap (all_below N) (drop_of_length-le xs {i = i} l))

  pub marking_done : (d : List ℕ) → length xs ≤ i → d ≡ marking (drop i xs) d
  unfolding marking
  marking_done d l = sym (ap (λ (xs : List ℕ). marking xs d) (drop_of_length-le xs {i = i} l))
