-- The stack of free segments and the held ones, as the code tests and counts them by their marks.
use Rattle.std.specs.Prelude.{Option, Some as known, None as unknown, ◌≡◌, Bool, true, false, not, eqb, get_or, take, drop, replicate}
use Rattle.std.proofs.Math.Path.{ap}
use Rattle.std.proofs.Common.{sym, ◌∙◌}
use Rattle.std.proofs.lemmas.List.{get_or-take}
use Rattle.std.proofs.Math.Bool.{false≢true}
use mathlib.Core.List.{List}
use Prim.Native.Nat.{ℕ, suc, ◌+◌, ◌<◌, ◌≤◌}
use native.Mathlib.Omega.{arith}
use Rattle.std.proofs.Math.ListN.{length, length-take, length-drop}
use borrow.Author.Tests.{ltb-true, lt-ltb, not-true, not-false}
use Rattle.spec_words.specs.Words.{load, refuted}
use Rattle.spec_lists.specs.Counting.{one, occurrences, total, one_yes, one_no, total_ext}
use Rattle.spec_lists.specs.Distinct.{Distinct, distinct_says, says_distinct}
use Rattle.spec_lists.specs.Marks.{marking, marked_occurs}
use Rattle.spec_lists.specs.Tests.{each_says, says_each}
use Rattle.spec_layout.specs.Layout.{address, read}
use Rattle.spec_rules.specs.Contents.{Contents, decode}
use Rattle.spec_rules.specs.Stack.{stack_height}
use Rattle.spec_rules.specs.Held.{stack_test, held_count}
use Rattle.spec_rules.proofs.Held.{held_free, free_held}
use Rattle.spec_view_events.specs.Parts.{number_at}
use Rattle.spec_view_events.specs.Sees.{Ready}
use Rattle.segment_test.specs.Stack.{all_below}
use Rattle.segment_test.specs.Count.{Counts, wrong_counts, right_counts}

-- how many of the n first have no mark
unfoldable pub unmarked : List ℕ → ℕ → ℕ
unmarked d n = total n (λ s. one (eqb (load d s) 0))

module _ (d : List ℕ) (s : ℕ) where
  one_more : unmarked d (s + 1) ≡ unmarked d s + one (eqb (load d s) 0)
  unfolding unmarked total
  one_more = ap (λ (k : ℕ). unmarked d k) (let z : s + 1 ≡ suc s = omega arith in z)

  pub unmarked_more : load d s ≡ 0 → unmarked d (s + 1) ≡ unmarked d s + 1
  unmarked_more e = let a = one_more in let b = one_yes (load d s) 0 e in omega (arith, a, b)

  pub unmarked_past : (load d s ≡ 0 → ⊥) → unmarked d (s + 1) ≡ unmarked d s
  unmarked_past n = let a = one_more in let b = one_no (load d s) 0 n in omega (arith, a, b)

-- counted in the first n alone
pub unmarked_part : (d : List ℕ) (n k : ℕ) → n ≡ k → unmarked (take n d) k ≡ unmarked d n
unfolding unmarked load
unmarked_part d n k e =
    total_ext k _ _ (λ s l. ap (λ (w : ℕ). one (eqb w 0)) (get_or-take n d s 0 (omega arith))) ∙ ap (λ (j : ℕ). total j (λ s. one (eqb (get_or d s 0) 0))) (sym e)

-- THE STACK, as the code tests it: its numbers are segments opened and, counted by their marks, held and free ones are as many
-- as were opened.
module _ (m : List ℕ) (ready : Ready m) where
  abbrev c : Contents
  c = decode m

  small : c.number ≤ 256
  small = let a = number_at m in let b = ready.1 in omega (arith, a, b)

  says : stack_test c ≡ true → Distinct c.number c.free
  unfolding stack_test
  says = distinct_says c.number c.free small

  -- what the code hands out, with the marks d
  abbrev pub Stacked : Option ℕ → List ℕ → Type 0
  Stacked r d = Counts c (stack_test c) r × (stack_test c ≡ true → d ≡ marking c.free (replicate 256 0))

  wrong : (d : List ℕ) → (stack_test c ≡ true → ⊥) → Stacked unknown d
  wrong d n = (wrong_counts c (refuted _ n), λ e. absurd (n e))

  pub stack_high : get_or m 1 0 < get_or m 2 0 → (d : List ℕ) → Stacked unknown d
  unfolding read address load
  stack_high l d =
      wrong d (λ q.
      let a = held_free c (says q) in
      let b = length-take (get_or m 2 0) (drop 64 m) in
      let e = length-drop 64 m in
      let f = ready.0 in
      let g = ready.1 in
      omega (arith, a, b, e, f, g, l))

  pub stack_far : {b : Bool} → b ≡ all_below c.number c.free → not b ≡ true → (d : List ℕ) → Stacked unknown d
  unfolding all_below
  stack_far e f d = wrong d (λ q. false≢true (sym (not-true _ f) ∙ e ∙ says_each _ c.free (λ s p. lt-ltb s c.number ((says q).below s p))))

  module _ {b : Bool} {h : ℕ} {z : List ℕ} (few : get_or m 2 0 ≤ get_or m 1 0) (d : List ℕ) (e : b ≡ all_below c.number c.free) (f : not b ≡ false)
      (marks : b ≡ true → d ≡ marking c.free z) (none_before : z ≡ replicate 256 0) (count : h ≡ unmarked d (get_or m 1 0)) where
    marked : d ≡ marking c.free (replicate 256 0)
    marked = marks (not-false _ f) ∙ ap (marking c.free) none_before

    counted : h ≡ held_count c
    unfolding unmarked held_count
    counted =
        count
        ∙ ap (unmarked d) (number_at m)
        ∙ ap (λ (l : List ℕ). total c.number (λ s. one (eqb (load l s) 0))) marked
        ∙ total_ext c.number _ _ (λ s l. ap one (marked_occurs 256 c.free s (let a = small in omega (arith, l, a))))

    -- the code's sum
    sum : (h + length c.free ≡ c.number → h + get_or m 2 0 ≡ get_or m 1 0) × (h + get_or m 2 0 ≡ get_or m 1 0 → h + length c.free ≡ c.number)
    unfolding read address load
    sum =
        let a = stack_height m (get_or m 2 0) ready.0 (let k = ready.1 in omega (arith, k, few)) in
        let n = number_at m in
        ((λ q. omega (arith, a, n, q)), (λ q. omega (arith, a, n, q)))

    pub stack_twice : (h + get_or m 2 0 ≡ get_or m 1 0 → ⊥) → Stacked unknown d
    stack_twice n = wrong d (λ q. n (sum.0 (ap (λ (k : ℕ). k + length c.free) counted ∙ held_free c (says q))))

    pub stack_right : h + get_or m 2 0 ≡ get_or m 1 0 → Stacked (known h) d
    unfolding stack_test all_below
    stack_right q = (
      right_counts c (says_distinct c.number c.free small (free_held c below (ap (λ (k : ℕ). k + length c.free) (sym counted) ∙ sum.1 q))) counted
          (sum.1 q),
      λ e. marked,
    )
      where
        below : (s : ℕ) → 0 < occurrences s c.free → s < c.number
        below s p = ltb-true s c.number (each_says _ c.free (sym e ∙ not-false _ f) s p)
