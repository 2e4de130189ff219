-- The stack of free segments as the memory test reads it, from the bottom up, and as the invariant has it, from the top
-- down.
use Rattle.std.specs.Prelude.{◌≡◌, length, get_or}
use Rattle.std.proofs.Math.Path.{refl, ap}
use Rattle.std.proofs.Common.{◌∙◌, arith, take-suc, length-take-le}
use mathlib.Core.List.{List, [], ◌∷◌, ◌++◌}
use Prim.Native.Nat.{ℕ, zero, suc, ◌≤◌}
use Rattle.std.proofs.Math.ListN.{drop, take, length-drop}
use Rattle.std.proofs.Math.Seq.{get_or-drop}
use Rattle.spec_words.specs.Words.{load, size}
use Rattle.spec_lists.specs.Counting.{occurrences, occurs_nil, occurs_cons, occurs_append}
use Rattle.spec_layout.specs.Layout.{FREE_SEGMENTS, number_word, free_segments, free_segment, address, read}
use Rattle.spec_rules.specs.Contents.{decode}
use Rattle.law_maps.specs.Meaning.{stack, free_in, Sized}

module _ (m : List ℕ) (z : Sized m) where
  room : length (drop FREE_SEGMENTS m) ≡ 16320
  unfolding size
  room = let a = length-drop FREE_SEGMENTS m in let b = z.words in omega (arith, a, b)

  few : read m free_segments ≤ 256
  few = let a = z.free_height_lem in let b = z.number_range.1 in omega (arith, a, b)

  stack_word : (i : ℕ) → get_or (drop FREE_SEGMENTS m) i 0 ≡ read m (free_segment i)
  unfolding read load address
  stack_word i = get_or-drop FREE_SEGMENTS m i 0

  stack_count : (x k : ℕ) → k ≤ 256 → occurrences x (take k (drop FREE_SEGMENTS m)) ≡ occurrences x (stack (λ i. read m (free_segment i)) k)
  unfolding stack
  stack_count x zero l = refl
  stack_count x (suc k) l =
      let d = drop FREE_SEGMENTS m in
      let f = stack (λ i. read m (free_segment i)) k in
      let a = ap (occurrences x) (take-suc d k 0 (let n = room in omega (arith, n, l)) ∙ ap (λ (w : ℕ). take k d ++ (w ∷ [])) (stack_word k)) in
      let b = occurs_append x (take k d) (read m (free_segment k) ∷ []) in
      let e = occurs_cons (read m (free_segment k)) x [] in
      let g = occurs_cons (read m (free_segment k)) x f in
      let h = occurs_nil x in
      let i = stack_count x k (omega (arith, l)) in
      omega (arith, a, b, e, g, h, i)

  pub free_count : (x : ℕ) → occurrences x (decode m).free ≡ occurrences x (free_in m)
  unfolding free_in
  free_count x = stack_count x (read m free_segments) few

  pub free_few : length (decode m).free ≤ read m number_word
  free_few =
      let a = length-take-le (read m free_segments) (drop FREE_SEGMENTS m) (let n = room in let k = few in omega (arith, n, k)) in
      let b = z.free_height_lem in
      omega (arith, a, b)
