-- The rules of heads and tails of the events, and the test of held segments.
use Rattle.std.specs.Prelude.{◌≡◌, refl, ℕ, zero, suc, ◌+◌, ◌%◌, ◌^◌, ◌≤◌, leb, replicate}
use Rattle.std.proofs.Math.Path.{ap}
use Rattle.std.proofs.Common.{sym, ◌∙◌}
use Rattle.std.proofs.Math.Bool.{true}
use mathlib.Core.List.{List, [], ◌∷◌, ◌++◌}
use native.Mathlib.Omega.{arith}
use Rattle.std.proofs.Math.ListN.{length, length-append}
use borrow.Author.Tests.{eq-eqb, eqb-true}
use Rattle.spec_words.specs.Words.{both_true, true_both}
use Rattle.spec_lists.specs.Counting.{occurrences, length_total, total_ones}
use Rattle.spec_lists.specs.Sums.{total_le}
use Rattle.spec_lists.specs.Tests.{upto}
use Rattle.spec_lists.specs.Distinct.{fresh, distinct, distinct_says}
use Rattle.spec_lists.specs.Marks.{marking}
use Rattle.spec_rules.specs.Contents.{Contents}
use Rattle.spec_rules.specs.Test.{chain, chains, segment_test, held_test}
use Rattle.law_rules_segments.specs.Segments.{segments_say, says_segments, rules_by_counts}
use Rattle.spec_view_events.specs.Run.{filled}
use Rattle.law_view_events.specs.Good.{Chained, Ended}
use Rattle.law_view_events.specs.Appended.{fresh_append}

-- a list without repetition of numbers below n has at most n of them
short : (n : ℕ) (xs : List ℕ) → n ≤ 256 → distinct n xs ≡ true → length xs ≤ n
short n xs small e =
    let d = distinct_says n xs small e in
    let a = length_total n xs d.below in
    let b = total_le n (λ y. occurrences y xs) (λ y. 1) (λ y l. d.once y) in
    let k = total_ones n (λ y. 1) (λ y l. refl) in
    omega (arith, a, b, k)

-- a chain has a segment at least
chains_long : (c : Contents) (hs : List ℕ) → length hs ≤ length (chains c hs)
unfolding chains
chains_long c [] = omega arith
chains_long c (h ∷ hs) =
    let a = chains_long c hs in
    let b = length-append (chain c c.number h) (chains c hs) in
    let d = some c.number in
    omega (arith, a, b, d)
  where
    some : (k : ℕ) → 1 ≤ length (chain c k h)
    some zero = unfold chain in omega arith
    some (suc k) = unfold chain in omega arith

-- the marks of the free segments
abbrev pub D : Contents → List ℕ
D c = marking c.free (replicate 256 0)

module _ (c : Contents) (small : c.number ≤ 256) where
  module _ (hs ts : List ℕ) where
    pub record Holds : Type 0 where
      pub free : fresh c.number c.free (replicate 256 0) ≡ true
      pub heads : Chained c hs (D c) (length c.free)
      pub tails : Ended c ts (D c)
      pub many : (0 + length hs) % 2 ^ 32 ≡ (0 + length ts) % 2 ^ 32

    pub holds_held : Holds → held_test c hs ts ≡ true
    unfolding held_test filled
    holds_held h =
        let a : distinct c.number (c.free ++ chains c hs) ≡ true = apart (chains c hs) h.heads.placed in
        let b : distinct c.number (c.free ++ ts) ≡ true = apart ts h.tails.new in
        let x = short c.number (c.free ++ chains c hs) small a in
        let y = short c.number (c.free ++ ts) small b in
        let p = length-append c.free (chains c hs) in
        let q = length-append c.free ts in
        let s = h.heads.sum in
        let m = h.many in
        let l = chains_long c hs in
        true_both a (true_both (eq-eqb (length c.free + length (chains c hs)) c.number (omega (arith, x, p, s, small)))
        (true_both h.heads.full (true_both b (true_both (eq-eqb (length ts) (length hs) (omega (arith, x, y, p, q, m, l, small))) h.tails.lasts))))
      where
        apart : (l : List ℕ) → fresh c.number l (D c) ≡ true → distinct c.number (c.free ++ l) ≡ true
        apart l e = unfold distinct in fresh_append c.number c.free l (replicate 256 0) ∙ true_both h.free e

    pub held_holds : held_test c hs ts ≡ true → Holds
    unfolding held_test filled
    held_holds e =
        let a = both_true _ _ e in
        let b = both_true _ _ a.1 in
        let d = both_true _ _ b.1 in
        let f = both_true _ _ d.1 in
        let g = both_true _ _ f.1 in
        let x = parts (chains c hs) a.0 in
        let y = parts ts f.0 in
        let s = eqb-true (length c.free + length (chains c hs)) c.number b.0 in
        let m = eqb-true (length ts) (length hs) g.0 in
        record {
          free = x.0;
          heads = record { placed = x.1; full = d.0; sum = omega (arith, s, small) };
          tails = record { new = y.1; lasts = g.1 };
          many = ap (λ (k : ℕ). (0 + k) % 2 ^ 32) (sym m);
        }
      where
        parts : (l : List ℕ) → distinct c.number (c.free ++ l) ≡ true
            → (fresh c.number c.free (replicate 256 0) ≡ true) × (fresh c.number l (D c) ≡ true)
        parts l z = unfold distinct in both_true _ _ (sym (fresh_append c.number c.free l (replicate 256 0)) ∙ z)

  -- the test looks only at how often each segment is a head, and a tail
  pub held_counts : (hs ts hs' ts' : List ℕ) → leb (length c.free) c.number ≡ true → upto (segment_test c) c.number 0 ≡ true
      → ((s : ℕ) → occurrences s hs' ≡ occurrences s hs) → ((s : ℕ) → occurrences s ts' ≡ occurrences s ts)
      → held_test c hs ts ≡ true → held_test c hs' ts' ≡ true
  held_counts hs ts hs' ts' few segs x y e =
      let g = segments_say c hs ts small few segs e in
      (says_segments c hs' ts' small (rules_by_counts c hs ts hs' ts' x y g.0)
      (λ s p. g.1 s (let k = x s in omega (arith, k, p))) (λ s p. g.2 s (let k = y s in omega (arith, k, p)))).2
