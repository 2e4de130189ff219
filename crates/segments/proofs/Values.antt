-- The values of a segment: their addresses, a store into them, the words of the segment's record.
use mathlib.Core.Path.{◌≡◌, refl, ap, ◌∙◌}
use mathlib.Core.List.{List}
use Prim.Native.Nat.{ℕ, ◌+◌, ◌-◌, ◌*◌, ◌^◌, ◌<◌, ◌≤◌}
use native.Mathlib.Omega.{arith}
use native.Mathlib.Nat.{mul-le-mul, mul-le-mul_left, mul-suc, mul_comm}
use lib.ListN.{length}
use borrow.Rule.Slice.PartMut.{put_mid, mid_of, mid_len, set_mid_at}
use Rattle.spec_words.specs.Words.{load, store, size}
use Rattle.spec_layout.specs.Layout.{number_word, value, first, count, next, length_of, Opened, ValuesFit, address, read, write}
use Rattle.segment_record.specs.declared.Record.{Record}
use Rattle.spec_outcomes.specs.Segments.{place, value_at}

-- no address of a value wraps
pub product_fits : (s l : ℕ) → s < 2 ^ 32 → l < 2 ^ 32 → s * l ≤ 4294967295 * 4294967295
product_fits s l hs hl = let a : s ≤ 4294967295 = omega arith in let b : l ≤ 4294967295 = omega arith in mul-le-mul a b

pub value_read : (m : List ℕ) (s k l f p r : ℕ) → l ≡ length_of m s → f ≡ read m (first s) → p ≡ place l f k
    → r ≡ load m (8192 + (s * l + p)) → r ≡ value_at m s k
unfolding value_at
value_read m s k l f p r el ef ep er = er ∙ address_of m (s * l + p) ∙ simp (ep, ef, el)
  where
    address_of : (m : List ℕ) (i : ℕ) → load m (8192 + i) ≡ read m (value i)
    address_of m i = unfold read address in refl

-- a store into the values of one segment is a store into the memory
pub store_part : (a l i v : ℕ) (xs ys : List ℕ) → a + l ≤ length xs → i < l → ys ≡ store (mid_of a (a + l - a) xs) i v
    → put_mid a (a + l - a) xs ys ≡ store xs (a + i) v
unfolding store
store_part a l i v xs ys h g q =
    ap (put_mid a (a + l - a) xs) q ∙ set_mid_at a (a + l - a) i xs v (rw (mid_len a (a + l) xs h) (omega arith))

pub store_value : (m n : List ℕ) (s l i v : ℕ) → n ≡ store m (8192 + s * l + i) v → n ≡ write m (value (s * l + i)) v
unfolding write address
store_value m n s l i v e = e ∙ ap (λ (a : ℕ). store m a v) (omega arith)

-- the values of segment s are inside the value area, and inside the memory
pub places_inside : (m : List ℕ) (s l : ℕ) → Opened m s → ValuesFit m → l ≡ length_of m s → s * l + l ≤ 8192
places_inside m s l h g e = fits l (read m number_word) h (rw (← e) at g)
  where
    fits : (l n : ℕ) → s < n → l * n ≤ 8192 → s * l + l ≤ 8192
    fits l n h g =
        let a = mul-le-mul_left l h in
        let b = mul-suc l s in
        let d = mul_comm l s in
        omega (arith, a, b, d)

pub values_inside : (m : List ℕ) (k s l : ℕ) → size m ≡ 16384 → Opened m s → ValuesFit m → l ≡ length_of m s
    → k ≡ length m → 8192 + (s * l + l) ≤ k
unfolding size
values_inside m k s l e h g el ek = let a = places_inside m s l h g el in omega (arith, a)

-- the words of the record of segment s
abbrev pub OfSegment : List ℕ → ℕ → Record → Type 0
OfSegment m s r = (r.first ≡ read m (first s)) × (r.count ≡ read m (count s)) × (r.next ≡ read m (next s))
