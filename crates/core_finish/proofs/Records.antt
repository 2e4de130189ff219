-- The words of a record are cleared, which are lent as a part of the memory.
use mathlib.Core.Path.{◌≡◌, ap, sym, ◌∙◌}
use mathlib.Core.List.{List, [], ◌∷◌, ◌++◌}
use Prim.Native.Nat.{ℕ, zero, suc, ◌+◌, ◌-◌, ◌*◌, ◌<◌, ◌≤◌}
use native.Mathlib.Omega.{arith}
use lib.ListN.{length, drop, replicate}
use borrow.Rule.Slice.PartMut.{put_mid, mid_of, mid_len}
use Rattle.spec_words.specs.Blocks.{store_all, store_none}
use Rattle.spec_layout.specs.Layout.{task, address}

-- a part of the memory that is written whole
behind_part : (ws xs : List ℕ) → length ws ≤ length xs → ws ++ drop (length ws) xs ≡ store_all xs 0 ws
unfolding store_all
behind_part [] xs l = sym (store_none xs 0)
behind_part (w ∷ ws) [] l = let z : ⊥ = omega (arith, l) in absurd z
behind_part (w ∷ ws) (x ∷ xs) l = ap (λ (y : List ℕ). w ∷ y) (behind_part ws xs (omega (arith, l)))

part_stored : (a : ℕ) (ws xs : List ℕ) → a + length ws ≤ length xs → put_mid a (length ws) xs ws ≡ store_all xs a ws
unfolding store_all
part_stored zero ws xs l = behind_part ws xs (omega (arith, l))
part_stored (suc a) ws [] l = let z : ⊥ = omega (arith, l) in absurd z
part_stored (suc a) ws (x ∷ xs) l = ap (λ (y : List ℕ). x ∷ y) (part_stored a ws xs (omega (arith, l)))

pub record_cleared : (t : ℕ) (xs ys : List ℕ) → length xs ≡ 16384 → t < 128
    → ys ≡ replicate (length (mid_of (1472 + t * 48) (1472 + t * 48 + 48 - (1472 + t * 48)) xs)) 0
    → put_mid (1472 + t * 48) (1472 + t * 48 + 48 - (1472 + t * 48)) xs ys ≡ store_all xs (address (task t 0)) (replicate 48 0)
unfolding address
record_cleared t xs ys big l e =
    ap (put_mid a (a + 48 - a) xs) (e ∙ ap (λ (n : ℕ). replicate n 0) (mid_len a (a + 48) xs (omega (arith, big, l)) ∙ many))
    ∙ ap (λ (n : ℕ). put_mid a n xs (replicate 48 0)) many
    ∙ part_stored a (replicate 48 0) xs (omega (arith, big, l))
    ∙ ap (λ (n : ℕ). store_all xs n (replicate 48 0)) (let z : a ≡ a + 0 = omega arith in z)
  where
    a : ℕ
    a = 1472 + t * 48

    many : a + 48 - a ≡ 48
    many = omega arith
