-- A part of the words, written as a slice, is a block of words that are stored one by one.
use Rattle.std.specs.Prelude.{◌≡◌, refl, List, [], ◌∷◌, ◌++◌, ℕ, zero, suc, ◌+◌, ◌≤◌, length, drop}
use Rattle.std.proofs.Common.{ap, sym, ◌∙◌, arith}
use borrow.Rule.Slice.PartMut.{put_mid}
use Rattle.spec_words.specs.Blocks.{store_all}

at_start : (ws xs : List ℕ) → length ws ≤ length xs → ws ++ drop (length ws) xs ≡ store_all xs 0 ws
unfolding store_all
at_start [] [] h = refl
at_start [] (x ∷ xs) h = refl
at_start (w ∷ ws) [] h = let z : ⊥ = omega arith in absurd z
at_start (w ∷ ws) (x ∷ xs) h = ap (λ (l : List ℕ). w ∷ l) (at_start ws xs (omega arith))

pub put_block : (i k : ℕ) (xs ws : List ℕ) → length ws ≡ k → i + k ≤ length xs → put_mid i k xs ws ≡ store_all xs i ws
unfolding store_all
put_block zero k xs ws e h = ap (λ (n : ℕ). ws ++ drop n xs) (sym e) ∙ at_start ws xs (omega arith)
put_block (suc i) k [] ws e h = let z : ⊥ = omega arith in absurd z
put_block (suc i) k (x ∷ xs) ws e h = ap (λ (l : List ℕ). x ∷ l) (put_block i k xs ws e (omega arith))
