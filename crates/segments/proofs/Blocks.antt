-- Blocks of words: inside a part, above a store.
use mathlib.Core.Path.{◌≡◌, refl, ap, sym, ◌∙◌}
use mathlib.Core.List.{List, [], ◌∷◌, ◌++◌}
use Prim.Native.Nat.{ℕ, zero, suc, ◌+◌, ◌<◌, ◌≤◌}
use native.Mathlib.Omega.{arith}
use lib.ListN.{length}
use lib.Seq.{set_comm}
use Rattle.spec_words.specs.Words.{store}
use Rattle.spec_words.specs.Blocks.{store_all, store_none, store_more}

-- a block inside the first of two lists, and inside the second
block_left : (xs ys ws : List ℕ) (i : ℕ) → i + length ws ≤ length xs → store_all (xs ++ ys) i ws ≡ store_all xs i ws ++ ys
unfolding store_all
block_left [] ys [] i h = store_none ys i
block_left [] ys (w ∷ ws) i h = let z : ⊥ = omega arith in absurd z
block_left (x ∷ xs) ys [] zero h = refl
block_left (x ∷ xs) ys (w ∷ ws) zero h = ap (λ (l : List ℕ). w ∷ l) (block_left xs ys ws zero (omega arith))
block_left (x ∷ xs) ys ws (suc i) h = ap (λ (l : List ℕ). x ∷ l) (block_left xs ys ws i (omega arith))

block_right : (xs ys ws : List ℕ) (i : ℕ) → store_all (xs ++ ys) (length xs + i) ws ≡ xs ++ store_all ys i ws
block_right [] ys ws i = ap (λ (n : ℕ). store_all ys n ws) (let z : 0 + i ≡ i = omega arith in z)
block_right (x ∷ xs) ys ws i =
    ap (λ (n : ℕ). store_all (x ∷ (xs ++ ys)) n ws) (let z : suc (length xs) + i ≡ suc (length xs + i) = omega arith in z)
    ∙ behind ∙ ap (λ (l : List ℕ). x ∷ l) (block_right xs ys ws i)
  where
    behind : store_all (x ∷ (xs ++ ys)) (suc (length xs + i)) ws ≡ x ∷ store_all (xs ++ ys) (length xs + i) ws
    behind = unfold store_all in refl

-- a block inside the middle of three lists
pub block_inside : (xs ys zs ws : List ℕ) (a i : ℕ) → length xs ≡ a → i + length ws ≤ length ys → store_all (xs ++ (ys ++ zs)) (a + i) ws
    ≡ xs ++ (store_all ys i ws ++ zs)
block_inside xs ys zs ws a i e h =
    ap (λ (n : ℕ). store_all (xs ++ (ys ++ zs)) (n + i) ws) (sym e)
    ∙ block_right xs (ys ++ zs) ws i
    ∙ ap (λ (l : List ℕ). xs ++ l) (block_left ys zs ws i h)

-- a store below a block
pub store_below : (ws m : List ℕ) (a b w : ℕ) → b < a → store_all (store m b w) a ws ≡ store (store_all m a ws) b w
store_below [] m a b w h = store_none (store m b w) a ∙ ap (λ (l : List ℕ). store l b w) (sym (store_none m a))
store_below (x ∷ ws) m a b w h =
    store_more (store m b w) a x ws
    ∙ ap (λ (l : List ℕ). store_all l (suc a) ws) swapped
    ∙ store_below ws (store m a x) (suc a) b w (omega arith)
    ∙ ap (λ (l : List ℕ). store l b w) (sym (store_more m a x ws))
  where
    swapped : store (store m b w) a x ≡ store (store m a x) b w
    swapped = unfold store in set_comm m b a w x (λ e. omega (arith, e))
