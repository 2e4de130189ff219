-- Several words at once: storing a list of words from an address on, and a table as a list of rows.
use Rattle.std.specs.Prelude.{◌≡◌, refl, List, [], ◌∷◌, ◌++◌, ℕ, zero, suc, ◌+◌, ◌*◌, ◌<◌, ◌≤◌, length, get_or, drop, take}
use Rattle.std.proofs.Common.{ap, sym, ◌∙◌, le_of_suc-le-suc, add-zero, add_comm, zero-mul, suc-mul, add-one, arith, drop-drop, drop-cons}
use Rattle.spec_words.specs.Words.{load, store, size, load_other, load_same, size_store}

-- the memory with the words ws from address a on
unfoldable pub store_all : List ℕ → ℕ → List ℕ → List ℕ
store_all [] a ws = []
store_all (x ∷ m) zero [] = x ∷ m
store_all (x ∷ m) zero (w ∷ ws) = w ∷ store_all m zero ws
store_all (x ∷ m) (suc a) ws = x ∷ store_all m a ws

pub store_none : (m : List ℕ) (a : ℕ) → store_all m a [] ≡ m
unfolding store_all
store_none [] a = refl
store_none (x ∷ m) zero = refl
store_none (x ∷ m) (suc a) = ap (λ (l : List ℕ). x ∷ l) (store_none m a)

-- storing several words is storing the first and then the others behind it
pub store_more : (m : List ℕ) (a w : ℕ) (ws : List ℕ) → store_all m a (w ∷ ws) ≡ store_all (store m a w) (suc a) ws
unfolding store_all store
store_more [] a w ws = refl
store_more (x ∷ m) zero w ws = refl
store_more (x ∷ m) (suc a) w ws = ap (λ (l : List ℕ). x ∷ l) (store_more m a w ws)

-- one list behind another
pub store_append : (xs : List ℕ) (m : List ℕ) (a : ℕ) (ys : List ℕ) → store_all m a (xs ++ ys) ≡ store_all (store_all m a xs) (a + length xs) ys
store_append [] m a ys =
    ap (λ (l : List ℕ). store_all l a ys) (sym (store_none m a)) ∙ ap (λ (b : ℕ). store_all (store_all m a []) b ys) (sym (add-zero a))
store_append (x ∷ xs) m a ys =
    store_more m a x (xs ++ ys)
    ∙ store_append xs (store m a x) (suc a) ys
    ∙ ap (λ (l : List ℕ). store_all l (suc a + length xs) ys) (sym (store_more m a x xs))
    ∙ ap (λ (b : ℕ). store_all (store_all m a (x ∷ xs)) b ys) (let z : suc a + length xs ≡ a + suc (length xs) = omega arith in z)

-- a word that is none of those stored
pub block_other : (ws : List ℕ) (m : List ℕ) (a b : ℕ) → ((j : ℕ) → j < length ws → b ≡ a + j → ⊥) → load (store_all m a ws) b ≡ load m b
block_other [] m a b n = ap (λ (l : List ℕ). load l b) (store_none m a)
block_other (w ∷ ws) m a b n =
    ap (λ (l : List ℕ). load l b) (store_more m a w ws)
    ∙ block_other ws (store m a w) (suc a) b (λ j l e. n (suc j) (omega (arith, l)) (omega (arith, e)))
    ∙ load_other m a b w (λ e. n 0 (omega arith) (omega (arith, e)))

-- a word of those stored
pub block_same : (ws m : List ℕ) (a j : ℕ) → j < length ws → a + length ws ≤ size m → load (store_all m a ws) (a + j) ≡ load ws j
unfolding load
block_same [] m a j h g = let z : ⊥ = omega (arith, h) in absurd z
block_same (w ∷ ws) m a zero h g =
    ap (λ (l : List ℕ). load l (a + 0)) (store_more m a w ws)
    ∙ block_other ws (store m a w) (suc a) (a + 0) (λ j l e. omega (arith, e))
    ∙ ap (load (store m a w)) (add-zero a)
    ∙ load_same m a w (omega (arith, g))
block_same (w ∷ ws) m a (suc j) h g =
    ap (λ (l : List ℕ). load l (a + suc j)) (store_more m a w ws)
    ∙ ap (load (store_all (store m a w) (suc a) ws)) (let e : a + suc j ≡ suc a + j = omega arith in e)
    ∙ block_same ws (store m a w) (suc a) j (omega (arith, h)) (let e = size_store m a w in omega (arith, e, g))

-- stores in a row, three and four
store_next : (x y : List ℕ) (b w : ℕ) (ws : List ℕ) → x ≡ y → store_all x b (w ∷ ws) ≡ store_all (store y b w) (suc b) ws
store_next x y b w ws e = ap (λ (l : List ℕ). store_all l b (w ∷ ws)) e ∙ store_more y b w ws

pub store_three : (m m1 m2 m3 : List ℕ) (a u v w : ℕ) → m1 ≡ store m a u → m2 ≡ store m1 (a + 1) v → m3 ≡ store m2 (a + 2) w
    → m3 ≡ store_all m a (u ∷ v ∷ w ∷ [])
store_three m m1 m2 m3 a u v w e1 e2 e3 =
    sym
    (store_more m a u (v ∷ w ∷ [])
    ∙ store_next (store m a u) m1 (suc a) v (w ∷ []) (sym e1)
    ∙ store_next (store m1 (suc a) v) m2 (suc (suc a)) w [] (ap (λ (b : ℕ). store m1 b v) (let z : suc a ≡ a + 1 = omega arith in z) ∙ sym e2)
    ∙ store_none _ _
    ∙ ap (λ (b : ℕ). store m2 b w) (let z : suc (suc a) ≡ a + 2 = omega arith in z)
    ∙ sym e3)

pub store_four : (m m1 m2 m3 m4 : List ℕ) (a u v w x : ℕ) → m1 ≡ store m a u → m2 ≡ store m1 (a + 1) v → m3 ≡ store m2 (a + 2) w → m4 ≡ store m3 (a + 3) x
    → m4 ≡ store_all m a (u ∷ v ∷ w ∷ x ∷ [])
store_four m m1 m2 m3 m4 a u v w x e1 e2 e3 e4 =
    e4
    ∙ ap (λ (l : List ℕ). store l (a + 3) x) (store_three m m1 m2 m3 a u v w e1 e2 e3)
    ∙ sym (store_append (u ∷ v ∷ w ∷ []) m a (x ∷ []) ∙ store_more _ (a + 3) x [] ∙ store_none _ _)

pub size_store_all : (m : List ℕ) (a : ℕ) (ws : List ℕ) → size (store_all m a ws) ≡ size m
unfolding store_all size
size_store_all [] a ws = refl
size_store_all (x ∷ m) zero [] = refl
size_store_all (x ∷ m) zero (w ∷ ws) = ap suc (size_store_all m zero ws)
size_store_all (x ∷ m) (suc a) ws = ap suc (size_store_all m a ws)

-- the first of some words of a memory, and the others
pub take_more : (k a : ℕ) (m : List ℕ) → a < size m → take (suc k) (drop a m) ≡ load m a ∷ take k (drop (a + 1) m)
unfolding size load
take_more k a m h =
    ap (take (suc k)) (drop-cons m a 0 h)
    ∙ ap (λ (j : ℕ). get_or m a 0 ∷ take k (drop j m)) (sym (add-one a))

-- n rows of w words each: row i is the list from its first word on
unfoldable pub rows : ℕ → ℕ → List ℕ → List (List ℕ)
rows w zero r = []
rows w (suc n) r = let rest = rows w n (drop w r) in r ∷ rest

pub row_at : (w n : ℕ) (r : List ℕ) (i : ℕ) → i < n → get_or (rows w n r) i [] ≡ drop (i * w) r
unfolding rows
row_at w zero r i h = let z : ⊥ = omega arith in absurd z
row_at w (suc n) r zero h = ap (λ (k : ℕ). drop k r) (sym (zero-mul w))
row_at w (suc n) r (suc i) h =
    row_at w n (drop w r) i (le_of_suc-le-suc h)
    ∙ drop-drop (i * w) w r
    ∙ ap (λ (k : ℕ). drop k r) (add_comm w (i * w) ∙ sym (suc-mul i w))
