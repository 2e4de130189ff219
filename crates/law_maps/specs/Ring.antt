-- The ring of values of a segment: its places, the words of two segments, and the values of all segments where those of
-- one have changed.
use Rattle.std.specs.Prelude.{◌≡◌, refl, List, ℕ, zero, suc, ◌+◌, ◌-◌, ◌*◌, ◌<◌, ◌≤◌, length}
use Rattle.std.proofs.Common.{ap, sym, ◌∙◌, ⊎_elim, arith, mul-le-mul_right}
use Rattle.spec_lists.specs.Counting.{below?}
use Rattle.spec_layout.specs.Layout.{value, first, count, length_of, value_word, address, read, write}
use Rattle.spec_outcomes.specs.Segments.{place, value_at}
use Rattle.spec_outcomes.specs.Places.{place_low, place_high, place_below}
use Rattle.spec_lists.specs.Maps.{put}
use Rattle.law_maps.specs.Meaning.{listed, contents_in}
use Rattle.law_maps.specs.Maps.{put_path}
use Rattle.law_maps.specs.Reads.{contents_at, contents_same_at}
use Rattle.law_maps.specs.Kept.{read_away}

-- PLACES, from the first place f on
-- two values of a segment have two places
pub place_apart : (l f j k : ℕ) → f < l → j < k → k < l → place l f j ≡ place l f k → ⊥
place_apart l f j k hf hj hk e =
    ⊎_elim
    (λ b. let q = place_low l f k b in let p = place_low l f j (omega arith) in omega (arith, e, p, q, hj))
    (λ b. let q = place_high l f k b (omega arith) in
    ⊎_elim
    (λ a. let p = place_low l f j a in omega (arith, e, p, q, hf, hk, b))
    (λ a. let p = place_high l f j a (omega arith) in omega (arith, e, p, q, hj, a, b))
    (below? (f + j) l))
    (below? (f + k) l)

-- places from the second place on
pub place_next : (l f k : ℕ) → f < l → suc k < l → place l (place l f 1) k ≡ place l f (suc k)
place_next l f k hf hk =
    ⊎_elim
    (λ a. ap (λ (g : ℕ). place l g k) (place_low l f 1 a) ∙ go a)
    (λ a. ap (λ (g : ℕ). place l g k) (place_high l f 1 a (omega arith)) ∙ place_low l (f + 1 - l) k (omega arith)
    ∙ sym (place_high l f (suc k) (omega arith) (omega arith) ∙ (let w : f + suc k - l ≡ f + 1 - l + k = omega arith in w)))
    (below? (f + 1) l)
  where
    go : f + 1 < l → place l (f + 1) k ≡ place l f (suc k)
    go a =
        ⊎_elim
        (λ b. place_low l (f + 1) k b ∙ (let w : f + 1 + k ≡ f + suc k = omega arith in w) ∙ sym (place_low l f (suc k) (omega (arith, b))))
        (λ b. place_high l (f + 1) k b (omega arith) ∙ (let w : f + 1 + k - l ≡ f + suc k - l = omega arith in w)
        ∙ sym (place_high l f (suc k) (omega (arith, b)) (omega arith)))
        (below? (f + 1 + k) l)

-- "The values of segment s are the L words that start at s times L": those of two segments are apart
pub parts_apart : (l s t i j : ℕ) → i < l → j < l → s * l + i ≡ t * l + j → s ≡ t
parts_apart l s t i j hi hj e =
    ⊎_elim
    (λ a. let w : suc s * l ≤ t * l = mul-le-mul_right l a in let z : ⊥ = omega (arith, w, e, hi) in absurd z)
    (λ a. ⊎_elim
    (λ b. let w : suc t * l ≤ s * l = mul-le-mul_right l b in let z : ⊥ = omega (arith, w, e, hj) in absurd z)
    (λ b. omega (arith, a, b))
    (below? t s))
    (below? s t)

-- THE NUMBER of values
pub listed_length : (f : ℕ → ℕ) (n : ℕ) → length (listed f n) ≡ n
unfolding listed
listed_length f zero = refl
listed_length f (suc n) = ap suc (listed_length (λ k. f (suc k)) n)

pub count_length : (m : List ℕ) (s : ℕ) → s < 256 → read m (count s) ≡ length (contents_in m s)
count_length m s h = sym (ap length (contents_at m s h) ∙ listed_length (value_at m s) (read m (count s)))

-- THE VALUES OF ALL SEGMENTS where only segment s has changed
pub contents_changed : (m n : List ℕ) (s : ℕ) (xs : List ℕ) → ((t : ℕ) → 1 ≤ length_of m t) → ((t : ℕ) → length_of n t ≡ length_of m t)
    → contents_in n s ≡ xs
    → ((t : ℕ) → t < 256 → (t ≡ s → ⊥) → (read n (first t) ≡ read m (first t)) × (read n (count t) ≡ read m (count t)))
    → ((t i : ℕ) → (t ≡ s → ⊥) → i < length_of m t → read n (value_word m t i) ≡ read m (value_word m t i))
    → contents_in n ≡ put (contents_in m) s xs
contents_changed m n s xs hl el e hs hv =
    put_path (contents_in m) (contents_in n) s xs e (λ t d.
    contents_same_at m n t (el t) (λ l. hs t l d) (λ k. hv t _ d (place_below (length_of m t) (read m (first t)) k (hl t))))

-- a value stored in segment s is in no other
pub value_elsewhere : (m : List ℕ) (l s t i j v : ℕ) → (t ≡ s → ⊥) → i < l → j < l
    → read (write m (value (s * l + i)) v) (value (t * l + j)) ≡ read m (value (t * l + j))
unfolding address
value_elsewhere m l s t i j v d hi hj =
    read_away m (value (s * l + i)) (value (t * l + j)) v (λ e. d (parts_apart l t s j i hj hi (omega (arith, e))))
