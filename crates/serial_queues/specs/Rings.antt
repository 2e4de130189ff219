-- Rings: the list of a queue, its length and its front, and which words they hang on.
use Rattle.std.specs.Prelude.{◌≡◌, refl, List, [], ◌∷◌, ◌++◌, ℕ, zero, suc, ◌+◌, ◌*◌, ◌%◌, ◌<◌, ◌≤◌, length, get_or, set}
use Rattle.std.proofs.Common.{ap, ap₂, sym, ◌∙◌, ⊎_elim, add-zero, le_of_suc-le-suc, arith, length-set, get_or-set_same, get_or-set_other, ext_get_or}
use Rattle.std.proofs.Math.ListN.{get_or-eq_default}
use Rattle.spec_words.specs.Words.{load}
use Rattle.spec_lists.specs.Counting.{equal?}
use Rattle.spec_plain.specs.Machine.{queue}
use Rattle.spec_serial.specs.Working.{place_at, first_at, count_at, ring_from, ring, lists}

-- THE LIST OF A QUEUE
list_at : (w : List ℕ) (q : ℕ) → q < 4 → get_or (lists w) q [] ≡ ring w q
unfolding lists
list_at w zero h = refl
list_at w (suc zero) h = refl
list_at w (suc (suc zero)) h = refl
list_at w (suc (suc (suc zero))) h = refl
list_at w (suc (suc (suc (suc q)))) h = let z : ⊥ = omega arith in absurd z

lists_length : (w : List ℕ) → length (lists w) ≡ 4
unfolding lists
lists_length w = refl

pub queue_ring : (w : List ℕ) (q : ℕ) → q < 4 → queue (lists w) q ≡ ring w q
unfolding queue
queue_ring w q h = list_at w q h

pub queue_none : (w : List ℕ) (q : ℕ) → 4 ≤ q → queue (lists w) q ≡ []
unfolding queue
queue_none w q h = get_or-eq_default (lists w) [] (let e = lists_length w in omega (arith, e, h))

ring_length : (w : List ℕ) (q h n : ℕ) → length (ring_from w q h n) ≡ n
unfolding ring_from
ring_length w q h zero = refl
ring_length w q h (suc n) = ap suc (ring_length w q (h + 1) n)

pub queue_length : (w : List ℕ) (q : ℕ) → q < 4 → length (queue (lists w) q) ≡ load w (count_at q)
unfolding ring
queue_length w q h = ap length (queue_ring w q h) ∙ ring_length w q (load w (first_at q)) (load w (count_at q))

-- a ring whose words and first place, but for whole turns, are the same
pub ring_same : (w u : List ℕ) (q h g n : ℕ) → h % 4096 ≡ g % 4096 → ((i : ℕ) → i < n → load w (place_at q (h + i)) ≡ load u (place_at q (h + i)))
    → ring_from w q h n ≡ ring_from u q g n
unfolding ring_from
ring_same w u q h g zero e f = refl
ring_same w u q h g (suc n) e f =
    ap₂ (λ (x : ℕ) (xs : List ℕ). x ∷ xs)
    (ap (λ (k : ℕ). load w (place_at q k)) (sym (add-zero h))
    ∙ f 0 (omega arith)
    ∙ ap (λ (k : ℕ). load u (q * 4096 + k)) (let z : (h + 0) % 4096 ≡ g % 4096 = omega (arith, e) in z))
    (ring_same w u q (h + 1) (g + 1) n (omega (arith, e))
    (λ i l. ap (λ (k : ℕ). load w (place_at q k)) (shift i) ∙ f (suc i) (omega (arith, l)) ∙ ap (λ (k : ℕ). load u (place_at q k)) (sym (shift i))))
  where
    shift : (i : ℕ) → h + 1 + i ≡ h + suc i
    shift i = omega arith

-- one value more at the end
pub ring_more : (w : List ℕ) (q h n : ℕ) → ring_from w q h (suc n) ≡ ring_from w q h n ++ (load w (place_at q (h + n)) ∷ [])
unfolding ring_from
ring_more w q h zero = ap (λ (k : ℕ). load w (place_at q k) ∷ []) (sym (add-zero h))
ring_more w q h (suc n) =
    ap (λ (xs : List ℕ). load w (place_at q h) ∷ xs)
    (ring_more w q (h + 1) n ∙ ap (λ (k : ℕ). ring_from w q (h + 1) n ++ (load w (place_at q k) ∷ [])) (let z : h + 1 + n ≡ h + suc n = omega arith in z))

-- value number i
pub ring_at : (w : List ℕ) (q h n i : ℕ) → i < n → get_or (ring_from w q h n) i 0 ≡ load w (place_at q (h + i))
unfolding ring_from
ring_at w q h zero i l = let z : ⊥ = omega arith in absurd z
ring_at w q h (suc n) zero l = ap (λ (k : ℕ). load w (place_at q k)) (sym (add-zero h))
ring_at w q h (suc n) (suc i) l =
    ring_at w q (h + 1) n i (le_of_suc-le-suc l) ∙ ap (λ (k : ℕ). load w (place_at q k)) (let z : h + 1 + i ≡ h + suc i = omega arith in z)

-- ring q with another content, the other rings as they were
pub rings_set : (w u : List ℕ) (q : ℕ) (xs : List ℕ) → q < 4 → ring u q ≡ xs → ((p : ℕ) → p < 4 → (p ≡ q → ⊥) → ring u p ≡ ring w p)
    → lists u ≡ set (lists w) q xs
rings_set w u q xs h e f =
    ext_get_or [] (lists u) (set (lists w) q xs) (lists_length u ∙ sym (length-set (lists w) q xs ∙ lists_length w)) (λ p l. at p (rw (lists_length u) at l))
  where
    at : (p : ℕ) → p < 4 → get_or (lists u) p [] ≡ get_or (set (lists w) q xs) p []
    at p l =
        list_at u p l
        ∙ ⊎_elim
        (λ s. ap (ring u) s ∙ e ∙ sym (get_or-set_same (lists w) q xs [] (rw (lists_length w) h)) ∙ ap (λ (k : ℕ). get_or (set (lists w) q xs) k []) (sym s))
        (λ n. f p l n ∙ sym (list_at w p l) ∙ sym (get_or-set_other (lists w) q p xs [] n))
        (equal? p q)

-- a ring whose first place, count and values are the same
pub ring_kept : (w u : List ℕ) (q : ℕ) → load u (first_at q) ≡ load w (first_at q) → load u (count_at q) ≡ load w (count_at q)
    → ((h : ℕ) → load u (place_at q h) ≡ load w (place_at q h)) → ring u q ≡ ring w q
unfolding ring
ring_kept w u q ef ec ev =
    ap₂ (ring_from u q) ef ec ∙ ring_same u w q (load w (first_at q)) (load w (first_at q)) (load w (count_at q)) refl (λ i l. ev (load w (first_at q) + i))

-- a queue that holds a value is one of the four
pub queue_there : (w : List ℕ) (q n : ℕ) → n ≡ length (queue (lists w) q) → (n ≡ 0 → ⊥) → q < 4
queue_there w q n e x = within (λ l. x (e ∙ ap length (queue_none w q l)))
  where
    within : (4 ≤ q → ⊥) → q < 4
    within f = omega (arith, f)
