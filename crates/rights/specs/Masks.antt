-- Rights words by masks: 170 has the pop bits of the four queues.
use Rattle.std.specs.Prelude.{◌≡◌, refl, Bool, true, false, not, ℕ, suc, ◌+◌, ◌*◌, ◌/◌, ◌%◌, ◌^◌, ◌<◌, ◌≤◌, eqb}
use Rattle.std.proofs.Common.{ap, ap₂, sym, ◌∙◌, arith, lt-ltb, le-ltb, eq-eqb, ne_eqb, eqb-true}
use Rattle.std.specs.Int.Bits.{bit_and, and_zero_r, and_lt}
use Rattle.std.proofs.lemmas.Nat.{and_block, and_shr, and_mod}
use Rattle.std.proofs.lemmas.Bool.{eqb-false}
use Rattle.spec_words.specs.Words.{pick, both, both_right_on, both_right_off, either, pass, both_on}
use Rattle.spec_tree.specs.Rights.{bits, pushes, pops, uses, each_queue, some_queue, shares_pop, subset}
use Rattle.spec_tree.specs.Queues.{by_four}

-- the shift by 2q
pub shift : (r q : ℕ) → q < 4 → r / 2 ^ (q * 2) % 4 ≡ bits r q
unfolding bits
shift r q h = by_four (λ q. r / 2 ^ (q * 2) % 4 ≡ r / 4 ^ q % 4) refl refl refl refl q h

-- the pair of bits of the next queue is that of a quarter of the word
bits_next : (r q : ℕ) → q < 4 → bits (r / 4) q ≡ bits r (suc q)
unfolding bits
bits_next r q h = by_four (λ q. r / 4 / 4 ^ q % 4 ≡ r / 4 ^ suc q % 4) (omega arith) (omega arith) (omega arith) (omega arith) q h

bits_first : (r : ℕ) → bits r 0 ≡ r % 4
unfolding bits
bits_first r = omega arith

-- a conjunction of words, by its lowest two bits and the others
and_two : (a b : ℕ) → bit_and a b ≡ bit_and (a / 4) (b / 4) * 4 + bit_and (a % 4) (b % 4)
and_two a b =
    ap₂ bit_and (whole a) (whole b) ∙ and_block 2 (a / 4) (b / 4) (a % 4) (b % 4) (omega arith) (omega arith)
  where
    whole : (n : ℕ) → n ≡ n / 4 * 4 + n % 4
    whole n = omega arith

-- SHARED POPS
abbrev pop_pair : ℕ → Bool
pop_pair u = eqb (u / 2) 1

pair_shared : (u v : ℕ) → u < 4 → v < 4 → not (eqb (bit_and (bit_and u v) 2) 0) ≡ both (pop_pair u) (pop_pair v)
unfolding both pick
pair_shared u v h g =
    by_four (λ u. (v : ℕ) → v < 4 → not (eqb (bit_and (bit_and u v) 2) 0) ≡ both (pop_pair u) (pop_pair v))
    (by_four (λ v. not (eqb (bit_and (bit_and 0 v) 2) 0) ≡ both (pop_pair 0) (pop_pair v)) refl refl refl refl)
    (by_four (λ v. not (eqb (bit_and (bit_and 1 v) 2) 0) ≡ both (pop_pair 1) (pop_pair v)) refl refl refl refl)
    (by_four (λ v. not (eqb (bit_and (bit_and 2 v) 2) 0) ≡ both (pop_pair 2) (pop_pair v)) refl refl refl refl)
    (by_four (λ v. not (eqb (bit_and (bit_and 3 v) 2) 0) ≡ both (pop_pair 3) (pop_pair v)) refl refl refl refl)
    u h v g

-- a sum is not 0 where one of its parts is not
sum_some : (n d : ℕ) → not (eqb (n * 4 + d) 0) ≡ either (not (eqb d 0)) (not (eqb n 0))
unfolding either pick
sum_some n d = go (eqb d 0) (eqb n 0) refl refl
  where
    go : (x y : Bool) → eqb d 0 ≡ x → eqb n 0 ≡ y → not (eqb (n * 4 + d) 0) ≡ pick (not (eqb d 0)) true (not (eqb n 0))
    go false y e f = rw e (ap not (ne_eqb (n * 4 + d) 0 (λ z. eqb-false d 0 e (omega arith))))
    go true false e f = rw (e, f) (ap not (ne_eqb (n * 4 + d) 0 (λ z. eqb-false n 0 f (omega arith))))
    go true true e f =
        let d0 = eqb-true d 0 e in let n0 = eqb-true n 0 f in
        rw (e, f) (ap not (eq-eqb (n * 4 + d) 0 (omega arith)))

bits_shared : (k a b : ℕ) → bit_and (bit_and a b) (k * 4 + 2) ≡ bit_and (bit_and (a / 4) (b / 4)) k * 4 + bit_and (bit_and (a % 4) (b % 4)) 2
bits_shared k a b =
    and_two (bit_and a b) (k * 4 + 2)
    ∙ ap₂ (λ (x y : ℕ). bit_and x y * 4 + bit_and (bit_and a b % 4) ((k * 4 + 2) % 4)) (and_shr a b 2) (over k)
    ∙ ap₂ (λ (x y : ℕ). bit_and (bit_and (a / 4) (b / 4)) k * 4 + bit_and x y) (and_mod a b 2) (under k)
  where
    over : (k : ℕ) → (k * 4 + 2) / 4 ≡ k
    over k = omega arith

    under : (k : ℕ) → (k * 4 + 2) % 4 ≡ 2
    under k = omega arith

abbrev shared_at : ℕ → ℕ → ℕ → Bool
shared_at a b q = both (pops a q) (pops b q)

-- the lowest pop bit of a mask, and the others
shared_from : (k a b : ℕ) → not (eqb (bit_and (bit_and a b) (k * 4 + 2)) 0) ≡ either (shared_at a b 0) (not (eqb (bit_and (bit_and (a / 4) (b / 4)) k) 0))
unfolding pops
shared_from k a b =
    ap (λ (n : ℕ). not (eqb n 0)) (bits_shared k a b)
    ∙ sum_some (bit_and (bit_and (a / 4) (b / 4)) k) (bit_and (bit_and (a % 4) (b % 4)) 2)
    ∙ ap (λ (s : Bool). either s (not (eqb (bit_and (bit_and (a / 4) (b / 4)) k) 0)))
    (pair_shared (a % 4) (b % 4) (omega arith) (omega arith)
    ∙ ap₂ (λ (x y : ℕ). both (pop_pair x) (pop_pair y)) (sym (bits_first a)) (sym (bits_first b)))

shared_next : (a b q : ℕ) → q < 4 → shared_at (a / 4) (b / 4) q ≡ shared_at a b (suc q)
unfolding pops
shared_next a b q h = ap₂ (λ (x y : ℕ). both (pop_pair x) (pop_pair y)) (bits_next a q h) (bits_next b q h)

either_false : (b : Bool) → either b false ≡ b
unfolding either pick
either_false true = refl
either_false false = refl

shared_last : (a b : ℕ) → not (eqb (bit_and (bit_and a b) 2) 0) ≡ shared_at a b 0
shared_last a b =
    shared_from 0 a b ∙ ap (λ (n : ℕ). either (shared_at a b 0) (not (eqb n 0))) (and_zero_r (bit_and (a / 4) (b / 4)))
    ∙ either_false (shared_at a b 0)

pub shares_mask : (a b : ℕ) → not (eqb (bit_and (bit_and a b) 170) 0) ≡ shares_pop a b
unfolding shares_pop some_queue
shares_mask a b =
    shared_from 42 a b
    ∙ ap (either (shared_at a b 0)) (shared_from 10 (a / 4) (b / 4)
    ∙ ap₂ either (shared_next a b 0 (omega arith)) (shared_from 2 (a / 4 / 4) (b / 4 / 4)
    ∙ ap₂ either (shared_next (a / 4) (b / 4) 0 (omega arith) ∙ shared_next a b 1 (omega arith)) (shared_last (a / 4 / 4 / 4) (b / 4 / 4 / 4)
    ∙ shared_next (a / 4 / 4) (b / 4 / 4) 0 (omega arith) ∙ shared_next (a / 4) (b / 4) 1 (omega arith) ∙ shared_next a b 2 (omega arith))))

-- SUBSETS
abbrev covered_pair : ℕ → ℕ → Bool
covered_pair u v = both (pick (eqb (u % 2) 1) (eqb (v % 2) 1) true) (pick (eqb (u / 2) 1) (eqb (v / 2) 1) true)

abbrev covered_at : ℕ → ℕ → ℕ → Bool
covered_at a b q = both (pick (pushes a q) (pushes b q) true) (pick (pops a q) (pops b q) true)

pair_covered : (u v : ℕ) → u < 4 → v < 4 → eqb (bit_and u v) u ≡ covered_pair u v
unfolding both pick
pair_covered u v h g =
    by_four (λ u. (v : ℕ) → v < 4 → eqb (bit_and u v) u ≡ covered_pair u v)
    (by_four (λ v. eqb (bit_and 0 v) 0 ≡ covered_pair 0 v) refl refl refl refl)
    (by_four (λ v. eqb (bit_and 1 v) 1 ≡ covered_pair 1 v) refl refl refl refl)
    (by_four (λ v. eqb (bit_and 2 v) 2 ≡ covered_pair 2 v) refl refl refl refl)
    (by_four (λ v. eqb (bit_and 3 v) 3 ≡ covered_pair 3 v) refl refl refl refl)
    u h v g

-- two numbers are the same where their parts are
sum_same : (n d p u : ℕ) → d < 4 → u < 4 → eqb (n * 4 + d) (p * 4 + u) ≡ both (eqb d u) (eqb n p)
unfolding both pick
sum_same n d p u h g = go (eqb d u) (eqb n p) refl refl
  where
    go : (x y : Bool) → eqb d u ≡ x → eqb n p ≡ y → eqb (n * 4 + d) (p * 4 + u) ≡ pick (eqb d u) (eqb n p) false
    go false y e f = rw e (ne_eqb (n * 4 + d) (p * 4 + u) (λ z. eqb-false d u e (omega arith)))
    go true false e f = rw (e, f) (ne_eqb (n * 4 + d) (p * 4 + u) (λ z. eqb-false n p f (omega arith)))
    go true true e f =
        let d0 = eqb-true d u e in let n0 = eqb-true n p f in
        rw (e, f) (eq-eqb (n * 4 + d) (p * 4 + u) (omega arith))

covered_from : (a b : ℕ) → eqb (bit_and a b) a ≡ both (covered_at a b 0) (eqb (bit_and (a / 4) (b / 4)) (a / 4))
unfolding pushes pops
covered_from a b =
    ap₂ eqb (and_two a b) (whole a)
    ∙ sum_same (bit_and (a / 4) (b / 4)) (bit_and (a % 4) (b % 4)) (a / 4) (a % 4) (and_lt 2 (a % 4) (b % 4) (omega arith) (omega arith)) (omega arith)
    ∙ ap (λ (s : Bool). both s (eqb (bit_and (a / 4) (b / 4)) (a / 4)))
    (pair_covered (a % 4) (b % 4) (omega arith) (omega arith) ∙ ap₂ covered_pair (sym (bits_first a)) (sym (bits_first b)))
  where
    whole : (n : ℕ) → n ≡ n / 4 * 4 + n % 4
    whole n = omega arith

covered_next : (a b q : ℕ) → q < 4 → covered_at (a / 4) (b / 4) q ≡ covered_at a b (suc q)
unfolding pushes pops
covered_next a b q h = ap₂ covered_pair (bits_next a q h) (bits_next b q h)

covered_last : (a b : ℕ) → a < 4 → eqb (bit_and a b) a ≡ covered_at a b 0
covered_last a b h =
    covered_from a b ∙ ap (λ (n : ℕ). both (covered_at a b 0) (eqb (bit_and n (b / 4)) n)) (none a h)
    ∙ both_right_on (covered_at a b 0) refl
  where
    none : (a : ℕ) → a < 4 → a / 4 ≡ 0
    none a h = omega arith

pub subset_mask : (a b : ℕ) → a < 256 → eqb (bit_and a b) a ≡ subset a b
unfolding subset each_queue
subset_mask a b h =
    covered_from a b
    ∙ ap (both (covered_at a b 0)) (covered_from (a / 4) (b / 4)
    ∙ ap₂ both (covered_next a b 0 (omega arith)) (covered_from (a / 4 / 4) (b / 4 / 4)
    ∙ ap₂ both (covered_next (a / 4) (b / 4) 0 (omega arith) ∙ covered_next a b 1 (omega arith)) (covered_last (a / 4 / 4 / 4) (b / 4 / 4 / 4) (omega arith)
    ∙ covered_next (a / 4 / 4) (b / 4 / 4) 0 (omega arith) ∙ covered_next (a / 4) (b / 4) 1 (omega arith) ∙ covered_next a b 2 (omega arith))))
    ∙ sym (both_on (lt-ltb a 256 h))

pub subset_wide : (a b : ℕ) → 256 ≤ a → false ≡ subset a b
unfolding subset both
subset_wide a b h = sym (pass _ (le-ltb a 256 h) refl)

-- POP RIGHTS ALONE
pair_pops : (u : ℕ) → u < 4 → not (eqb (bit_and u 2) 0) ≡ pop_pair u
pair_pops u h = by_four (λ u. not (eqb (bit_and u 2) 0) ≡ pop_pair u) refl refl refl refl u h

pops_kept : (r k : ℕ) → 170 / 2 ^ k % 4 ≡ 2 → not (eqb (bit_and r 170 / 2 ^ k % 4) 0) ≡ pop_pair (r / 2 ^ k % 4)
pops_kept r k e =
    ap (λ (n : ℕ). not (eqb n 0)) (ap (λ (n : ℕ). n % 4) (and_shr r 170 k) ∙ and_mod (r / 2 ^ k) (170 / 2 ^ k) 2 ∙ ap (bit_and (r / 2 ^ k % 4)) e)
    ∙ pair_pops (r / 2 ^ k % 4) (omega arith)

pub pops_mask : (r q : ℕ) → q < 4 → uses (bit_and r 170) q ≡ pops r q
unfolding uses pops bits
pops_mask r q h =
    by_four (λ q. not (eqb (bit_and r 170 / 4 ^ q % 4) 0) ≡ pop_pair (r / 4 ^ q % 4))
    (pops_kept r 0 refl) (pops_kept r 2 refl) (pops_kept r 4 refl) (pops_kept r 6 refl) q h

-- a pop right alone is shared by who has it
either_no : (b : Bool) → either false b ≡ b
unfolding either pick
either_no b = refl

pub shares_one : (q : ℕ) → q < 4 → (r : ℕ) → shares_pop r (2 * 2 ^ (q * 2) % 2 ^ 32) ≡ pops r q
unfolding shares_pop some_queue pops bits
shares_one q h r =
    by_four (λ q. shares_pop r (2 * 2 ^ (q * 2) % 2 ^ 32) ≡ pops r q)
    (simp (both_right_on, both_right_off, either_no, either_false)) (simp (both_right_on, both_right_off, either_no, either_false))
    (simp (both_right_on, both_right_off, either_no, either_false)) (simp (both_right_on, both_right_off, either_no)) q h
