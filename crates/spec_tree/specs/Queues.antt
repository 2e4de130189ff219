-- What holds of each of the four queues, and the test of all four.
use Rattle.std.specs.Prelude.{◌≡◌, refl, Bool, true, ℕ, zero, suc, ◌<◌}
use Rattle.std.proofs.Common.{arith}
use Rattle.spec_words.specs.Words.{both_true, true_both}
use Rattle.spec_tree.specs.Rights.{bits, pops, uses, each_queue}

-- what holds of 0, 1, 2 and 3 holds of every number below 4
pub by_four : (P : ℕ → Type 0) → P 0 → P 1 → P 2 → P 3 → (q : ℕ) → q < 4 → P q
by_four P a b c d zero h = a
by_four P a b c d (suc zero) h = b
by_four P a b c d (suc (suc zero)) h = c
by_four P a b c d (suc (suc (suc zero))) h = d
by_four P a b c d (suc (suc (suc (suc q)))) h = let z : ⊥ = omega (arith, h) in absurd z

pub each_queue_lem : (f : ℕ → Bool) → each_queue f ≡ true → (q : ℕ) → q < 4 → f q ≡ true
unfolding each_queue
each_queue_lem f e =
    let a = both_true _ _ e in
    let b = both_true _ _ a.1 in
    let c = both_true _ _ b.1 in
    by_four (λ q. f q ≡ true) a.0 b.0 c.0 c.1

pub queue_each : (f : ℕ → Bool) → ((q : ℕ) → q < 4 → f q ≡ true) → each_queue f ≡ true
unfolding each_queue
queue_each f h = true_both (h 0 (omega arith)) (true_both (h 1 (omega arith)) (true_both (h 2 (omega arith)) (h 3 (omega arith))))

-- "Task 0, the top task, has 255": every right
pub all_used : (q : ℕ) → q < 4 → uses 255 q ≡ true
unfolding uses bits
all_used = by_four (λ q. uses 255 q ≡ true) refl refl refl refl

pub all_popped : (q : ℕ) → q < 4 → pops 255 q ≡ true
unfolding pops bits
all_popped = by_four (λ q. pops 255 q ≡ true) refl refl refl refl
