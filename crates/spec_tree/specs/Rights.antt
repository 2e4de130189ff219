-- "Rights are one byte: for queue q, bit 2q is push and bit 2q+1 is pop."
use Rattle.std.specs.Prelude.{Bool, true, not, ℕ, ◌/◌, ◌%◌, ◌^◌, ltb, eqb}
use Rattle.spec_words.specs.Words.{pick, both, either}

-- the two bits of queue q
unfoldable pub bits : ℕ → ℕ → ℕ
bits r q = r / 4 ^ q % 4

unfoldable pub pushes : ℕ → ℕ → Bool
pushes r q = eqb (bits r q % 2) 1

unfoldable pub pops : ℕ → ℕ → Bool
pops r q = eqb (bits r q / 2) 1

-- any right to q
unfoldable pub uses : ℕ → ℕ → Bool
uses r q = not (eqb (bits r q) 0)

unfoldable pub each_queue : (ℕ → Bool) → Bool
each_queue f = both (f 0) (both (f 1) (both (f 2) (f 3)))

unfoldable pub some_queue : (ℕ → Bool) → Bool
some_queue f = either (f 0) (either (f 1) (either (f 2) (f 3)))

-- "shares a pop right with it on some queue"
unfoldable pub shares_pop : ℕ → ℕ → Bool
shares_pop a b = some_queue (λ q. both (pops a q) (pops b q))

-- "A child's rights are a subset of its spawner's": a is a byte, and has no bit that b lacks
unfoldable pub subset : ℕ → ℕ → Bool
subset a b =
    both (ltb a 256) (each_queue (λ q. both (pick (pushes a q) (pushes b q) true) (pick (pops a q) (pops b q) true)))
