-- Jobs as bytes, written entry by entry and instruction by instruction.
use Rattle.std.specs.Prelude.{List, [], ◌∷◌, ℕ, ◌/◌, ◌%◌}

-- "Little-endian": n in 2 bytes, and in 4 bytes
abbrev pub le2 : ℕ → List ℕ → List ℕ
le2 n rest = n % 256 ∷ n / 256 % 256 ∷ rest

abbrev pub le4 : ℕ → List ℕ → List ℕ
le4 n rest = le2 (n % 65536) (le2 (n / 65536) rest)

-- n procedures, segments of length l
abbrev pub head : ℕ → ℕ → List ℕ → List ℕ
head n l rest = le2 n (le2 l rest)

-- body offset, instruction count, rights
abbrev pub entry : ℕ → ℕ → ℕ → List ℕ → List ℕ
entry o n r rest = le2 o (le2 n (r ∷ 0 ∷ rest))

-- operation, which, operand
abbrev pub ins : ℕ → ℕ → ℕ → List ℕ → List ℕ
ins k w x rest = k ∷ w ∷ le4 x rest

-- "A run in full": "Job of 94 bytes, L = 4: procedure 0 spawns 1, 2, 3, syncs, returns; 1 (rights 1) pushes 10, returns;
-- 2 (rights 2) pops, returns; 3 (rights 1) pushes 20, returns; operands of spawn 0."
abbrev pub full_run : List ℕ
full_run =
    head 4 4
    (entry 28 5 255 (entry 58 2 1 (entry 70 2 2 (entry 82 2 1
    (ins 8 1 0 (ins 8 2 0 (ins 8 3 0 (ins 9 0 0 (ins 0 0 0
    (ins 1 0 10 (ins 0 0 0
    (ins 3 0 0 (ins 0 0 0
    (ins 1 0 20 (ins 0 0 0 [])))))))))))))))

-- a job of one procedure with n instructions, L = 1
abbrev pub alone : ℕ → List ℕ → List ℕ
alone n body = head 1 1 (entry 10 n 255 body)

-- a top that spawns procedure 1 and returns, and procedure 1 with rights r and n instructions
abbrev pub with_child : ℕ → ℕ → List ℕ → List ℕ
with_child r n body = head 2 1 (entry 16 2 255 (entry 28 n r (ins 8 1 0 (ins 0 0 0 body))))

-- JOBS WHOSE RUNS ARE CASES of the plain machine
-- the largest register plus 1, by operation 2, then by operation 7; at last the register plus 7 is pushed
abbrev pub wrapping : List ℕ
wrapping = alone 5 (ins 7 0 4294967295 (ins 2 0 1 (ins 7 0 1 (ins 2 0 7 (ins 0 0 0 [])))))

-- the same by operation 8: the child pushes its register, then the spawner its own
abbrev pub wrapped_spawn : List ℕ
wrapped_spawn = head 2 1 (entry 16 4 255 (entry 40 2 1 (ins 7 0 4294967295 (ins 8 1 1 (ins 2 0 0 (ins 0 0 0 (ins 2 0 0 (ins 0 0 0 []))))))))

-- 5 in the register, a pop on an empty queue, the register pushed
abbrev pub empty_pop : List ℕ
empty_pop = alone 4 (ins 7 0 5 (ins 3 0 0 (ins 2 0 0 (ins 0 0 0 []))))

-- goes to instruction 2 on an empty queue, pushes 7, and goes on to the end where it is not empty
abbrev pub tested : List ℕ
tested = alone 5 (ins 4 0 2 (ins 0 0 0 (ins 1 0 7 (ins 4 0 1 (ins 0 0 0 [])))))

-- operation 10 takes 9, which is pushed to queue 1; the second one finds the queue empty and goes past the addition, so that 9 is pushed again
abbrev pub taken_or_gone : List ℕ
taken_or_gone = alone 7 (ins 1 0 9 (ins 10 0 4 (ins 2 1 0 (ins 10 0 5 (ins 7 0 1 (ins 2 1 0 (ins 0 0 0 [])))))))

-- counts 2 down to 0 by adding the largest number, and leaves the loop at zero
abbrev pub counted : List ℕ
counted = alone 5 (ins 7 0 2 (ins 7 0 4294967295 (ins 6 0 4 (ins 5 0 1 (ins 0 0 0 [])))))
