-- The cases of the job test: one test is computed over the whole table.
use Rattle.std.specs.Prelude.{◌≡◌, refl, Bool, true, List, [], ◌∷◌, ◌++◌, ℕ, ◌+◌, length, take}
use Rattle.std.proofs.Math.Option.{none, some}
use Rattle.spec_words.specs.Words.{load, size, pick, both, either}
use Rattle.spec_lists.specs.Tests.{upto}
use Rattle.spec_answers.specs.declared.Answer.{Answer}
use Rattle.spec_answers.specs.declared.Answer.TheVariants.{Moved, Refused}
use Rattle.spec_answers.specs.Answers.{status_of, value_of, same_answer}
use Rattle.spec_tree.specs.Rights.{bits, pushes, pops, each_queue, subset}
use Rattle.spec_job.specs.Fields.{bytes2, bytes4, procedures, segment_length, offset, count, rights, reserved, instruction_from, instruction_at}
use Rattle.spec_job.specs.Operations.{pop, go_if_empty, take_or_go, row_of}
use Rattle.spec_job.specs.Effects.{empty, sum, effect}
use Rattle.spec_job.specs.Test.{between, head_holds, refusal10, entry_holds, entries_hold, contents_hold, refusal11, which_holds, operand_holds, fitting}
use Rattle.spec_job.specs.Test.{instruction_holds, last_holds, body_holds, refusal12, job_answer}
use Rattle.spec_job.specs.Examples.{head, entry, ins, full_run, alone, with_child, wrapping, wrapped_spawn, empty_pop, tested, taken_or_gone, counted}

-- a list of bytes with the answer that it must get
pub data Case : Type 0 where
  gives : List ℕ → Answer → Case

unfoldable pub right : List Case → Bool
right [] = true
right (gives j a ∷ rest) = let more = right rest in both (same_answer (job_answer j) a) more

abbrev pub accepted : List Case
accepted =
    gives full_run (Moved 0)
    ∷ gives (alone 1 (ins 0 0 0 [])) (Moved 0)
    -- an endless loop, a top that spawns itself, every operation
    ∷ gives (alone 1 (ins 5 0 0 [])) (Moved 0)
    ∷ gives (alone 2 (ins 8 0 4294967295 (ins 0 0 0 []))) (Moved 0)
    ∷ gives (alone 10 (ins 1 0 1 (ins 2 3 2 (ins 3 1 0 (ins 4 2 8 (ins 6 0 0 (ins 7 0 9 (ins 8 0 3 (ins 9 0 0 (ins 10 3 9 (ins 5 0 8 []))))))))))) (Moved 0)
    ∷ gives (with_child 1 2 (ins 1 0 7 (ins 0 0 0 []))) (Moved 0)
    -- the jobs of the plain machine's cases
    ∷ gives wrapping (Moved 0) ∷ gives wrapped_spawn (Moved 0) ∷ gives empty_pop (Moved 0) ∷ gives tested (Moved 0) ∷ gives taken_or_gone (Moved 0)
    ∷ gives counted (Moved 0)
    ∷ []

-- 10: 3 bytes; no byte; no procedure; 65 procedures; L = 0; L = 65; an entry cut short
abbrev pub tens : List Case
tens =
    gives (1 ∷ 0 ∷ 1 ∷ []) (Refused 10)
    ∷ gives [] (Refused 10)
    ∷ gives (head 0 1 (entry 10 1 255 (ins 0 0 0 []))) (Refused 10)
    ∷ gives (head 65 1 (entry 10 1 255 (ins 0 0 0 []))) (Refused 10)
    ∷ gives (head 1 0 (entry 10 1 255 (ins 0 0 0 []))) (Refused 10)
    ∷ gives (head 1 65 (entry 10 1 255 (ins 0 0 0 []))) (Refused 10)
    ∷ gives (take 9 full_run) (Refused 10)
    ∷ []

-- 11: rights of procedure 0 are 3; a gap; no instruction; 129 instructions; a last byte that is not zero; a byte too many,
-- one too few
abbrev pub elevens : List Case
elevens =
    gives (head 1 1 (entry 10 1 3 (ins 0 0 0 []))) (Refused 11)
    ∷ gives (head 1 1 (entry 11 1 255 (0 ∷ ins 0 0 0 []))) (Refused 11)
    ∷ gives (head 1 1 (entry 10 0 255 [])) (Refused 11)
    ∷ gives (head 1 1 (entry 10 129 255 (ins 0 0 0 []))) (Refused 11)
    ∷ gives (head 1 1 (10 ∷ 0 ∷ 1 ∷ 0 ∷ 255 ∷ 1 ∷ ins 0 0 0 [])) (Refused 11)
    ∷ gives (full_run ++ (0 ∷ [])) (Refused 11)
    ∷ gives (take 93 full_run) (Refused 11)
    ∷ []

-- 12: operation 11; unused fields that are not zero; queue 4; a right that is not held; a target one past the body; a
-- procedure that does not exist; one with more rights than its spawner; a last instruction that is neither 0 nor 5. Operation 10 with queue 4,
-- without its right, with a target one past the body, and last in its body
abbrev pub twelves : List Case
twelves =
    gives (alone 2 (ins 11 0 0 (ins 0 0 0 []))) (Refused 12)
    ∷ gives (alone 1 (ins 0 1 0 [])) (Refused 12)
    ∷ gives (alone 2 (ins 9 0 1 (ins 0 0 0 []))) (Refused 12)
    ∷ gives (alone 2 (ins 3 0 1 (ins 0 0 0 []))) (Refused 12)
    ∷ gives (alone 2 (ins 7 1 0 (ins 0 0 0 []))) (Refused 12)
    ∷ gives (alone 2 (ins 1 4 0 (ins 0 0 0 []))) (Refused 12)
    ∷ gives (with_child 2 2 (ins 1 0 7 (ins 0 0 0 []))) (Refused 12)
    ∷ gives (with_child 1 2 (ins 3 0 0 (ins 0 0 0 []))) (Refused 12)
    ∷ gives (with_child 1 2 (ins 4 0 0 (ins 0 0 0 []))) (Refused 12)
    ∷ gives (alone 1 (ins 5 0 1 [])) (Refused 12)
    ∷ gives (alone 2 (ins 6 0 2 (ins 0 0 0 []))) (Refused 12)
    ∷ gives (alone 2 (ins 8 1 0 (ins 0 0 0 []))) (Refused 12)
    ∷ gives (with_child 1 2 (ins 8 0 0 (ins 0 0 0 []))) (Refused 12)
    ∷ gives (alone 2 (ins 0 0 0 (ins 9 0 0 []))) (Refused 12)
    ∷ gives (alone 2 (ins 10 4 0 (ins 0 0 0 []))) (Refused 12)
    ∷ gives (with_child 1 2 (ins 10 0 0 (ins 0 0 0 []))) (Refused 12)
    ∷ gives (alone 2 (ins 10 0 2 (ins 0 0 0 []))) (Refused 12)
    ∷ gives (alone 2 (ins 0 0 0 (ins 10 0 0 []))) (Refused 12)
    ∷ []

-- "Order as listed": 10 before 11, 11 before 12
abbrev pub orders : List Case
orders =
    gives (head 1 0 (entry 10 1 3 (ins 11 0 0 []))) (Refused 10)
    ∷ gives (head 1 1 (entry 10 1 3 (ins 11 0 0 []))) (Refused 11)
    ∷ []

pub full_run_bytes : length full_run ≡ 94
full_run_bytes = refl

pub table_right : right (accepted ++ tens ++ elevens ++ twelves ++ orders) ≡ true
unfolding load size pick both either upto status_of value_of same_answer bits pushes pops each_queue subset bytes2 bytes4 procedures segment_length offset count
    rights reserved instruction_from instruction_at row_of between head_holds refusal10 entry_holds entries_hold contents_hold refusal11 which_holds operand_holds
    fitting instruction_holds last_holds body_holds refusal12 job_answer right
table_right = refl

-- "Register 4,294,967,295 plus 1 is 0."
pub register_wraps : sum 4294967295 1 ≡ 0
unfolding sum
register_wraps = refl

-- "A pop on an empty queue leaves the register and moves on, answered "empty"."
pub empty_pop_lem : (i r : ℕ) → effect pop i r 0 none ≡ record { word = empty; value = 0; register = r; next = i + 1 }
unfolding effect
empty_pop_lem i r = refl

-- "For 10 the serial run makes a test and then a pop, and the pair is one moving step": on an empty queue it is the test, else the pop, with the
-- register that a test leaves.
pub test_then_pop : (i r x v : ℕ)
    → (effect take_or_go i r x none ≡ effect go_if_empty i r x none) × (effect take_or_go i r x (some v) ≡ effect pop i (effect go_if_empty i r x (some v)).register 0 (some v))
unfolding effect
test_then_pop i r x v = (refl, refl)
