-- THE JOB TEST: which lists of bytes are jobs, and the number with which any other list is refused.
use Rattle.std.specs.Prelude.{Bool, true, false, not, List, ℕ, zero, suc, ◌+◌, ◌-◌, ◌*◌, leb, ltb, eqb}
use Rattle.spec_words.specs.Words.{size, pick, both, either}
use Rattle.spec_lists.specs.Tests.{upto}
use Rattle.spec_answers.specs.declared.Answer.{Answer}
use Rattle.spec_answers.specs.declared.Answer.TheVariants.{Moved, Refused}
use Rattle.spec_tree.specs.Rights.{pushes, pops, subset}
use Rattle.spec_job.specs.declared.Instruction.{Instruction}
use Rattle.spec_job.specs.Fields.{procedures, segment_length, entry_at, offset, count, rights, reserved, instruction_at}
use Rattle.spec_job.specs.Operations.{Row, row, undefined, no_which, pushed_queue, popped_queue, procedure, no_operand, number, target, row_of}

-- a, b or a number between them
unfoldable pub between : ℕ → ℕ → ℕ → Bool
between a x b = both (leb a x) (leb x b)

-- HEAD AND CONTENTS are there, n and L are in range.
unfoldable pub head_holds : List ℕ → Bool
head_holds j =
    both (leb 4 (size j)) (both (between 1 (procedures j) 64) (both (between 1 (segment_length j) 64)
    (leb (entry_at (procedures j)) (size j))))

-- 10 "job shorter than head and contents, n or L out of range"
unfoldable pub refusal10 : List ℕ → Bool
refusal10 j = not (head_holds j)

-- AN ENTRY whose body has to begin at address a
unfoldable pub entry_holds : List ℕ → ℕ → ℕ → Bool
entry_holds j p a = both (eqb (offset j p) a) (both (between 1 (count j p) 128) (eqb (reserved j p) 0))

-- n entries from that of procedure p on: "Bodies follow in that order without gaps to the end", the first at address a
unfoldable pub entries_hold : List ℕ → ℕ → ℕ → ℕ → Bool
entries_hold j zero p a = eqb a (size j)
entries_hold j (suc n) p a = let rest = entries_hold j n (p + 1) (a + count j p * 6) in both (entry_holds j p a) rest

-- "Procedure 0 is the top task and has rights 255."
unfoldable pub contents_hold : List ℕ → Bool
contents_hold j = both (eqb (rights j 0) 255) (entries_hold j (procedures j) 0 (entry_at (procedures j)))

-- 11 "a contents entry or total length breaks its rule"
unfoldable pub refusal11 : List ℕ → Bool
refusal11 j = not (contents_hold j)

-- The byte "which" of an instruction in a procedure with rights r. "Unused fields are zero." "A spawned procedure exists
-- and has no right its spawner lacks."
unfoldable pub which_holds : List ℕ → ℕ → Row → ℕ → Bool
which_holds j r undefined w = false
which_holds j r (row o no_which x) w = eqb w 0
which_holds j r (row o pushed_queue x) w = both (ltb w 4) (pushes r w)
which_holds j r (row o popped_queue x) w = both (ltb w 4) (pops r w)
which_holds j r (row o procedure x) w = both (ltb w (procedures j)) (subset (rights j w) r)

-- The operand of an instruction in a body of n: a target is an instruction of the body.
unfoldable pub operand_holds : ℕ → Row → ℕ → Bool
operand_holds n undefined v = false
operand_holds n (row o w no_operand) v = eqb v 0
operand_holds n (row o w number) v = true
operand_holds n (row o w target) v = ltb v n

-- instruction s of a body of n in a procedure with rights r
unfoldable pub fitting : List ℕ → ℕ → ℕ → Instruction → Bool
fitting j r n s = both (which_holds j r (row_of s.operation) s.which) (operand_holds n (row_of s.operation) s.operand)

unfoldable pub instruction_holds : List ℕ → ℕ → ℕ → Bool
instruction_holds j p i = fitting j (rights j p) (count j p) (instruction_at j p i)

-- "The last instruction of a body is 0 or 5."
unfoldable pub last_holds : List ℕ → ℕ → Bool
last_holds j p = let k = (instruction_at j p (count j p - 1)).operation in either (eqb k 0) (eqb k 5)

unfoldable pub body_holds : List ℕ → ℕ → Bool
body_holds j p = both (last_holds j p) (upto (instruction_holds j p) (count j p) 0)

-- 12 "an instruction breaks its rule, lacks its right, or goes nowhere"
unfoldable pub refusal12 : List ℕ → Bool
refusal12 j = not (upto (body_holds j) (procedures j) 0)

-- "The runner tests 1, 10, 11, 12": an accepted job is answered as a call that moves.
unfoldable pub job_answer : List ℕ → Answer
job_answer j = pick (refusal10 j) (Refused 10) (pick (refusal11 j) (Refused 11) (pick (refusal12 j) (Refused 12) (Moved 0)))
