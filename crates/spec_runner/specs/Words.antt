-- THE RUNNER'S WORDS: three for each of 128 task records, the procedure, the instruction it is at, the register.
use Rattle.std.specs.Prelude.{List, [], ◌∷◌, ℕ, ◌+◌, ◌*◌}
use Rattle.spec_words.specs.Words.{load}
use Rattle.spec_words.specs.Blocks.{store_all}
use Rattle.spec_job.specs.declared.Instruction.{Instruction}
use Rattle.spec_job.specs.Fields.{instruction_at}

-- "the runner's is 384 more"
abbrev pub RUNNER : ℕ
RUNNER = 384

unfoldable pub procedure_of : List ℕ → ℕ → ℕ
procedure_of r t = load r (t * 3)

unfoldable pub position_of : List ℕ → ℕ → ℕ
position_of r t = load r (t * 3 + 1)

unfoldable pub register_of : List ℕ → ℕ → ℕ
register_of r t = load r (t * 3 + 2)

-- the three words of task t
unfoldable pub put : List ℕ → ℕ → ℕ → ℕ → ℕ → List ℕ
put r t p i x = store_all r (t * 3) (p ∷ i ∷ x ∷ [])

-- the instruction that task t is at
unfoldable pub instruction_for : List ℕ → List ℕ → ℕ → Instruction
instruction_for j r t = instruction_at j (procedure_of r t) (position_of r t)
