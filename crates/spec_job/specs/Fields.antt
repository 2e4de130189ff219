-- A job is a list of bytes. Its fields, as document 01's section "Jobs" names them. A byte past the end is read as 0.
use Rattle.std.specs.Prelude.{List, ℕ, ◌+◌, ◌*◌}
use Rattle.spec_words.specs.Words.{load}
use Rattle.spec_job.specs.declared.Instruction.{Instruction}

-- "Little-endian": the number in 2 bytes from address a on, and that in 4 bytes
unfoldable pub bytes2 : List ℕ → ℕ → ℕ
bytes2 j a = load j a + load j (a + 1) * 256

unfoldable pub bytes4 : List ℕ → ℕ → ℕ
bytes4 j a = bytes2 j a + bytes2 j (a + 2) * 65536

-- THE HEAD: "Number of procedures n (2 bytes, 1 to 64), L (2 bytes)."
unfoldable pub procedures : List ℕ → ℕ
procedures j = bytes2 j 0

-- L, the number of values that a segment holds
unfoldable pub segment_length : List ℕ → ℕ
segment_length j = bytes2 j 2

-- "Contents: n entries of 6 bytes": where the entry of procedure p begins
abbrev pub entry_at : ℕ → ℕ
entry_at p = 4 + p * 6

-- AN ENTRY: "body offset from the file's start (2), instruction count 1 to 128 (2), rights (1), zero (1)"
unfoldable pub offset : List ℕ → ℕ → ℕ
offset j p = bytes2 j (entry_at p)

unfoldable pub count : List ℕ → ℕ → ℕ
count j p = bytes2 j (entry_at p + 2)

unfoldable pub rights : List ℕ → ℕ → ℕ
rights j p = load j (entry_at p + 4)

unfoldable pub reserved : List ℕ → ℕ → ℕ
reserved j p = load j (entry_at p + 5)

-- "An instruction has 6 bytes: operation (1), which (1), operand (4)." The one that begins at address a
unfoldable pub instruction_from : List ℕ → ℕ → Instruction
instruction_from j a = record { operation = load j a; which = load j (a + 1); operand = bytes4 j (a + 2) }

-- instruction i of procedure p, "counted from 0 in the body"
unfoldable pub instruction_at : List ℕ → ℕ → ℕ → Instruction
instruction_at j p i = instruction_from j (offset j p + i * 6)
