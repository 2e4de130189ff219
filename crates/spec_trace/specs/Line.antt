-- A LINE OF A TRACE in one of document 01's three forms: its text, and which lines there are.
use Rattle.std.specs.Prelude.{◌≡◌, false, List, [], ◌∷◌, ◌++◌, ℕ, ◌<◌}
use Rattle.spec_job.specs.Numbers.{number_of, word_numbered}
use Rattle.run_text.specs.Lines.{word_row, call_line, left_line, open_line}
use Rattle.spec_trace.specs.declared.Line.{Line}
use Rattle.spec_trace.specs.declared.Line.TheVariants.{Call, Left, Open}

-- THE TEXT of a line, as it is printed
unfoldable pub render : Line → List ℕ
render (Call n t k v) = call_line n t (word_numbered k) v
render (Left q v) = left_line q v
render (Open n) = open_line n

-- one line behind the other
unfoldable pub render_all : List Line → List ℕ
render_all [] = []
render_all (l ∷ ls) = render l ++ render_all ls

-- "A call line has any call number, a task up to 255, an answer and the number or "-" that goes with it". An answer is named by the
-- number of its word, and with "-" goes 0.
pub record ValidCall (n t k v : ℕ) : Type 0 where
  pub number : n < 4294967296
  pub task : t < 256
  pub word : number_of (word_numbered k) ≡ k
  pub value : v < 4294967296
  pub dash : (word_row (word_numbered k)).numbered ≡ false → v ≡ 0

-- ""left" has a queue up to 3; numbers are decimal, at most 4,294,967,295"
abbrev pub Valid : Line → Type 0
Valid (Call n t k v) = ValidCall n t k v
Valid (Left q v) = (q < 4) × (v < 4294967296)
Valid (Open n) = n < 4294967296
