-- THE OUTCOME OF THE SERIAL RUNNER on any bytes and any words lent.
use Rattle.std.specs.Prelude.{not, List, [], ◌∷◌, ℕ, ◌*◌, eqb}
use Rattle.spec_words.specs.Words.{size, pick}
use Rattle.spec_words.specs.Blocks.{store_all}
use Rattle.spec_job.specs.Test.{refusal10, refusal11, refusal12}
use Rattle.spec_serial.specs.Serial.{Run, serial}
use Rattle.spec_serial.specs.Answers.{written}
use Rattle.spec_serial.specs.Working.{WORKING, lists}
use Rattle.spec_serial.specs.declared.End.{End}
use Rattle.spec_serial.specs.declared.End.TheVariants.{Refused}

-- the number of words for answers: three for each of 65,535 steps
abbrev pub ANSWERS : ℕ
ANSWERS = 196605

-- Why the run stopped, the steps made, the four lists, and the words for answers.
pub data Outcome : Type 0 where
  outcome : End → ℕ → List (List ℕ) → List ℕ → Outcome

-- A run of which k steps were made before, with c tasks made and ms the numbers on the stack: its answers go behind theirs.
unfoldable pub shown : ℕ → ℕ → List ℕ → List ℕ → Run → Outcome
shown k c ms a r = outcome r.end r.steps r.queues (store_all a (k * 3) (written c ms r.events))

-- turned down with number k: no step is made, the lists and the words for answers are as they were
unfoldable pub turned_down : ℕ → List ℕ → List ℕ → Outcome
turned_down k w a = outcome (Refused k) 0 (lists w) a

-- "The runner tests 1, 10, 11, 12"
unfoldable pub serial_outcome : List ℕ → List ℕ → List ℕ → Outcome
serial_outcome j w a =
    pick (not (eqb (size w) WORKING)) (turned_down 1 w a)
    (pick (not (eqb (size a) ANSWERS)) (turned_down 1 w a)
    (pick (refusal10 j) (turned_down 10 w a)
    (pick (refusal11 j) (turned_down 11 w a)
    (pick (refusal12 j) (turned_down 12 w a)
    (shown 0 1 (0 ∷ []) a (serial j))))))
