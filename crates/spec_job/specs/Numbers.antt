-- THE NUMBERS OF THE ANSWERS of a step, one set for the runs with overlap and without. "a refusal .. returns its number", and
-- none of these is one.
use Rattle.std.specs.Prelude.{◌≡◌, refl, ℕ, eqb}
use Rattle.std.proofs.Common.{ne_eqb}
use Rattle.spec_words.specs.Words.{pick, pass}
use Rattle.spec_answers.specs.declared.Answer.TheVariants.{Empty, Waits}
use Rattle.spec_answers.specs.Answers.{status_of}
use Rattle.spec_job.specs.Effects.{Word, spawned, pushed, took, moved, finished, empty, not_empty, waits, refused}

abbrev pub WAITS : ℕ
WAITS = 32

abbrev pub EMPTY : ℕ
EMPTY = 33

abbrev pub NOT_EMPTY : ℕ
NOT_EMPTY = 34

abbrev pub SPAWNED : ℕ
SPAWNED = 40

abbrev pub PUSHED : ℕ
PUSHED = 41

abbrev pub TOOK : ℕ
TOOK = 42

abbrev pub FINISHED : ℕ
FINISHED = 43

abbrev pub MOVED : ℕ
MOVED = 44

-- what the core answers too has the core's number
pub core_numbers : (status_of Waits ≡ WAITS) × (status_of Empty ≡ EMPTY)
unfolding status_of
core_numbers = (refl, refl)

-- "refused" has no number of its own
unfoldable pub number_of : Word → ℕ
number_of spawned = SPAWNED
number_of pushed = PUSHED
number_of took = TOOK
number_of moved = MOVED
number_of finished = FINISHED
number_of empty = EMPTY
number_of not_empty = NOT_EMPTY
number_of waits = WAITS
number_of refused = 0

-- the word that has a number; any other number is that of a refusal
unfoldable pub word_numbered : ℕ → Word
word_numbered n =
    pick (eqb n SPAWNED) spawned
    (pick (eqb n PUSHED) pushed
    (pick (eqb n TOOK) took
    (pick (eqb n FINISHED) finished
    (pick (eqb n MOVED) moved
    (pick (eqb n EMPTY) empty
    (pick (eqb n NOT_EMPTY) not_empty
    (pick (eqb n WAITS) waits
    refused)))))))

pub word_numbered_lem : (w : Word) → word_numbered (number_of w) ≡ w
unfolding word_numbered number_of pick
word_numbered_lem spawned = refl
word_numbered_lem pushed = refl
word_numbered_lem took = refl
word_numbered_lem moved = refl
word_numbered_lem finished = refl
word_numbered_lem empty = refl
word_numbered_lem not_empty = refl
word_numbered_lem waits = refl
word_numbered_lem refused = refl

-- what is left of the numbers once those of the answers are told apart
pub none_numbered : (n : ℕ) → (((((((Unit {0} × (n ≡ SPAWNED → ⊥)) × (n ≡ PUSHED → ⊥)) × (n ≡ TOOK → ⊥)) × (n ≡ FINISHED → ⊥)) × (n ≡ MOVED → ⊥))
    × (n ≡ EMPTY → ⊥)) × (n ≡ NOT_EMPTY → ⊥)) × (n ≡ WAITS → ⊥) → word_numbered n ≡ refused
unfolding word_numbered
none_numbered n o =
    pass _ (ne_eqb n SPAWNED o.0.0.0.0.0.0.0.1)
    (pass _ (ne_eqb n PUSHED o.0.0.0.0.0.0.1)
    (pass _ (ne_eqb n TOOK o.0.0.0.0.0.1)
    (pass _ (ne_eqb n FINISHED o.0.0.0.0.1)
    (pass _ (ne_eqb n MOVED o.0.0.0.1)
    (pass _ (ne_eqb n EMPTY o.0.0.1)
    (pass _ (ne_eqb n NOT_EMPTY o.0.1)
    (pass _ (ne_eqb n WAITS o.1) refl)))))))
