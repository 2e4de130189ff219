-- READING A LINE from the front of bytes. Where the bytes are of another form nothing is left behind what was read, so that what
-- follows finds nothing; only the line feed at the end says whether there was a line.
use Rattle.std.specs.Prelude.{Bool, true, false, List, [], ◌∷◌, ℕ, zero, suc, ◌+◌, ◌-◌, ◌*◌, eqb, ltb}
use Rattle.std.proofs.Math.Option.{Option, none, some}
use Rattle.spec_words.specs.Words.{pick}
use Rattle.spec_job.specs.Effects.{Word, spawned, pushed, took, moved, finished, empty, not_empty, waits, refused}
use Rattle.spec_job.specs.Numbers.{number_of}
use Rattle.text.specs.Text.{ascii}
use Rattle.run_text.specs.Lines.{word_row, spaced}
use Rattle.spec_trace.specs.declared.Line.{Line}
use Rattle.spec_trace.specs.declared.Line.TheVariants.{Call, Left, Open}

-- the byte at the front; 0 where there is none
unfoldable pub front : List ℕ → ℕ
front [] = 0
front (b ∷ bs) = b

-- what stands behind the byte c
unfoldable pub behind_byte : ℕ → List ℕ → List ℕ
behind_byte c [] = []
behind_byte c (b ∷ bs) = pick (eqb b c) bs []

-- what stands behind a text
unfoldable pub behind_text : List ℕ → List ℕ → List ℕ
behind_text [] bs = bs
behind_text (c ∷ cs) bs = behind_text cs (behind_byte c bs)

-- the digit that a byte is; 10 or more where it is none
unfoldable pub digit_of : ℕ → ℕ
digit_of b = pick (ltb b 48) 10 (b - 48)

-- A NUMBER that was read, and what stands behind it
pub record Numbered : Type 0 where
  pub value : ℕ
  pub rest : List ℕ

abbrev pub numbered : ℕ → List ℕ → Numbered
numbered v bs = record { value = v; rest = bs }

-- at most f digits more behind the number v
unfoldable pub more_digits : ℕ → ℕ → List ℕ → Numbered
more_digits zero v bs = numbered v bs
more_digits (suc f) v [] = numbered v []
more_digits (suc f) v (b ∷ bs) = let more = more_digits f (v * 10 + digit_of b) bs in pick (ltb (digit_of b) 10) more (numbered v (b ∷ bs))

-- a number that fits a word
unfoldable pub fitting : Numbered → Numbered
fitting x = pick (ltb x.value 4294967296) x (numbered 0 [])

-- "decimal, at most 4,294,967,295, without leading zeros"
unfoldable pub number_at : List ℕ → Numbered
number_at [] = numbered 0 []
number_at (b ∷ bs) =
    let d = digit_of b in pick (eqb d 0) (numbered 0 bs) (pick (ltb d 10) (fitting (more_digits 9 d bs)) (numbered 0 []))

-- what stands behind a number that is below k
unfoldable pub below : ℕ → Numbered → List ℕ
below k x = pick (ltb x.value k) x.rest []

-- the only word that may begin with a byte: with s, p, t, f, m, e, n, w, and "refused" with any other
unfoldable pub word_at : ℕ → Word
word_at b =
    pick (eqb b 115) spawned
    (pick (eqb b 112) pushed
    (pick (eqb b 116) took
    (pick (eqb b 102) finished
    (pick (eqb b 109) moved
    (pick (eqb b 101) empty
    (pick (eqb b 110) not_empty
    (pick (eqb b 119) waits
    refused)))))))

-- the number that goes with a word, or "-", for which 0 stands
unfoldable pub value_at : Bool → List ℕ → Numbered
value_at true bs = number_at bs
value_at false bs = numbered 0 (behind_byte 45 bs)

-- the number or "-" behind a word and a blank
unfoldable pub value_of : Word → List ℕ → Numbered
value_of w bs = value_at (word_row w).numbered (behind_text (spaced (word_row w).name) bs)

-- "a line feed ends each line"
unfoldable pub behind_feed : List ℕ → Option (List ℕ)
behind_feed [] = none
behind_feed (b ∷ bs) = pick (eqb b 10) (some bs) none

-- A LINE that was read, and what stands behind it; none where the bytes are of another form
pub record LineRead : Type 0 where
  pub line : Line
  pub rest : Option (List ℕ)

unfoldable pub call_at : List ℕ → LineRead
call_at bs =
    let n = number_at bs in
    let t = number_at (behind_byte 32 n.rest) in
    let a = behind_byte 32 (below 256 t) in
    let w = word_at (front a) in
    let v = value_of w a in
    record { line = Call n.value t.value (number_of w) v.value; rest = behind_feed v.rest }

unfoldable pub left_at : List ℕ → LineRead
left_at bs =
    let q = number_at (behind_text (ascii "left ") bs) in
    let v = number_at (behind_byte 32 (below 4 q)) in
    record { line = Left q.value v.value; rest = behind_feed v.rest }

unfoldable pub open_at : List ℕ → LineRead
open_at bs = let n = number_at (behind_text (ascii "open ") bs) in record { line = Open n.value; rest = behind_feed n.rest }

-- THE LINE at the front of bytes: a call begins with a digit
unfoldable pub line_at : List ℕ → LineRead
line_at bs = pick (ltb (digit_of (front bs)) 10) (call_at bs) (pick (eqb (front bs) 108) (left_at bs) (open_at bs))
