-- THE READER'S LAWS, both ways: a line that is rendered is read as it was, and what was read was rendered.
use Rattle.std.specs.Prelude.{◌≡◌, refl, Bool, true, false, ◌≢◌, ℕ, ◌<◌, eqb, ltb, length}
use Rattle.std.proofs.Common.{ap, ap₂, sym, ◌∙◌, arith, length-append, lt-ltb, ltb-true, eq-eqb, eqb-true}
use Rattle.std.proofs.lemmas.Bool.{false≢true}
use mathlib.Core.List.{List, [], ◌∷◌, ◌++◌, append_assoc, cons-ne-nil, append-ne-nil_of_right_ne-nil}
use Rattle.std.proofs.Math.Option.{some, none-ne-some, some-injective}
use Rattle.spec_words.specs.Words.{pick, halt}
use Rattle.spec_lists.specs.Maps.{All}
use Rattle.spec_job.specs.Effects.{Word, spawned, pushed, took, moved, finished, empty, not_empty, waits, refused}
use Rattle.spec_job.specs.Numbers.{number_of, word_numbered, word_numbered_lem}
use Rattle.text.specs.Text.{ascii, decimal}
use Rattle.run_text.specs.Lines.{word_row, answer_text, call_line, spaced, ended, left_line, open_line}
use Rattle.spec_trace.specs.declared.Line.{Line}
use Rattle.spec_trace.specs.declared.Line.TheVariants.{Call, Left, Open}
use Rattle.spec_trace.specs.Line.{render, render_all, Valid}
use Rattle.spec_trace.specs.Read.{
  front,
  behind_byte,
  behind_text,
  digit_of,
  Numbered,
  numbered,
  number_at,
  below,
  word_at,
  value_at,
  value_of,
  behind_feed,
  LineRead,
  call_at,
  left_at,
  open_at,
  line_at,
}
use Rattle.law_trace.specs.Digits.{either_way, number_read, first_digit, number_back}
use Rattle.law_trace.specs.Feeds.{IsLine, feeds, EndsLine, Whole, feeds_written, whole_written}
use Rattle.law_trace.specs.Printed.{call_is, left_is, open_is}

-- THE PARTS of a line, each with all that stands behind it
abbrev payload : Bool → ℕ → List ℕ
payload b v = pick b (decimal v) (ascii "-")

call_parts : (n t : ℕ) (w : Word) (v : ℕ) (rest : List ℕ)
    → call_line n t w v ++ rest
    ≡ decimal n ++ (32 ∷ (decimal t ++ (32 ∷ (spaced (word_row w).name ++ (payload (word_row w).numbered v ++ (10 ∷ rest))))))
unfolding call_line answer_text ended spaced ascii
call_parts n t w v rest = simp append_assoc

left_parts : (q v : ℕ) (rest : List ℕ) → left_line q v ++ rest ≡ ascii "left " ++ (decimal q ++ (32 ∷ (decimal v ++ (10 ∷ rest))))
unfolding left_line ended spaced ascii
left_parts q v rest = simp append_assoc

open_parts : (n : ℕ) (rest : List ℕ) → open_line n ++ rest ≡ ascii "open " ++ (decimal n ++ (10 ∷ rest))
unfolding open_line ended ascii
open_parts n rest = simp append_assoc

-- WHAT IS RENDERED IS READ
text_read : (t bs : List ℕ) → behind_text t (t ++ bs) ≡ bs
unfolding behind_text behind_byte
text_read [] bs = refl
text_read (c ∷ t) bs = ap (behind_text t) (halt _ _ (eq-eqb c c refl)) ∙ text_read t bs

word_read : (w : Word) (bs : List ℕ) → word_at (front (spaced (word_row w).name ++ bs)) ≡ w
unfolding word_at front spaced word_row ascii pick
word_read spawned bs = refl
word_read pushed bs = refl
word_read took bs = refl
word_read moved bs = refl
word_read finished bs = refl
word_read empty bs = refl
word_read not_empty bs = refl
word_read waits bs = refl
word_read refused bs = refl

value_read : (b : Bool) (v : ℕ) (rest : List ℕ) → v < 4294967296 → (b ≡ false → v ≡ 0) → value_at b (payload b v ++ (10 ∷ rest)) ≡ numbered v (10 ∷ rest)
unfolding value_at pick ascii behind_byte digit_of front
value_read true v rest h z = number_read v (10 ∷ rest) h refl
value_read false v rest h z = ap (λ (m : ℕ). numbered m (10 ∷ rest)) (sym (z refl))

-- a number's first byte is a digit
call_at_lem : (n : ℕ) (bs : List ℕ) → line_at (decimal n ++ bs) ≡ call_at (decimal n ++ bs)
unfolding line_at
call_at_lem n bs = halt _ _ (lt-ltb _ 10 (first_digit n bs).0)

pub rendered_read : (l : Line) → Valid l → (rest : List ℕ) → line_at (render l ++ rest) ≡ record { line = l; rest = some rest }
unfolding render line_at call_at left_at open_at value_of below behind_byte behind_feed digit_of front ascii pick
rendered_read (Call n t k v) c rest =
    let w = word_numbered k in
    let b3 = payload (word_row w).numbered v ++ (10 ∷ rest) in
    let b2 = spaced (word_row w).name ++ b3 in
    let b1 = decimal t ++ (32 ∷ b2) in
    let h = c.task in
    ap line_at (call_parts n t w v rest)
    ∙ call_at_lem n (32 ∷ b1)
    ∙ rw (
      number_read n (32 ∷ b1) c.number refl,
      number_read t (32 ∷ b2) (omega (arith, h)) refl,
      lt-ltb t 256 c.task,
      word_read w b3,
      text_read (spaced (word_row w).name) b3,
      value_read (word_row w).numbered v rest c.value c.dash,
      c.word,
    )
rendered_read (Left q v) c rest =
    let b2 = decimal v ++ (10 ∷ rest) in
    let b1 = decimal q ++ (32 ∷ b2) in
    let h = c.0 in
    ap line_at (left_parts q v rest)
    ∙ rw (
      text_read (ascii "left ") b1,
      number_read q (32 ∷ b2) (omega (arith, h)) refl,
      lt-ltb q 4 c.0,
      number_read v (10 ∷ rest) c.1 refl,
    )
rendered_read (Open n) c rest =
    ap line_at (open_parts n rest) ∙ rw (text_read (ascii "open ") (decimal n ++ (10 ∷ rest)), number_read n (10 ∷ rest) c refl)

-- WHAT WAS READ WAS RENDERED. Something is left behind each part, since the line feed was there.
there : {bs cs : List ℕ} (w : List ℕ) → bs ≡ w ++ cs → cs ≢ [] → bs ≢ []
there w e n = rw e (append-ne-nil_of_right_ne-nil w n)

byte_back : (c : ℕ) (bs : List ℕ) → behind_byte c bs ≢ [] → bs ≡ c ∷ behind_byte c bs
unfolding behind_byte
byte_back c [] = λ s. absurd (s refl)
byte_back c (b ∷ bs) =
    either_way (λ l. l ≢ [] → b ∷ bs ≡ c ∷ l) (eqb b c) (λ e s. ap (λ (x : ℕ). x ∷ bs) (eqb-true b c e)) (λ e s. absurd (s refl))

text_back : (t bs : List ℕ) → behind_text t bs ≢ [] → bs ≡ t ++ behind_text t bs
unfolding behind_text
text_back [] bs s = refl
text_back (c ∷ t) bs s =
    let e = text_back t (behind_byte c bs) s in
    byte_back c bs (there t e s) ∙ ap (λ (l : List ℕ). c ∷ l) e

below_back : (k : ℕ) (x : Numbered) → behind_byte 32 (below k x) ≢ [] → (x.rest ≡ 32 ∷ behind_byte 32 (below k x)) × (x.value < k)
unfolding below behind_byte
below_back k x =
    either_way (λ l. behind_byte 32 l ≢ [] → (x.rest ≡ 32 ∷ behind_byte 32 l) × (x.value < k)) (ltb x.value k)
    (λ e s. (byte_back 32 x.rest s, ltb-true x.value k e))
    (λ e s. absurd (s refl))

feed_back : (bs rest : List ℕ) → behind_feed bs ≡ some rest → bs ≡ 10 ∷ rest
unfolding behind_feed
feed_back [] rest = λ e. absurd (none-ne-some rest e)
feed_back (b ∷ bs) rest =
    either_way (λ o. o ≡ some rest → b ∷ bs ≡ 10 ∷ rest) (eqb b 10)
    (λ e h. ap₂ (λ (x : ℕ) (l : List ℕ). x ∷ l) (eqb-true b 10 e) (some-injective bs rest h))
    (λ e h. absurd (none-ne-some rest h))

value_back : (b : Bool) (bs rest : List ℕ) → (value_at b bs).rest ≡ 10 ∷ rest
    → (bs ≡ payload b (value_at b bs).value ++ (10 ∷ rest)) × ((value_at b bs).value < 4294967296) × (b ≡ false → (value_at b bs).value ≡ 0)
unfolding value_at pick ascii
value_back true bs rest e = let x = number_back bs 10 rest e in (x.0, x.1, λ q. absurd (false≢true (sym q)))
value_back false bs rest e =
    (byte_back 45 bs (there [] e (cons-ne-nil 10 rest)) ∙ ap (λ (l : List ℕ). 45 ∷ l) e, omega arith, λ q. refl)

-- l was read from bs, with rest behind it
abbrev Back : List ℕ → List ℕ → Line → Type 0
Back bs rest l = (bs ≡ render l ++ rest) × Valid l

call_back : (bs rest : List ℕ) → (call_at bs).rest ≡ some rest → Back bs rest (call_at bs).line
unfolding call_at value_of render
call_back bs rest e =
    let b1 = behind_byte 32 (number_at bs).rest in
    let b2 = behind_byte 32 (below 256 (number_at b1)) in
    let w = word_at (front b2) in
    let b = (word_row w).numbered in
    let b3 = behind_text (spaced (word_row w).name) b2 in
    let v = value_back b b3 rest (feed_back (value_at b b3).rest rest e) in
    let s = there (payload b (value_at b b3).value) v.0 (cons-ne-nil 10 rest) in
    let z = text_back (spaced (word_row w).name) b2 s in
    let t = below_back 256 (number_at b1) (there (spaced (word_row w).name) z s) in
    let x = number_back b1 32 b2 t.0 in
    let n = number_back bs 32 b1 (byte_back 32 (number_at bs).rest (there (decimal (number_at b1).value) x.0 (cons-ne-nil 32 b2))) in
    let i = word_numbered_lem w in (
      cc (n.0, x.0, z, v.0, i, call_parts (number_at bs).value (number_at b1).value w (value_at b b3).value rest),
      record {
        number = n.1;
        task = t.1;
        word = ap number_of i;
        value = v.1;
        dash = λ q. v.2 (ap (λ (u : Word). (word_row u).numbered) (sym i) ∙ q);
      },
    )

left_back : (bs rest : List ℕ) → (left_at bs).rest ≡ some rest → Back bs rest (left_at bs).line
unfolding left_at render
left_back bs rest e =
    let b1 = behind_text (ascii "left ") bs in
    let b2 = behind_byte 32 (below 4 (number_at b1)) in
    let v = number_back b2 10 rest (feed_back (number_at b2).rest rest e) in
    let q = below_back 4 (number_at b1) (there (decimal (number_at b2).value) v.0 (cons-ne-nil 10 rest)) in
    let x = number_back b1 32 b2 q.0 in
    let z = text_back (ascii "left ") bs (there (decimal (number_at b1).value) x.0 (cons-ne-nil 32 b2)) in
    (cc (z, x.0, v.0, left_parts (number_at b1).value (number_at b2).value rest), (q.1, v.1))

open_back : (bs rest : List ℕ) → (open_at bs).rest ≡ some rest → Back bs rest (open_at bs).line
unfolding open_at render
open_back bs rest e =
    let b1 = behind_text (ascii "open ") bs in
    let x = number_back b1 10 rest (feed_back (number_at b1).rest rest e) in
    let z = text_back (ascii "open ") bs (there (decimal (number_at b1).value) x.0 (cons-ne-nil 10 rest)) in
    (cc (z, x.0, open_parts (number_at b1).value rest), x.1)

pub read_rendered : (bs rest : List ℕ) → (line_at bs).rest ≡ some rest → (bs ≡ render (line_at bs).line ++ rest) × Valid (line_at bs).line
unfolding line_at
read_rendered bs rest =
    let P : LineRead → Type 0 = λ r. r.rest ≡ some rest → Back bs rest r.line in
    either_way P (ltb (digit_of (front bs)) 10) (λ d. call_back bs rest)
    (λ d. either_way P (eqb (front bs) 108) (λ f. left_back bs rest) (λ f. open_back bs rest))

-- EACH RENDERED LINE IS ONE LINE, so that lines are told apart by their line feeds
pub rendered_line : (l : Line) → IsLine (render l)
unfolding render
rendered_line (Call n t k v) = call_is n t (word_numbered k) v
rendered_line (Left q v) = left_is q v
rendered_line (Open n) = open_is n

pub shorter : (bs rest : List ℕ) → (line_at bs).rest ≡ some rest → length rest < length bs
shorter bs rest e =
    let l = rendered_line (line_at bs).line in
    let z = simp length-append at (ap length (read_rendered bs rest e).0) in
    let y = simp length-append at (ap length l.whole) in
    omega (arith, z, y)

rendered_lines : (ls : List Line) → All (λ l. IsLine (render l)) ls
rendered_lines [] = tt
rendered_lines (l ∷ ls) = (rendered_line l, rendered_lines ls)

pub feeds_rendered : (ls : List Line) → feeds (render_all ls) ≡ length ls
unfolding render_all
feeds_rendered ls = feeds_written render render_all refl (λ l ls. refl) ls (rendered_lines ls)

pub whole_rendered : (ls : List Line) (xs ys : List ℕ) → xs ++ ys ≡ render_all ls → EndsLine xs → Whole render_all ls xs ys
unfolding render_all
whole_rendered ls = whole_written render render_all refl (λ l ls. refl) ls (rendered_lines ls)
