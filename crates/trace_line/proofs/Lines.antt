-- The parts of a line, one behind the other: each is read from where the one before it ended. Where the bytes are of another form
-- nothing stands behind, and no line feed is found.
use mathlib.Core.Path.{◌≡◌, refl, sym, ap, ap₂, ◌∙◌}
use mathlib.Core.List.{List, [], ◌∷◌}
use mathlib.Core.Option.{none, some}
use Prim.Native.Nat.{ℕ, ◌<◌, ◌≤◌}
use native.Mathlib.Omega.{arith}
use lib.Dec.{ltb}
use mathlib.Core.Bool.{Bool, true, false}
use borrow.Author.Tests.{lt-ltb, le-ltb, eq-eqb, ne_eqb}
use Rattle.std.proofs.Common.{subst, ◌⊎◌, inr, Bor}
use Rattle.std.specs.Prelude.{Option as Given}
use Rattle.spec_words.specs.Words.{pick, pass, halt}
use Rattle.spec_job.specs.Effects.{Word}
use Rattle.spec_job.specs.Numbers.{number_of, word_numbered, word_numbered_lem}
use Rattle.text.specs.Text.{ascii}
use Rattle.run_text.specs.Lines.{word_row, spaced}
use Rattle.spec_trace.specs.declared.Line.{Line}
use Rattle.spec_trace.specs.declared.Line.TheVariants.{Call, Left, Open}
use Rattle.spec_trace.specs.Read.{front, behind_byte, behind_text, Numbered, numbered, number_at, below, word_at, value_at, value_of, behind_feed}
use Rattle.spec_trace.specs.Read.{digit_of, LineRead, call_at, left_at, open_at, line_at}
use Rattle.trace_line.specs.Reads.{IsWhole}
use Rattle.trace_line.proofs.Digits.{digit_here, digit_far}

pub below_few : (k v : ℕ) (rs : List ℕ) → v < k → below k (numbered v rs) ≡ rs
unfolding below
below_few k v rs l = halt rs [] (lt-ltb v k l)

pub below_many : (k v : ℕ) (rs : List ℕ) → k ≤ v → below k (numbered v rs) ≡ []
unfolding below
below_many k v rs l = pass rs (le-ltb v k l) refl

pub below_nothing : (k : ℕ) {x : Numbered} → numbered 0 [] ≡ x → below k x ≡ []
below_nothing k e = ap (below k) (sym e) ∙ at
  where
    same : (b : Bool) → ◌≡◌ {A = List ℕ} (pick b [] []) []
    same true = unfold pick in refl
    same false = unfold pick in refl

    at : below k (numbered 0 []) ≡ []
    at = unfold below in same (ltb 0 k)

none_read : {x y : LineRead} → x ≡ y → y.rest ≡ none → x.rest ≡ none
none_read e f = ap (λ (x : LineRead). x.rest) e ∙ f

-- A CALL, part by part
abbrev after_value : ℕ → ℕ → ℕ → Numbered → LineRead
after_value n t k v = record { line = Call n t k v.value; rest = behind_feed v.rest }

abbrev after_word : ℕ → ℕ → List ℕ → LineRead
after_word n t a = after_value n t (number_of (word_at (front a))) (value_of (word_at (front a)) a)

abbrev after_task : ℕ → Numbered → LineRead
after_task n t = after_word n t.value (behind_byte 32 (below 256 t))

no_feed : behind_feed [] ≡ none
unfolding behind_feed
no_feed = refl

no_word : (n t : ℕ) (a : List ℕ) → a ≡ [] → (after_word n t a).rest ≡ none
no_word n t a e = ap (λ (a : List ℕ). (after_word n t a).rest) e ∙ at
  where
    at : (after_word n t []).rest ≡ none
    at = unfold front word_at value_of value_at word_row spaced ascii behind_text behind_byte number_at behind_feed pick in refl

no_task : (n : ℕ) (t : Numbered) → below 256 t ≡ [] → (after_task n t).rest ≡ none
no_task n t e = no_word n t.value (behind_byte 32 (below 256 t)) (ap (behind_byte 32) e ∙ at)
  where
    at : behind_byte 32 [] ≡ []
    at = unfold behind_byte in refl

module _ (bs : List ℕ) where
  at0 : call_at bs ≡ (let x = number_at bs in after_task x.value (number_at (behind_byte 32 x.rest)))
  unfolding call_at
  at0 = refl

  pub call_no_number : numbered 0 [] ≡ number_at bs → (call_at bs).rest ≡ none
  call_no_number e =
      none_read (at0 ∙ ap (λ (x : Numbered). after_task x.value (number_at (behind_byte 32 x.rest))) (sym e))
      (no_task 0 (number_at (behind_byte 32 [])) (ap (below 256) at ∙ below_few 256 0 [] (omega arith)))
    where
      at : number_at (behind_byte 32 []) ≡ numbered 0 []
      at = unfold behind_byte number_at in refl

  module _ {n : ℕ} {r1 : List ℕ} (e1 : numbered n r1 ≡ number_at bs) where
    at1 : call_at bs ≡ after_task n (number_at (behind_text (32 ∷ []) r1))
    at1 = at0 ∙ ap (λ (x : Numbered). after_task x.value (number_at (behind_byte 32 x.rest))) (sym e1) ∙ same
      where
        same : after_task n (number_at (behind_byte 32 r1)) ≡ after_task n (number_at (behind_text (32 ∷ []) r1))
        same = unfold behind_text in refl

    pub call_no_task : below 256 (number_at (behind_text (32 ∷ []) r1)) ≡ [] → (call_at bs).rest ≡ none
    call_no_task e = none_read at1 (no_task n (number_at (behind_text (32 ∷ []) r1)) e)

    module _ {t : ℕ} {r2 : List ℕ} (e2 : (t < 256) × (numbered t r2 ≡ number_at (behind_text (32 ∷ []) r1))) where
      at3 : call_at bs ≡ after_word n t (behind_text (32 ∷ []) r2)
      at3 = at1 ∙ ap (after_task n) (sym e2.1) ∙ ap (λ (a : List ℕ). after_word n t (behind_byte 32 a)) (below_few 256 t r2 e2.0) ∙ same
        where
          same : after_word n t (behind_byte 32 r2) ≡ after_word n t (behind_text (32 ∷ []) r2)
          same = unfold behind_text in refl

      pub call_no_word : [] ≡ behind_text (32 ∷ []) r2 → (call_at bs).rest ≡ none
      call_no_word e = none_read at3 (no_word n t (behind_text (32 ∷ []) r2) (sym e))

      module _ {a : List ℕ} (e3 : a ≡ behind_text (32 ∷ []) r2) where
        pub call_no_first : a ≡ [] → (call_at bs).rest ≡ none
        call_no_first e = call_no_word (sym e ∙ e3)

        module _ {k : ℕ} (e4 : k ≡ number_of (word_at (front a))) where
          at5 : call_at bs ≡ after_value n t k (value_of (word_numbered k) a)
          at5 =
              at3
              ∙ ap (after_word n t) (sym e3)
              ∙ ap₂ (λ (k : ℕ) (w : Word). after_value n t k (value_of w a)) (sym e4) (sym (ap word_numbered e4 ∙ word_numbered_lem _))

          pub call_no_value : numbered 0 [] ≡ value_of (word_numbered k) a → (call_at bs).rest ≡ none
          call_no_value e = none_read (at5 ∙ ap (after_value n t k) (sym e)) no_feed

          module _ {v : ℕ} {r4 : List ℕ} (e5 : numbered v r4 ≡ value_of (word_numbered k) a) where
            at6 : call_at bs ≡ after_value n t k (numbered v r4)
            at6 = at5 ∙ ap (after_value n t k) (sym e5)

            pub call_no_feed : none ≡ behind_feed r4 → (call_at bs).rest ≡ none
            call_no_feed e = none_read at6 (sym e)

            pub call_read : {r5 : List ℕ} → some r5 ≡ behind_feed r4 → (Call n t k v ≡ (call_at bs).line) × (some r5 ≡ (call_at bs).rest)
            call_read e = (sym (ap (λ (x : LineRead). x.line) at6), e ∙ sym (ap (λ (x : LineRead). x.rest) at6))

-- A VALUE LEFT, part by part
abbrev after_left : ℕ → Numbered → LineRead
after_left q v = record { line = Left q v.value; rest = behind_feed v.rest }

abbrev after_queue : Numbered → LineRead
after_queue q = after_left q.value (number_at (behind_byte 32 (below 4 q)))

no_queue : (q : Numbered) → below 4 q ≡ [] → (after_queue q).rest ≡ none
no_queue q e = ap (λ (a : List ℕ). (after_left q.value (number_at (behind_byte 32 a))).rest) e ∙ at
  where
    at : (after_left q.value (number_at (behind_byte 32 []))).rest ≡ none
    at = unfold behind_byte number_at behind_feed in refl

module _ (bs ls : List ℕ) (es : ls ≡ ascii "left ") where
  left0 : left_at bs ≡ after_queue (number_at (behind_text ls bs))
  left0 = at ∙ ap (λ (ls : List ℕ). after_queue (number_at (behind_text ls bs))) (sym es)
    where
      at : left_at bs ≡ after_queue (number_at (behind_text (ascii "left ") bs))
      at = unfold left_at in refl

  pub left_no_queue : below 4 (number_at (behind_text ls bs)) ≡ [] → (left_at bs).rest ≡ none
  left_no_queue e = none_read left0 (no_queue (number_at (behind_text ls bs)) e)

  module _ {q : ℕ} {r1 : List ℕ} (e1 : (q < 4) × (numbered q r1 ≡ number_at (behind_text ls bs))) where
    left2 : left_at bs ≡ after_left q (number_at (behind_text (32 ∷ []) r1))
    left2 = left0 ∙ ap after_queue (sym e1.1) ∙ ap (λ (a : List ℕ). after_left q (number_at (behind_byte 32 a))) (below_few 4 q r1 e1.0) ∙ same
      where
        same : after_left q (number_at (behind_byte 32 r1)) ≡ after_left q (number_at (behind_text (32 ∷ []) r1))
        same = unfold behind_text in refl

    pub left_no_value : numbered 0 [] ≡ number_at (behind_text (32 ∷ []) r1) → (left_at bs).rest ≡ none
    left_no_value e = none_read (left2 ∙ ap (after_left q) (sym e)) no_feed

    module _ {v : ℕ} {r2 : List ℕ} (e2 : numbered v r2 ≡ number_at (behind_text (32 ∷ []) r1)) where
      left3 : left_at bs ≡ after_left q (numbered v r2)
      left3 = left2 ∙ ap (after_left q) (sym e2)

      pub left_no_feed : none ≡ behind_feed r2 → (left_at bs).rest ≡ none
      left_no_feed e = none_read left3 (sym e)

      pub left_read : {r3 : List ℕ} → some r3 ≡ behind_feed r2 → (Left q v ≡ (left_at bs).line) × (some r3 ≡ (left_at bs).rest)
      left_read e = (sym (ap (λ (x : LineRead). x.line) left3), e ∙ sym (ap (λ (x : LineRead). x.rest) left3))

-- THE LINE of a run that is not over
abbrev after_open : Numbered → LineRead
after_open n = record { line = Open n.value; rest = behind_feed n.rest }

module _ (bs ls : List ℕ) (es : ls ≡ ascii "open ") where
  open0 : open_at bs ≡ after_open (number_at (behind_text ls bs))
  open0 = at ∙ ap (λ (ls : List ℕ). after_open (number_at (behind_text ls bs))) (sym es)
    where
      at : open_at bs ≡ after_open (number_at (behind_text (ascii "open ") bs))
      at = unfold open_at in refl

  pub open_no_number : numbered 0 [] ≡ number_at (behind_text ls bs) → (open_at bs).rest ≡ none
  open_no_number e = none_read (open0 ∙ ap after_open (sym e)) no_feed

  module _ {n : ℕ} {r1 : List ℕ} (e1 : numbered n r1 ≡ number_at (behind_text ls bs)) where
    open1 : open_at bs ≡ after_open (numbered n r1)
    open1 = open0 ∙ ap after_open (sym e1)

    pub open_no_feed : none ≡ behind_feed r1 → (open_at bs).rest ≡ none
    open_no_feed e = none_read open1 (sym e)

    pub open_read : {r2 : List ℕ} → some r2 ≡ behind_feed r1 → (Open n ≡ (open_at bs).line) × (some r2 ≡ (open_at bs).rest)
    open_read e = (sym (ap (λ (x : LineRead). x.line) open1), e ∙ sym (ap (λ (x : LineRead). x.rest) open1))

pub word_first : (a : List ℕ) {b k : ℕ} → b ≡ front a → k ≡ number_of (word_at b) → k ≡ number_of (word_at (front a))
word_first a e f = f ∙ ap (λ (b : ℕ). number_of (word_at b)) e

-- WHICH LINE it is, by its first byte
pub no_line : (bs : List ℕ) → bs ≡ [] → (line_at bs).rest ≡ none
no_line bs e = ap (λ (bs : List ℕ). (line_at bs).rest) e ∙ at
  where
    at : (line_at []).rest ≡ none
    at = unfold line_at front digit_of pick open_at ascii behind_text behind_byte number_at behind_feed in refl

read_as : (o : Given (Line × Bor (List ℕ))) {x y : LineRead} → x ≡ y → IsWhole o x → IsWhole o y
read_as o e r = subst (IsWhole o) e r

module _ (bs : List ℕ) {b : ℕ} (e : b ≡ front bs) (o : Given (Line × Bor (List ℕ))) where
  pub as_call : 48 ≤ b → b < 58 → IsWhole o (call_at bs) → IsWhole o (line_at bs)
  as_call h l r = read_as o (sym at) r
    where
      small : digit_of (front bs) < 10
      small = let z = digit_here b h in let f = ap digit_of e in omega (arith, z, f, h, l)

      at : line_at bs ≡ call_at bs
      at = unfold line_at in halt _ _ (lt-ltb (digit_of (front bs)) 10 small)

  large : (b < 48) ⊎ (58 ≤ b) → 10 ≤ digit_of (front bs)
  large h = let f = ap digit_of e in let g = digit_far b h in omega (arith, f, g)

  pub as_left : b ≡ 108 → IsWhole o (left_at bs) → IsWhole o (line_at bs)
  as_left f r = read_as o (sym at) r
    where
      at : line_at bs ≡ left_at bs
      at = unfold line_at in pass _ (le-ltb (digit_of (front bs)) 10 (large (inr (omega (arith, f))))) (halt _ _ (eq-eqb (front bs) 108 (sym e ∙ f)))

  pub as_open : (b < 48) ⊎ (58 ≤ b) → (b ≡ 108 → ⊥) → IsWhole o (open_at bs) → IsWhole o (line_at bs)
  as_open h n r = read_as o (sym at) r
    where
      at : line_at bs ≡ open_at bs
      at = unfold line_at in pass _ (le-ltb (digit_of (front bs)) 10 (large h)) (pass _ (ne_eqb (front bs) 108 (λ z. n (e ∙ z))) refl)
