-- TWO LINES OF THE GRAMMAR ARE ONE WHERE THEIR TEXTS ARE, so lines are compared by what was read of them.
use Rattle.std.specs.Prelude.{◌≡◌, refl, Bool, false, List, [], ◌++◌, ℕ, ◌+◌, ◌<◌, eqb}
use Rattle.std.proofs.Math.Path.{ap, ap₂}
use Rattle.std.proofs.Common.{sym, ◌∙◌, true≢false, arith}
use Rattle.std.proofs.Math.Bool.{true}
use borrow.Author.Tests.{eq-eqb, eqb-true}
use Rattle.spec_words.specs.Words.{both, both_true, both_on}
use Rattle.spec_job.specs.Numbers.{number_of, word_numbered}
use Rattle.run_text.specs.Lines.{printed_number, line, left_line, open_line}
use Rattle.spec_trace.specs.declared.Line.{Line}
use Rattle.spec_trace.specs.declared.Line.TheVariants.{Call, Left, Open}
use Rattle.spec_trace.specs.Line.{render, Valid, ValidCall}
use Rattle.spec_trace.specs.Read.{LineRead, line_at}
use Rattle.spec_replay.specs.Replay.{is_same_text}
use Rattle.spec_replay.specs.AsLines.{call_as, call_text_lem, call_valid}
use Rattle.spec_replay.specs.Same.{text_refl, text_same}
use Rattle.law_trace.specs.Rendered.{rendered_read}

one_text : (l k : Line) → Valid l → Valid k → render l ≡ render k → l ≡ k
one_text l k v w e =
    ap (λ (x : LineRead). x.line)
    (sym (rendered_read l v []) ∙ ap (λ (t : List ℕ). line_at (t ++ [])) e ∙ rendered_read k w [])

-- b says whether they are one
pub told : {l k : Line} {b : Bool} → Valid l → Valid k → (b ≡ true → l ≡ k) → (l ≡ k → b ≡ true) → b ≡ is_same_text (render l) (render k)
told {l} {k} {b} v w f g = go (is_same_text (render l) (render k)) refl b f g
  where
    go : (s : Bool) → is_same_text (render l) (render k) ≡ s → (b : Bool) → (b ≡ true → l ≡ k) → (l ≡ k → b ≡ true) → b ≡ s
    go true e b f g = g (one_text l k v w (text_same _ _ e))
    go false e true f g = absurd (true≢false (sym (text_refl (render k)) ∙ ap (λ (x : Line). is_same_text (render x) (render k)) (sym (f refl)) ∙ e))
    go false e false f g = refl

-- lines of two forms, or with two numbers in one place, are two
pub two : {l k : Line} → Valid l → Valid k → (l ≡ k → ⊥) → false ≡ is_same_text (render l) (render k)
two v w n = told v w (λ z. absurd (true≢false (sym z))) (λ e. absurd (n e))

-- what stands in a place of a line
unfoldable pub form : Line → ℕ
form (Call n t k v) = 0
form (Left q v) = 1
form (Open n) = 2

unfoldable pub first : Line → ℕ
first (Call n t k v) = n
first (Left q v) = q
first (Open n) = n

unfoldable pub word : Line → ℕ
word (Call n t k v) = k
word (Left q v) = 0
word (Open n) = 0

unfoldable pub value : Line → ℕ
value (Call n t k v) = v
value (Left q v) = v
value (Open n) = 0

-- THE LINE OF A CALL
module _ (c n t k v s x : ℕ) (h : ValidCall n t k v) (few : c < 65535) (hs : s < 4294967296) (hx : x < 4294967296) where
  there : Valid (call_as (c + 1) t s x)
  there = call_valid (c + 1) t s x (omega (arith, few)) h.task hs hx

  named : {b : Bool} → b ≡ is_same_text (render (Call n t k v)) (render (call_as (c + 1) t s x)) → b ≡ is_same_text (render (Call n t k v)) (line (c + 1) t s x)
  named e = e ∙ ap (is_same_text (render (Call n t k v))) (call_text_lem (c + 1) t s x)

  pub other_number : (n ≡ c + 1 → ⊥) → false ≡ is_same_text (render (Call n t k v)) (line (c + 1) t s x)
  unfolding first
  other_number z = named (two h there (λ e. z (ap first e)))

  pub by_answer : {b : Bool} {p q : ℕ} → n ≡ c + 1 → p ≡ number_of (word_numbered s) → q ≡ printed_number (word_numbered s) s x → b ≡ both (eqb k p) (eqb v q)
      → b ≡ is_same_text (render (Call n t k v)) (line (c + 1) t s x)
  unfolding word value
  by_answer {b} {p} {q} z ep eq eb = named (told h there yes no)
    where
      yes : b ≡ true → Call n t k v ≡ call_as (c + 1) t s x
      yes e = let o = both_true _ _ (sym eb ∙ e) in
          ap (λ (a : ℕ). Call a t k v) z ∙ ap (λ (a : ℕ). Call (c + 1) t a v) (eqb-true _ _ o.0 ∙ ep)
          ∙ ap (Call (c + 1) t (number_of (word_numbered s))) (eqb-true _ _ o.1 ∙ eq)

      no : Call n t k v ≡ call_as (c + 1) t s x → b ≡ true
      no e = eb ∙ both_on (eq-eqb _ _ (ap word e ∙ sym ep)) ∙ eq-eqb _ _ (ap value e ∙ sym eq)

-- THE LINE OF A VALUE LEFT, and that of tasks unfinished
module _ (q v : ℕ) (hq : q < 4) (hv : v < 4294967296) where
  pub left_form : (l : Line) → Valid l → (form l ≡ 1 → ⊥) → false ≡ is_same_text (render l) (left_line q v)
  unfolding render form
  left_form l h z = two {l = l} {k = Left q v} h (hq, hv) (λ e. z (ap form e))

  pub left_pair : {l : Line} {b : Bool} (a d : ℕ) → Valid l → l ≡ Left a d → b ≡ both (eqb a q) (eqb d v) → b ≡ is_same_text (render l) (left_line q v)
  unfolding render first value
  left_pair {l} {b} a d h g e =
      told {k = Left q v} h (hq, hv) (λ t. let o = both_true _ _ (sym e ∙ t) in g ∙ ap₂ Left (eqb-true _ _ o.0) (eqb-true _ _ o.1))
      (λ z. e ∙ both_on (eq-eqb _ _ (ap first (sym g ∙ z))) ∙ eq-eqb _ _ (ap value (sym g ∙ z)))

module _ (n : ℕ) (hn : n < 4294967296) where
  pub open_form : (l : Line) → Valid l → (form l ≡ 2 → ⊥) → false ≡ is_same_text (render l) (open_line n)
  unfolding render form
  open_form l h z = two {l = l} {k = Open n} h hn (λ e. z (ap form e))

  pub open_count : {l : Line} {b : Bool} (a : ℕ) → Valid l → l ≡ Open a → b ≡ eqb a n → b ≡ is_same_text (render l) (open_line n)
  unfolding render first
  open_count {l} {b} a h g e =
      told {k = Open n} h hn (λ t. g ∙ ap Open (eqb-true _ _ (sym e ∙ t))) (λ z. e ∙ eq-eqb _ _ (ap first (sym g ∙ z)))

-- lines of another form
pub not_left : (l : Line) → ((q v : ℕ) → l ≡ Left q v → ⊥) → form l ≡ 1 → ⊥
unfolding form
not_left (Call n t k v) f e = omega (arith, e)
not_left (Left q v) f e = f q v refl
not_left (Open n) f e = omega (arith, e)

pub not_open : (l : Line) → ((n : ℕ) → l ≡ Open n → ⊥) → form l ≡ 2 → ⊥
unfolding form
not_open (Call n t k v) f e = omega (arith, e)
not_open (Left q v) f e = omega (arith, e)
not_open (Open n) f e = f n refl
