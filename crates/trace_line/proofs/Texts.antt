-- A text at the front of bytes.
use Rattle.std.specs.Prelude.{◌≡◌, refl, Bool, true, false, ◌&&◌, List, [], ◌∷◌, ℕ, ◌+◌, eqb, length, take, drop, Option, Some as known, None as unknown, Result as Checked, Err, MatchOption, slice_get}
use Rattle.std.proofs.Common.{ap, sym, ◌∙◌, true≢false, Bor, arith}
use Rattle.std.proofs.lemmas.Bool.{false≢true}
use Rattle.std.specs.Option.{option_copied, ok_or}
use Rattle.std.proofs.Math.Option.{Option as Left, none, some}
use borrow.Author.Tests.{eq-eqb, ne_eqb}
use lib.Pointwise.{pointwise}
use Rattle.spec_words.specs.Words.{pick, pass, halt}
use Rattle.spec_trace.specs.declared.Line.{Line}
use Rattle.spec_trace.specs.Read.{behind_byte, behind_text, behind_feed, Numbered, numbered, number_at, front}
use Rattle.trace_line.specs.Reads.{rest_of, left_behind, number_of}

pub text_none : (cs : List ℕ) → behind_text cs [] ≡ []
unfolding behind_text behind_byte
text_none [] = refl
text_none (c ∷ cs) = text_none cs

-- the text stands there, and it does not
here : (cs bs : List ℕ) → pointwise eqb (take (length cs) bs) cs ≡ true → drop (length cs) bs ≡ behind_text cs bs
unfolding behind_text behind_byte
here [] bs e = refl
here (c ∷ cs) [] e = absurd (false≢true e)
here (c ∷ cs) (b ∷ bs) e = go (eqb b c) refl e (here cs bs)
  where
    go : (t : Bool) → eqb b c ≡ t → t && pointwise eqb (take (length cs) bs) cs ≡ true
        → (pointwise eqb (take (length cs) bs) cs ≡ true → drop (length cs) bs ≡ behind_text cs bs) → drop (length cs) bs ≡ behind_text cs (pick (eqb b c) bs [])
    go true f g h = h g ∙ ap (behind_text cs) (sym (halt bs [] f))
    go false f g h = absurd (false≢true g)

other : (cs bs : List ℕ) → pointwise eqb (take (length cs) bs) cs ≡ false → [] ≡ behind_text cs bs
unfolding behind_text behind_byte
other [] bs e = absurd (true≢false e)
other (c ∷ cs) [] e = sym (text_none cs)
other (c ∷ cs) (b ∷ bs) e = go (eqb b c) refl e (other cs bs)
  where
    go : (t : Bool) → eqb b c ≡ t → t && pointwise eqb (take (length cs) bs) cs ≡ false
        → (pointwise eqb (take (length cs) bs) cs ≡ false → [] ≡ behind_text cs bs) → [] ≡ behind_text cs (pick (eqb b c) bs [])
    go true f g h = h g ∙ ap (behind_text cs) (sym (halt bs [] f))
    go false f g h = sym (ap (behind_text cs) (pass bs f refl) ∙ text_none cs)

pub stripped : (cs bs : List ℕ) (o : Option (Bor (List ℕ)))
    → MatchOption o (pointwise eqb (take (length cs) bs) cs ≡ false) (λ x. (pointwise eqb (take (length cs) bs) cs ≡ true) × (x.now ≡ drop (length cs) bs) × (length x.now + length cs ≡ length bs))
    → rest_of o ≡ behind_text cs bs
unfolding rest_of
stripped cs bs unknown e = other cs bs e
stripped cs bs (known x) e = e.1 ∙ here cs bs e.0

-- a line feed, and none
pub feed_none : (bs : List ℕ) → length bs ≡ 0 → none ≡ behind_feed bs
unfolding behind_feed
feed_none [] e = refl
feed_none (b ∷ bs) e = let z : ⊥ = omega (arith, e) in absurd z

pub feed_here : (bs : List ℕ) {b : ℕ} {rs : List ℕ} → bs ≡ b ∷ rs → b ≡ 10 → some rs ≡ behind_feed bs
unfolding behind_feed
feed_here bs {b} {rs} e f = sym (ap behind_feed e ∙ halt (some rs) none (eq-eqb b 10 f))

pub feed_other : (bs : List ℕ) {b : ℕ} {rs : List ℕ} → bs ≡ b ∷ rs → (b ≡ 10 → ⊥) → none ≡ behind_feed bs
unfolding behind_feed
feed_other bs {b} {rs} e n = sym (ap behind_feed e ∙ pass (some rs) (ne_eqb b 10 n) refl)

-- no number stands behind nothing
pub nothing_behind : {bs : List ℕ} → [] ≡ bs → numbered 0 [] ≡ number_at bs
nothing_behind e = at ∙ ap number_at e
  where
    at : numbered 0 [] ≡ number_at []
    at = unfold number_at in refl

-- what a part gave
pub number_there : {o : Option (ℕ × Bor (List ℕ))} {v : ℕ} {r : Bor (List ℕ)} {x : Numbered} → number_of o ≡ x → o ≡ known (v, r) → numbered v r.now ≡ x
unfolding number_of
number_there f e = sym (ap number_of e) ∙ f

pub number_missing : {o : Option (ℕ × Bor (List ℕ))} {x : Numbered} → number_of o ≡ x → o ≡ unknown → numbered 0 [] ≡ x
unfolding number_of
number_missing f e = sym (ap number_of e) ∙ f

pub rest_there : {o : Option (Bor (List ℕ))} {r : Bor (List ℕ)} {bs : List ℕ} → rest_of o ≡ bs → o ≡ known r → r.now ≡ bs
unfolding rest_of
rest_there f e = sym (ap rest_of e) ∙ f

pub rest_missing : {o : Option (Bor (List ℕ))} {bs : List ℕ} → rest_of o ≡ bs → o ≡ unknown → [] ≡ bs
unfolding rest_of
rest_missing f e = sym (ap rest_of e) ∙ f

pub feed_there : {o : Option (Bor (List ℕ))} {r : Bor (List ℕ)} {x : Left (List ℕ)} → left_behind o ≡ x → o ≡ known r → some r.now ≡ x
unfolding left_behind
feed_there f e = sym (ap left_behind e) ∙ f

pub feed_missing : {o : Option (Bor (List ℕ))} {x : Left (List ℕ)} → left_behind o ≡ x → o ≡ unknown → none ≡ x
unfolding left_behind
feed_missing f e = sym (ap left_behind e) ∙ f

-- the first byte, and none
pub first_missing : (bs : List ℕ) {o : Option (Bor ℕ)} → option_copied o ≡ slice_get bs 0 → o ≡ unknown → bs ≡ []
first_missing [] f e = refl
first_missing (b ∷ bs) f e = cc

pub first_there : (bs : List ℕ) {o : Option (Bor ℕ)} {b : Bor ℕ} → option_copied o ≡ slice_get bs 0 → o ≡ known b → b.now ≡ front bs
unfolding front
first_there [] f e = cc
first_there (x ∷ bs) f e = cc

-- the error where a part gave nothing
pub error_is : {A : Type 0} {o : Option A} {x y : Line} → ◌≡◌ {A = Checked A Line} (Err x) (ok_or o y) → o ≡ unknown → x ≡ y
error_is f e = cc

-- the first byte, and none
pub first_none : (bs : List ℕ) → unknown ≡ slice_get bs 0 → bs ≡ []
first_none [] e = refl
first_none (b ∷ bs) e = cc

pub first_is : (bs : List ℕ) {b : ℕ} → known b ≡ slice_get bs 0 → b ≡ front bs
unfolding front
first_is [] e = cc
first_is (x ∷ bs) e = cc
