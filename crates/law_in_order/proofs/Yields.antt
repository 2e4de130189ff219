-- What an outcome does: it has this answer, and leaves words of which P holds with the steps so far.
use Rattle.std.specs.Prelude.{◌≡◌, Bool, not, List, ℕ}
use Rattle.std.proofs.Math.Path.{refl, subst}
use Rattle.std.proofs.Common.{sym, subst₂}
use Rattle.std.proofs.Math.Bool.{true, false}
use Rattle.spec_words.specs.Words.{pick}
use Rattle.spec_answers.specs.declared.Answer.{Answer}
use Rattle.spec_answers.specs.declared.Answer.TheVariants.{Waits, Refused}
use Rattle.spec_answers.specs.Answers.{Outcome, outcome, answer_of, words_of}
use Rattle.spec_answers.specs.Calls.{Call}
use Rattle.spec_order.specs.Steps.{Item, noted}

module _ (P : List ℕ → List Item → Type 0) where
  pub record Yields (xs : List Item) (c : Call) (o : Outcome) (a : Answer) : Type 0 where
    pub answer : answer_of o ≡ a
    pub holds : P (words_of o) (noted c a xs)

  -- a refusal, a wait
  pub refuses : (m : List ℕ) (xs : List Item) (c : Call) (k : ℕ) → P m xs → Yields xs c (outcome (Refused k) m) (Refused k)
  unfolding answer_of words_of noted
  refuses m xs c k h = record { answer = refl; holds = h }

  pub waits : (m : List ℕ) (xs : List Item) (c : Call) → P m xs → Yields xs c (outcome Waits m) Waits
  unfolding answer_of words_of noted
  waits m xs c h = record { answer = refl; holds = h }

  -- a choice, where the words and program order say the same
  pub chooses : {xs : List Item} {c : Call} {o p : Outcome} {a b : Answer} (x y : Bool) → x ≡ y → (y ≡ true → Yields xs c o a) → (y ≡ false → Yields xs c p b)
      → Yields xs c (pick x o p) (pick y a b)
  unfolding pick
  chooses true true e f g = f refl
  chooses false false e f g = g refl
  chooses {xs} {c} {o} {p} {a} {b} true false e f g = subst (λ (z : Bool). Yields xs c (pick z o p) b) (sym e) (g refl)
  chooses {xs} {c} {o} {p} {a} {b} false true e f g = subst (λ (z : Bool). Yields xs c (pick z o p) a) (sym e) (f refl)

  -- the same with the test the other way round
  pub chooses_not : {xs : List Item} {c : Call} {o p : Outcome} {a b : Answer} (x y : Bool) → x ≡ y → (y ≡ true → Yields xs c p a) → (y ≡ false → Yields xs c o b)
      → Yields xs c (pick (not x) o p) (pick y a b)
  unfolding pick
  chooses_not {xs} {c} {o} {p} {a} {b} x true e f g = subst (λ (z : Bool). Yields xs c (pick (not z) o p) a) (sym e) (f refl)
  chooses_not {xs} {c} {o} {p} {a} {b} x false e f g = subst (λ (z : Bool). Yields xs c (pick (not z) o p) b) (sym e) (g refl)

  -- a test that always fails
  pub never : {xs : List Item} {c : Call} (o : Outcome) {p : Outcome} {a : Answer} (x : Bool) → x ≡ false → Yields xs c p a → Yields xs c (pick x o p) a
  unfolding pick
  never {xs} {c} o {p} {a} x e d = subst (λ (z : Bool). Yields xs c (pick z o p) a) (sym e) d

  -- the same outcome and the same answer in other words
  pub does_as : {xs : List Item} {c : Call} (o p : Outcome) (a b : Answer) → o ≡ p → a ≡ b → Yields xs c p b → Yields xs c o a
  does_as {xs} {c} o p a b e f d = subst₂ (λ (x : Outcome) (y : Answer). Yields xs c x y) (sym e) (sym f) d
