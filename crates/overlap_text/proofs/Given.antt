-- What left gives: a value, or none.
use mathlib.Core.Path.{◌≡◌, refl, ap, sym, ◌∙◌}
use mathlib.Core.List.{List}
use mathlib.Core.Option.{none, some}
use Prim.Native.Nat.{ℕ}
use Rattle.spec_answers.specs.declared.Answer.{Answer}
use Rattle.spec_answers.specs.declared.Answer.TheVariants.{Moved, Empty, Waits, Refused}
use Rattle.spec_answers.specs.Answers.{outcome, answer_of}
use Rattle.spec_outcomes.specs.Left.{left_tested}
use Rattle.overlap_text.specs.Whole.{left_at, given, value_in}

-- no value where the answer is another one
none_of : (a : Answer) → ((v : ℕ) → a ≡ Moved v → ⊥) → given a ≡ none
unfolding given
none_of (Moved v) n = absurd (n v refl)
none_of Empty n = refl
none_of Waits n = refl
none_of (Refused k) n = refl

module _ (m : List ℕ) (q i : ℕ) {w : List ℕ} (a : Answer) (e : outcome a w ≡ left_tested m q i) where
  says : left_at m q i ≡ a
  unfolding left_at answer_of
  says = ap answer_of (sym e)

  pub value_given : {v : ℕ} → a ≡ Moved v → value_in m q i ≡ some v
  unfolding value_in given
  value_given h = ap given (says ∙ h)

  pub none_given : ((v : ℕ) → a ≡ Moved v → ⊥) → value_in m q i ≡ none
  unfolding value_in
  none_given n = ap given says ∙ none_of a n
