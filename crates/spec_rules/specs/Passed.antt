-- The state of the order behind a view, case by case.
use Rattle.std.specs.Prelude.{◌≡◌, ℕ}
use Rattle.std.proofs.Math.Path.{refl}
use Rattle.std.proofs.Common.{ap, ◌∙◌, eq-eqb, ne_eqb}
use Rattle.std.proofs.Math.Bool.{not}
use Rattle.spec_words.specs.Words.{pass, halt, neither, true_left, true_right}
use Rattle.spec_layout.specs.Layout.{NONE, NL}
use Rattle.spec_rules.specs.Test.{marked, passed}

pub marked_yes : (e : ℕ) → e ≡ NL → marked e ≡ 1
unfolding marked
marked_yes e q = halt _ _ (eq-eqb e NL q)

pub marked_no : (e : ℕ) → (e ≡ NL → ⊥) → marked e ≡ 0
unfolding marked
marked_no e q = pass _ (ne_eqb e NL q) refl

module _ (h e o : ℕ) where
  pub passed_none : h ≡ NONE → e ≡ NONE → passed h e o ≡ o
  unfolding passed
  passed_none p q = halt _ _ (eq-eqb h NONE p) ∙ halt _ _ (eq-eqb e NONE q)

  pub passed_fit : (h ≡ NONE → ⊥) → (e ≡ NONE → ⊥) → marked e ≡ o → passed h e o ≡ marked h
  unfolding passed
  passed_fit p q m = pass _ (ne_eqb h NONE p) (pass _ (neither (ne_eqb e NONE q) (ap not (eq-eqb (marked e) o m))) refl)

  pub passed_odd : (h ≡ NONE → ⊥) → (marked e ≡ o → ⊥) → passed h e o ≡ 2
  unfolding passed
  passed_odd p m = pass _ (ne_eqb h NONE p) (halt _ _ (true_right _ (ap not (ne_eqb (marked e) o m))))

  pub passed_half : (h ≡ NONE) → (e ≡ NONE → ⊥) → passed h e o ≡ 2
  unfolding passed
  passed_half p q = halt _ _ (eq-eqb h NONE p) ∙ pass _ (ne_eqb e NONE q) refl

  pub passed_open : (h ≡ NONE → ⊥) → (e ≡ NONE) → passed h e o ≡ 2
  unfolding passed
  passed_open p q = pass _ (ne_eqb h NONE p) (halt _ _ (true_left _ (eq-eqb e NONE q)))
