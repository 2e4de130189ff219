-- The test of two texts says whether they are the same.
use Rattle.std.specs.Prelude.{◌≡◌, refl, true, List, [], ◌∷◌, ℕ}
use Rattle.std.proofs.Common.{ap₂, eq-eqb, eqb-true}
use Rattle.std.proofs.lemmas.Bool.{false≢true}
use Rattle.spec_words.specs.Words.{both_true, true_both}
use Rattle.spec_replay.specs.Replay.{is_same_text}

pub text_refl : (xs : List ℕ) → is_same_text xs xs ≡ true
unfolding is_same_text
text_refl [] = refl
text_refl (x ∷ xs) = true_both (eq-eqb x x refl) (text_refl xs)

pub text_same : (xs ys : List ℕ) → is_same_text xs ys ≡ true → xs ≡ ys
unfolding is_same_text
text_same [] [] e = refl
text_same [] (y ∷ ys) e = absurd (false≢true e)
text_same (x ∷ xs) [] e = absurd (false≢true e)
text_same (x ∷ xs) (y ∷ ys) e =
    let w = both_true _ _ e in ap₂ (λ (a : ℕ) (l : List ℕ). a ∷ l) (eqb-true x y w.0) (text_same xs ys w.1)
