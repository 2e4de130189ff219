-- Tests of two lists, one behind the other.
use Rattle.std.specs.Prelude.{◌≡◌, Bool, List, [], ◌∷◌, ◌++◌, ℕ, ltb, eqb}
use Rattle.std.proofs.Math.Path.{refl}
use Rattle.std.proofs.Common.{ap, sym, ◌∙◌}
use Rattle.spec_words.specs.Words.{load, store, pick, both}
use Rattle.spec_lists.specs.Tests.{each}
use Rattle.spec_lists.specs.Distinct.{fresh}
use Rattle.spec_lists.specs.Marks.{marking}
use Rattle.spec_view_events.specs.Both.{grouped}

pub fresh_append : (n : ℕ) (xs ys d : List ℕ) → fresh n (xs ++ ys) d ≡ both (fresh n xs d) (fresh n ys (marking xs d))
unfolding fresh marking
fresh_append n [] ys d = unfold both pick in refl
fresh_append n (x ∷ xs) ys d =
    ap (λ (b : Bool). both (ltb x n) (both (eqb (load d x) 0) b)) (fresh_append n xs ys (store d x 1))
    ∙ ap (both (ltb x n)) (sym (grouped (eqb (load d x) 0) (fresh n xs (store d x 1)) _))
    ∙ sym (grouped (ltb x n) (both (eqb (load d x) 0) (fresh n xs (store d x 1))) _)

pub each_append : (g : ℕ → Bool) (xs ys : List ℕ) → each g (xs ++ ys) ≡ both (each g xs) (each g ys)
unfolding each
each_append g [] ys = unfold both pick in refl
each_append g (x ∷ xs) ys = ap (both (g x)) (each_append g xs ys) ∙ sym (grouped (g x) (each g xs) (each g ys))
