-- Four records at a time.
use Rattle.std.proofs.Common.{◌≡◌, refl, ap, sym, ◌∙◌, Bool, true, false, ℕ, zero, suc, ◌+◌, ◌*◌, arith}
use Rattle.spec_words.specs.Words.{pick, both}
use Rattle.spec_lists.specs.Tests.{upto}

module _ (f : ℕ → Bool) where
  next : (t : ℕ) → upto f 4 t ≡ both (f t) (both (f (t + 1)) (both (f (t + 2)) (both (f (t + 3)) true)))
  unfolding upto
  next t = let e : t + 1 + 1 ≡ t + 2 = omega arith in let g : t + 1 + 1 + 1 ≡ t + 3 = omega arith in rw (g, e) refl

  pub four_at : (t : ℕ) → f t ≡ true → f (t + 1) ≡ true → f (t + 2) ≡ true → f (t + 3) ≡ true → upto f 4 t ≡ true
  unfolding both pick
  four_at t a b c d = next t ∙ rw (a, b, c, d) refl

  behind : (a b c d x : Bool) → both a (both b (both c (both d x))) ≡ both (both a (both b (both c (both d true)))) x
  unfolding both pick
  behind true true true true x = refl
  behind true true true false x = refl
  behind true true false d x = refl
  behind true false c d x = refl
  behind false b c d x = refl

  -- the fours are all of them
  pub by_fours : (n i : ℕ) → upto (λ k. upto f 4 (k * 4)) n i ≡ upto f (n * 4) (i * 4)
  unfolding upto
  by_fours zero i = refl
  by_fours (suc n) i =
      let a : (i + 1) * 4 ≡ i * 4 + 1 + 1 + 1 + 1 = omega arith in
      let b : suc (suc (suc (suc (n * 4)))) ≡ suc n * 4 = omega arith in
      ap (both (upto f 4 (i * 4))) (by_fours n (i + 1) ∙ ap (upto f (n * 4)) a)
      ∙ sym (behind (f (i * 4)) (f (i * 4 + 1)) (f (i * 4 + 1 + 1)) (f (i * 4 + 1 + 1 + 1)) (upto f (n * 4) (i * 4 + 1 + 1 + 1 + 1)))
      ∙ ap (λ (k : ℕ). upto f k (i * 4)) b
