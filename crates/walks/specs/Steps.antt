-- What a step of each walk over tasks does, for any test f: a law a walk, and the sides of it that a loop meets.
-- n is how many steps are left.
use Rattle.std.specs.Prelude.{◌≡◌, Bool, true, false, List, leb}
use Rattle.std.proofs.Math.Path.{refl, ap}
use Rattle.std.proofs.Common.{ap₂, sym, ◌∙◌, le-leb}
use Prim.Native.Nat.{ℕ, zero, suc, ◌-◌, ◌<◌, ◌≤◌}
use native.Mathlib.Omega.{arith}
use Rattle.std.proofs.lemmas.Bool.{lt-leb}
use Rattle.spec_words.specs.Words.{load, pick, pass, halt}
use Rattle.spec_layout.specs.Layout.{NONE, OLDER, task, read, record_of}
use Rattle.spec_layout.proofs.Frame.{record_word}
use Rattle.spec_tree.specs.Tour.{END, after, seek, sibling, oldest}

one_less : (n : ℕ) → n ≡ suc n - 1
one_less n = omega arith

module _ (f : ℕ → Bool) (recs : ℕ → List ℕ) where
  -- THE TOUR
  seek_step : (n x : ℕ) → 0 < n → seek n f recs x ≡ pick (leb END x) END (pick (f x) x (seek (n - 1) f recs (after recs x)))
  unfolding seek
  seek_step zero x h = let z : ⊥ = omega arith in absurd z
  seek_step (suc n) x h = ap (λ (k : ℕ). pick (leb END x) END (pick (f x) x (seek k f recs (after recs x)))) (one_less n)

  pub seek_none : (n x : ℕ) → n ≤ 0 → END ≡ seek n f recs x
  unfolding seek
  seek_none zero x h = refl
  seek_none (suc n) x h = let z : ⊥ = omega arith in absurd z

  pub seek_end : (n x : ℕ) → 0 < n → END ≤ x → END ≡ seek n f recs x
  seek_end n x h g = sym (seek_step n x h ∙ halt _ _ (le-leb END x g))

  pub seek_here : (n x : ℕ) → 0 < n → x < END → f x ≡ true → x ≡ seek n f recs x
  seek_here n x h g e = sym (seek_step n x h ∙ pass _ (lt-leb END x g) (halt _ _ e))

  pub seek_on : (n x y : ℕ) → 0 < n → x < END → f x ≡ false → y ≡ after recs x → seek (n - 1) f recs y ≡ seek n f recs x
  seek_on n x y h g e d = ap (seek (n - 1) f recs) d ∙ sym (seek_step n x h ∙ pass _ (lt-leb END x g) (pass _ e refl))

module _ (f : ℕ → Bool) (m : List ℕ) where
  -- SIBLINGS
  sibling_step : (n c : ℕ) → 0 < n
      → sibling n f (record_of m) c ≡ pick (leb 128 c) NONE (pick (f c) c (sibling (n - 1) f (record_of m) (load (record_of m c) OLDER)))
  unfolding sibling
  sibling_step zero c h = let z : ⊥ = omega arith in absurd z
  sibling_step (suc n) c h =
      ap (λ (k : ℕ). pick (leb 128 c) NONE (pick (f c) c (sibling k f (record_of m) (load (record_of m c) OLDER)))) (one_less n)

  pub sibling_none : (n c : ℕ) → n ≤ 0 → NONE ≡ sibling n f (record_of m) c
  unfolding sibling
  sibling_none zero c h = refl
  sibling_none (suc n) c h = let z : ⊥ = omega arith in absurd z

  pub sibling_end : (n c : ℕ) → 0 < n → 128 ≤ c → NONE ≡ sibling n f (record_of m) c
  sibling_end n c h g = sym (sibling_step n c h ∙ halt _ _ (le-leb 128 c g))

  pub sibling_here : (n c : ℕ) → 0 < n → c < 128 → f c ≡ true → c ≡ sibling n f (record_of m) c
  sibling_here n c h g e = sym (sibling_step n c h ∙ pass _ (lt-leb 128 c g) (halt _ _ e))

  pub sibling_on : (n c o : ℕ) → 0 < n → c < 128 → f c ≡ false → o ≡ read m (task c OLDER)
      → sibling (n - 1) f (record_of m) o ≡ sibling n f (record_of m) c
  sibling_on n c o h g e d =
      ap (sibling (n - 1) f (record_of m)) (d ∙ sym (record_word m c OLDER))
      ∙ sym (sibling_step n c h ∙ pass _ (lt-leb 128 c g) (pass _ e refl))

  -- THE OLDEST
  oldest_step : (n c d : ℕ) → 0 < n
      → oldest n f (record_of m) c d ≡ pick (leb 128 c) d (oldest (n - 1) f (record_of m) (load (record_of m c) OLDER) (pick (f c) c d))
  unfolding oldest
  oldest_step zero c d h = let z : ⊥ = omega arith in absurd z
  oldest_step (suc n) c d h =
      ap (λ (k : ℕ). pick (leb 128 c) d (oldest k f (record_of m) (load (record_of m c) OLDER) (pick (f c) c d))) (one_less n)

  pub oldest_none : (n c d : ℕ) → n ≤ 0 → d ≡ oldest n f (record_of m) c d
  unfolding oldest
  oldest_none zero c d h = refl
  oldest_none (suc n) c d h = let z : ⊥ = omega arith in absurd z

  pub oldest_end : (n c d : ℕ) → 0 < n → 128 ≤ c → d ≡ oldest n f (record_of m) c d
  oldest_end n c d h g = sym (oldest_step n c d h ∙ halt _ _ (le-leb 128 c g))

  pub oldest_on : (n c d o e : ℕ) → 0 < n → c < 128 → o ≡ read m (task c OLDER) → e ≡ pick (f c) c d
      → oldest (n - 1) f (record_of m) o e ≡ oldest n f (record_of m) c d
  oldest_on n c d o e h g p w =
      ap₂ (oldest (n - 1) f (record_of m)) (p ∙ sym (record_word m c OLDER)) w
      ∙ sym (oldest_step n c d h ∙ pass _ (lt-leb 128 c g) refl)
