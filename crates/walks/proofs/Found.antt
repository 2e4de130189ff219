-- What the answer of a walk says: of the number, and of the mark that was found.
use Rattle.std.proofs.Common.{◌≡◌, refl, ap, ℕ, zero, suc, ◌<◌, ◌≤◌, Bool, true, false, not, eqb, leb, List, Some as known, unwrap_or, is_some as is_known, ◌∙◌}
use native.Mathlib.Omega.{arith}
use Rattle.std.proofs.lemmas.Bool.Decides.{nat_tests}
use Rattle.spec_words.specs.Words.{pick}
use Rattle.spec_tree.specs.Tour.{after, seek}
use Rattle.spec_words.specs.Found.{found, some_found}

-- what is found is below the number for none
step : (b c : Bool) (x r : ℕ) → (b ≡ false → x < 256) → r ≤ 256 → pick b 256 (pick c x r) ≤ 256
unfolding pick
step true c x r h g = omega arith
step false true x r h g = let a = h refl in omega (arith, a)
step false false x r h g = g

seek_few : (n : ℕ) (f : ℕ → Bool) (recs : ℕ → List ℕ) (x : ℕ) → seek n f recs x ≤ 256
unfolding seek
seek_few zero f recs x = omega arith
seek_few (suc n) f recs x = step (leb 256 x) (f x) x _ (λ e. grind (arith, nat_tests, e)) (seek_few n f recs _)

-- the test holds of the mark that is found
seek_holds : (n : ℕ) (f : ℕ → Bool) (recs : ℕ → List ℕ) (x : ℕ) → seek n f recs x < 256 → f (seek n f recs x) ≡ true
unfolding seek pick
seek_holds zero f recs x h = let z : ⊥ = omega arith in absurd z
seek_holds (suc n) f recs x h = go (leb 256 x) (f x) refl (seek_holds n f recs (after recs x)) h
  where
    go : (b c : Bool) → f x ≡ c → (seek n f recs (after recs x) < 256 → f (seek n f recs (after recs x)) ≡ true)
        → pick b 256 (pick c x (seek n f recs (after recs x))) < 256 → f (pick b 256 (pick c x (seek n f recs (after recs x)))) ≡ true
    go true c e r h = let z : ⊥ = omega (arith, h) in absurd z
    go false true e r h = e
    go false false e r h = r h

pub found_holds : (f : ℕ → Bool) (recs : ℕ → List ℕ) (x t : ℕ) → known t ≡ found 256 (seek 256 f recs x) → (t ≡ seek 256 f recs x) × (f t ≡ true)
found_holds f recs x t e =
    let a = some_found 256 (seek 256 f recs x) t e in
    (a.0, ap f a.0 ∙ seek_holds 256 f recs x a.1)

pub or_end : (n : ℕ) (f : ℕ → Bool) (recs : ℕ → List ℕ) (x : ℕ) → unwrap_or (found 256 (seek n f recs x)) 256 ≡ seek n f recs x
or_end n f recs x = go (seek n f recs x) (seek_few n f recs x)
  where
    go : (k : ℕ) → k ≤ 256 → unwrap_or (found 256 k) 256 ≡ k
    go k h = unfold found pick in grind (arith, nat_tests)

pub some_before_end : (n : ℕ) (f : ℕ → Bool) (recs : ℕ → List ℕ) (x : ℕ) → is_known (found 256 (seek n f recs x)) ≡ not (eqb (seek n f recs x) 256)
some_before_end n f recs x = go (seek n f recs x) (seek_few n f recs x)
  where
    go : (k : ℕ) → k ≤ 256 → is_known (found 256 k) ≡ not (eqb k 256)
    go k h = unfold found pick in grind (arith, nat_tests)
