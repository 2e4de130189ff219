-- Places in the ring of a segment: the three cases, and that a place is inside.
use Rattle.std.specs.Prelude.{◌≡◌, refl, ℕ, ◌+◌, ◌-◌, ◌<◌, ◌≤◌}
use Rattle.std.proofs.Common.{⊎_elim, arith, lt-ltb, le-ltb}
use Rattle.spec_words.specs.Words.{pass, halt}
use Rattle.spec_lists.specs.Counting.{below?}
use Rattle.spec_outcomes.specs.Segments.{place}

pub place_low : (l f k : ℕ) → f + k < l → place l f k ≡ f + k
unfolding place
place_low l f k h = halt _ _ (lt-ltb _ _ h)

pub place_high : (l f k : ℕ) → l ≤ f + k → f + k - l < l → place l f k ≡ f + k - l
unfolding place
place_high l f k h g = pass _ (le-ltb _ _ h) (halt _ _ (lt-ltb _ _ g))

pub place_past : (l f k : ℕ) → l ≤ f + k → l ≤ f + k - l → place l f k ≡ 0
unfolding place
place_past l f k h g = pass _ (le-ltb _ _ h) (pass _ (le-ltb _ _ g) refl)

pub place_below : (l f k : ℕ) → 0 < l → place l f k < l
place_below l f k h =
    ⊎_elim
    (λ a. let e = place_low l f k a in omega (arith, e, a))
    (λ a.
    ⊎_elim
    (λ b. let e = place_high l f k a b in omega (arith, e, b))
    (λ b. let e = place_past l f k a b in omega (arith, e, h))
    (below? (f + k - l) l))
    (below? (f + k) l)
