-- The steps that remain fall at each call, and the working words keep their length.
use Rattle.std.proofs.Common.{◌≡◌, ℕ, ◌+◌, ◌-◌, ◌<◌, ◌≤◌, List, length, replicate, ap, ◌∙◌, arith}
use lib.ListN.{length-replicate}
use Rattle.spec_words.specs.Words.{size}

-- the remaining steps fall at each call, from a body to its child and from a child to its body
pub body_falls : (n left t : ℕ) → left + left + 1 ≡ t → n ≤ left → n + n < t
body_falls n left t e h = omega (arith, e, h)

pub child_falls : (left t : ℕ) → left + left ≡ t → 0 < left → left - 1 + (left - 1) + 1 < t
child_falls left t e h = omega (arith, e, h)

pub size_kept : (w u : List ℕ) (n : ℕ) → length u ≡ length w → size w ≡ n → size u ≡ n
unfolding size
size_kept w u n e h = e ∙ h

pub size_cleared : (w u : List ℕ) (n : ℕ) → u ≡ replicate (length w) 0 → length w ≡ n → size u ≡ n
unfolding size
size_cleared w u n e h = ap length e ∙ length-replicate (length w) 0 ∙ h
