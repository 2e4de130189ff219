-- The records of all segments, one after the other, as the code goes through them.
use Rattle.std.specs.Prelude.{◌≡◌, Bool, true, ◌&&◌, ◌||◌, List, leb, ltb, eqb, get_or}
use Rattle.std.proofs.Math.Path.{refl, ap, sym}
use Rattle.std.proofs.Common.{ap₂, ◌∙◌}
use Rattle.std.proofs.Math.Bool.{false}
use Prim.Native.Nat.{ℕ, suc, ◌+◌, ◌-◌, ◌*◌, ◌<◌, ◌≤◌}
use native.Mathlib.Omega.{arith}
use Rattle.spec_words.specs.Words.{pick, both, either}
use Rattle.spec_lists.specs.Tests.{upto}
use Rattle.spec_layout.specs.Layout.{NONE}
use Rattle.spec_rules.specs.Contents.{decode}
use Rattle.spec_rules.specs.Test.{segment_test}
use Rattle.spec_view_events.specs.Both.{grouped}
use Rattle.spec_view_events.specs.Parts.{part_at, length_at, number_at}

-- the code computes both sides
and_both : (a b : Bool) → a && b ≡ both a b
unfolding both pick
and_both true b = refl
and_both false b = refl

or_either : (a b : Bool) → a || b ≡ either a b
unfolding either pick
or_either true b = refl
or_either false b = refl

three : (a b x y : Bool) → (a && b) && (x || y) ≡ both a (both b (either x y))
three a b x y =
    and_both (a && b) (x || y)
    ∙ ap₂ both (and_both a b) (or_either x y)
    ∙ grouped a b (either x y)

pub sound_at : (m : List ℕ) (s : ℕ)
    → (ltb (get_or m (448 + s * 4) 0) (get_or m 0 0) && leb (get_or m (449 + s * 4) 0) (get_or m 0 0)) &&
    (ltb (get_or m (450 + s * 4) 0) (get_or m 1 0) || eqb (get_or m (450 + s * 4) 0) NONE)
    ≡ segment_test (decode m) s
unfolding segment_test
sound_at m s =
    three (ltb (get_or m (448 + s * 4) 0) (get_or m 0 0)) (leb (get_or m (449 + s * 4) 0) (get_or m 0 0)) (ltb (get_or m (450 + s * 4) 0) (get_or m 1 0))
    (eqb (get_or m (450 + s * 4) 0) NONE)
    ∙ rw (
      part_at m s 0 (448 + s * 4) (omega arith),
      part_at m s 1 (449 + s * 4) (omega arith),
      part_at m s 2 (450 + s * 4) (omega arith),
      length_at m,
      number_at m,
    )

module _ (f : ℕ → Bool) (n s : ℕ) where
  pub upto_more : (good x : Bool) → s < n → x ≡ f s → both (good && x) (upto f (n - (s + 1)) (s + 1)) ≡ both good (upto f (n - s) s)
  unfolding upto
  upto_more good x h e =
      ap (λ (b : Bool). both b (upto f (n - (s + 1)) (s + 1))) (and_both good x ∙ ap (both good) e)
      ∙ grouped good (f s) (upto f (n - (s + 1)) (s + 1))
      ∙ sym (ap (λ (k : ℕ). both good (upto f k s)) (let z : n - s ≡ suc (n - (s + 1)) = omega arith in z))

  pub upto_done : (good : Bool) → n ≤ s → good ≡ both good (upto f (n - s) s)
  upto_done good h = sym (ap (λ (k : ℕ). both good (upto f k s)) (let z : n - s ≡ 0 = omega arith in z) ∙ none good)
    where
      none : (b : Bool) → both b (upto f 0 s) ≡ b
      none true = unfold both pick upto in refl
      none false = unfold both pick upto in refl

pub upto_start : (f : ℕ → Bool) (n : ℕ) → both true (upto f (n - 0) 0) ≡ upto f n 0
unfolding both pick
upto_start f n = ap (λ (k : ℕ). upto f k 0) (let z : n - 0 ≡ n = omega arith in z)
