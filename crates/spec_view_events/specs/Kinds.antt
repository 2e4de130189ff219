-- The four views of a kind one after the other, as the code's loop goes through them.
use Rattle.std.specs.Prelude.{◌≡◌, Bool, true, false, not, List, eqb, get_or}
use Rattle.std.proofs.Math.Path.{refl, ap, sym}
use Rattle.std.proofs.Common.{◌∙◌}
use Prim.Native.Nat.{ℕ, zero, suc, ◌+◌, ◌-◌, ◌*◌, ◌/◌, ◌%◌, ◌^◌, ◌<◌, ◌≤◌}
use native.Mathlib.Omega.{arith}
use Rattle.spec_words.specs.Words.{both_on, both_off}
use Rattle.spec_rules.specs.Contents.{Contents, decode}
use Rattle.spec_view_events.specs.Events.{Event, view_of, view_at, kind_at, views_from}
use Rattle.spec_view_events.specs.Run.{run}
use Rattle.spec_view_events.specs.Sees.{Sees}
use Rattle.spec_view_events.specs.Groups.{view_at_lem}

-- From the state d₀ f₀ w₀ the views of the queues before q were seen: the test of what is left says what it says of all.
pub record Left (m : List ℕ) (t k q : ℕ) (d₀ f₀ w₀ d f w : List ℕ) : Type 0 where
  pub same : (es : List Event) → run (decode m) (views_from (decode m) t k (4 - q) q es) d f w ≡ run (decode m) (kind_at (decode m) t k es) d₀ f₀ w₀

-- the rights to the next queue
pub next_rights : (r i q : ℕ) → q < 4 → r ≡ i / 4 ^ q → r / 4 ≡ i / 4 ^ (q + 1)
next_rights r i zero l e = omega (arith, e)
next_rights r i (suc zero) l e = omega (arith, e)
next_rights r i (suc (suc zero)) l e = omega (arith, e)
next_rights r i (suc (suc (suc zero))) l e = omega (arith, e)
next_rights r i (suc (suc (suc (suc q)))) l e = let z : ⊥ = omega arith in absurd z

module _ (m : List ℕ) (t k : ℕ) where
  abbrev c : Contents
  c = decode m

  pub left_start : {d f w : List ℕ} → Left m t k 0 d f w d f w
  unfolding kind_at views_from
  left_start = record { same = λ es. refl }

  module _ (q r : ℕ) {b : Bool} {d₀ f₀ w₀ d f w d1 f1 w1 : List ℕ} (l : q < 4) (rights : r ≡ get_or m (1473 + t * 48) 0 / 4 ^ q)
      (s : Sees m (view_of (not (eqb (r % 4) 0)) q (get_or m (1492 + t * 48 + k * 4 + q) 0) (get_or m (1492 + t * 48 + k * 4 + q + 12) 0)) b d f w d1 f1 w1)
      (h : Left m t k q d₀ f₀ w₀ d f w) where
    whole : (es : List Event) → run c (view_at c t k q (views_from c t k (4 - (q + 1)) (q + 1) es)) d f w ≡ run c (kind_at c t k es) d₀ f₀ w₀
    unfolding views_from
    whole es = ap (λ (n : ℕ). run c (views_from c t k n q es) d f w) (let z : suc (4 - (q + 1)) ≡ 4 - q = omega arith in z) ∙ h.same es

    step : (es : List Event)
        → run c (view_of (not (eqb (r % 4) 0)) q (get_or m (1492 + t * 48 + k * 4 + q) 0) (get_or m (1492 + t * 48 + k * 4 + q + 12) 0)
        (views_from c t k (4 - (q + 1)) (q + 1) es)) d f w
        ≡ run c (kind_at c t k es) d₀ f₀ w₀
    step es =
        ap (λ (v : List Event). run c v d f w) (view_at_lem m t k q r (1492 + t * 48 + k * 4 + q) rights refl (views_from c t k (4 - (q + 1)) (q + 1) es))
        ∙ whole es

    pub left_more : b ≡ true → Left m t k (q + 1) d₀ f₀ w₀ d1 f1 w1
    left_more e = record { same = λ es. sym (both_on e) ∙ s.same (views_from c t k (4 - (q + 1)) (q + 1) es) ∙ step es }

    pub left_stop : b ≡ false → Sees m (kind_at c t k) false d₀ f₀ w₀ d1 f1 w1
    left_stop e =
        record { same = λ es. both_off _ refl ∙ sym (both_off _ e) ∙ s.same (views_from c t k (4 - (q + 1)) (q + 1) es) ∙ step es }

  pub left_done : (q : ℕ) {d₀ f₀ w₀ d f w : List ℕ} → 4 ≤ q → Left m t k q d₀ f₀ w₀ d f w → Sees m (kind_at c t k) true d₀ f₀ w₀ d f w
  unfolding views_from
  left_done q {d = d} {f = f} {w = w} l h =
      record {
        same = λ es.
            both_on refl
            ∙ sym (ap (λ (n : ℕ). run c (views_from c t k n q es) d f w) (let z : 4 - q ≡ 0 = omega arith in z))
            ∙ h.same es;
      }
