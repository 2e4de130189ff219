-- The words that tell what a run still has room for, once segment s is the tail: the length, the number opened, the lowest h places of the
-- stack of free segments, and the first place and the count of s; and the words that a push into a new segment writes beside them.
use Rattle.std.specs.Prelude.{◌≡◌, refl, List, [], ◌∷◌, ℕ, ◌+◌, ◌*◌, ◌<◌, ◌≤◌}
use Rattle.std.proofs.Common.{arith}
use Rattle.spec_words.specs.Blocks.{store_all}
use Rattle.spec_layout.specs.Layout.{Field, segment, address, write}
use Rattle.law_maps.specs.Free.{record_set_lem}
use Rattle.law_maps.specs.Kept.{Only, only_then, write_only}

pub data Watched (s h : ℕ) (f : Field) : Type 0 where
  opening : address f < 2 → Watched s h f
  stack : 64 ≤ address f → address f < 64 + h → Watched s h f
  record_word : (k : ℕ) → k < 2 → address f ≡ 448 + s * 4 + k → Watched s h f

pub data Elsewhere (s h a : ℕ) : Type 0 where
  height : a ≡ 2 → Elsewhere s h a
  top : a ≡ 64 + h → Elsewhere s h a
  other : (r k : ℕ) → (r ≡ s → ⊥) → k < 4 → a ≡ 448 + r * 4 + k → Elsewhere s h a
  link : (r : ℕ) → a ≡ 448 + r * 4 + 2 → Elsewhere s h a
  behind : 1472 ≤ a → Elsewhere s h a

module _ (s h : ℕ) (low : s < 256) (few : h ≤ 255) where
  disjoint : (f : Field) (a : ℕ) → Watched s h f → Elsewhere s h a → address f ≡ a → ⊥
  disjoint f a (opening x) (height y) e = omega (arith, x, y, e)
  disjoint f a (opening x) (top y) e = omega (arith, x, y, e)
  disjoint f a (opening x) (other r k n l y) e = omega (arith, x, y, e)
  disjoint f a (opening x) (link r y) e = omega (arith, x, y, e)
  disjoint f a (opening x) (behind y) e = omega (arith, x, y, e)
  disjoint f a (stack w x) (height y) e = omega (arith, w, y, e)
  disjoint f a (stack w x) (top y) e = omega (arith, x, y, e)
  disjoint f a (stack w x) (other r k n l y) e = omega (arith, x, y, e, few)
  disjoint f a (stack w x) (link r y) e = omega (arith, x, y, e, few)
  disjoint f a (stack w x) (behind y) e = omega (arith, x, y, e, few)
  disjoint f a (record_word k x w) (height y) e = omega (arith, w, y, e)
  disjoint f a (record_word k x w) (top y) e = omega (arith, w, y, e, few)
  disjoint f a (record_word k x w) (other r j n l y) e = n (omega (arith, w, x, y, l, e))
  disjoint f a (record_word k x w) (link r y) e = omega (arith, w, x, y, e)
  disjoint f a (record_word k x w) (behind y) e = omega (arith, w, x, y, e, low)

  pub untouched : (m : List ℕ) (g : Field) (v : ℕ) → Elsewhere s h (address g) → Only (Watched s h) m (write m g v)
  untouched m g v o = write_only m g v (λ f w e. disjoint f (address g) w o e)

  pub record_untouched : (m : List ℕ) (r a b c : ℕ) → (r ≡ s → ⊥) → Only (Watched s h) m (store_all m (address (segment r 0)) (a ∷ b ∷ c ∷ []))
  unfolding address
  record_untouched m r a b c n =
      rw (record_set_lem m r a b c)
      (only_then (untouched m (segment r 0) a (other r 0 n (omega arith) refl))
      (only_then (untouched _ (segment r 1) b (other r 1 n (omega arith) refl)) (untouched _ (segment r 2) c (other r 2 n (omega arith) refl))))
