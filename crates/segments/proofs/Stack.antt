-- The stack of free segments: the record of a segment in three writes, taking a segment, giving one back.
use mathlib.Core.Path.{◌≡◌, refl, ap, sym, ◌∙◌}
use mathlib.Core.Bool.{false}
use mathlib.Core.List.{List, [], ◌∷◌}
use Prim.Native.Nat.{ℕ, suc, ◌+◌, ◌-◌, ◌*◌, ◌<◌, ◌≤◌}
use native.Mathlib.Omega.{arith}
use borrow.Author.Tests.{eqb-false, lt-ltb, le-ltb}
use Rattle.spec_words.specs.Words.{store, pass, halt}
use Rattle.spec_words.specs.Blocks.{store_all, store_more, store_none}
use Rattle.spec_layout.specs.Layout.{NONE, free_segments, free_segment, segment, value, length_of, free_height, address, read, write}
use Rattle.spec_outcomes.specs.Segments.{has_none_free, next_free, taken, released}

pub three_words : (m m1 m2 m3 : List ℕ) (s f n x : ℕ) → m1 ≡ write m (segment s 0) f → m2 ≡ write m1 (segment s 1) n → m3 ≡ write m2 (segment s 2) x
    → m3 ≡ store_all m (address (segment s 0)) (f ∷ n ∷ x ∷ [])
unfolding write address
three_words m m1 m2 m3 s f n x e1 e2 e3 =
    e3 ∙ (simp (e2, e1))
    ∙ sym (store_more m (448 + s * 4 + 0) f (n ∷ x ∷ [])
    ∙ store_more _ (suc (448 + s * 4 + 0)) n (x ∷ [])
    ∙ store_more _ (suc (suc (448 + s * 4 + 0))) x []
    ∙ store_none _ _
    ∙ places (448 + s * 4))
  where
    places : (a : ℕ) → store (store (store m (a + 0) f) (suc (a + 0)) n) (suc (suc (a + 0))) x ≡ store (store (store m (a + 0) f) (a + 1) n) (a + 2) x
    places a = let p : suc (a + 0) ≡ a + 1 = omega arith in let q : suc (a + 1) ≡ a + 2 = omega arith in simp (p, q)

-- what a caller of next_free and take has to show, from what none_free answers
pub some_left : (m : List ℕ) (q : ℕ) → has_none_free m q ≡ false → 0 < free_height m q
unfolding has_none_free
some_left m q e = let n = eqb-false (free_height m q) 0 e in omega (arith, n)

pub top_of : (m : List ℕ) (q n s : ℕ) → n ≡ free_height m q → s ≡ read m (free_segment (n - 1)) → s ≡ next_free m q
unfolding next_free
top_of m q n s en es = es ∙ ap (λ (k : ℕ). read m (free_segment (k - 1))) en

pub below : (a b n : ℕ) → a ≡ b → b < n → a < n
below a b n e h = rw e h

pub take_it : (m m1 m2 m3 : List ℕ) (q v l n s : ℕ) → l ≡ length_of m s → n ≡ free_height m q → s ≡ read m (free_segment (n - 1))
    → m1 ≡ write m free_segments (n - 1) → m2 ≡ store_all m1 (address (segment s 0)) (0 ∷ 1 ∷ NONE ∷ []) → m3 ≡ write m2 (value (s * l + 0)) v
    → m3 ≡ taken m q v
unfolding taken
take_it m m1 m2 m3 q v l n s el en es e1 e2 e3 =
    let t = top_of m q n s en es in e3 ∙ (simp (e2, e1, t, el, en))

pub give_back : (m m1 m2 m3 : List ℕ) (q s n : ℕ) → n ≡ free_height m q → m1 ≡ store_all m (address (segment s 0)) (0 ∷ 0 ∷ 0 ∷ []) → n < 256
    → m2 ≡ write m1 (free_segment n) s → m3 ≡ write m2 free_segments (n + 1) → m3 ≡ released m q s
unfolding released
give_back m m1 m2 m3 q s n en e1 h e2 e3 = e3 ∙ (simp (e2, e1, en)) ∙ sym (halt _ _ (lt-ltb _ _ (rw en at h)))

pub no_room : (m m1 : List ℕ) (q s n : ℕ) → n ≡ free_height m q → m1 ≡ store_all m (address (segment s 0)) (0 ∷ 0 ∷ 0 ∷ []) → 256 ≤ n
    → m1 ≡ released m q s
unfolding released
no_room m m1 q s n en e1 h = e1 ∙ sym (pass _ (le-ltb _ _ (rw en at h)) refl)
