-- The simulation has the first words that are lent for working, and the span's pass those behind them.
use mathlib.Core.Path.{◌≡◌, refl, ap, sym, ◌∙◌}
use mathlib.Core.Bool.{not}
use mathlib.Core.List.{List, ◌++◌}
use Prim.Native.Nat.{ℕ, ◌+◌, ◌-◌}
use native.Mathlib.Omega.{arith}
use lib.ListN.{length, take, drop, length-drop}
use lib.Seq.{length-take-le, take_all, take_at, drop_at}
use borrow.Author.Tests.{eq-eqb, ne_eqb}
use borrow.Table.Elements.{length_app}
use borrow.Rule.Slice.PartMut.{put_mid, mid_of, take_put}
use Rattle.spec_words.specs.Words.{size, halt, pass}
use Rattle.spec_simulate.specs.declared.Simulated.{Simulated}
use Rattle.spec_simulate.specs.declared.Simulated.TheVariants.{Refused}
use Rattle.spec_simulate.specs.Machine.{simulation, simulate_outcome}
use Rattle.spec_span.specs.Pass.{SPAN}
use Rattle.spec_span.specs.Listing.{listing, span_for, with_span, listed_outcome}

-- another number of words
pub wrong_size : (j table : List ℕ) (w : ℕ) (m r x : List ℕ) → (length x ≡ 525718 → ⊥)
    → listing (Refused 1) 0 m r (take 128 x) ≡ listed_outcome j table w m r x
unfolding listed_outcome size
wrong_size j table w m r x h = sym (halt _ _ (ap not (ne_eqb _ _ h)))

-- the first words are as many as the ends
pub first_part : (x : List ℕ) → length x ≡ 525718 → 128 ≡ length (take 128 x)
first_part x h = sym (length-take-le 128 x (omega (arith, h)))

module _ (x e : List ℕ) (full : length x ≡ 525718) (many : length e ≡ length (take 128 x)) where
  count : length e ≡ 128
  count = many ∙ sym (first_part x full)

  total : length (e ++ drop 128 x) ≡ 128 + length (drop 128 x)
  total = length_app e (drop 128 x) ∙ ap (λ (n : ℕ). n + length (drop 128 x)) count

  -- what is lent to the pass
  behind : mid_of 128 (length (e ++ drop 128 x) - 128) (e ++ drop 128 x) ≡ drop 128 x
  behind =
      ap (take (length (e ++ drop 128 x) - 128)) (drop_at e (drop 128 x) 128 count)
      ∙ take_all (length (e ++ drop 128 x) - 128) (drop 128 x) (let t = total in omega (arith, t))

  pub second_part : length (mid_of 128 (length (e ++ drop 128 x) - 128) (e ++ drop 128 x)) ≡ SPAN
  second_part = let b = ap (λ (l : List ℕ). length l) behind in let d = length-drop 128 x in omega (arith, b, d, full)

  -- the pass leaves the ends
  before : (k : ℕ) (y : List ℕ) → take 128 (put_mid 128 k (e ++ drop 128 x) y) ≡ e
  before k y = take_put 128 k (e ++ drop 128 x) y (let t = total in omega (arith, t)) ∙ take_at e (drop 128 x) 128 count

  pub is_listed : (j table : List ℕ) (w : ℕ) (m r y : List ℕ) {a : Simulated} {n : ℕ} {m1 r1 : List ℕ}
      → simulation a m1 r1 e ≡ simulate_outcome j table w m r (take 128 x)
      → n ≡ span_for j table (mid_of 128 (length (e ++ drop 128 x) - 128) (e ++ drop 128 x)) a
      → listing a n m1 r1 (take 128 (put_mid 128 (length (e ++ drop 128 x) - 128) (e ++ drop 128 x) y)) ≡ listed_outcome j table w m r x
  is_listed j table w m r y {a} {n} {m1} {r1} done span =
      ap (λ (l : List ℕ). listing a n m1 r1 l) (before (length (e ++ drop 128 x) - 128) y)
      ∙ ap (λ (i : ℕ). listing a i m1 r1 e) (span ∙ ap (λ (l : List ℕ). span_for j table l a) behind)
      ∙ with_it
      ∙ right_size
    where
      with_it : listing a (span_for j table (drop 128 x) a) m1 r1 e ≡ with_span j table (drop 128 x) (simulate_outcome j table w m r (take 128 x))
      with_it = unfold with_span in ap (with_span j table (drop 128 x)) done

      right_size : with_span j table (drop 128 x) (simulate_outcome j table w m r (take 128 x)) ≡ listed_outcome j table w m r x
      right_size = unfold listed_outcome size in sym (pass _ (ap not (eq-eqb (length x) 525718 full)) refl)
