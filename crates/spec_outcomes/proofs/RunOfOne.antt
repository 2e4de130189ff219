-- "a single push is a run of one"
use Rattle.std.specs.Prelude.{◌≡◌, Bool, true, List, [], ◌∷◌, ℕ, ◌+◌, ◌-◌, ◌*◌, ◌<◌, ◌≤◌, ltb}
use Rattle.std.proofs.Math.Path.{refl, ap, sym}
use Rattle.std.proofs.Common.{◌∙◌, arith, mul-le-mul}
use Rattle.std.proofs.Math.Bool.{false, not}
use Rattle.std.proofs.Math.Logic.{⊎_elim}
use Rattle.std.proofs.Math.Nat.{zero-mul}
use borrow.Author.Tests.{eqb-true, eqb-false, lt-ltb, le-ltb, not-true}
use Rattle.spec_words.specs.Words.{pick, pass, halt, both, both_true, both_on, both_right_on, both_right_off, true_both, either, true_left}
use Rattle.spec_lists.specs.Counting.{one, below?}
use Rattle.spec_layout.specs.Layout.{USER, count, length_of, free_height, read}
use Rattle.spec_answers.specs.declared.Answer.TheVariants.{Moved, Empty, Waits, Refused}
use Rattle.spec_answers.specs.Answers.{Outcome, outcome, when_moved}
use Rattle.spec_outcomes.specs.Segments.{has_none_free, next_free}
use Rattle.spec_outcomes.specs.Views.{view_of, is_empty, tail_of}
use Rattle.spec_outcomes.specs.Push.{needs_segment, pushed, pushed_all, link_frees, capacity, ends_away, runs_out, pushed_run}
use Rattle.spec_outcomes.proofs.Keeps.{Keeps, keeps_pushed}

some_product : (a l : ℕ) → 0 < a → 0 < l → 0 < a * l
some_product a l h g = let e : 1 * 1 ≤ a * l = mul-le-mul h g in omega (arith, e)

module _ (m : List ℕ) (t q : ℕ) where
  abbrev e : ℕ
  e = tail_of (view_of m q t USER)

  abbrev room : ℕ
  room = length_of m e - read m (count e) + free_height m q * length_of m e

  pub some_free : has_none_free m q ≡ false → 0 < free_height m q
  unfolding has_none_free
  some_free f = let n = eqb-false (free_height m q) 0 f in omega (arith, n)

  -- the room and the need of a user view that is empty, and of one that is not
  pub empty_none : is_empty (view_of m q t USER) ≡ true → has_none_free m q ≡ true → capacity m t q ≡ 0
  unfolding capacity
  empty_none ea eb = halt _ _ ea ∙ halt _ _ eb

  pub empty_room : is_empty (view_of m q t USER) ≡ true → has_none_free m q ≡ false
      → capacity m t q ≡ (free_height m q + one (link_frees m t q)) * length_of m (next_free m q)
  unfolding capacity
  empty_room ea eb = halt _ _ ea ∙ pass _ eb refl

  pub filled_room : is_empty (view_of m q t USER) ≡ false → capacity m t q ≡ room
  unfolding capacity
  filled_room ea = pass _ ea refl

  needs_empty : is_empty (view_of m q t USER) ≡ true → needs_segment m t q ≡ true
  unfolding needs_segment
  needs_empty ea = true_left _ ea

  needs_filled : is_empty (view_of m q t USER) ≡ false → needs_segment m t q ≡ not (ltb (read m (count e)) (length_of m e))
  unfolding needs_segment either
  needs_filled ea = pass _ ea refl

  -- where there is none a single push is refused with 9
  pub no_value : (v : ℕ) → ends_away (view_of m q t USER) ≡ false → both (needs_segment m t q) (has_none_free m q) ≡ true → pushed m t q v ≡ outcome (Refused 9) m
  no_value v local none = go (is_empty (view_of m q t USER)) refl
    where
      go : (a : Bool) → is_empty (view_of m q t USER) ≡ a → pushed m t q v ≡ outcome (Refused 9) m
      go true ea = unfold pushed in halt _ _ ea ∙ halt _ _ (both_true _ _ none).1
      go false ea = unfold pushed ends_away in
          pass _ ea (pass _ (sym (both_on (ap not ea)) ∙ local)
          (pass _ (not-true _ (sym (needs_filled ea) ∙ (both_true _ _ none).0)) (halt _ _ (both_true _ _ none).1)))

  -- a run that ends with this call
  settled : (o : Outcome) → Keeps m o → when_moved m o (λ x n. outcome (Moved x) n) ≡ o
  unfolding when_moved
  settled (outcome (Moved v) n) k = refl
  settled (outcome Empty n) k = ap (outcome Empty) (sym k)
  settled (outcome Waits n) k = ap (outcome Waits) (sym k)
  settled (outcome (Refused j) n) k = ap (outcome (Refused j)) (sym k)

module _ (m : List ℕ) (t q : ℕ) (wide : (s : ℕ) → 0 < length_of m s) where
  -- THERE IS NO ROOM for a value exactly where a push needs a segment and none is free.
  pub no_room : ltb (capacity m t q) 1 ≡ both (needs_segment m t q) (has_none_free m q)
  no_room = go (is_empty (view_of m q t USER)) (has_none_free m q) refl refl
    where
      full : has_none_free m q ≡ true → ltb (room m t q) 1 ≡ not (ltb (read m (count (e m t q))) (length_of m (e m t q)))
      full f = unfold has_none_free in
          let z = eqb-true (free_height m q) 0 f in
          let p : free_height m q * length_of m (e m t q) ≡ 0 = ap (λ (x : ℕ). x * length_of m (e m t q)) z ∙ zero-mul (length_of m (e m t q)) in
          ⊎_elim
          (λ h. le-ltb (room m t q) 1 (omega (arith, h)) ∙ sym (ap not (lt-ltb _ _ h)))
          (λ h. lt-ltb (room m t q) 1 (omega (arith, h, p)) ∙ sym (ap not (le-ltb _ _ h)))
          (below? (read m (count (e m t q))) (length_of m (e m t q)))

      go : (a b : Bool) → is_empty (view_of m q t USER) ≡ a → has_none_free m q ≡ b → ltb (capacity m t q) 1 ≡ both (needs_segment m t q) (has_none_free m q)
      go true true ea eb = ap (λ (x : ℕ). ltb x 1) (empty_none m t q ea eb) ∙ sym (true_both (needs_empty m t q ea) eb)
      go true false ea eb =
          ap (λ (x : ℕ). ltb x 1) (empty_room m t q ea eb)
          ∙ le-ltb _ 1 (some_product (free_height m q + one (link_frees m t q)) _ (let h = some_free m t q eb in omega (arith, h)) (wide (next_free m q)))
          ∙ sym (both_right_off (needs_segment m t q) eb)
      go false true ea eb =
          ap (λ (x : ℕ). ltb x 1) (filled_room m t q ea) ∙ full eb ∙ sym (both_right_on (needs_segment m t q) eb ∙ needs_filled m t q ea)
      go false false ea eb =
          ap (λ (x : ℕ). ltb x 1) (filled_room m t q ea)
          ∙ le-ltb (room m t q) 1 (let h = some_product _ _ (some_free m t q eb) (wide (e m t q)) in omega (arith, h))
          ∙ sym (both_right_off (needs_segment m t q) eb)

  -- A RUN OF ONE is a single push.
  pub run_of_one : (v : ℕ) → pushed_run m t q (v ∷ []) ≡ pushed m t q v
  unfolding pushed_run pushed_all
  run_of_one v = go (runs_out m t q 1) refl
    where
      all_is : when_moved m (pushed m t q v) (λ x n. outcome (Moved x) n) ≡ pushed m t q v
      all_is = settled m t q (pushed m t q v) (keeps_pushed m t q v)

      go : (b : Bool) → runs_out m t q 1 ≡ b
          → pick (runs_out m t q 1) (outcome (Refused 9) m) (when_moved m (pushed m t q v) (λ x n. outcome (Moved x) n)) ≡ pushed m t q v
      go true f = unfold runs_out in
          let w = both_true _ _ f in
          halt _ _ f ∙ sym (no_value m t q v (not-true _ w.0) (sym no_room ∙ w.1))
      go false f = pass _ f all_is
