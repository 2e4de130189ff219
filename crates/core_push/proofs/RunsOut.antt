-- Whether a run finds room, by the words that are read.
use mathlib.Core.Path.{◌≡◌, refl, ap, ap₂, sym, ◌∙◌}
use mathlib.Core.Bool.{Bool, true, false, not}
use mathlib.Core.List.{List}
use mathlib.Core.Logic.{◌⊎◌, inl, inr, ⊎_elim}
use Prim.Native.Nat.{ℕ, ◌+◌, ◌-◌, ◌*◌, ◌<◌, ◌≤◌}
use native.Mathlib.Omega.{arith}
use native.Mathlib.Nat.{mul-le-mul, add-mul}
use lib.Dec.{leb, ltb}
use borrow.Author.Tests.{eq-eqb, ne_eqb, lt-ltb, le-ltb, le-leb, lt-leb}
use Rattle.spec_words.specs.Words.{both, both_on, both_off, both_right_off, true_both}
use Rattle.spec_lists.specs.Counting.{one, one_true, one_false}
use Rattle.spec_layout.specs.Layout.{NL, USER, count, length_of, free_height, head, tail, read}
use Rattle.spec_rules.specs.Views.{view}
use Rattle.spec_outcomes.specs.Segments.{has_none_free, next_free}
use Rattle.spec_outcomes.specs.Views.{view_of, is_empty, tail_of}
use Rattle.spec_outcomes.specs.Push.{link_frees, capacity, ends_away, runs_out}
use Rattle.spec_outcomes.proofs.RunOfOne.{empty_none, empty_room, filled_room}
use Rattle.law_push_runs.specs.Pushable.{Pushable}

-- no product of what is free and a length wraps
pub few_values : (m : List ℕ) (t q s f l : ℕ) → Pushable m t q → f ≡ free_height m q → l ≡ length_of m s → (f * l ≤ 16384) × (l ≤ 64)
few_values m t q s f l p ef el =
    let a = p.few in
    let b = (p.lengths s).1 in
    let c : f * l ≤ 256 * 64 = mul-le-mul (let z : f ≤ 256 = omega (arith, a, ef) in z) (let z : l ≤ 64 = omega (arith, b, el) in z) in
    (omega (arith, c), omega (arith, b, el))

-- the tail segment holds no more than its length
pub tail_count : (m : List ℕ) (t q : ℕ) {e l c : ℕ} → Pushable m t q → e ≡ read m (tail USER t q) → e < NL → l ≡ length_of m e → c ≡ read m (count e) → c ≤ l
tail_count m t q p ee low el ec =
    let a = rw (← ee) at (p.user (let z : read m (tail USER t q) < NL = omega (arith, ee, low) in z)).2 in omega (arith, a, el, ec)

pub not_local : (m : List ℕ) (e n : ℕ) → NL ≤ e → false ≡ both (ltb e NL) (leb n (length_of m e - read m (count e)))
not_local m e n h = sym (both_off _ (le-ltb e NL h))

pub tail_fits : (m : List ℕ) (e n : ℕ) {l c : ℕ} → e < NL → l ≡ length_of m e → c ≡ read m (count e)
    → leb n (l - c) ≡ both (ltb e NL) (leb n (length_of m e - read m (count e)))
tail_fits m e n h el ec = rw (el, ec) (sym (both_on (lt-ltb e NL h)))

-- THE USER VIEW IS EMPTY: f segments are free, of l places each
module _ (m : List ℕ) (t q n : ℕ) (empty : is_empty (view_of m q t USER) ≡ true) where
  by_room : {k : ℕ} → capacity m t q ≡ k → runs_out m t q n ≡ ltb k n
  unfolding runs_out ends_away
  by_room e = both_on (ap not (both_off _ (ap not empty))) ∙ ap (λ (x : ℕ). ltb x n) e

  pub none_free : {f : ℕ} → f ≡ free_height m q → f ≡ 0 → 0 < n → true ≡ runs_out m t q n
  none_free ef z l = sym (by_room (empty_none m t q empty (unfold has_none_free in eq-eqb _ _ (sym ef ∙ z))) ∙ lt-ltb 0 n l)

  module _ {f l s : ℕ} (ef : f ≡ free_height m q) (some : f ≡ 0 → ⊥) (es : s ≡ next_free m q) (el : l ≡ length_of m s) where
    room_is : {b : Bool} → b ≡ link_frees m t q → runs_out m t q n ≡ ltb ((f + one b) * l) n
    room_is eb =
        by_room (empty_room m t q empty (unfold has_none_free in ne_eqb _ _ (λ z. some (ef ∙ z)))
        ∙ ap₂ (λ (x y : ℕ). x * y) (ap₂ (λ (x : ℕ) (y : Bool). x + one y) (sym ef) (sym eb)) (sym el))

    freed : (b : Bool) → (((f + one b) * l ≡ f * l) × (b ≡ false)) ⊎ (((f + one b) * l ≡ f * l + l) × (b ≡ true))
    freed true = inr (let a = ap (λ (x : ℕ). (f + x) * l) (one_true {b = true} refl) in let c = add-mul f 1 l in omega (arith, a, c), refl)
    freed false = inl (let a = ap (λ (x : ℕ). (f + x) * l) (one_false {b = false} refl) in let c = add-mul f 0 l in omega (arith, a, c), refl)

    pub enough : n ≤ f * l → false ≡ runs_out m t q n
    enough h =
        sym (room_is refl ∙ le-ltb _ n
        (⊎_elim (λ w. let e = w.0 in omega (arith, e, h)) (λ w. let e = w.0 in omega (arith, e, h)) (freed (link_frees m t q))))

    pub too_few : f * l + l < n → true ≡ runs_out m t q n
    too_few h =
        sym (room_is refl ∙ lt-ltb _ n
        (⊎_elim (λ w. let e = w.0 in omega (arith, e, h)) (λ w. let e = w.0 in omega (arith, e, h)) (freed (link_frees m t q))))

    pub by_link : {b : Bool} → f * l < n → n ≤ f * l + l → b ≡ link_frees m t q → not b ≡ runs_out m t q n
    by_link {b} h g eb =
        ⊎_elim
        (λ w. let e = w.0 in ap not w.1 ∙ sym (room_is eb ∙ lt-ltb _ n (omega (arith, e, h))))
        (λ w. let e = w.0 in ap not w.1 ∙ sym (room_is eb ∙ le-ltb _ n (omega (arith, e, g))))
        (freed b)

-- IT IS NOT: e is its tail
module _ (m : List ℕ) (t q n : ℕ) {h e : ℕ} {b : Bool} (ee : e ≡ read m (tail USER t q)) (eh : h ≡ read m (head USER t q)) (eb : b ≡ is_empty (view h e)) where
  pub empty_same : b ≡ is_empty (view_of m q t USER)
  unfolding view_of
  empty_same = eb ∙ rw (eh, ee) refl

  pub ends_away_lem : b ≡ false → NL ≤ e → false ≡ runs_out m t q n
  unfolding runs_out ends_away view_of tail_of
  ends_away_lem f g = sym (both_off _ (ap not (true_both (ap not (sym empty_same ∙ f)) (le-leb NL _ (rw ee at g)))))

  pub by_tail : {l c f k : ℕ} → b ≡ false → e < NL → l ≡ length_of m e → c ≡ read m (count e) → f ≡ free_height m q → k ≡ l - c + f * l
      → ltb k n ≡ runs_out m t q n
  unfolding runs_out ends_away view_of tail_of
  by_tail f g el ec ef ek =
      ap (λ (x : ℕ). ltb x n) (ek ∙ rw (ec, ef, el, ee) refl ∙ sym (filled_room m t q (sym empty_same ∙ f)))
      ∙ sym (both_on (ap not (both_right_off _ (lt-leb NL _ (rw ee at g)))))
