-- A run part by part: into the tail segment, or into a new one behind it.
use mathlib.Core.Path.{◌≡◌, ap, sym, ◌∙◌, subst}
use mathlib.Core.List.{List, [], ◌∷◌}
use Prim.Native.Nat.{ℕ, suc, ◌+◌, ◌-◌, ◌*◌, ◌<◌, ◌≤◌}
use native.Mathlib.Omega.{arith}
use native.Mathlib.Nat.{zero-mul, eq-zero-or-pos}
use native.Mathlib.Numerals.{add-one}
use mathlib.Core.Logic.{⊎_elim}
use lib.ListN.{length, get_or, take, drop, length-drop}
use lib.Seq.{take_all, drop-cons, length-take-le}
use borrow.Author.Tests.{ne_eqb, lt-leb, le-ltb}
use Rattle.spec_words.specs.Words.{size, pass}
use Rattle.spec_layout.specs.Layout.{NL, USER, count, length_of, Opened, ValuesFit, free_height, tail, read}
use Rattle.spec_answers.specs.declared.Answer.TheVariants.{Moved}
use Rattle.spec_answers.specs.Answers.{Outcome, outcome, words_of}
use Rattle.spec_outcomes.specs.Segments.{stored_all, has_none_free, next_free}
use Rattle.spec_outcomes.specs.Views.{view_of, tail_of}
use Rattle.spec_outcomes.specs.Push.{pushed_behind, pushed, capacity}
use Rattle.segments.specs.Runs.{Storable, fitting}
use Rattle.law_push_runs.specs.Pushable.{Pushable}
use Rattle.law_push_runs.specs.NewTail.{tailed, new_opened}
use Rattle.law_push_runs.specs.Ways.{tail_room, end_behind}
use Rattle.law_push_runs.specs.Runs.{pushed_words, Filled, Next, one_more, stored_run}

-- the part of a slice from number i on
pub slice_rest : (vs : List ℕ) (i : ℕ) → take (length vs - i) (drop i vs) ≡ drop i vs
slice_rest vs i = take_all (length vs - i) (drop i vs) (let e = length-drop i vs in omega (arith, e))

-- what taking a segment asks, where one is free
abbrev pub CanTake : List ℕ → ℕ → Type 0
CanTake m q = (size m ≡ 16384) × (0 < free_height m q) × (Opened m (next_free m q)) × (0 < length_of m (next_free m q)) × (ValuesFit m)

pub takes : (m : List ℕ) (t q : ℕ) → Pushable m t q → 0 < free_height m q → CanTake m q
takes m t q p some = (p.words, some, new_opened m t q 0 p some, (p.lengths (next_free m q)).0, p.fit)

module _ (t q : ℕ) (ht : t < 128) (hq : q < 4) where
  pub storable : (m : List ℕ) {e : ℕ} → Filled t q m → e ≡ read m (tail USER t q) → Storable m e
  storable m {e} f ee =
      let w = rw (← ee) at (f.words.user f.local) in
      let a = w.0 in
      let b = f.words.number in
      record {
        whole = f.words.words;
        below = omega (arith, a, b);
        opened = a;
        values_fit = f.words.fit;
        first_inside = w.1;
        count_inside = w.2;
      }

  -- how many of some values fit
  fit_few : (m : List ℕ) (e n k : ℕ) → k ≡ fitting m e n → (k ≤ n) × (k ≤ length_of m e - read m (count e))
  unfolding fitting
  fit_few m e n k ek = (omega (arith, ek), omega (arith, ek))

  pub into_run : (m : List ℕ) (e k : ℕ) (vs : List ℕ) → Filled t q m → e ≡ read m (tail USER t q) → k ≡ fitting m e (length vs)
      → stored_all m e (take k vs) ≡ pushed_words m t q (take k vs)
  into_run m e k vs f ee ek =
      let w = fit_few m e (length vs) k ek in
      let a = w.0 in
      let b = w.1 in
      let l = f.local in
      let c = (storable m f ee).count_inside in
      let d = length-take-le k vs a in
      stored_run t q ht hq (take k vs) m e f.words (sym ee) (omega (arith, ee, l)) (omega (arith, b, c, d))

  -- INTO THE TAIL SEGMENT
  pub part_into : (m : List ℕ) {e k c l : ℕ} {n : List ℕ} (vs : List ℕ) → Filled t q m → e ≡ read m (tail USER t q) → c ≡ read m (count e) → l ≡ length_of m e
      → c < l → 0 < length vs → (k ≡ fitting m e (length vs)) × (n ≡ stored_all m e (take k vs))
      → (0 < k) × (k ≤ length vs) × (n ≡ pushed_words m t q (take k vs))
  unfolding fitting
  part_into m {e} {k} vs f ee ec el room some w =
      let a = w.0 in
      (omega (arith, a, ec, el, room, some), (fit_few m e (length vs) k w.0).0, w.1 ∙ into_run m e k vs f ee w.0)

  -- BEHIND IT: it is full, and there is room
  module _ (m : List ℕ) {e c l j : ℕ} (f : Filled t q m) (ee : e ≡ read m (tail USER t q)) (ec : c ≡ read m (count e)) (el : l ≡ length_of m e) (full : l ≤ c)
      (some : 0 < j) (room : j ≤ capacity m t q) where
    free : 0 < free_height m q
    free =
        ⊎_elim
        (λ z.
        let a = tail_room m t q e (sym ee) (let l = f.local in omega (arith, ee, l)) in
        let b = ap (λ (x : ℕ). x * length_of m e) z ∙ zero-mul (length_of m e) in
        let y : ⊥ = omega (arith, a, b, ec, el, full, some, room) in
        absurd y)
        (λ h. h)
        (eq-zero-or-pos (free_height m q))

    pub can_take : CanTake m q
    can_take = takes m t q f.words free

    module _ {s v : ℕ} {n : List ℕ} (w : (s ≡ next_free m q) × (outcome (Moved v) n ≡ pushed_behind m t q v e)) where
      next : Next t q ht hq m v
      next = one_more t q ht hq m v f (omega (arith, some, room))

      words_are : n ≡ words_of (pushed m t q v)
      unfolding words_of
      words_are = ap words_of (w.1 ∙ sym behind)
        where
          behind : pushed m t q v ≡ pushed_behind m t q v e
          behind = unfold pushed view_of tail_of in
              let l = f.local in
              pass _ (tailed m t q e (sym ee) (omega (arith, ee, l)))
              (pass _ (lt-leb NL (read m (tail USER t q)) l)
              (pass _ (le-ltb (read m (count (read m (tail USER t q)))) (length_of m (read m (tail USER t q))) (rw (← ee) (omega (arith, ec, el, full))))
              (pass _ (unfold has_none_free in ne_eqb (free_height m q) 0 (let h = free in λ z. omega (arith, z, h)))
              (ap (pushed_behind m t q v) (sym ee)))))

      pub new_filled : Filled t q n
      new_filled = subst (Filled t q) (sym words_are) next.filled

      pub new_tail : s ≡ read n (tail USER t q)
      unfolding pushed_behind words_of
      new_tail =
          w.0
          ∙ sym (end_behind m t q v f.words ht hq free e (sym ee) (let l = f.local in omega (arith, ee, l)) (omega (arith, ec, el, full)))
          ∙ sym (ap (λ (x : Outcome). read (words_of x) (tail USER t q)) w.1)

      pub part_of_one : (vs : List ℕ) → j ≡ length vs → length vs ≡ 1 → v ≡ get_or vs 0 0
          → (0 < 1) × (1 ≤ length vs) × (n ≡ pushed_words m t q (take 1 vs))
      unfolding pushed_words
      part_of_one vs ej one ev = (
        omega arith,
        omega (arith, one),
        words_are
            ∙ ap (pushed_words m t q) (ap (λ (x : ℕ). x ∷ []) ev ∙ sym (ap (take 1) (drop-cons vs 0 0 (omega (arith, one))))),
      )

      pub part_behind : {k : ℕ} {n2 : List ℕ} (vs : List ℕ) → j ≡ length vs → v ≡ get_or vs 0 0
          → (k ≡ fitting n s (length (take (length vs - 1) (drop 1 vs)))) × (n2 ≡ stored_all n s (take k (take (length vs - 1) (drop 1 vs))))
          → (0 < k + 1) × (k + 1 ≤ length vs) × (n2 ≡ pushed_words m t q (take (k + 1) vs))
      unfolding pushed_words
      part_behind {k} {n2} vs ej ev z =
          let ws = take (length vs - 1) (drop 1 vs) in
          let e1 = slice_rest vs 1 in
          let a = (fit_few n s (length ws) k z.0).0 in
          let b = ap length e1 ∙ length-drop 1 vs in (
            omega arith,
            omega (arith, a, b, ej, some),
            z.1 ∙ into_run n s k ws new_filled new_tail z.0 ∙ ap (λ (x : List ℕ). pushed_words x t q (take k ws)) words_are
                ∙ ap (pushed_words m t q) (ap (λ (x : List ℕ). v ∷ take k x) e1 ∙ sym whole),
          )
        where
          whole : take (k + 1) vs ≡ v ∷ take k (drop 1 vs)
          whole =
              ap (λ (j : ℕ). take j vs) (add-one k) ∙ ap (take (suc k)) (drop-cons vs 0 0 (omega (arith, ej, some))) ∙ ap (λ (x : ℕ). x ∷ take k (drop 1 vs)) (sym ev)

      pub part_small : {k : ℕ} (i : ℕ) → k ≡ fitting n s i → k ≤ 64
      unfolding fitting
      part_small i ek = let b = (new_filled.words.lengths s).1 in omega (arith, ek, b)
