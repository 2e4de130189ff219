-- WHAT A SINGLE PUSH DOES on words that can be pushed to: it moves and takes one off the room, or is refused with 9 because there is no room,
-- or with 2.
use Rattle.std.specs.Prelude.{◌≡◌, Bool, List, ℕ, ◌+◌, ◌-◌, ◌*◌, ◌<◌, ◌≤◌, leb, ltb}
use Rattle.std.proofs.Math.Path.{refl, ap, subst}
use Rattle.std.proofs.Common.{sym, ◌∙◌, arith, eqb-true, ltb-true, ltb-false, leb-false}
use Rattle.std.proofs.Math.Bool.{true, false, not}
use Rattle.std.proofs.Math.Nat.{zero-mul}
use Rattle.spec_words.specs.Words.{pass, halt, true_both}
use Rattle.spec_layout.specs.Layout.{NL, USER, count, length_of, free_height, tail, read}
use Rattle.spec_rules.specs.Views.{view}
use Rattle.spec_answers.specs.declared.Answer.TheVariants.{Moved, Refused}
use Rattle.spec_answers.specs.Answers.{Outcome, outcome}
use Rattle.spec_outcomes.specs.Segments.{stored, has_none_free, next_free}
use Rattle.spec_outcomes.specs.Views.{view_of, is_empty, tail_of, reducible, task_at, kind_at, just_before}
use Rattle.spec_outcomes.specs.Push.{pushed_apart, pushed_behind, pushed, capacity, ends_away}
use Rattle.spec_outcomes.proofs.RunOfOne.{some_free, empty_none}
use Rattle.law_push_runs.specs.Pushable.{Pushable}
use Rattle.law_push_runs.specs.NewTail.{new_low}
use Rattle.law_push_runs.specs.Ways.{tail_room, into_tail, into_pushable, into_capacity, end_behind, behind_pushable, behind_capacity}
use Rattle.law_push_runs.specs.Ways.{end_apart, apart_pushable, apart_capacity}

module _ (t q : ℕ) (ht : t < 128) (hq : q < 4) (m : List ℕ) (p : Pushable m t q) (v : ℕ) where
  pub data Pushes (o : Outcome) : Type 0 where
    moves : (n : List ℕ) → o ≡ outcome (Moved v) n → Pushable n t q → read n (tail USER t q) < NL → capacity n t q + 1 ≡ capacity m t q → Pushes o
    nine : o ≡ outcome (Refused 9) m → capacity m t q ≡ 0 → Pushes o
    -- "needs a reduction the paper leaves out"
    late : o ≡ outcome (Refused 2) m → is_empty (view_of m q t USER) ≡ true → Pushes o
    away : o ≡ outcome (Refused 2) m → ends_away (view_of m q t USER) ≡ true → Pushes o

  abbrev e : ℕ
  e = tail_of (view_of m q t USER)

  is_tail : read m (tail USER t q) ≡ e
  unfolding view_of tail_of
  is_tail = refl

  -- the user view is empty, and a segment is free
  apart : is_empty (view_of m q t USER) ≡ true → has_none_free m q ≡ false → Pushes (pushed_apart m t q v (just_before m q t))
  apart empty free = go (reducible (view_of m q (task_at (just_before m q t)) (kind_at (just_before m q t))) (view (next_free m q) NL)) refl
    where
      go : (b : Bool) → reducible (view_of m q (task_at (just_before m q t)) (kind_at (just_before m q t))) (view (next_free m q) NL) ≡ b
          → Pushes (pushed_apart m t q v (just_before m q t))
      go true f = unfold pushed_apart view_of in
          let some = some_free m t q free in
          let low = new_low m t q v p some in
          let end = end_apart m t q v p ht hq some empty f in
          moves _ (pass _ (ap not f) refl) (apart_pushable m t q v p ht hq some empty f) (omega (arith, low, end))
          (apart_capacity m t q v p ht hq some empty f)
      go false f = unfold pushed_apart in late (halt _ _ (ap not f)) empty

  -- its tail segment is full, and a segment is free
  behind : e < NL → length_of m e ≤ read m (count e) → has_none_free m q ≡ false → Pushes (pushed_behind m t q v e)
  unfolding pushed_behind
  behind local full free =
      let some = some_free m t q free in
      let low = new_low m t q v p some in
      let end = end_behind m t q v p ht hq some e is_tail local full in
      moves _ refl (behind_pushable m t q v p ht hq some e is_tail local full) (omega (arith, low, end))
      (behind_capacity m t q v p ht hq some e is_tail local full)

  into : e < NL → read m (count e) < length_of m e → Pushes (outcome (Moved v) (stored m e v))
  into local room =
      let end = into_tail m t q v p ht hq e is_tail local room in
      moves _ refl (into_pushable m t q v p ht hq e is_tail local room) (omega (arith, end, local)) (into_capacity m t q v p ht hq e is_tail local room)

  full_room : e < NL → length_of m e ≤ read m (count e) → has_none_free m q ≡ true → capacity m t q ≡ 0
  unfolding has_none_free
  full_room local full none =
      let a = tail_room m t q e is_tail local in
      let b = ap (λ (x : ℕ). x * length_of m e) (eqb-true (free_height m q) 0 none) ∙ zero-mul (length_of m e) in
      omega (arith, a, b, full)

  pub push_does : Pushes (pushed m t q v)
  push_does = go (is_empty (view_of m q t USER)) (has_none_free m q) refl refl
    where
      filled : is_empty (view_of m q t USER) ≡ false → leb NL e ≡ false → (b c : Bool) → ltb (read m (count e)) (length_of m e) ≡ b → has_none_free m q ≡ c
          → Pushes (pushed m t q v)
      filled ea en true c eb ec = unfold pushed in
          subst Pushes (sym (pass _ ea (pass _ en (halt _ _ eb)))) (into (leb-false NL e en) (ltb-true _ _ eb))
      filled ea en false true eb ec = unfold pushed in
          nine (pass _ ea (pass _ en (pass _ eb (halt _ _ ec)))) (full_room (leb-false NL e en) (ltb-false _ _ eb) ec)
      filled ea en false false eb ec = unfold pushed in
          subst Pushes (sym (pass _ ea (pass _ en (pass _ eb (pass _ ec refl))))) (behind (leb-false NL e en) (ltb-false _ _ eb) ec)

      ends : (b c : Bool) → is_empty (view_of m q t USER) ≡ false → leb NL e ≡ b → has_none_free m q ≡ c → Pushes (pushed m t q v)
      ends true c ea en ec = unfold pushed ends_away in away (pass _ ea (halt _ _ en)) (true_both (ap not ea) en)
      ends false c ea en ec = filled ea en _ c refl ec

      go : (a c : Bool) → is_empty (view_of m q t USER) ≡ a → has_none_free m q ≡ c → Pushes (pushed m t q v)
      go true true ea ec = unfold pushed in nine (halt _ _ ea ∙ halt _ _ ec) (empty_none m t q ea ec)
      go true false ea ec = unfold pushed in subst Pushes (sym (halt _ _ ea ∙ pass _ ec refl)) (apart ea ec)
      go false c ea ec = ends _ c ea refl ec
