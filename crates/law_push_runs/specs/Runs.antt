-- A RUN AS SINGLE PUSHES, on words that can be pushed to.
use Rattle.std.specs.Prelude.{◌≡◌, false}
use Rattle.std.proofs.Math.Path.{refl, ap, subst}
use Rattle.std.proofs.Common.{sym, ◌∙◌, true≢false, lt-ltb}
use mathlib.Core.List.{List, [], ◌∷◌, ◌++◌}
use Prim.Native.Nat.{ℕ, zero, suc, ◌+◌, ◌-◌, ◌<◌, ◌≤◌}
use native.Mathlib.Omega.{arith}
use Rattle.std.proofs.Math.ListN.{length}
use Rattle.std.proofs.lemmas.Bool.{lt-leb}
use Rattle.spec_words.specs.Words.{pass, halt, both_right_off}
use Rattle.spec_lists.specs.Maps.{last_of}
use Rattle.spec_layout.specs.Layout.{NL, USER, count, length_of, tail, read}
use Rattle.spec_answers.specs.declared.Answer.TheVariants.{Moved, Refused}
use Rattle.spec_answers.specs.Answers.{Outcome, outcome, words_of, when_moved}
use Rattle.spec_outcomes.specs.Segments.{stored, stored_all}
use Rattle.spec_outcomes.specs.Views.{view_of, is_empty, tail_of}
use Rattle.spec_outcomes.specs.Push.{pushed, pushed_all, capacity, ends_away}
use Rattle.law_push_runs.specs.Pushable.{Pushable}
use Rattle.law_push_runs.specs.NewTail.{tailed}
use Rattle.law_push_runs.specs.Ways.{into_tail, into_count, into_length, into_pushable}
use Rattle.law_push_runs.specs.Single.{Pushes, moves, nine, late, away, push_does}

-- the words that single pushes leave, one after another
unfoldable pub pushed_words : List ℕ → ℕ → ℕ → List ℕ → List ℕ
pushed_words m t q [] = m
pushed_words m t q (v ∷ vs) = pushed_words (words_of (pushed m t q v)) t q vs

pub words_append : (m : List ℕ) (t q : ℕ) (us vs : List ℕ) → pushed_words m t q (us ++ vs) ≡ pushed_words (pushed_words m t q us) t q vs
unfolding pushed_words
words_append m t q [] vs = refl
words_append m t q (u ∷ us) vs = words_append (words_of (pushed m t q u)) t q us vs

-- words that can be pushed to, whose user view ends in a segment
pub record Filled (t q : ℕ) (m : List ℕ) : Type 0 where
  pub words : Pushable m t q
  pub local : read m (tail USER t q) < NL

module _ (t q : ℕ) (ht : t < 128) (hq : q < 4) where
  -- then 2 does not come
  not_empty : {m : List ℕ} → Filled t q m → is_empty (view_of m q t USER) ≡ false
  not_empty {m} f = tailed m t q _ refl (let l = f.local in omega (arith, l))

  pub ends_here : {m : List ℕ} → Filled t q m → ends_away (view_of m q t USER) ≡ false
  unfolding ends_away view_of tail_of
  ends_here {m} f = both_right_off _ (lt-leb NL _ f.local)

  -- what one push more leaves
  pub record Next (m : List ℕ) (v : ℕ) : Type 0 where
    pub is : pushed m t q v ≡ outcome (Moved v) (words_of (pushed m t q v))
    pub filled : Filled t q (words_of (pushed m t q v))
    pub less : capacity (words_of (pushed m t q v)) t q + 1 ≡ capacity m t q

  moved : (m : List ℕ) (v : ℕ) (n : List ℕ) → pushed m t q v ≡ outcome (Moved v) n → Pushable n t q → read n (tail USER t q) < NL
      → capacity n t q + 1 ≡ capacity m t q → Next m v
  unfolding words_of
  moved m v n e p l c =
      let d : words_of (pushed m t q v) ≡ n = ap words_of e in
      record {
        is = e ∙ ap (outcome (Moved v)) (sym d);
        filled = subst (Filled t q) (sym d) (record { words = p; local = l });
        less = ap (λ (x : List ℕ). capacity x t q + 1) d ∙ c;
      }

  pub one_more : (m : List ℕ) (v : ℕ) → Filled t q m → 0 < capacity m t q → Next m v
  one_more m v f room = go (push_does t q ht hq m f.words v)
    where
      go : Pushes t q ht hq m f.words v (pushed m t q v) → Next m v
      go (moves n e p l c) = moved m v n e p l c
      go (nine e c) = let z : ⊥ = omega (arith, room, c) in absurd z
      go (late e a) = absurd (true≢false (sym a ∙ not_empty f))
      go (away e a) = absurd (true≢false (sym a ∙ ends_here f))

  none_left : (m : List ℕ) (v : ℕ) → Filled t q m → capacity m t q ≡ 0 → pushed m t q v ≡ outcome (Refused 9) m
  none_left m v f none = go (push_does t q ht hq m f.words v)
    where
      go : Pushes t q ht hq m f.words v (pushed m t q v) → pushed m t q v ≡ outcome (Refused 9) m
      go (moves n e p l c) = let z : ⊥ = omega (arith, none, c) in absurd z
      go (nine e c) = e
      go (late e a) = absurd (true≢false (sym a ∙ not_empty f))
      go (away e a) = absurd (true≢false (sym a ∙ ends_here f))

  -- A RUN THAT FITS moves, value by value
  pub record Fits (o m : List ℕ) (w : ℕ) (vs : List ℕ) : Type 0 where
    pub is : pushed_all o m t q w vs ≡ outcome (Moved (last_of w vs)) (pushed_words m t q vs)
    pub filled : Filled t q (pushed_words m t q vs)
    pub less : capacity (pushed_words m t q vs) t q + length vs ≡ capacity m t q

  pub fits : (vs o m : List ℕ) (w : ℕ) → Filled t q m → length vs ≤ capacity m t q → Fits o m w vs
  unfolding pushed_all pushed_words when_moved
  fits [] o m w f l = record { is = refl; filled = f; less = omega arith }
  fits (v ∷ vs) o m w f l =
      let a = one_more m v f (omega (arith, l)) in
      let c = a.less in
      let b = fits vs o (words_of (pushed m t q v)) v a.filled (omega (arith, l, c)) in
      let d = b.less in
      record {
        is = ap (λ (x : Outcome). when_moved o x (λ y n. pushed_all o n t q y vs)) a.is ∙ b.is;
        filled = b.filled;
        less = omega (arith, c, d);
      }

  -- A RUN THAT IS TOO LONG meets 9
  pub short : (vs o m : List ℕ) (w : ℕ) → Filled t q m → capacity m t q < length vs → pushed_all o m t q w vs ≡ outcome (Refused 9) o
  unfolding pushed_all when_moved
  short [] o m w f l = let z : ⊥ = omega (arith, l) in absurd z
  short (v ∷ vs) o m w f l = go (capacity m t q) refl (λ n g k. short vs o n v g k)
    where
      go : (k : ℕ) → capacity m t q ≡ k
          → ((n : List ℕ) → Filled t q n → capacity n t q < length vs → pushed_all o n t q v vs ≡ outcome (Refused 9) o)
          → when_moved o (pushed m t q v) (λ y n. pushed_all o n t q y vs) ≡ outcome (Refused 9) o
      go zero e more = unfold when_moved in ap (λ (x : Outcome). when_moved o x (λ y n. pushed_all o n t q y vs)) (none_left m v f e)
      go (suc k) e more = unfold when_moved in
          let a = one_more m v f (omega (arith, e)) in
          let c = a.less in
          ap (λ (x : Outcome). when_moved o x (λ y n. pushed_all o n t q y vs)) a.is
          ∙ more (words_of (pushed m t q v)) a.filled (omega (arith, c, l))

  -- VALUES STORED INTO THE TAIL SEGMENT are single pushes
  into_is : (m : List ℕ) (e v : ℕ) → read m (tail USER t q) ≡ e → e < NL → read m (count e) < length_of m e → pushed m t q v ≡ outcome (Moved v) (stored m e v)
  unfolding pushed view_of tail_of
  into_is m e v is l room =
      pass _ (tailed m t q e is (omega (arith, l)))
      (pass _ (lt-leb NL (read m (tail USER t q)) (omega (arith, is, l)))
      (halt _ _ (lt-ltb (read m (count (read m (tail USER t q)))) (length_of m (read m (tail USER t q))) (rw is room))
      ∙ ap (λ (x : ℕ). outcome (Moved v) (stored m x v)) is))

  pub stored_run : (ws m : List ℕ) (e : ℕ) → Pushable m t q → read m (tail USER t q) ≡ e → e < NL → read m (count e) + length ws ≤ length_of m e
      → stored_all m e ws ≡ pushed_words m t q ws
  unfolding stored_all pushed_words words_of
  stored_run [] m e p is l room = refl
  stored_run (w ∷ ws) m e p is l room =
      let r : read m (count e) < length_of m e = omega (arith, room) in
      let c = into_count m t q w p ht hq e is l r in
      let d = into_length m t q w p ht hq e is l r in
      stored_run ws (stored m e w) e (into_pushable m t q w p ht hq e is l r) (into_tail m t q w p ht hq e is l r) l (omega (arith, c, d, room))
      ∙ ap (λ (o : Outcome). pushed_words (words_of o) t q ws) (sym (into_is m e w is l r))

  -- THE FIRST VALUE of a run may meet 2; the run is the same single pushes where it does not.
  pub data Starts (m : List ℕ) (v : ℕ) (vs : List ℕ) : Type 0 where
    goes : Next m v → Starts m v vs
    stops : pushed m t q v ≡ outcome (Refused 9) m → capacity m t q ≡ 0 → Starts m v vs
    leaves_out : pushed m t q v ≡ outcome (Refused 2) m → Starts m v vs

  pub starts : (m : List ℕ) (v : ℕ) (vs : List ℕ) → Pushable m t q → Starts m v vs
  starts m v vs p = go (push_does t q ht hq m p v)
    where
      go : Pushes t q ht hq m p v (pushed m t q v) → Starts m v vs
      go (moves n e w l c) = goes (moved m v n e w l c)
      go (nine e c) = stops e c
      go (late e a) = leaves_out e
      go (away e a) = leaves_out e
