-- What the tests before that of the views have found, and what the code needs of it.
use Rattle.std.specs.Prelude.{◌≡◌, refl, Bool, true, false, ℕ, zero, suc, ◌-◌, ◌<◌, ◌≤◌, leb, length, get_or, replicate}
use Rattle.std.proofs.Math.Path.{ap, sym, subst⁻¹}
use Rattle.std.proofs.Common.{◌∙◌, ⊎_elim, arith, le_of_suc-le-suc}
use mathlib.Core.List.{List, [], ◌∷◌}
use Rattle.std.proofs.Math.ListN.{set}
use borrow.Author.Tests.{le-leb, leb-true, leb-false}
use Rattle.spec_words.specs.Words.{load, store, size, pass, halt, both_true, both_on, both_off}
use Rattle.spec_lists.specs.Tests.{upto}
use Rattle.spec_lists.specs.Distinct.{distinct, Distinct, distinct_says}
use Rattle.spec_lists.specs.Marks.{marking}
use Rattle.spec_layout.specs.Layout.{WORDS, length_word, number_word, address, read}
use Rattle.spec_tree.specs.Tour.{END, after, tour}
use Rattle.spec_rules.specs.Contents.{decode}
use Rattle.spec_rules.specs.Test.{within, in_range, top_test, idle_test, tree_test, segment_test, view_tests}
use Rattle.spec_rules.specs.Held.{stack_test, held_count}
use Rattle.spec_rules.proofs.Held.{held_free, free_left}
use Rattle.law_rules_views.specs.Marks.{yes_no}
use Rattle.spec_view_events.specs.Events.{events}
use Rattle.spec_view_events.specs.Run.{PLACED, run}
use Rattle.spec_view_events.specs.Sees.{Ready}
use Rattle.spec_view_events.specs.Walk.{Marks}
use Rattle.spec_view_events.specs.Parts.{number_at}
use Rattle.law_view_events.specs.Whole.{coded, marks, views_same}

-- The opening numbers are in range, the stack of free segments is right, the tests of the top, of the free records and of the
-- tree have passed, and xs are the marks of the tour.
pub record Begun (m xs : List ℕ) : Type 0 where
  pub words : size m ≡ WORDS
  pub range : in_range (read m length_word) (read m number_word) ≡ true
  pub stack : stack_test (decode m) ≡ true
  pub top : top_test (decode m) ≡ true
  pub idle : idle_test (decode m) ≡ true
  pub tree : tree_test (decode m) (marks (decode m)) 0 ≡ true
  pub toured : xs ≡ tour (marks (decode m)) (decode m).recs 0

tour_below : (k : ℕ) (recs : ℕ → List ℕ) (x : ℕ) → Marks (tour k recs x)
unfolding tour
tour_below zero recs x = λ i l. let z : ⊥ = omega arith in absurd z
tour_below (suc k) recs x =
    ⊎_elim
    (λ e. subst⁻¹ (λ (l : List ℕ). Marks l) (halt _ _ e) none)
    (λ e. subst⁻¹ (λ (l : List ℕ). Marks l) (pass _ e refl) (more (leb-false _ _ e) (tour_below k recs (after recs x))))
    (yes_no (leb END x))
  where
    none : Marks []
    none i l = let z : ⊥ = omega arith in absurd z

    more : x < END → Marks (tour k recs (after recs x)) → Marks (x ∷ tour k recs (after recs x))
    more h f zero l = h
    more h f (suc i) l = f i (le_of_suc-le-suc l)

module _ (m xs : List ℕ) (b : Begun m xs) where
  most : read m number_word ≤ 256
  unfolding in_range within
  most =
      let a = both_true _ _ b.range in
      let d = both_true _ _ a.1 in
      leb-true _ _ (both_true _ _ d.0).1

  pub ready : Ready m
  unfolding size read address load
  ready = (b.words, most)

  pub below : Marks xs
  below = subst⁻¹ (λ (l : List ℕ). Marks l) b.toured (tour_below (marks (decode m)) (decode m).recs 0)

  once : Distinct (decode m).number (decode m).free
  unfolding stack_test
  once = distinct_says (decode m).number (decode m).free most b.stack

  pub few : leb (length (decode m).free) (decode m).number ≡ true
  few = le-leb (length (decode m).free) (decode m).number (let a = held_free (decode m) once in omega (arith, a))

  law : coded (decode m) xs ≡ view_tests (decode m) xs
  law =
      ap (coded (decode m)) b.toured
      ∙ views_same (decode m) most few b.top b.idle b.tree
      ∙ ap (view_tests (decode m)) (sym b.toured)

  -- the code's two steps
  module _ {x : Bool} (segs : x ≡ upto (segment_test (decode m)) (get_or m 1 0) 0) where
    first : upto (segment_test (decode m)) (decode m).number 0 ≡ x
    first = sym (segs ∙ ap (λ (k : ℕ). upto (segment_test (decode m)) k 0) (number_at m))

    pub no_segments : x ≡ false → false ≡ view_tests (decode m) xs
    unfolding coded
    no_segments e = sym (both_off _ (first ∙ e)) ∙ law

    pub all_views : (d w : List ℕ) → x ≡ true → d ≡ marking (decode m).free (replicate 256 0)
        → w ≡ set (replicate 12 0) PLACED (get_or m 1 0 - held_count (decode m))
        → run (decode m) (events (decode m) xs) d d w ≡ view_tests (decode m) xs
    unfolding coded stack_test distinct store
    all_views d w good p e =
        ap (λ (l : List ℕ). run (decode m) (events (decode m) xs) l l w) p
        ∙ ap
        (run (decode m) (events (decode m) xs) (marking (decode m).free (replicate 256 0)) (marking (decode m).free (replicate 256 0)))
        (e ∙ ap (λ (k : ℕ). set (replicate 12 0) PLACED (k - held_count (decode m))) (number_at m)
        ∙ ap (set (replicate 12 0) PLACED) (free_left (decode m) once))
        ∙ sym (both_on (first ∙ good) ∙ both_on b.stack)
        ∙ law
