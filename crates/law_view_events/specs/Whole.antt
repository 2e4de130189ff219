-- THE CODE'S TEST of views and segments says what `view_tests` says.
use Rattle.std.specs.Prelude.{◌≡◌, refl, Bool, true, List, ℕ, ◌+◌, ◌-◌, ◌*◌, ◌^◌, ◌<◌, ◌≤◌, leb, length, replicate}
use Rattle.std.proofs.Math.Path.{sym}
use Rattle.std.proofs.Common.{◌∙◌, arith}
use Rattle.std.proofs.Math.Dec.{eqb}
use borrow.Author.Tests.{eq-eqb, eqb-true, leb-true}
use Rattle.spec_words.specs.Words.{load, store, size, both, both_true, true_both, same_test}
use Rattle.spec_lists.specs.Counting.{occurrences}
use Rattle.spec_lists.specs.Tests.{upto}
use Rattle.spec_lists.specs.Distinct.{fresh}
use Rattle.spec_tree.specs.Tour.{tour, entered}
use Rattle.spec_tree.specs.Queues.{each_queue_lem, queue_each, by_four}
use Rattle.spec_rules.specs.Contents.{Contents, heads, tails, owners}
use Rattle.spec_rules.specs.Test.{top_test, idle_test, tree_test, order_of, order_test, owners_test, segment_test, view_tests}
use Rattle.law_rules_tasks.specs.Tested.{idle_says}
use Rattle.law_rules_tasks.specs.Visits.{marks_once}
use Rattle.law_rules_tasks.specs.Tasks.{tour_whole, entered_holders, marks_held, holders_exited}
use Rattle.law_rules_views.specs.Toured.{Toured}
use Rattle.spec_view_events.specs.Events.{events}
use Rattle.spec_view_events.specs.Run.{PLACED, run}
use Rattle.law_view_events.specs.Good.{tails_of, heads_of}
use Rattle.law_view_events.specs.State.{Reads}
use Rattle.law_view_events.specs.Says.{run_says, says_run}
use Rattle.law_view_events.specs.Marks.{order_marks, owners_marks, queued_marks}
use Rattle.law_view_events.specs.Toured.{heads_same, tails_same, words_there, words_back}
use Rattle.law_view_events.specs.Held.{D, holds_held, held_holds, held_counts}

-- the state at the start, where n segments are free
abbrev pub W : ℕ → List ℕ
W n = store (replicate 12 0) PLACED n

-- the test that the code makes
unfoldable pub coded : Contents → List ℕ → Bool
coded c xs =
    both (upto (segment_test c) c.number 0) (both (fresh c.number c.free (replicate 256 0))
    (run c (events c xs) (D c) (D c) (W (length c.free))))

reads_start : (n : ℕ) → n < 2 ^ 32 → Reads (W n) (λ q. 0) (λ q. 0) n 0 0
unfolding load store size
reads_start n l =
    record {
      room = refl;
      order = by_four (λ q. load (W n) q ≡ 0) refl refl refl refl;
      owner = by_four (λ q. load (W n) (4 + q) ≡ 0) refl refl refl refl;
      placed = refl;
      heads = refl;
      tails = refl;
      placed_fits = l;
      heads_fits = omega arith;
      tails_fits = omega arith;
    }

module _ (c : Contents) (xs : List ℕ) (small : c.number ≤ 256) (few : leb (length c.free) c.number ≡ true)
    (v : Toured c xs) (once : (y : ℕ) → occurrences y xs ≤ 1) where
  abbrev n : ℕ
  n = length c.free

  start : Reads (W n) (λ q. 0) (λ q. 0) n 0 0
  start = reads_start n (let a = leb-true (length c.free) c.number few in omega (arith, a, small))

  coded_tests : coded c xs ≡ true → view_tests c xs ≡ true
  unfolding coded view_tests order_test owners_test
  coded_tests e =
      let a = both_true _ _ e in
      let b = both_true _ _ a.1 in
      let g = run_says c small (events c xs) (D c) (D c) (W n) (queued_marks c xs) start b.1 in
      true_both (words_there c xs v once g.words)
      (true_both (queue_each _ (λ q l. eq-eqb _ _ (sym (order_marks c q xs 0 l) ∙ g.ordered q l)))
      (true_both (queue_each _ (λ q l. eq-eqb (length (owners c q (entered xs))) 1 (let k = owners_marks c q xs l in let j = g.owned q l in omega (arith, k, j))))
      (true_both a.0
      (held_counts c small (heads_of (events c xs)) (tails_of (events c xs)) (heads c (entered xs)) (tails c (entered xs)) few a.0
      (λ s. sym (heads_same c xs v once s)) (λ s. sym (tails_same c xs v once s))
      (holds_held c small (heads_of (events c xs)) (tails_of (events c xs)) (record { free = b.0; heads = g.heads; tails = g.tails; many = g.many }))))))

  tests_coded : view_tests c xs ≡ true → coded c xs ≡ true
  unfolding coded view_tests order_test owners_test
  tests_coded e =
      let a = both_true _ _ e in
      let b = both_true _ _ a.1 in
      let d = both_true _ _ b.1 in
      let f = both_true _ _ d.1 in
      let h =
      held_holds c small (heads_of (events c xs)) (tails_of (events c xs))
      (held_counts c small (heads c (entered xs)) (tails c (entered xs)) (heads_of (events c xs)) (tails_of (events c xs)) few f.0
      (heads_same c xs v once) (tails_same c xs v once) f.1) in
      true_both f.0 (true_both h.free
      (says_run c small (events c xs) (D c) (D c) (W n) (queued_marks c xs) start
      (record {
        words = words_back c xs v once a.0;
        ordered = λ q l. order_marks c q xs 0 l ∙ eqb-true _ _ (each_queue_lem (λ p. eqb (order_of c p xs 0) 1) b.0 q l);
        owned = λ q l.
            let k = owners_marks c q xs l in
            let j = eqb-true (length (owners c q (entered xs))) 1 (each_queue_lem (λ p. eqb (length (owners c p (entered xs))) 1) d.0 q l) in
            omega (arith, k, j);
        heads = h.heads;
        tails = h.tails;
        many = h.many;
      })))

  pub coded_same : coded c xs ≡ view_tests c xs
  coded_same = same_test _ _ coded_tests tests_coded

-- as many marks as the tour of all tasks that are not free has
abbrev pub marks : Contents → ℕ
marks c = 2 * (128 - length c.idle)

-- THE LAW, where the tests that come before have passed
pub views_same : (c : Contents) → c.number ≤ 256 → leb (length c.free) c.number ≡ true
    → top_test c ≡ true → idle_test c ≡ true → tree_test c (marks c) 0 ≡ true
    → coded c (tour (marks c) c.recs 0) ≡ view_tests c (tour (marks c) c.recs 0)
views_same c small few a b e =
    coded_same c (tour (marks c) c.recs 0) small few
    (record {
      whole = tour_whole c a b e;
      same = entered_holders c a b e;
      held = marks_held c a b e;
      exited = holders_exited c a b e;
    })
    (marks_once c (idle_says c b) e)
