-- Of memory that represents program order: the test of order goes through each queue's line and ends with a non-local
-- tail awaited, that of the queue view.
use Rattle.std.specs.Prelude.{◌≡◌, true, List, ℕ, ◌+◌, ◌-◌, ◌<◌}
use Rattle.std.proofs.Math.Path.{refl, ap}
use Rattle.std.proofs.Common.{sym, ◌∙◌, inl, inr}
use native.Mathlib.Omega.{arith}
use Rattle.std.proofs.Math.Dec.{eqb}
use borrow.Author.Tests.{eq-eqb, lt-ltb, le-ltb}
use Rattle.spec_layout.specs.Layout.{CHILDREN, USER, Opened}
use Rattle.spec_tree.specs.Rights.{uses}
use Rattle.spec_tree.specs.Queues.{queue_each}
use Rattle.spec_rules.specs.Contents.{Contents, decode, task_rights}
use Rattle.spec_rules.specs.Rules.{Unfinished}
use Rattle.spec_rules.specs.Test.{passed_at, order_at, order_of, order_test}
use Rattle.law_rules_views.specs.Marks.{at_entered, at_entered_none, at_exited, at_exited_none}
use Rattle.spec_order.specs.Steps.{Item}
use Rattle.spec_lists.specs.Maps.{All, all_map, all_front, all_behind}
use Rattle.law_gaps.specs.Line.{Extent, Line, marks, segments, Mark, Mode, settled, Inside, Begins, Views, queue, exiting, entering, passing}
use Rattle.law_gaps.specs.Store.{Memory}
use Rattle.law_invariant.specs.Represents.{Represents, queue_memory}
use Rattle.law_invariant_rules.specs.Tasks.{Marked, marked, children_words, user_words, right_words}
use Rattle.law_invariant_rules.specs.Segments.{line_opened}
use Rattle.law_invariant_rules.specs.Modes.{Plain, PlainMode, views_plain, state_of, inside_passed, begins_passed}

module _ (m : List ℕ) (xs : List Item) (r : Represents m xs) where
  abbrev c : Contents
  c = decode m

  -- no segment is a mark
  pub line_plain : (q : ℕ) → q < 4 → All Plain (segments (r.line q))
  line_plain q small =
      let few = r.sized.number_range.1 in
      all_map (Opened m) Plain (segments (r.line q)) (λ s l. omega (arith, l, few)) (line_opened m xs r q small)

  module _ (q : ℕ) (small : q < 4) where
    abbrev M : Memory
    M = queue_memory m q

    module _ (t : ℕ) (u : Unfinished c t) (yes : uses (task_rights c t) q ≡ true) where
      -- where task t is exited
      exited_passed : {a b : Mode} (v : Extent) → M.children t ≡ v → Inside a v b → PlainMode a → order_at c q (128 + t) (state_of b) ≡ state_of a
      unfolding passed_at
      exited_passed {b = b} v e i p =
          at_exited c q (128 + t) (state_of b) (le-ltb (128 + t) 128 (omega arith)) (ap (λ (k : ℕ). uses (task_rights c k) q) back ∙ yes)
          ∙ ap (λ (k : ℕ). passed_at c q k CHILDREN (state_of b)) back
          ∙ inside_passed _ _ i (children_words m xs r q small t u v e) p
        where
          back : 128 + t - 128 ≡ t
          back = omega arith

      -- where it is entered
      entered_passed : {a b : Mode} {d : List ℕ} (v w : Extent) → M.user t ≡ v → Inside a v settled → M.right t ≡ w → Begins d w b
          → PlainMode a → All Plain d → order_at c q t (state_of b) ≡ state_of a
      unfolding passed_at
      entered_passed {b = b} v w e i f g p s =
          at_entered c q t (state_of b) (lt-ltb t 128 u.0) yes
          ∙ ap (passed_at c q t USER) (begins_passed _ _ g (right_words m xs r q small t u w f) s)
          ∙ inside_passed _ _ i (user_words m xs r q small t u v e) p

    -- ALONG THE LINE the state is that of the mode
    order_line : {l : Line} {n : Mode} → Views M.children M.user M.right l n → All (Marked m xs r q small) l → All Plain (segments l)
        → order_of c q (marks l) (state_of n) ≡ 1
    unfolding order_of
    order_line (queue e) h s = refl
    order_line (exiting {t = t} {l = l} v e i o) h s =
        ap (order_of c q (marks l)) (exited_passed t h.0.0 h.0.1 v e i (views_plain o s)) ∙ order_line o h.1 s
    order_line (entering {t = t} {c = d} {l = l} v w e i f g o) h s =
        let later = all_behind Plain d (segments l) s in
        ap (order_of c q (marks l)) (entered_passed t h.0.0 h.0.1 v w e i f g (views_plain o later) (all_front Plain d (segments l) s))
        ∙ order_line o h.1 later
    order_line (passing {x = x} {l = l} {m = n} o) h s = ap (order_of c q (marks l)) (past h.0) ∙ order_line o h.1 s
      where
        past : Marked m xs r q small (Mark.pass x) → order_at c q x (state_of n) ≡ state_of n
        past (inl w) = at_entered_none c q x (state_of n) (lt-ltb x 128 w.0) w.2
        past (inr w) = at_exited_none c q x (state_of n) (le-ltb x 128 w.0) w.2

    order_one : order_of c q r.tour 0 ≡ 1
    order_one =
        let Q = r.queue q small in
        ap (λ (l : List ℕ). order_of c q l 0) (sym Q.marked) ∙ order_line Q.laid.views (marked m xs r q small) (line_plain q small)

  -- THE ORDER of the views of each queue
  pub order_right : order_test c r.tour ≡ true
  unfolding order_test
  order_right = queue_each (λ q. eqb (order_of c q r.tour 0) 1) (λ q l. eq-eqb _ _ (order_one q l))
