-- Of memory that represents program order: a segment is a head of the tasks' views as often as it is the first of a chain
-- of the four lines, and a tail as often as it is the last of one.
use Rattle.std.specs.Prelude.{◌≡◌, false, ℕ, ◌+◌, ◌-◌, ◌*◌, ◌<◌, eqb, drop}
use Rattle.std.proofs.Math.Path.{refl, ap}
use Rattle.std.proofs.Common.{◌∙◌, inl, inr}
use mathlib.Core.List.{List, []}
use native.Mathlib.Omega.{arith}
use Rattle.spec_lists.specs.Counting.{one, occurrences, over, total, occurs_cons, occurs_nil, total_ext}
use Rattle.spec_lists.specs.Sums.{over_plus, over_ext, over_at, over_total}
use Rattle.spec_tree.specs.Rights.{uses}
use Rattle.spec_tree.specs.Tour.{entered}
use Rattle.spec_rules.specs.Contents.{Contents, decode, word, locals, heads, tails, task_rights}
use Rattle.spec_rules.specs.Rules.{Unfinished}
use Rattle.law_rules_views.specs.Toured.{over_heads, over_tails}
use Rattle.law_view_events.specs.Counts.{names, names_at, heads_count, tails_count}
use Rattle.spec_order.specs.Steps.{Item}
use Rattle.spec_lists.specs.Maps.{All, last_of, all_front, all_behind}
use Rattle.spec_layout.specs.Layout.{QUEUE_HEADS, HEADS, TAILS, HEAD_WORDS, TAIL_WORDS}
use Rattle.law_gaps.specs.Line.{Mark, Line, marks, segments, first_chain, Mode, Views, queue, exiting, entering, passing}
use Rattle.law_gaps.specs.Store.{Memory}
use Rattle.law_invariant.specs.Represents.{Represents, queue_memory}
use Rattle.law_invariant_rules.specs.Tasks.{entered_busy, Marked, marked, children_words, user_words, right_words}
use Rattle.law_invariant_rules.specs.MarkSums.{at_mark, entered_term, exited_term, tour_sum}
use Rattle.law_invariant_rules.specs.Heads.{holder, first_segment, first_is, first_opened, holder_head, other_head, holder_once}
use Rattle.law_invariant_rules.specs.Views.{children_none, user_none, right_none}
use Rattle.law_invariant_rules.specs.Modes.{Plain, views_plain}
use Rattle.law_invariant_rules.specs.Order.{line_plain}
use Rattle.law_invariant_rules.specs.Ends.{with_first, firsts, lasts, none_names, plain_names, inside_head, begins_head, pending, inside_tail, begins_tail}

module _ (m : List ℕ) (xs : List Item) (r : Represents m xs) (s : ℕ) where
  abbrev c : Contents
  c = decode m

  -- the words that name s: the queue head, and the heads and tails of the views, of task t for queue q
  abbrev queue_head : ℕ → ℕ → ℕ
  queue_head q t = names s (word c t (QUEUE_HEADS + q))

  abbrev entered_heads : ℕ → ℕ → ℕ
  entered_heads q t = names s (word c t (24 + q)) + names s (word c t (28 + q))

  abbrev exited_head : ℕ → ℕ → ℕ
  exited_head q t = names s (word c t (HEADS + q))

  abbrev entered_tails : ℕ → ℕ → ℕ
  entered_tails q t = names s (word c t (36 + q)) + names s (word c t (40 + q))

  abbrev exited_tail : ℕ → ℕ → ℕ
  exited_tail q t = names s (word c t (TAILS + q))

  module _ (q : ℕ) (small : q < 4) where
    abbrev M : Memory
    M = queue_memory m q

    -- a mark of a task without a right to the queue, where f and g are 0 for such a task
    past_term : (f g : ℕ → ℕ) (x : ℕ) → Marked m xs r q small (Mark.pass x)
        → ((t : ℕ) → Unfinished c t → uses (task_rights c t) q ≡ false → (f t ≡ 0) × (g t ≡ 0)) → at_mark f g x ≡ 0
    past_term f g x (inl w) z = entered_term f g x w.0 ∙ (z x w.1 w.2).0
    past_term f g x (inr w) z = let l = w.0 in exited_term f g x (x - 128) (omega (arith, l)) ∙ (z (x - 128) w.1 w.2).1

    no_heads : (t : ℕ) → Unfinished c t → uses (task_rights c t) q ≡ false → (entered_heads q t ≡ 0) × (exited_head q t ≡ 0)
    no_heads t u n =
        let a = none_names s _ (user_none m xs r t u q small n).0 in
        let b = none_names s _ (right_none m xs r t u q small n).0 in
        (omega (arith, a, b), none_names s _ (children_none m xs r t u q small n).0)

    no_tails : (t : ℕ) → Unfinished c t → uses (task_rights c t) q ≡ false → (entered_tails q t ≡ 0) × (exited_tail q t ≡ 0)
    no_tails t u n =
        let a = none_names s _ (user_none m xs r t u q small n).1 in
        let b = none_names s _ (right_none m xs r t u q small n).1 in
        (omega (arith, a, b), none_names s _ (children_none m xs r t u q small n).1)

    -- ALONG THE LINE
    line_heads : {l : Line} {n : Mode} → Views M.children M.user M.right l n → All (Marked m xs r q small) l → All Plain (segments l)
        → over (marks l) (at_mark (entered_heads q) (exited_head q)) + occurrences s (with_first (first_chain l) []) ≡ occurrences s (firsts l)
    unfolding over
    line_heads (queue e) h p = omega arith
    line_heads (exiting {t = t} {l = l} v e i o) h p =
        let u = h.0.0 in
        let a = line_heads o h.1 p in
        let b = exited_term (entered_heads q) (exited_head q) (128 + t) t refl in
        let d = inside_head s _ _ i (children_words m xs r q small t u v e) in
        omega (arith, a, b, d)
    line_heads (entering {t = t} {c = d} {l = l} v w e i f g o) h p =
        let u = h.0.0 in
        let a = line_heads o h.1 (all_behind Plain d (segments l) p) in
        let b = entered_term (entered_heads q) (exited_head q) t u.0 in
        let j = inside_head s _ _ i (user_words m xs r q small t u v e) in
        let k = begins_head s _ _ (firsts l) g (right_words m xs r q small t u w f) (all_front Plain d (segments l) p) in
        omega (arith, a, b, j, k)
    line_heads (passing {x = x} o) h p = let a = line_heads o h.1 p in let b = past_term (entered_heads q) (exited_head q) x h.0 no_heads in omega (arith, a, b)

    line_tails : {l : Line} {n : Mode} → Views M.children M.user M.right l n → All (Marked m xs r q small) l → All Plain (segments l)
        → over (marks l) (at_mark (entered_tails q) (exited_tail q)) + pending s n ≡ occurrences s (lasts l)
    unfolding over
    line_tails (queue {s = f} {z = z} {c = d} e) h p =
        let a = occurs_cons (last_of f d) s [] in
        let b = occurs_nil s in
        let i = ap (λ (j : ℕ). one (eqb j s)) e in
        omega (arith, a, b, i)
    line_tails (exiting {t = t} {l = l} v e i o) h p =
        let u = h.0.0 in
        let a = line_tails o h.1 p in
        let b = exited_term (entered_tails q) (exited_tail q) (128 + t) t refl in
        let d = inside_tail s _ _ i (children_words m xs r q small t u v e) (views_plain o p) in
        omega (arith, a, b, d)
    line_tails (entering {t = t} {c = d} {l = l} v w e i f g o) h p =
        let u = h.0.0 in
        let y = all_behind Plain d (segments l) p in
        let a = line_tails o h.1 y in
        let b = entered_term (entered_tails q) (exited_tail q) t u.0 in
        let j = inside_tail s _ _ i (user_words m xs r q small t u v e) (views_plain o y) in
        let k = begins_tail s _ _ (lasts l) g (right_words m xs r q small t u w f) (all_front Plain d (segments l) p) in
        omega (arith, a, b, j, k)
    line_tails (passing {x = x} o) h p = let a = line_tails o h.1 p in let b = past_term (entered_tails q) (exited_tail q) x h.0 no_tails in omega (arith, a, b)

    -- ONE QUEUE: the holder's queue head is the first segment of the first chain
    held_head : over (entered r.tour) (queue_head q) ≡ occurrences s (with_first (first_chain (r.line q)) [])
    held_head =
        let h = holder m xs r q small in
        let f = first_segment m xs r q small in
        let low = first_opened m xs r q small in
        let few = r.sized.number_range.1 in
        let a =
        over_at (entered r.tour) (queue_head q) h (λ t p n. none_names s _ (other_head m xs r q small t (entered_busy m xs r t p) n))
        ∙ ap (λ (k : ℕ). k * queue_head q h) (holder_once m xs r q small) in
        let b = plain_names s (word c h (QUEUE_HEADS + q)) f (holder_head m xs r q small) (omega (arith, low, few)) in
        let d = ap (λ (k : List ℕ). occurrences s (with_first k [])) (first_is m xs r q small).1 in
        let e = occurs_cons f s [] in
        let g = occurs_nil s in
        omega (arith, a, b, d, e, g)

    queue_heads : over (entered r.tour) (λ t. queue_head q t + (entered_heads q t + exited_head q t)) ≡ occurrences s (firsts (r.line q))
    queue_heads =
        let Q = r.queue q small in
        let a = over_plus (entered r.tour) (queue_head q) (λ t. entered_heads q t + exited_head q t) in
        let b = held_head in
        let d = tour_sum (entered_heads q) (exited_head q) m xs r in
        let e = ap (λ (l : List ℕ). over l (at_mark (entered_heads q) (exited_head q))) Q.marked in
        let f = line_heads Q.laid.views (marked m xs r q small) (line_plain m xs r q small) in
        omega (arith, a, b, d, e, f)

    queue_tails : over (entered r.tour) (λ t. entered_tails q t + exited_tail q t) ≡ occurrences s (lasts (r.line q))
    queue_tails =
        let Q = r.queue q small in
        let d = tour_sum (entered_tails q) (exited_tail q) m xs r in
        let e = ap (λ (l : List ℕ). over l (at_mark (entered_tails q) (exited_tail q))) Q.marked in
        let f = line_tails Q.laid.views (marked m xs r q small) (line_plain m xs r q small) in
        omega (arith, d, e, f)

  -- ALL FOUR
  task_heads : (t : ℕ) → occurrences s (locals HEAD_WORDS (drop QUEUE_HEADS (c.recs t))) ≡ total 4 (λ q. queue_head q t + (entered_heads q t + exited_head q t))
  unfolding total names_at
  task_heads t = let a = heads_count s c t in omega (arith, a)

  task_tails : (t : ℕ) → occurrences s (locals TAIL_WORDS (drop TAILS (c.recs t))) ≡ total 4 (λ q. entered_tails q t + exited_tail q t)
  unfolding total names_at
  task_tails t = let a = tails_count s c t in omega (arith, a)

  pub heads_total : occurrences s (heads c (entered r.tour)) ≡ total 4 (λ q. occurrences s (firsts (r.line q)))
  heads_total =
      over_heads c s (entered r.tour)
      ∙ over_ext (entered r.tour) _ _ task_heads
      ∙ over_total 4 (entered r.tour) (λ q t. queue_head q t + (entered_heads q t + exited_head q t))
      ∙ total_ext 4 _ _ queue_heads

  pub tails_total : occurrences s (tails c (entered r.tour)) ≡ total 4 (λ q. occurrences s (lasts (r.line q)))
  tails_total =
      over_tails c s (entered r.tour)
      ∙ over_ext (entered r.tour) _ _ task_tails
      ∙ over_total 4 (entered r.tour) (λ q t. entered_tails q t + exited_tail q t)
      ∙ total_ext 4 _ _ queue_tails
