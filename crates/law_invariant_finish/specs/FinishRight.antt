-- FINISH, THE TURN OF A QUEUE that the task has a right to: its views go to the view just before, its queue view to the heir.
use Rattle.std.specs.Prelude.{◌≡◌, true, false, ℕ, ◌+◌, ◌<◌}
use Rattle.std.proofs.Math.Path.{ap}
use Rattle.std.proofs.Common.{ap₂, sym, ◌∙◌, subst, arith}
use Rattle.std.proofs.Math.Bool.{false≢true}
use mathlib.Core.List.{List, [], ◌∷◌, ◌++◌, head-eq_of_cons-eq}
use Rattle.spec_lists.specs.Counting.{occurrences, occurs_append}
use Rattle.spec_layout.specs.Layout.{Opened}
use Rattle.spec_tree.specs.Rights.{uses}
use Rattle.spec_outcomes.specs.Waits.{has_child}
use Rattle.spec_outcomes.specs.Finish.{views_returned}
use Rattle.spec_order.specs.Steps.{Task, Item, spot, finishes, number_of, rights_of, advance}
use Rattle.law_order_queue.specs.Points.{Point, user, Timeline}
use Rattle.law_order_queue.specs.Laws.{finish_line}
use Rattle.spec_lists.specs.Maps.{All, put_same, put_other, all_append, all_front, all_behind}
use Rattle.law_gaps.specs.Line.{Extent, vacant, Mark, exited, entered, Line, marks, segments, Fits}
use Rattle.law_gaps.specs.Store.{Memory, Laid, values_in, timeline}
use Rattle.law_gaps.specs.Lines.{marks_append, count_segments}
use Rattle.law_gaps.specs.Moves.{view_at, reduced, joined, finished_with, finished}
use Rattle.law_gaps.proofs.After.{After, after_marks, after_fits}
use Rattle.law_gaps.proofs.FinishRow.{finish_row}
use Rattle.law_gaps.proofs.Frames.{split}
use Rattle.law_gaps.proofs.Timelines.{timeline_at}
use Rattle.law_gaps.proofs.Pool.{mine}
use Rattle.law_maps.specs.Meaning.{memory_of, memory_in, contents_in}
use Rattle.law_maps.specs.Update.{shared}
use Rattle.law_invariant.specs.Represents.{alive, of_tasks, queue_memory, uses_in, Represents}
use Rattle.law_invariant.specs.Nexts.{Nexts, HeadBelow, nexts_joined}
use Rattle.law_invariant.specs.Push.{masked_share}
use Rattle.law_invariant.specs.At.{single_spot}
use Rattle.law_invariant.specs.Covered.{Covered, Vacant}
use Rattle.law_invariant_finish.specs.Leaf.{leaf, with_right}
use Rattle.law_invariant_finish.specs.Way.{Way, Standing}
use Rattle.law_invariant_finish.specs.Queue.{single, held_below}
use Rattle.law_invariant_finish.specs.Reductions.{Leaving, leaving_views}
use Rattle.law_invariant_finish.specs.HeadsBelow.{headless_below, reduced_below, right_below}
use Rattle.law_invariant_finish.specs.LiveFinish.{live_finish}
use Rattle.law_invariant_finish.specs.Reduced.{alive_t, alive_h, was}
use Rattle.law_invariant_finish.specs.Returned.{Back, views_back}
use Rattle.law_invariant_finish.specs.Change.{Change}

module _ (m : List ℕ) (ys zs : List Item) (s : Task) (r : Represents m (ys ++ spot s ∷ zs)) (barren : has_child m (number_of s) ≡ false) (above : 0 < number_of s)
    (n : List ℕ) (holder : ℕ → ℕ) (line : ℕ → Line) (way : Way m n holder line) (covered : (p : ℕ) → p < 4 → Covered (queue_memory n p) r.tour (line p))
    (q : ℕ) (small : q < 4) (stands : Standing n (ys ++ spot s ∷ zs) r.tour q (holder q) (line q)) where
  abbrev t : ℕ
  t = number_of s

  abbrev h : ℕ
  h = holder q

  abbrev Old : List Item
  Old = ys ++ spot s ∷ zs

  abbrev New : List Item
  New = advance t finishes Old

  abbrev Q : Memory
  Q = queue_memory n q

  abbrev own : ℕ → ℕ
  own = mine Q.store (line q)

  abbrev Rest : List ℕ
  Rest = (leaf m ys zs s r barren).later ++ (leaf m ys zs s r barren).earlier

  module _ (y : Mark) (b : Line) (c : List ℕ) (a : Line) (parts : line q ≡ (y ∷ b) ++ (entered t c ∷ (exited t ∷ a)))
      (later : marks (y ∷ b) ≡ (leaf m ys zs s r barren).later)
      (earlier : marks a ≡ (leaf m ys zs s r barren).earlier) (right : uses_in m q t ≡ true) (may : uses (rights_of s) q ≡ true) where
    live_t : alive n t ≡ true
    live_t = alive_t m ys zs s r n holder line way covered q small stands.first (y ∷ b) c a parts

    live_h : alive n h ≡ true
    live_h = alive_h m ys zs s r n holder line way covered q small stands.first (y ∷ b) c a parts

    back : Back m ys zs s r barren above n holder line way covered q small stands.first (y ∷ b) c a parts earlier
    back = views_back m ys zs s r barren above n holder line way covered q small stands.first (y ∷ b) c a parts earlier

    -- THE VIEWS HAVE GONE: the memory of the queue
    abbrev W : Memory
    W = finished h t back.place Q

    live : of_tasks (alive n) (finished h t back.place (memory_in n q)) ≡ W
    live = unfold queue_memory in live_finish (alive n) h t live_h live_t back.place back.holds (memory_in n q)

    here : of_tasks (alive n) (memory_of back.meaning q) ≡ W
    here = ap (of_tasks (alive n)) back.here ∙ live

    others : (p : ℕ) → (p ≡ q → ⊥) → of_tasks (alive n) (memory_of back.meaning p) ≡ shared W.store (queue_memory n p)
    unfolding queue_memory
    others p k =
        ap (of_tasks (alive n)) (back.others p k)
        ∙ masked_share (alive n) (finished h t back.place (memory_in n q)) (memory_in n p)
        ∙ ap (λ (w : Memory). shared w.store (queue_memory n p)) live

    abbrev Points : List Point
    Points = timeline (contents_in n) a ++ (values_in (contents_in n) c ++ timeline (contents_in n) (y ∷ b))

    row : After own Q.store W h ((y ∷ b) ++ a) Points
    unfolding queue_memory of_tasks
    row =
        finish_row own (single m Old r n holder line way q small) Q h y b t a back.place c
        (was m ys zs s r n holder line way covered q small stands.first (y ∷ b) c a parts) back.to

    time : Timeline q New Points
    time =
        finish_line q ys zs s (single_spot m ys zs s r) (timeline (contents_in n) a) (values_in (contents_in n) c ++ timeline (contents_in n) (y ∷ b)) may
        (subst (Timeline q Old) (ap (timeline (contents_in n)) parts ∙ timeline_at (contents_in n) (y ∷ b) t c (exited t ∷ a)) stands.time)

    both_parts : All (Fits (uses_in m q)) ((y ∷ b) ++ a)
    both_parts =
        let f = subst (All (Fits (uses_in m q))) parts (way.fits q small) in
        all_append (Fits (uses_in m q)) (y ∷ b) a (all_front (Fits (uses_in m q)) (y ∷ b) (entered t c ∷ (exited t ∷ a)) f)
        (all_behind (Fits (uses_in m q)) (y ∷ b) (entered t c ∷ (exited t ∷ a)) f).1.1

    bare : (x : ℕ) → uses_in m q x ≡ false → Vacant W x
    unfolding finished finished_with
    bare x e =
        let v = way.bare q small x e in
        let w = back.rest x e in
        let k : x ≡ t → ⊥ = λ d. false≢true (sym e ∙ ap (uses_in m q) d ∙ right) in
        (put_other _ t vacant x k ∙ w.0 ∙ v.0, put_other Q.user t vacant x k ∙ v.1, put_other _ t vacant x k ∙ w.1 ∙ v.2)

    nexts : Nexts (Opened m) W.store.next
    unfolding queue_memory of_tasks finished finished_with
    nexts =
        nexts_joined (Opened m) some_opened h (view_at Q.children Q.right back.place) (reduced inner (Q.right t))
        (joined h inner (Q.right t) (joined h (Q.children t) (Q.user t) Q.store))
        (reduced_below (Opened m) some_opened inner (Q.right t) views.inner_headless right_head)
        (nexts_joined (Opened m) some_opened h inner (Q.right t) (joined h (Q.children t) (Q.user t) Q.store) right_head
        (nexts_joined (Opened m) some_opened h (Q.children t) (Q.user t) Q.store
        (headless_below (Opened m) some_opened (Q.user t) views.user_headless) way.nexts))
      where
        some_opened : Opened m 0
        some_opened = let l = r.sized.number_range.0 in omega (arith, l)

        inner : Extent
        inner = reduced (Q.children t) (Q.user t)

        laid : Laid own Q h ((y ∷ b) ++ (entered t c ∷ (exited t ∷ a)))
        laid = was m ys zs s r n holder line way covered q small stands.first (y ∷ b) c a parts

        views : Leaving own (single m Old r n holder line way q small) Q h (y ∷ b) t a c
        views = leaving_views own (single m Old r n holder line way q small) Q h (y ∷ b) t a c laid

        low : (x : ℕ) → 0 < occurrences x c → Opened m x
        low x p =
            let e = ap (λ (l : Line). occurrences x (segments l)) parts in
            let f = count_segments x (y ∷ b) (entered t c ∷ (exited t ∷ a)) in
            let g = occurs_append x c (segments (exited t ∷ a)) in
            let k = held_below m Old r n holder line way q small x (omega (arith, e, f, g, p)) in
            let w = way.kept.number in
            omega (arith, k, w)

        right_head : HeadBelow (Opened m) some_opened (Q.right t)
        right_head = right_below (Opened m) some_opened t c (exited t ∷ a) (split (y ∷ b) (entered t c) (exited t ∷ a) laid.views).1 low

    gone : Vacant W t
    unfolding finished finished_with
    gone = (put_same _ t vacant, put_same Q.user t vacant, put_same _ t vacant)

    views_change : Change m n (views_returned n t q) t q (line q) h New Rest
    views_change =
        record {
          turn = record {
            meaning = back.meaning;
            memory = W;
            line = row.line;
            becomes = back.becomes;
            here = here;
            others = λ p i. others p;
            kept = row.kept;
            laid = row.laid;
            fits = after_fits row (uses_in m q) both_parts;
            bare = bare;
            nexts = nexts;
          };
          gone = gone;
          marked = after_marks row ∙ marks_append (y ∷ b) a ∙ ap₂ (λ (x z : List ℕ). x ++ z) later earlier;
          time = subst (Timeline q New) (sym row.points) time;
        }

  -- something of the line stands behind the spot of t, which is not the top
  pub views_turn : uses_in m q t ≡ true → uses (rights_of s) q ≡ true → Change m n (views_returned n t q) t q (line q) h New Rest
  views_turn u v = go (with_right m ys zs s r barren q (line q) (way.laids.laid q small).views (way.fits q small) stands.marked u)
    where
      go : (b : Line) × (c : List ℕ) × (a : Line) × (line q ≡ b ++ (entered t c ∷ (exited t ∷ a))) × (marks b ≡ (leaf m ys zs s r barren).later)
          × (marks a ≡ (leaf m ys zs s r barren).earlier)
          → Change m n (views_returned n t q) t q (line q) h New Rest
      go ([], c, a, p, e, f) =
          let d = head-eq_of_cons-eq
          (sym r.linked.first.1 ∙ (leaf m ys zs s r barren).here ∙ ap (λ (k : List ℕ). k ++ t ∷ (128 + t) ∷ (leaf m ys zs s r barren).earlier) (sym e)) in
          let z : ⊥ = omega (arith, d, above) in
          absurd z
      go (y ∷ b, c, a, p, e, f) = views_change y b c a p e f u v
