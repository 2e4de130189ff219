-- FINISH, THE TURN OF A QUEUE that the task has no right to: no view is there, and its marks leave the line.
use Rattle.std.specs.Prelude.{◌≡◌, refl, true, false, ℕ, ◌+◌, ◌<◌}
use Rattle.std.proofs.Common.{ap, sym, ◌∙◌}
use Rattle.std.proofs.Math.Path.{ap₂, subst}
use Rattle.std.proofs.Math.Option.{none}
use mathlib.Core.List.{List, ◌∷◌, ◌++◌}
use Rattle.spec_layout.specs.Layout.{CHILDREN, USER, RIGHT}
use Rattle.spec_tree.specs.Rights.{uses}
use Rattle.spec_outcomes.specs.Waits.{has_child}
use Rattle.spec_outcomes.specs.Finish.{finishes, views_returned, finished_queue}
use Rattle.spec_order.specs.Steps.{Task, Item, spot, finishes as finishStep, number_of, rights_of, advance}
use Rattle.law_order_queue.specs.Points.{Timeline}
use Rattle.law_order_queue.specs.Laws.{finish_past}
use Rattle.spec_lists.specs.Maps.{All, put_other, all_append, all_front, all_behind}
use Rattle.law_gaps.specs.Line.{Extent, vacant, pass, Line, marks, Fits, first_chain}
use Rattle.law_gaps.specs.Store.{Memory, Laid, head_of, timeline}
use Rattle.law_gaps.specs.Lines.{marks_append}
use Rattle.law_gaps.specs.Moves.{reduced, joined}
use Rattle.law_gaps.proofs.After.{After, after_marks, after_fits}
use Rattle.law_gaps.proofs.TaskRows.{finish_past_row}
use Rattle.law_gaps.proofs.Pool.{mine}
use Rattle.law_maps.specs.Meaning.{Meaning, meaning_of, store_of, contents_in, heads_in, view_in}
use Rattle.law_maps.specs.Update.{with_store, with_view, store_self, view_self}
use Rattle.law_maps.specs.Kept.{Becomes, becomes_as, becomes_at}
use Rattle.law_maps.specs.Extents.{reduces}
use Rattle.law_maps.specs.Reduce.{Links, Tailed}
use Rattle.law_maps.specs.Merges.{cleared_in, inner, whole, store2}
use Rattle.law_maps.specs.Finish.{words1, Reduces, none_returned}
use Rattle.law_maps.specs.Return.{queue_kept}
use Rattle.law_invariant.specs.Represents.{alive, of_tasks, queue_memory, uses_in, Represents}
use Rattle.law_invariant.specs.At.{mine_spot, task_unfinished, single_spot}
use Rattle.law_invariant.specs.Views.{children_word, user_word, right_word, head_word}
use Rattle.law_invariant.specs.Covered.{Vacant}
use Rattle.law_invariant_finish.specs.Leaf.{leaf, without_right}
use Rattle.law_invariant_finish.specs.Way.{Way, Standing}
use Rattle.law_invariant_finish.specs.Meets.{Headless}
use Rattle.law_invariant_finish.specs.FinishTest.{none_allowed}
use Rattle.law_invariant_finish.specs.Queue.{spot_alive, not_holder}
use Rattle.law_invariant_finish.specs.Change.{Turned, first_stays}

-- nothing is written where all three views are vacant
vacant_returned : (M : Meaning) (q holder t : ℕ) → M.views q CHILDREN t ≡ vacant → M.views q USER t ≡ vacant → M.views q RIGHT t ≡ vacant
    → cleared_in (with_store M q (store2 M q holder t)) q t ≡ M
vacant_returned M q holder t e f g =
    ap₂ (λ (x y : Extent). cleared_in (with_store M q (joined holder (reduced x y) (M.views q RIGHT t) (joined holder x y (store_of M q)))) q t) e f
    ∙ ap (λ (N : Meaning). cleared_in N q t) (store_self M q)
    ∙ ap (λ (N : Meaning). with_view (with_view N q USER t vacant) q RIGHT t vacant) (ap (with_view M q CHILDREN t) (sym e) ∙ view_self M q CHILDREN t)
    ∙ ap (λ (N : Meaning). with_view N q RIGHT t vacant) (ap (with_view M q USER t) (sym f) ∙ view_self M q USER t)
    ∙ ap (with_view M q RIGHT t) (sym g)
    ∙ view_self M q RIGHT t

module _ (m : List ℕ) (ys zs : List Item) (s : Task) (r : Represents m (ys ++ spot s ∷ zs)) (barren : has_child m (number_of s) ≡ false)
    (n : List ℕ) (holder : ℕ → ℕ) (line : ℕ → Line) (way : Way m n holder line) (q : ℕ) (small : q < 4)
    (stands : Standing n (ys ++ spot s ∷ zs) r.tour q (holder q) (line q)) (no_right : uses_in m q (number_of s) ≡ false)
    (no-use : uses (rights_of s) q ≡ false) where
  abbrev t : ℕ
  t = number_of s

  abbrev h : ℕ
  h = holder q

  abbrev Old : List Item
  Old = ys ++ spot s ∷ zs

  abbrev New : List Item
  New = advance t finishStep Old

  abbrev M : Meaning
  M = meaning_of n

  abbrev Q : Memory
  Q = queue_memory n q

  abbrev own : ℕ → ℕ
  own = mine Q.store (line q)

  abbrev Rest : List ℕ
  Rest = (leaf m ys zs s r barren).later ++ (leaf m ys zs s r barren).earlier

  below : t < 128
  below = (task_unfinished m ys zs s r).0

  live_t : alive n t ≡ true
  live_t = spot_alive m Old r n holder line way s (mine_spot m ys zs s r)

  gone : Vacant Q t
  gone = way.bare q small t no_right

  C : view_in n q CHILDREN t ≡ vacant
  C = children_word n q t live_t ∙ gone.0

  U : view_in n q USER t ≡ vacant
  U = user_word n q t live_t ∙ gone.1

  R : view_in n q RIGHT t ≡ vacant
  R = right_word n q t live_t ∙ gone.2

  no_inner : inner M q h t ≡ vacant
  no_inner = ap₂ (λ (x y : Extent). reduced x y) C U

  no_whole : whole M q h t ≡ vacant
  no_whole = ap₂ (λ (x y : Extent). reduced x y) no_inner R

  reductions : Reduces n t q h
  reductions =
      record {
        user_tailed = subst Tailed (sym U) tt;
        user_links = subst (λ (x : Extent). Links n q h x (view_in n q USER t)) (sym C) tt;
        right_tailed = subst Tailed (sym R) tt;
        right_links = subst (λ (x : Extent). Links (words1 n t q) q h x (view_in n q RIGHT t)) (sym no_inner) tt;
      }

  same : Becomes n (views_returned n t q) M
  same = becomes_as (vacant_returned M q h t C U R) (none_returned n t q h way.sized below small reductions no_whole)

  -- the paper has these reductions
  pub past_allowed : finishes n t q ≡ true
  past_allowed =
      none_allowed n t q below small (subst Headless (sym C) tt) (subst Headless (sym U) tt) (subst Headless (sym no_inner) tt) reductions.user_tailed
      reductions.right_tailed
      (ap (λ (x : Extent). reduces x (view_in n q USER t)) C) (ap (λ (x : Extent). reduces x (view_in n q RIGHT t)) no_inner) no_whole

  other : t ≡ h → ⊥
  other = not_holder m Old r n holder line way q h stands.first s (mine_spot m ys zs s r) no-use

  no_head : heads_in (views_returned n t q) q t ≡ none
  no_head =
      ap (λ (N : Meaning). N.heads q t) same.means
      ∙ head_word n q t live_t
      ∙ (way.laids.laid q small).held.head t
      ∙ put_other (λ y. none) h (head_of (first_chain (line q))) t other

  done : Becomes n (finished_queue n t q) M
  unfolding finished_queue
  done = becomes_at (sym (queue_kept (views_returned n t q) t q same.sized below small no_head)) same

  module _ (b a : Line) (parts : line q ≡ b ++ (pass t ∷ (pass (128 + t) ∷ a))) (later : marks b ≡ (leaf m ys zs s r barren).later)
      (earlier : marks a ≡ (leaf m ys zs s r barren).earlier) where
    row : After own Q.store Q h (b ++ a) (timeline (contents_in n) (line q))
    unfolding queue_memory of_tasks
    row =
        subst (λ (l : Line). After own Q.store Q h (b ++ a) (timeline (contents_in n) l)) (sym parts)
        (finish_past_row own Q h b t a (subst (Laid own Q h) parts (way.laids.laid q small)))

    both_parts : All (Fits (uses_in m q)) (b ++ a)
    both_parts =
        let f = subst (All (Fits (uses_in m q))) parts (way.fits q small) in
        all_append (Fits (uses_in m q)) b a (all_front (Fits (uses_in m q)) b (pass t ∷ (pass (128 + t) ∷ a)) f)
        (all_behind (Fits (uses_in m q)) b (pass t ∷ (pass (128 + t) ∷ a)) f).1.1

    turned : Turned m n t q (line q) New Rest
    unfolding queue_memory of_tasks
    turned =
        record {
          heir = h;
          first = first_stays m ys zs s r q h stands.first (λ e. other (sym e));
          change = record {
            turn = record {
              meaning = M;
              memory = Q;
              line = row.line;
              becomes = done;
              here = refl;
              others = λ p i k. refl;
              kept = row.kept;
              laid = row.laid;
              fits = after_fits row (uses_in m q) both_parts;
              bare = way.bare q small;
              nexts = way.nexts;
            };
            gone = gone;
            marked = after_marks row ∙ marks_append b a ∙ ap₂ (λ (x z : List ℕ). x ++ z) later earlier;
            time = subst (Timeline q New) (sym row.points) (finish_past q ys zs s (single_spot m ys zs s r) no-use stands.time);
          };
        }

  pub past_turn : Turned m n t q (line q) New Rest
  past_turn =
      let p = without_right m ys zs s r barren q (line q) (way.laids.laid q small).views (way.fits q small) stands.marked no_right in
      turned p.0 p.1 p.2 p.3 p.4
