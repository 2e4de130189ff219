-- FINISH, THE QUEUE VIEW: where the task that finishes holds it, it goes to the heir.
use Rattle.std.specs.Prelude.{◌≡◌, refl, true, false, ℕ, ◌<◌}
use Rattle.std.proofs.Math.Path.{ap, sym, subst}
use Rattle.std.proofs.Common.{◌∙◌, ⊎_elim}
use Rattle.std.proofs.Math.Option.{none, some}
use mathlib.Core.List.{List, ◌∷◌, ◌++◌}
use Rattle.spec_words.specs.Words.{halt}
use Rattle.spec_lists.specs.Counting.{equal?}
use Rattle.spec_outcomes.specs.Finish.{heir, views_returned, queue_returned, finished_queue}
use Rattle.spec_order.specs.Steps.{Task, Item, spot, finishes, number_of, made, advance}
use Rattle.spec_order.specs.Waits.{blocked}
use Rattle.law_order.specs.Items.{In}
use Rattle.law_order.specs.Numbers.{advance_at}
use Rattle.law_order_waits.specs.Played.{Played}
use Rattle.law_order_waits.specs.Popper.{first_popper}
use Rattle.law_order_queue.specs.Points.{Timeline}
use Rattle.spec_lists.specs.Maps.{put, put_same, put_other}
use Rattle.law_gaps.specs.Line.{Line, first_chain}
use Rattle.law_gaps.specs.Store.{Memory, Laid, head_of, timeline}
use Rattle.law_gaps.specs.Moves.{head_moved, queue_passed}
use Rattle.law_gaps.proofs.After.{After, after_marks, after_fits}
use Rattle.law_gaps.proofs.HolderRows.{queue_row}
use Rattle.law_gaps.proofs.Names.{first_chain_lem}
use Rattle.law_gaps.proofs.Pool.{mine}
use Rattle.law_links.specs.Linked.{Linked, spot_unfinished}
use Rattle.law_links.specs.Frame.{keeps_linked}
use Rattle.law_maps.specs.Meaning.{Meaning, memory_of, heads_in}
use Rattle.law_maps.specs.Kept.{Becomes, becomes_then}
use Rattle.law_maps.specs.Return.{moved_in, memory_moved, queue_kept, queue_returned_lem}
use Rattle.law_maps.specs.Update.{shared}
use Rattle.law_invariant.specs.Represents.{alive, of_tasks, queue_memory, uses_in, Represents}
use Rattle.law_invariant.specs.Plain.{same_links}
use Rattle.law_invariant.specs.At.{mine_spot, task_unfinished, single_spot}
use Rattle.law_invariant_finish.specs.Way.{Way, Turn}
use Rattle.law_invariant_finish.specs.Queue.{way_linked, spot_alive}
use Rattle.law_invariant_finish.specs.LiveFinish.{live_passed}
use Rattle.law_invariant_finish.specs.Heir.{heir_next}
use Rattle.law_invariant_finish.specs.Change.{Change, Turned, first_stays}

-- the queue view of another queue stays where it is
moved_elsewhere : (M : Meaning) (q t u p : ℕ) → (p ≡ q → ⊥) → memory_of (moved_in M q t u) p ≡ memory_of M p
moved_elsewhere M q t u p n = λ i. record {
  children = (memory_of M p).children;
  user = (memory_of M p).user;
  right = (memory_of M p).right;
  store = record { next = M.next; contents = M.contents; heads = put_other M.heads q (head_moved t u (M.heads q)) p n i; free = M.free };
}

module _ (m : List ℕ) (ys zs : List Item) (s : Task) (r : Represents m (ys ++ spot s ∷ zs)) (above : 0 < number_of s)
    (free : blocked (number_of s) (ys ++ spot s ∷ zs) ≡ false)
    (play : Played (advance (number_of s) finishes (ys ++ spot s ∷ zs))) (n : List ℕ) (holder : ℕ → ℕ) (line : ℕ → Line) (way : Way m n holder line) (q : ℕ)
    (small : q < 4)
    (first : first_popper q (ys ++ spot s ∷ zs) ≡ some (holder q)) (T : List ℕ)
    (views : Change m n (views_returned n (number_of s) q) (number_of s) q (line q) (holder q) (advance (number_of s) finishes (ys ++ spot s ∷ zs)) T) where
  abbrev t : ℕ
  t = number_of s

  abbrev h : ℕ
  h = holder q

  abbrev Old : List Item
  Old = ys ++ spot s ∷ zs

  abbrev New : List Item
  New = advance t finishes Old

  abbrev n1 : List ℕ
  n1 = views_returned n t q

  abbrev own : ℕ → ℕ
  own = mine (queue_memory n q).store (line q)

  abbrev c : Turn m n n1 q (line q) h
  c = views.turn

  abbrev W : Memory
  W = c.memory

  below : t < 128
  below = (task_unfinished m ys zs s r).0

  live_t : alive n t ≡ true
  live_t = spot_alive m Old r n holder line way s (mine_spot m ys zs s r)

  -- the queue head of t, by the words and by the line
  head_is : heads_in n1 q t ≡ put (λ y. none) h (head_of (first_chain c.line)) t
  unfolding of_tasks
  head_is =
      ap (λ (N : Meaning). N.heads q t) c.becomes.means
      ∙ sym (halt (c.meaning.heads q t) none live_t)
      ∙ ap (λ (w : Memory). w.store.heads t) c.here
      ∙ c.laid.held.head t

  -- t IS NOT THE HOLDER: no queue view goes.
  stays : (t ≡ h → ⊥) → Turned m n t q (line q) New T
  unfolding finished_queue
  stays k =
      record {
        heir = h;
        first = first_stays m ys zs s r q h first (λ e. k (sym e));
        change = subst (λ (w : List ℕ). Change m n w t q (line q) h New T)
            (sym (queue_kept n1 t q c.becomes.sized below small (head_is ∙ put_other (λ y. none) h (head_of (first_chain c.line)) t k))) views;
      }

  -- t IS THE HOLDER
  module _ (mine-view : t ≡ h) where
    linked : Linked n1 r.tour Old
    linked = keeps_linked n n1 (same_links n n1 way.sized c.becomes.kept) r.tour Old Old (way_linked m Old r n holder line way) refl (λ o i. i)

    abbrev u : ℕ
    u = heir n1 t q

    next : (o : Task) × In (spot o) Old × (number_of o ≡ u) × (number_of o ≡ t → ⊥) × (first_popper q (ys ++ (made s finishes ++ zs)) ≡ some u)
    next =
        heir_next ys zs s r.played n1 r.tour linked (subst Played (advance_at ys zs s finishes (single_spot m ys zs s r)) play) above free q small
        (first ∙ ap some (sym mine-view))

    other : u ≡ t → ⊥
    other e = next.3 (next.2 ∙ e)

    u_below : u < 128
    u_below = subst (λ (x : ℕ). x < 128) next.2 (spot_unfinished m r.tour Old r.linked next.0 next.1).0

    u_live : alive n u ≡ true
    u_live = subst (λ (x : ℕ). alive n x ≡ true) next.2 (spot_alive m Old r n holder line way next.0 next.1)

    head_there : (x : ℕ) × (heads_in n1 q t ≡ some x)
    head_there =
        let f = first_chain_lem c.laid.views in (
          f.0,
          head_is ∙ ap (put (λ y. none) h (head_of (first_chain c.line))) mine-view ∙ put_same (λ y. none) h (head_of (first_chain c.line))
              ∙ ap head_of f.2,
        )

    moved : Becomes n (queue_returned n1 t q) (moved_in c.meaning q t u)
    moved =
        becomes_then (λ N. moved_in N q t u) c.becomes
        (queue_returned_lem n1 t q c.becomes.sized below small head_there.0 u head_there.1 refl u_below other)

    here : of_tasks (alive n) (memory_of (moved_in c.meaning q t u) q) ≡ queue_passed t u W
    here =
        ap (of_tasks (alive n)) (memory_moved c.meaning q t u)
        ∙ live_passed (alive n) t u live_t u_live (memory_of c.meaning q)
        ∙ ap (queue_passed t u) c.here

    others : (p : ℕ) → p < 4 → (p ≡ q → ⊥) → of_tasks (alive n) (memory_of (moved_in c.meaning q t u) p) ≡ shared (queue_passed t u W).store (queue_memory n p)
    unfolding queue_passed
    others p i k = ap (of_tasks (alive n)) (moved_elsewhere c.meaning q t u p k) ∙ c.others p i k

    row : After own W.store (queue_passed t u W) u c.line (timeline W.store.contents c.line)
    row = queue_row own W c.line t u other (subst (λ (x : ℕ). Laid own W x c.line) (sym mine-view) c.laid)

    goes : Turned m n t q (line q) New T
    unfolding finished_queue queue_passed
    goes =
        record {
          heir = u;
          first = ap (first_popper q) (advance_at ys zs s finishes (single_spot m ys zs s r)) ∙ next.4;
          change = record {
            turn = record {
              meaning = moved_in c.meaning q t u;
              memory = queue_passed t u W;
              line = row.line;
              becomes = moved;
              here = here;
              others = others;
              kept = λ x e. ((row.kept x e).0 ∙ (c.kept x e).0, (row.kept x e).1 ∙ (c.kept x e).1);
              laid = row.laid;
              fits = after_fits row (uses_in m q) c.fits;
              bare = c.bare;
              nexts = c.nexts;
            };
            gone = views.gone;
            marked = after_marks row ∙ views.marked;
            time = subst (Timeline q New) (sym row.points) views.time;
          };
        }

  pub queue_turn : Turned m n t q (line q) New T
  queue_turn = ⊎_elim goes stays (equal? t h)
