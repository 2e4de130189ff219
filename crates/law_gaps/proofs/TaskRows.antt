-- TASKS COME AND GO: open, spawn with and without a right to the queue, the finish of a task without one.
use Rattle.std.specs.Prelude.{◌≡◌, ℕ, ◌+◌, ◌≤◌, eqb}
use Rattle.std.proofs.Math.Path.{refl, subst}
use Rattle.std.proofs.Common.{ap, sym, ◌∙◌, arith}
use Rattle.std.proofs.Math.Logic.{⊎_elim}
use Rattle.std.proofs.Math.Option.{none, some}
use mathlib.Core.List.{List, [], ◌∷◌, ◌++◌}
use Rattle.spec_lists.specs.Counting.{one, one_yes, one_no, occurrences, equal?}
use Rattle.law_order_queue.specs.Points.{Point, user}
use Rattle.spec_lists.specs.Maps.{All, agree_refl}
use Rattle.law_gaps.specs.Line.{nonlocal, local, vacant, extent, base, exited, entered, pass, Line, exits, entries, segments, first_chain, settled, rest, close, bare}
use Rattle.law_gaps.specs.Line.{Views, queue, exiting, entering}
use Rattle.law_gaps.specs.Store.{Chain, Once, Closed, Memory, Laid, values_in, timeline}
use Rattle.law_gaps.specs.Lines.{count_exits, count_entries, New, NoBase}
use Rattle.law_gaps.proofs.Frames.{no_base}
use Rattle.law_gaps.specs.Moves.{spawned}
use Rattle.law_gaps.proofs.ViewRows.{spawn_views, spawn_past_views, pass_past_views, finish_past_views}
use Rattle.law_gaps.proofs.SegmentRows.{open_segments}
use Rattle.law_gaps.proofs.Timelines.{timeline_append, timeline_around}
use Rattle.law_gaps.proofs.Heads.{Only}
use Rattle.law_gaps.proofs.Stores.{held_rearranged}
use Rattle.law_gaps.proofs.After.{closed_behind, After}

at_most_one : (x y : ℕ) → one (eqb x y) ≤ 1
at_most_one x y = ⊎_elim (λ e. omega (arith, one_yes x y e)) (λ n. omega (arith, one_no x y n)) (equal? x y)

-- OPEN: segment s is the head of the queue view and the tail of the user view of the top.
pub record Opened (own : ℕ → ℕ) (s : ℕ) (m : Memory) : Type 0 where
  pub children_vacant : m.children 0 ≡ vacant
  pub user_tail : m.user 0 ≡ extent nonlocal (local s)
  pub right_vacant : m.right 0 ≡ vacant
  pub no_next : m.store.next s ≡ none
  pub no_values : m.store.contents s ≡ []
  pub top_head : Only m.store.heads 0 (some s)
  pub rest_free : (x : ℕ) → occurrences x (s ∷ m.store.free) ≡ own x

pub open_row : (own : ℕ → ℕ) (s : ℕ) (m : Memory) → Opened own s m
    → After own m.store m 0 (entered 0 [] ∷ (exited 0 ∷ (base (s ∷ []) ∷ []))) (user 0 ∷ [])
unfolding occurrences
open_row own s m o = record {
  line = entered 0 [] ∷ (exited 0 ∷ (base (s ∷ []) ∷ []));
  laid = record {
    views = entering (extent nonlocal (local s)) vacant o.user_tail close o.right_vacant bare (exiting vacant o.children_vacant rest (queue refl));
    dist = λ x. (omega (arith, at_most_one 0 x), omega (arith, at_most_one 0 x));
    held = record {
      chains = open_segments own m.store.next m.store.contents m.store.free s o.rest_free o.no_next o.no_values;
      head = o.top_head;
    };
    closed = refl;
  };
  outlined = refl;
  points = rw o.no_values refl;
  kept = λ x k. (refl, refl);
}

module _ (own : ℕ → ℕ) (m : Memory) (holder : ℕ) where
  abbrev contents₀ : ℕ → List ℕ
  contents₀ = m.store.contents

  module _ (b : Line) (t : ℕ) (d : List ℕ) (a : Line) where
    abbrev Spawner : Line
    Spawner = b ++ (entered t d ∷ a)

    abbrev WithChild : ℕ → Line
    WithChild c = b ++ (entered t d ∷ (entered c [] ∷ (exited c ∷ a)))

    -- a new task stands in the line once
    spawned_once : (c : ℕ) → New c Spawner → Once Spawner → Once (WithChild c)
    unfolding occurrences
    spawned_once c new once x =
        ⊎_elim (λ e. let n = subst (λ z. New z Spawner) e new in let h = at_most_one c x in (omega (arith, n.0, h, p, p'), omega (arith, n.1, h, q, q')))
        (λ n. let h = one_no c x n in (omega (arith, (once x).0, h, p, p'), omega (arith, (once x).1, h, q, q'))) (equal? c x)
      where
        p : occurrences x (exits Spawner) ≡ occurrences x (exits b) + occurrences x (exits a)
        p = count_exits x b (entered t d ∷ a)

        q : occurrences x (entries Spawner) ≡ occurrences x (entries b) + (one (eqb t x) + occurrences x (entries a))
        q = count_entries x b (entered t d ∷ a)

        p' : occurrences x (exits (WithChild c)) ≡ occurrences x (exits b) + (one (eqb c x) + occurrences x (exits a))
        p' = count_exits x b (entered t d ∷ (entered c [] ∷ (exited c ∷ a)))

        q' : occurrences x (entries (WithChild c)) ≡ occurrences x (entries b) + (one (eqb t x) + (one (eqb c x) + occurrences x (entries a)))
        q' = count_entries x b (entered t d ∷ (entered c [] ∷ (exited c ∷ a)))

    -- SPAWN of c by t, both with a right: the spot of c comes just before that of t.
    pub spawn_row : (c : ℕ) → New c Spawner → Laid own m holder Spawner
        → After own m.store (spawned t c m) holder (WithChild c)
        (timeline contents₀ a ++ (user c ∷ (user t ∷ (values_in contents₀ d ++ timeline contents₀ b))))
    unfolding spawned
    spawn_row c new r = record {
      line = WithChild c;
      laid = record {
        views = spawn_views m.children m.user m.right b t d a c r.dist new r.views;
        dist = spawned_once c new r.dist;
        held = held_rearranged own m.store holder b (entered t d ∷ []) (entered t d ∷ (entered c [] ∷ (exited c ∷ []))) a
            (no_base b (entered t d) a r.views) refl refl (λ h. (h.0, ((tt, tt), (tt, tt)))) r.held;
        closed = closed_behind b (entered t d) a (entered t d ∷ (entered c [] ∷ (exited c ∷ a))) (λ x. x) r.closed;
      };
      outlined = refl;
      points = timeline_around contents₀ contents₀ b t d a (entered c [] ∷ (exited c ∷ a)) (user c ∷ []) refl
          (agree_refl contents₀ d) (agree_refl contents₀ (segments b));
      kept = λ x k. (refl, refl);
    }

  -- A TASK WITHOUT A RIGHT comes or goes: the marks k become k', and only marks without a view are added or taken away.
  past_row : (b k k' a : Line) → exits (k' ++ a) ≡ exits (k ++ a) → entries (k' ++ a) ≡ entries (k ++ a) → segments k' ≡ segments k
      → first_chain (k' ++ a) ≡ first_chain (k ++ a) → timeline contents₀ (k' ++ a) ≡ timeline contents₀ (k ++ a)
      → (All (Chain m.store.next contents₀) k → All (Chain m.store.next contents₀) k')
      → NoBase b → Views m.children m.user m.right (b ++ (k' ++ a)) settled → Closed (b ++ (k' ++ a)) → Laid own m holder (b ++ (k ++ a))
      → After own m.store m holder (b ++ (k' ++ a)) (timeline contents₀ (b ++ (k ++ a)))
  past_row b k k' a e f g i j chains nb views closed r = record {
    line = b ++ (k' ++ a);
    laid = record { views = views; dist = once; held = held_rearranged own m.store holder b k k' a nb g i chains r.held; closed = closed };
    outlined = refl;
    points = timeline_append contents₀ b (k' ++ a)
        ∙ (ap (λ (l : List Point). l ++ timeline contents₀ b) j ∙ sym (timeline_append contents₀ b (k ++ a)));
    kept = λ x n. (refl, refl);
  }
    where
      once : Once (b ++ (k' ++ a))
      once x = (
        omega (arith, (r.dist x).0, count_exits x b (k ++ a), count_exits x b (k' ++ a), ap (occurrences x) e),
        omega (arith, (r.dist x).1, count_entries x b (k ++ a), count_entries x b (k' ++ a), ap (occurrences x) f),
      )

  -- SPAWN of c, which has no right, by t, which has one; by t, which has none
  pub spawn_past_row : (b : Line) (t : ℕ) (d : List ℕ) (a : Line) (c : ℕ) → Laid own m holder (b ++ (entered t d ∷ a))
      → After own m.store m holder (b ++ (entered t d ∷ (pass c ∷ (pass (128 + c) ∷ a)))) (timeline contents₀ (b ++ (entered t d ∷ a)))
  spawn_past_row b t d a c r =
      past_row b (entered t d ∷ []) (entered t d ∷ (pass c ∷ (pass (128 + c) ∷ []))) a refl refl refl refl refl (λ h. (h.0, (tt, (tt, tt))))
      (no_base b (entered t d) a r.views) (spawn_past_views m.children m.user m.right b t d a c (128 + c) r.views)
      (closed_behind b (entered t d) a (entered t d ∷ (pass c ∷ (pass (128 + c) ∷ a))) (λ x. x) r.closed) r

  pub pass_past_row : (b : Line) (t : ℕ) (a : Line) (c : ℕ) → Laid own m holder (b ++ (pass t ∷ a))
      → After own m.store m holder (b ++ (pass t ∷ (pass c ∷ (pass (128 + c) ∷ a)))) (timeline contents₀ (b ++ (pass t ∷ a)))
  pass_past_row b t a c r =
      past_row b (pass t ∷ []) (pass t ∷ (pass c ∷ (pass (128 + c) ∷ []))) a refl refl refl refl refl (λ h. (tt, (tt, (tt, tt))))
      (no_base b (pass t) a r.views) (pass_past_views m.children m.user m.right b t c (128 + c) a r.views)
      (closed_behind b (pass t) a (pass t ∷ (pass c ∷ (pass (128 + c) ∷ a))) (λ x. x) r.closed) r

  -- FINISH of t, which has no right
  pub finish_past_row : (b : Line) (t : ℕ) (a : Line) → Laid own m holder (b ++ (pass t ∷ (pass (128 + t) ∷ a)))
      → After own m.store m holder (b ++ a) (timeline contents₀ (b ++ (pass t ∷ (pass (128 + t) ∷ a))))
  finish_past_row b t a r =
      past_row b (pass t ∷ (pass (128 + t) ∷ [])) [] a refl refl refl refl refl (λ h. tt)
      (no_base b (pass t) (pass (128 + t) ∷ a) r.views) (finish_past_views m.children m.user m.right b t (128 + t) a r.views)
      (closed_behind b (pass t) (pass (128 + t) ∷ a) a (λ x. absurd x) r.closed) r
