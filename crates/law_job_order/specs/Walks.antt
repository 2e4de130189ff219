-- WALKS ALONG THE LINE of a job up to the task that moves, each with what it finds, whatever the times.
use Rattle.std.specs.Prelude.{◌≡◌, refl, Bool, ℕ}
use Rattle.std.proofs.Common.{ap, sym, ◌∙◌, subst}
use Rattle.std.proofs.Math.Option.{Option, none, some}
use mathlib.Core.List.{List, [], ◌∷◌, ◌++◌, append-nil, nil≢cons, head-eq_of_cons-eq, tail-eq_of_cons-eq}
use Rattle.spec_lists.specs.Maps.{All}
use Rattle.spec_order.specs.Steps.{Item as Mark}
use Rattle.spec_line.specs.Line.{Item, value, spot, Action, puts, looks, Search, free, seeking, found, Acts, leave}
use Rattle.spec_line.specs.Rights.{Passes}
use Rattle.spec_line.specs.Fronts.{fronts_after}
use Rattle.law_timed_line.specs.Times.{Timed, at, untimed, later}
use Rattle.law_timed_line.specs.Walks.{Walk, heard}
use Rattle.law_timed_line.proofs.Starts.{start_of}
use Rattle.law_timed_line.proofs.Lift.{Lifted, lift_past, lift_finds, lift_here}
use Rattle.law_job_line.specs.Tasks.{Runner, action, Pushing, Popping}
use Rattle.law_job_line.proofs.Within.{job_tasks}
use Rattle.law_job_line.proofs.Front.{found_by}
use Rattle.law_job_line.proofs.Agree.{none_back}
use Rattle.law_job_times.specs.Kin.{Unhalted}
use Rattle.law_job_times.specs.Times.{job_waits}
use Rattle.law_job_order.specs.Beside.{Numbered, unnumbered, standing, Beside}
use Rattle.law_job_order.specs.Points.{unnumbered_append}
use Rattle.law_job_order.specs.After.{Moved, After}

module _ (j : List ℕ) where
  -- what a search of a job's line goes past
  abbrev pub Past : Search → Item Runner → Type 0
  Past = Passes (Pushing j) (Popping j)

  -- a walk of u from the items l to k with search m, where nobody of the items f halts u; it finds o
  abbrev pub Walked : Runner → Search → List (Item Runner) → List (Item Runner) → List (Item Runner) → Option ℕ → Type 0
  Walked u m f l k o =
      (ticks : ℕ → ℕ) → Unhalted j u f → (t : List (Timed Runner)) → untimed t ≡ l → (a : ℕ)
      → (e : Search) × (found_by e ≡ o) × Lifted (job_tasks j) (job_waits j ticks) u m e a t k

  module _ (u : Runner) where
    here_one : (m : Search) (xs r : List (Item Runner)) → Acts m (action j u) xs → Walked u m [] (spot u ∷ r) (xs ++ r) (found_by m)
    here_one m xs r acts ticks c [] e a = absurd (nil≢cons e)
    here_one m xs r acts ticks c (at t y ∷ l) e a = (
      m,
      refl,
      subst (λ (z : Item Runner). Lifted (job_tasks j) (job_waits j ticks) u m m a (at t z ∷ l) (xs ++ r)) (sym (head-eq_of_cons-eq e))
          (lift_here (job_tasks j) (job_waits j ticks) u m a t xs l r acts (tail-eq_of_cons-eq e)),
    )

    past_one : (m : Search) (x : Item Runner) (f l k : List (Item Runner)) (o : Option ℕ) → Past m x → Walked u m f l k o
        → Walked u m (x ∷ f) (x ∷ l) (x ∷ k) o
    past_one m x f l k o p w ticks c [] e a = absurd (nil≢cons e)
    past_one m x f r k o p w ticks c (at t y ∷ l) e a =
        let v = w ticks c.1 l (tail-eq_of_cons-eq e) (heard (job_tasks j) (job_waits j ticks) m u x t a) in (
          v.0,
          v.1,
          subst (λ (z : Item Runner). Lifted (job_tasks j) (job_waits j ticks) u m v.0 a (at t z ∷ l) (x ∷ k)) (sym (head-eq_of_cons-eq e))
              (lift_past (job_tasks j) (job_waits j ticks) u m v.0 a t x l k (p, c.0) v.2),
        )

    finds_one : (b : Bool) (q v : ℕ) (f l k : List (Item Runner)) (o : Option ℕ) → Walked u (found b q v) f l k o
        → Walked u (seeking b q) (value q v ∷ f) (value q v ∷ l) (leave b (value q v) k) o
    finds_one b q v f l k o w ticks c [] e a = absurd (nil≢cons e)
    finds_one b q v f r k o w ticks c (at t y ∷ l) e a =
        let i = w ticks c.1 l (tail-eq_of_cons-eq e) (later a t) in (
          i.0,
          i.1,
          subst (λ (z : Item Runner). Lifted (job_tasks j) (job_waits j ticks) u (seeking b q) i.0 a (at t z ∷ l) (leave b (value q v) k))
              (sym (head-eq_of_cons-eq e))
              (lift_finds (job_tasks j) (job_waits j ticks) u i.0 a t b q v l k i.2),
        )

    past_all : (m : Search) (a f l k : List (Item Runner)) (o : Option ℕ) → All (Past m) a → Walked u m f l k o
        → Walked u m (a ++ f) (a ++ l) (a ++ k) o
    past_all m [] f l k o p w = w
    past_all m (x ∷ a) f l k o p w = past_one m x (a ++ f) (a ++ l) (a ++ k) o p.0 (past_all m a f l k o p.1 w)

    all_free : (a : List (Item Runner)) → All (Past free) a
    all_free [] = tt
    all_free (x ∷ a) = (tt, all_free a)

    -- up to the task
    to_task : (m : Search) (a r xs : List (Item Runner)) → Acts m (action j u) xs → All (Past m) a
        → Walked u m a (a ++ spot u ∷ r) (a ++ (xs ++ r)) (found_by m)
    to_task m a r xs acts p ticks c =
        past_all m a [] (spot u ∷ r) (xs ++ r) (found_by m) p (here_one m xs r acts) ticks (subst (Unhalted j u) (sym (append-nil a)) c)

    -- a task that only puts goes past everything
    pub walk_puts : (xs : List (Item Runner)) → action j u ≡ puts xs → (a r : List (Item Runner)) → Walked u free a (a ++ spot u ∷ r) (a ++ (xs ++ r)) none
    walk_puts xs e a r = to_task free a r xs (rw e refl) (all_free a)

    module _ (b : Bool) (q : ℕ) (f : Option ℕ → List (Item Runner)) (does : action j u ≡ looks b q f) (r : List (Item Runner)) where
      -- a search that finds nothing
      pub walk_nothing : (a : List (Item Runner)) → All (Past (seeking b q)) a → Walked u (seeking b q) a (a ++ spot u ∷ r) (a ++ (f none ++ r)) none
      walk_nothing a p = to_task (seeking b q) a r (f none) (rw does (refl, refl, refl)) p

      -- a search that finds a value
      pub walk_finds : (v : ℕ) (a c : List (Item Runner)) → All (Past (seeking b q)) a → All (Past (found b q v)) c
          → Walked u (seeking b q) (a ++ value q v ∷ c) (a ++ value q v ∷ (c ++ spot u ∷ r)) (a ++ leave b (value q v) (c ++ (f (some v) ++ r))) (some v)
      walk_finds v a c p d =
          past_all (seeking b q) a (value q v ∷ c) (value q v ∷ (c ++ spot u ∷ r)) (leave b (value q v) (c ++ (f (some v) ++ r))) (some v) p
          (finds_one b q v c (c ++ spot u ∷ r) (c ++ (f (some v) ++ r)) (some v) (to_task (found b q v) c r (f (some v)) (rw does (refl, refl, refl)) d))

  -- a walk from where the action of u starts is a move
  pub walked_move : (u : Runner) (i : Action Runner) (f l k : List (Item Runner)) (o : Option ℕ) → action j u ≡ i
      → fronts_after (start_of i none_back) none_back ≡ none_back → Walked u (start_of i none_back) f l k o
      → (ticks : ℕ → ℕ) → Unhalted j u f → (t : List (Timed Runner)) → untimed t ≡ l → Moved j (job_waits j ticks) u o t k
  walked_move u i f l k o is none-put w ticks c t d =
      let v = w ticks c t d 0 in
      record {
        end = v.0;
        finds = v.1;
        done = v.2.done;
        times = v.2.line;
        move = record {
          fronts = ap (λ (x : Action Runner). fronts_after (start_of x none_back) none_back) is ∙ none-put;
          walk = subst (λ (x : Action Runner). Walk (job_tasks j) (job_waits j ticks) u (start_of x none_back) v.0 0 v.2.done t v.2.line)
              (sym is) v.2.walk;
        };
        same = v.2.same;
      }

  -- a walk to task n, and the line it leads to
  pub walk_after : {xs : List Mark} (a b : List (Item Numbered)) (n : Numbered) (ns : List Numbered) (f : Option ℕ) (line : List (Item Numbered))
      → Beside j xs line → standing line ≡ standing a ++ (ns ++ standing b) → (i : Action Runner) → action j n.runner ≡ i
      → fronts_after (start_of i none_back) none_back ≡ none_back
      → Walked n.runner (start_of i none_back) (unnumbered a) (unnumbered a ++ spot n.runner ∷ unnumbered b) (unnumbered line) f → After j xs a b n ns f
  unfolding unnumbered
  walk_after a b n ns f line h e i is none-put w =
      record {
        line = line;
        beside = h;
        stand = e;
        move = λ ticks c t d. walked_move n.runner i (unnumbered a) _ (unnumbered line) f is none-put w ticks c t (d ∙ unnumbered_append a (spot n ∷ b));
      }
