-- WHERE SOME ORDER OF MOVES leaves no task unfinished, the plain run ends too, after as many steps: each of its steps is a move, and every
-- move brings the end one move nearer.
use Rattle.std.specs.Prelude.{◌≡◌, ℕ, zero, suc, ◌+◌}
use Rattle.std.proofs.Math.Path.{ap, subst}
use Rattle.std.proofs.Common.{sym, ◌∙◌, arith}
use mathlib.Core.List.{List, [], ◌∷◌}
use Rattle.spec_job.specs.Accepted.{Accepted}
use Rattle.spec_plain.specs.Machine.{State, state, begin}
use Rattle.spec_plain.specs.Run.{stack_of, run_from, run}
use Rattle.spec_plain.proofs.Laws.{ended_stays}
use Rattle.spec_plain.specs.Stack.{Stack, first_stands}
use Rattle.spec_plain.proofs.Kept.{begin_stands, next_kept}
use Rattle.spec_line.specs.Fronts.{Fronts}
use Rattle.law_timed_line.specs.Times.{Timed}
use Rattle.law_timed_line.specs.Walks.{Waits}
use Rattle.law_timed_line.proofs.Agreement.{Moves, Bare, after_move}
use Rattle.law_job_line.specs.Tasks.{Runner}
use Rattle.law_job_line.proofs.Within.{job_tasks}
use Rattle.law_job_line.proofs.Plain.{tasks_of, Serially, plain_step}
use Rattle.law_job_line.proofs.Agree.{top, start, none_back, begins}

module _ (j : List ℕ) (W : Waits (job_tasks j)) (acc : Accepted j) (y : Fronts) (z : List (Timed Runner)) (bare : Bare z) where
  -- what is to be shown where n moves lead to the line z
  abbrev Ends : ℕ → Type 0
  Ends n =
      (k : ℕ) (r : Fronts) (qs : List (List ℕ)) (us : List Runner) (l : List (Timed Runner)) → Serially r qs us l → Stack j (tasks_of us)
      → Moves (job_tasks j) W n r l y z → stack_of (run_from n j (state qs (tasks_of us) k)) ≡ []

  nearer : (n : ℕ) → ((m : ℕ) → n ≡ suc m → Ends m) → Ends n
  unfolding stack_of run_from
  nearer n rest k r qs [] l h st ms = ap stack_of (ended_stays j qs k n)
  nearer n rest k r qs (u ∷ us) l h st ms =
      let p = plain_step j W r qs u us k l h acc (first_stands j u.task (tasks_of us) st) in
      let a = after_move (job_tasks j) W bare ms p.move in
      subst (λ (i : ℕ). stack_of (run_from i j (state qs (tasks_of (u ∷ us)) k)) ≡ []) (sym a.less)
      (ap (λ (s : State). stack_of (run_from a.left j s)) p.is
      ∙ rest a.left a.less (k + 1) p.fronts p.queues p.tasks p.then p.serially
      (subst (λ (s : State). Stack j (stack_of s)) p.is (next_kept j acc (state qs (tasks_of (u ∷ us)) k) st)) a.run)

  ends : (n : ℕ) → Ends n
  ends zero = nearer zero (λ m e. absurd (omega (arith, e)))
  ends (suc n) = nearer (suc n) (λ m e. let same : n ≡ m = omega (arith, e) in subst Ends same (ends n))

  pub plain_ends : (n : ℕ) → Moves (job_tasks j) W n none_back start y z → stack_of (run n j) ≡ []
  unfolding run begin
  plain_ends n ms = ends n 0 none_back ([] ∷ [] ∷ [] ∷ [] ∷ []) (top ∷ []) start begins (unfold stack_of begin in begin_stands j acc) ms
