-- THE ANSWERS OF ANY RUN of an accepted job's tasks are the first answers of its plain run, where that ends: for each task, in
-- order.
use Rattle.std.specs.Prelude.{◌≡◌, refl, List, [], ◌++◌, ℕ, suc, length}
use Rattle.std.proofs.Common.{ap, sym, ◌∙◌, subst, ⊎_elim}
use Rattle.spec_lists.specs.Maps.{All}
use Rattle.spec_order.specs.Steps.{Name}
use Rattle.spec_job.specs.Accepted.{Accepted}
use Rattle.spec_plain.specs.Machine.{Event}
use Rattle.spec_plain.specs.Run.{stack_of, run, events, answers_of}
use Rattle.spec_line.specs.Line.{NoSpot}
use Rattle.spec_line.specs.Fronts.{Fronts}
use Rattle.law_timed_line.specs.Times.{Timed, untimed}
use Rattle.law_timed_line.specs.Walks.{Waits}
use Rattle.law_timed_line.proofs.Agreement.{Moves, all_finished}
use Rattle.law_timed_line.proofs.Answers.{answers}
use Rattle.law_job_line.specs.Tasks.{Runner}
use Rattle.law_job_line.proofs.Within.{job_tasks}
use Rattle.law_job_line.proofs.Lasting.{job_lasting}
use Rattle.law_job_line.proofs.Agree.{start, none_back, ran}
use Rattle.law_job_line.proofs.Events.{log}
use Rattle.law_job_line.proofs.Log.{Logged, moves_logged, Has, has?, has_answers}

-- one event a move
pub log_length : (j : List ℕ) (W : Waits (job_tasks j)) {n : ℕ} {r x : Fronts} {l k : List (Timed Runner)} (ms : Moves (job_tasks j) W n r l x k)
    → length (log j W ms) ≡ n
log_length j W Moves.no_move = refl
log_length j W (Moves.moves m ms) = ap suc (log_length j W ms)

module _ (j : List ℕ) (W : Waits (job_tasks j)) (acc : Accepted j) (m : ℕ) (end : stack_of (run m j) ≡ []) where
  -- the last line of the plain run, and its events
  plain_logged : Logged (untimed (ran j W acc m end).last) (events m j)
  plain_logged = subst (Logged (untimed (ran j W acc m end).last)) (ran j W acc m end).events (moves_logged j W acc (ran j W acc m end).run)

  -- what a task has been answered so far, it is answered first in the plain run
  pub answers_first : {n : ℕ} {x : Fronts} {l : List (Timed Runner)} (ms : Moves (job_tasks j) W n none_back start x l) (p : Name)
      → (more : List Event) × (answers_of p (events m j) ≡ answers_of p (log j W ms) ++ more)
  answers_first {l = l} ms p =
      ⊎_elim there (λ n. (answers_of p (events m j), ap (λ (es : List Event). es ++ answers_of p (events m j)) (sym (g.heard p n)))) (has? p (untimed l))
    where
      g : Logged (untimed l) (log j W ms)
      g = moves_logged j W acc ms

      there : Has p (untimed l) → (more : List Event) × (answers_of p (events m j) ≡ answers_of p (log j W ms) ++ more)
      there h =
          let w = answers (job_tasks j) W (job_lasting j) h.task (ran j W acc m end).bare (ran j W acc m end).run ms h.on in
          let k : Has p (untimed (ran j W acc m end).last) = record { task = w.task; on = w.on; name = sym w.later.name ∙ h.name } in (
            w.later.more,
            sym (has_answers p plain_logged k) ∙ w.later.answers ∙ ap (λ (es : List Event). es ++ w.later.more) (has_answers p g h),
          )

  -- once all tasks have finished, each has been answered what it is answered in the plain run
  pub answers_all : {n : ℕ} {x : Fronts} {l : List (Timed Runner)} (ms : Moves (job_tasks j) W n none_back start x l) → All NoSpot (untimed l) → (p : Name)
      → answers_of p (log j W ms) ≡ answers_of p (events m j)
  answers_all {l = l} ms a p =
      ⊎_elim (λ h. sym (has_answers p g h) ∙ has_answers p same h) (λ n. g.heard p n ∙ sym (same.heard p n)) (has? p (untimed l))
    where
      g : Logged (untimed l) (log j W ms)
      g = moves_logged j W acc ms

      -- the line is the last of the plain run
      same : Logged (untimed l) (events m j)
      same =
          subst (λ (x : List (Timed Runner)). Logged (untimed x) (events m j))
          (all_finished (job_tasks j) W (ran j W acc m end).bare (ran j W acc m end).run a ms).2 plain_logged
