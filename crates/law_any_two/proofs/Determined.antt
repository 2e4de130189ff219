-- DETERMINACY AND TERMINATION, PROVED: a list of calls after which all have finished is a run of the line to its end, so the plain run
-- ends too, and demand 3 ties every such list to it.
use Rattle.std.specs.Prelude.{◌≡◌, List, [], ℕ, length}
use Rattle.std.proofs.Common.{ap, sym, ◌∙◌, subst, ⊎_elim}
use Rattle.spec_lists.specs.Counting.{below?}
use Rattle.spec_answers.specs.declared.Answer.TheVariants.{Moved}
use Rattle.spec_job.specs.Test.{job_answer}
use Rattle.spec_job.specs.Accepted.{accepted}
use Rattle.spec_line.specs.Line.{Item}
use Rattle.law_job_order.specs.Beside.{Numbered}
use Rattle.spec_plain.specs.Run.{stack_of, run}
use Rattle.law_timed_line.proofs.Agreement.{all_finished}
use Rattle.law_job_line.proofs.Within.{job_tasks}
use Rattle.law_job_line.proofs.Agree.{none_back}
use Rattle.law_job_line.proofs.Ends.{plain_ends}
use Rattle.law_job_line.proofs.Answered.{log_length}
use Rattle.law_job_times.specs.Times.{job_waits}
use Rattle.law_any_order.specs.Statement.{Stand, after_calls, fresh, AllFinished}
use Rattle.law_any_order.proofs.Running.{Running}
use Rattle.law_any_order.proofs.AnyOrder.{gone, no_queue, under_way, no_ticks, any_order}
use Rattle.law_any_two.specs.Statement.{Determinacy, Termination}

pub termination : Termination
termination j accept w v sw sv ts f =
    let W = job_waits j no_ticks in
    let s = after_calls j ts (fresh j w v) in
    let r = (under_way j accept no_ticks w v sw sv ts).1 in
    subst (λ (n : ℕ). stack_of (run n j) ≡ []) (sym (log_length j W r.moves) ∙ ap length r.log)
    (plain_ends j W (accepted j accept) none_back r.times (gone j no_ticks accept s _ r f) r.count r.moves)

pub determinacy : Determinacy
determinacy j accept w v w' v' sw sv sw' sv' ts us f g =
    let n = length (after_calls j ts (fresh j w v)).events in
    let end = termination j accept w v sw sv ts f in
    let a = any_order j accept n end w v sw sv ts in
    let b = any_order j accept n end w' v' sw' sv' us in
    record {
      answers = λ p. a.all f p ∙ sym (b.all g p);
      moves = a.moves f ∙ sym (b.moves g);
      left = λ q i. ⊎_elim (λ small. a.left f q i small ∙ sym (b.left g q i small))
          (λ large. no_queue j no_ticks accept _ _ (under_way j accept no_ticks w v sw sv ts).1 q i large
          ∙ sym (no_queue j no_ticks accept _ _ (under_way j accept no_ticks w' v' sw' sv' us).1 q i large))
          (below? q 4);
    }

-- The times do not hang on the order of the calls either, by any ticks: two runs in which all have finished end in one timed line.
pub same_times : (j : List ℕ) (accept : job_answer j ≡ Moved 0) (ticks : ℕ → ℕ) (s o : Stand) (l k : List (Item Numbered)) (r : Running j ticks s l)
    (r' : Running j ticks o k) → AllFinished s → AllFinished o → r.times ≡ r'.times
same_times j accept ticks s o l k r r' f g =
    (all_finished (job_tasks j) (job_waits j ticks) (gone j ticks accept s l r f) r.moves (gone j ticks accept o k r' g) r'.moves).2
