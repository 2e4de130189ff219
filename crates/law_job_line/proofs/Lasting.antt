-- TASKS LAST: a task of a job stays on the line with its name, and its answers only grow. So the answers of two runs can be compared
-- task by task.
use Rattle.std.specs.Prelude.{◌≡◌, refl, List, [], ◌∷◌, ◌++◌, ℕ}
use Rattle.std.proofs.Common.{ap, sym, ◌∙◌, append_assoc, append-nil}
use Rattle.std.proofs.Math.Option.{Option, none}
use Rattle.spec_job.specs.declared.Instruction.{Instruction}
use Rattle.spec_job.specs.Operations.{Operation, return, push, push_sum, pop, go_if_empty, go, go_if_zero, add, spawn, sync, take_or_go, operation_at}
use Rattle.spec_plain.specs.Machine.{Task, Event, event_of, advanced, parent}
use Rattle.spec_line.specs.Line.{Item, Action, Every, acts_every}
use Rattle.law_timed_line.proofs.Answers.{On, unfinished, over, behind, Lasting}
use Rattle.law_job_line.specs.Tasks.{Runner, does, answering, action_by, action, instruction_of, by_test}
use Rattle.law_job_line.proofs.Within.{job_tasks}

-- v is the task u, as late or later
pub record Later (u v : Runner) : Type 0 where
  pub name : u.task.name ≡ v.task.name
  pub more : List Event
  pub answers : v.answers ≡ u.answers ++ more

pub now : (u : Runner) → Later u u
now u = record { name = refl; more = []; answers = sym (append-nil u.answers) }

pub then : (u v w : Runner) → Later u v → Later v w → Later u w
then u v w a b =
    record {
      name = a.name ∙ b.name;
      more = a.more ++ b.more;
      answers = b.answers ∙ ap (λ (l : List Event). l ++ b.more) a.answers ∙ append_assoc u.answers a.more b.more;
    }

-- one answer more
one_more : (u : Runner) (s : Instruction) (f : Option ℕ) (t : Task) → u.task.name ≡ t.name → Later u (answering u s f t)
one_more u s f t e = record { name = e; more = event_of u.task s (does u s f) ∷ []; answers = refl }

abbrev Stay : Runner → List (Item Runner) → Type 0
Stay u xs = (v : Runner) × Later u v × On v xs

abbrev Stays : Runner → Action Runner → Type 0
Stays u = Every (λ o. Stay u)

acts_stay : (j : List ℕ) (o : Operation) (u : Runner) (s : Instruction) → Stays u (action_by o j u s)
unfolding advanced parent
acts_stay j return u s = (_, one_more u s none _ refl, over)
acts_stay j push u s = by_test (Stays u) _ _ _ (λ e. (_, one_more u s none _ refl, behind unfinished)) (_, now u, unfinished)
acts_stay j push_sum u s = by_test (Stays u) _ _ _ (λ e. (_, one_more u s none _ refl, behind unfinished)) (_, now u, unfinished)
acts_stay j pop u s = by_test (Stays u) _ _ _ (λ e a. (_, one_more u s a _ refl, unfinished)) (_, now u, unfinished)
acts_stay j go_if_empty u s = by_test (Stays u) _ _ _ (λ e a. (_, one_more u s a _ refl, unfinished)) (_, now u, unfinished)
acts_stay j go u s = (_, one_more u s none _ refl, unfinished)
acts_stay j go_if_zero u s = (_, one_more u s none _ refl, unfinished)
acts_stay j add u s = (_, one_more u s none _ refl, unfinished)
acts_stay j sync u s = (_, one_more u s none _ refl, unfinished)
acts_stay j take_or_go u s = by_test (Stays u) _ _ _ (λ e a. (_, one_more u s a _ refl, unfinished)) (_, now u, unfinished)
acts_stay j spawn u s = by_test (Stays u) _ _ _ (λ e. (_, one_more u s none _ refl, behind unfinished)) (_, now u, unfinished)

pub action_stays : (j : List ℕ) (u : Runner) → Stays u (action j u)
unfolding action
action_stays j u = acts_stay j (operation_at (instruction_of j u).operation) u (instruction_of j u)

abbrev pub job_lasting : (j : List ℕ) → Lasting (job_tasks j)
job_lasting j = record { Later = Later; now = now; then = then; stays = λ u m xs d. acts_every (λ o. Stay u) (action j u) m xs (action_stays j u) d }
