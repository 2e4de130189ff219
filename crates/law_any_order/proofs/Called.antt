-- ONE CALL of a run under way: the run goes on, or nothing changes.
use Rattle.std.specs.Prelude.{◌≡◌, true, false, ℕ, suc}
use Rattle.std.proofs.Math.Path.{refl, ap}
use Rattle.std.proofs.Common.{ap₂, sym, ◌∙◌, subst}
use Rattle.std.proofs.Math.Bool.{not}
use mathlib.Core.List.{List, [], ◌∷◌, ◌++◌}
use Rattle.spec_words.specs.Words.{halt}
use Rattle.spec_lists.specs.Maps.{All}
use Rattle.spec_answers.specs.declared.Answer.TheVariants.{Moved}
use Rattle.spec_order.specs.Steps.{Item as Mark}
use Rattle.spec_order.specs.Waits.{unfinished}
use Rattle.spec_job.specs.Effects.{Effect}
use Rattle.spec_job.specs.Test.{job_answer}
use Rattle.spec_job.specs.Accepted.{accepted}
use Rattle.spec_plain.specs.Stack.{Stands}
use Rattle.spec_plain.specs.Machine.{Event}
use Rattle.spec_line.specs.Line.{Item, value, spot, finished, gave}
use Rattle.law_job_line.specs.Tasks.{Runner, does, instruction_of}
use Rattle.law_job_line.proofs.Events.{more_log, event_with}
use Rattle.law_job_line.proofs.Within.{job_tasks}
use Rattle.law_job_line.proofs.Agree.{none_back}
use Rattle.law_timed_line.specs.Times.{Timed, untimed}
use Rattle.law_timed_line.proofs.Agreement.{Move as LineMove, one_more}
use Rattle.law_job_order.specs.After.{Moved as Move}
use Rattle.law_job_times.specs.Times.{job_waits}
use Rattle.law_job_waits.specs.Halted.{nobody_halts}
use Rattle.law_job_line.proofs.Stood.{Unfinished, first, behind, moves_stand}
use Rattle.law_job_order.specs.Beside.{Numbered, unnumbered, standing}
use Rattle.spec_runner.specs.declared.StepAnswer.{StepAnswer}
use Rattle.spec_runner.specs.declared.StepAnswer.TheVariants.{Refused}
use Rattle.spec_runner.specs.Answers.{answer_with, outcome, has_moved, answer_of}
use Rattle.spec_runner.specs.Step.{step_tested, step_outcome}
use Rattle.spec_runner.proofs.Laws.{has_moved_lem}
use Rattle.law_any_order.specs.Statement.{Stand, event_for, stepped, step_answer}
use Rattle.law_any_order.proofs.States.{state_unfinished}
use Rattle.law_any_order.proofs.Written.{Written}
use Rattle.law_any_order.proofs.Tested.{tests_pass}
use Rattle.law_any_order.proofs.Goes.{Place, Stays, waits, eight, nine, Goes, StaysOrGoes, stays, goes}
use Rattle.law_any_order.proofs.Goes as common
use Rattle.law_any_order.proofs.Running.{Running, same_stand, next_stand}
use Rattle.law_any_order.proofs.Names.{name_is, event_is}

-- an answer of a step that does not move
pub stays_still : {j m r : List ℕ} {xs : List Mark} {n : Numbered} (x : StepAnswer) → Stays j m r xs n x → has_moved x ≡ false
unfolding has_moved
stays_still x (waits w) = refl
stays_still x (eight k c d) = refl
stays_still x (nine q v c d e) = refl

module _ (j : List ℕ) (ticks : ℕ → ℕ) (e : job_answer j ≡ Moved 0) where
  -- every task on the line is at an instruction that exists
  all_stood : (l : List (Item Numbered)) → ((u : Runner) → Unfinished u (unnumbered l) → Stands j u.task)
      → All (λ n. Stands j n.runner.task) (standing l)
  unfolding unnumbered standing
  all_stood [] f = tt
  all_stood (value q v ∷ l) f = all_stood l (λ u i. f u (behind i))
  all_stood (spot n ∷ l) f = (f n.runner first, all_stood l (λ u i. f u (behind i)))
  all_stood (finished n ∷ l) f = all_stood l (λ u i. f u (behind i))
  all_stood (gave q ∷ l) f = all_stood l (λ u i. f u (behind i))

  pub stood : {s : Stand} {l : List (Item Numbered)} → Running j ticks s l → All (λ n. Stands j n.runner.task) (standing l)
  stood {l = l} run = all_stood l (λ u i. moves_stand j (job_waits j ticks) (accepted j e) run.moves u (subst (Unfinished u) (sym run.same) i))

  -- the task with number t stands on the line l, and its step goes on
  pub record Mover (s : Stand) (l : List (Item Numbered)) (t : ℕ) : Type 0 where
    pub before : List (Item Numbered)
    pub behind : List (Item Numbered)
    pub who : Numbered
    pub here : l ≡ before ++ spot who ∷ behind
    pub number : who.number ≡ t
    pub goes : Goes j s.core s.runner s.order before behind who

  -- What a call of task number t does.
  pub data Called (s : Stand) (l : List (Item Numbered)) (t : ℕ) : Type 0 where
    absent : unfinished t s.order ≡ false → step_answer j s t ≡ Refused 4 → stepped j t s ≡ s → Called s l t
    held : (a b : List (Item Numbered)) (n : Numbered) (x : StepAnswer) → l ≡ a ++ spot n ∷ b → n.number ≡ t
        → Stays j s.core s.runner s.order n x → step_answer j s t ≡ x → stepped j t s ≡ s → Called s l t
    went : Mover s l t → has_moved (step_answer j s t) ≡ true → (k : List (Item Numbered)) → Running j ticks (stepped j t s) k → Called s l t

  -- 4: nobody unfinished has the number
  pub refused_four : (s : Stand) (l : List (Item Numbered)) (t : ℕ) → Running j ticks s l → unfinished t s.order ≡ false → Called s l t
  unfolding step_outcome step_tested step_answer answer_of has_moved
  refused_four s l t run f =
      let o : step_outcome j s.core s.runner t ≡ outcome (Refused 4) s.core s.runner =
      tests_pass j s.core s.runner s.order l run.state run.beside run.written (stood run) e _
      ∙ halt _ _ (ap not (state_unfinished s.core s.order run.state t ∙ f)) in
      absent f (ap answer_of o) (same_stand j s t (Refused 4) refl o)

  module _ (s : Stand) (a b : List (Item Numbered)) (n : Numbered) (run : Running j ticks s (a ++ spot n ∷ b)) where
    abbrev t : ℕ
    t = n.number

    pub place : Place j s.core s.runner s.order a b n
    place = record { accepted = e; state = run.state; beside = run.beside; written = run.written; stood = stood run }

    -- A STEP THAT GOES ON is a move along the line, on whatever times
    module _ (g : Goes j s.core s.runner s.order a b n) where
      pub its_move : (l : List (Timed Runner)) → untimed l ≡ unnumbered (a ++ spot n ∷ b)
          → Move j (job_waits j ticks) n.runner g.found l (unnumbered g.after.line)
      its_move = g.after.move ticks (nobody_halts j (common.represents place).played a b n run.beside g.able)

      abbrev answer : Effect
      answer = does n.runner (instruction_of j n.runner) g.found

      moves : has_moved (answer_with answer.word answer.value g.new) ≡ true
      unfolding does
      moves = has_moved_lem _ _ _ _ g.found _ g.new

      event : event_for j s t (answer_with answer.word answer.value g.new) ≡ event_with j n.runner g.found
      event = event_is j s n g.found g.new (name_is j s.order a b n (common.represents place).played run.beside) (common.instruction_is place)

      -- its answer, and the event of that
      pub has_gone : has_moved (step_answer j s t) ≡ true
      unfolding step_answer answer_of
      has_gone = ap (λ o. has_moved (answer_of o)) g.outcome_is ∙ moves

      pub goes_event : event_for j s t (step_answer j s t) ≡ event_with j n.runner g.found
      unfolding step_answer answer_of
      goes_event = ap (λ o. event_for j s t (answer_of o)) g.outcome_is ∙ event

      -- the run after it
      pub after_goes : Running j ticks (stepped j t s) g.after.line
      after_goes =
          let o = its_move run.times run.same in
          let k : LineMove (job_tasks j) (job_waits j ticks) none_back run.times none_back o.times =
          record { task = n.runner; end = o.end; done = o.done; move = o.move } in
          subst (λ (k : Stand). Running j ticks k g.after.line)
          (sym (next_stand j s t _ g.core g.runner g.order _ moves g.outcome_is g.noted_is event))
          (record {
            state = g.state;
            beside = g.after.beside;
            written = subst (Written g.runner) (sym g.after.stand) g.written;
            count = suc run.count;
            times = o.times;
            same = o.same;
            moves = one_more (job_tasks j) (job_waits j ticks) run.moves k;
            log =
                more_log j (job_waits j ticks) run.moves k
                ∙ ap₂ (λ (es : List Event) (x : Event). es ++ x ∷ []) run.log (ap (event_with j n.runner) o.finds);
          })

    pub called_by : StaysOrGoes j s.core s.runner s.order a b n → Called s (a ++ spot n ∷ b) t
    unfolding step_answer answer_of
    called_by (stays x y o) = held a b n x refl refl y (ap answer_of o) (same_stand j s t x (stays_still x y) o)
    called_by (goes g) =
        went (record { before = a; behind = b; who = n; here = refl; number = refl; goes = g }) (has_gone g) g.after.line (after_goes g)
