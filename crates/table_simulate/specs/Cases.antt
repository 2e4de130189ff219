-- Document 01's job and another with workers, by our ticks.
use Rattle.std.specs.Prelude.{◌≡◌, List, [], ◌∷◌, ℕ}
use Rattle.std.proofs.Math.Path.{refl}
use Rattle.std.proofs.Common.{◌∙◌}
use Rattle.spec_words.specs.Words.{load, size, pick, both, either}
use Rattle.spec_lists.specs.Tests.{upto}
use Rattle.spec_layout.specs.Layout.{WORDS}
use Rattle.spec_answers.specs.declared.Answer.TheVariants.{Moved}
use Rattle.spec_tree.specs.Rights.{bits, pushes, pops, each_queue, subset}
use Rattle.spec_job.specs.Fields.{bytes2, bytes4, procedures, segment_length, offset, count, rights, reserved, instruction_from, instruction_at}
use Rattle.spec_job.specs.Operations.{return, push, pop, add, spawn, sync, row_of}
use Rattle.spec_job.specs.Test.{between, head_holds, refusal10, entry_holds, entries_hold, contents_hold, refusal11, which_holds, operand_holds, fitting}
use Rattle.spec_job.specs.Test.{instruction_holds, last_holds, body_holds, refusal12, job_answer}
use Rattle.spec_job.specs.Examples.{head, entry, ins, full_run}
use Rattle.spec_runner.specs.Words.{RUNNER}
use Rattle.spec_runner.specs.Open.{open_outcome}
use Rattle.spec_simulate.specs.declared.Simulated.TheVariants.{Ended}
use Rattle.spec_simulate.specs.Ticks.{our_ticks}
use Rattle.spec_simulate.specs.Machine.{Event, taken, fallen, rounds, start, outcome_of, workers_right, simulate_outcome}
use Rattle.table_simulate.specs.Table.{answer_in, history_in, simulates, answers, happened}

-- A top that spawns procedures 1, 2 and 2: the first has finished when the third is there, which gets its number 1 and stands behind task 2.
abbrev pub renumbered : List ℕ
renumbered =
    head 3 4
    (entry 22 5 255 (entry 52 3 1 (entry 70 3 1
    (ins 8 1 0 (ins 8 2 0 (ins 8 2 0 (ins 9 0 0 (ins 0 0 0
    (ins 1 0 5 (ins 7 0 1 (ins 0 0 0
    (ins 1 0 6 (ins 1 0 7 (ins 0 0 0 []))))))))))))))

-- both are accepted
pub accepted : (job_answer full_run ≡ Moved 0) × (job_answer renumbered ≡ Moved 0)
unfolding load size pick both either upto bits pushes pops each_queue subset bytes2 bytes4 procedures segment_length offset count rights reserved instruction_from
    instruction_at row_of between head_holds refusal10 entry_holds entries_hold contents_hold refusal11 which_holds operand_holds fitting instruction_holds last_holds
    body_holds refusal12 job_answer
accepted = (refl, refl)

one_worker : answer_in (outcome_of (simulates full_run 1)) ≡ Ended 33 33
unfolding outcome_of answer_in simulates
one_worker = refl

two_workers : answer_in (outcome_of (simulates full_run 2)) ≡ Ended 23 33
unfolding outcome_of answer_in simulates
two_workers = refl

sixteen_workers : answer_in (outcome_of (simulates full_run 16)) ≡ Ended 23 33
unfolding outcome_of answer_in simulates
sixteen_workers = refl

-- What two workers do, the latest first. Each child has finished before the next is there, so each has number 1; at ticks 10 and 15 its
-- return falls before the spawn of the next, since it stands before the top in program order.
abbrev pub by_two : List Event
by_two =
    fallen 23 0 ∷ taken 21 0 return ∷ fallen 21 0 ∷ taken 20 0 sync
    ∷ fallen 20 1 ∷ taken 18 1 return ∷ fallen 18 1 ∷ taken 15 1 push
    ∷ fallen 15 0 ∷ fallen 15 1 ∷ taken 13 1 return ∷ fallen 13 1 ∷ taken 10 0 spawn ∷ taken 10 1 pop
    ∷ fallen 10 0 ∷ fallen 10 1 ∷ taken 8 1 return ∷ fallen 8 1 ∷ taken 5 0 spawn ∷ taken 5 1 push
    ∷ fallen 5 0 ∷ taken 0 0 spawn ∷ []

two_do : history_in (simulates full_run 2) ≡ by_two
unfolding history_in simulates
two_do = refl

-- What sixteen do in the other: at tick 18 the return of task 2 falls before the push of task 1.
abbrev pub by_sixteen : List Event
by_sixteen =
    fallen 26 0 ∷ taken 24 0 return ∷ fallen 24 0 ∷ taken 23 0 sync
    ∷ fallen 23 1 ∷ taken 21 1 return ∷ fallen 21 1 ∷ taken 18 1 push
    ∷ fallen 18 1 ∷ fallen 18 2 ∷ taken 16 2 return ∷ fallen 16 2 ∷ taken 15 1 push
    ∷ fallen 15 0 ∷ taken 13 2 push ∷ fallen 13 2 ∷ fallen 11 1 ∷ taken 10 0 spawn ∷ taken 10 2 push
    ∷ fallen 10 0 ∷ taken 9 1 return ∷ fallen 9 1 ∷ taken 8 1 add ∷ fallen 8 1 ∷ taken 5 0 spawn ∷ taken 5 1 push
    ∷ fallen 5 0 ∷ taken 0 0 spawn ∷ []

sixteen_do : (answer_in (outcome_of (simulates renumbered 16)) ≡ Ended 26 40) × (history_in (simulates renumbered 16) ≡ by_sixteen)
unfolding outcome_of answer_in history_in simulates
sixteen_do = (refl, refl)

-- on any words lent
module _ (m r e : List ℕ) (sm : size m ≡ WORDS) (sr : size r ≡ RUNNER) (se : size e ≡ 128) where
  pub record FullRun : Type 0 where
    pub one : answer_in (simulate_outcome full_run our_ticks 1 m r e) ≡ Ended 33 33
    pub two : answer_in (simulate_outcome full_run our_ticks 2 m r e) ≡ Ended 23 33
    pub sixteen : answer_in (simulate_outcome full_run our_ticks 16 m r e) ≡ Ended 23 33
    pub schedule : history_in (rounds full_run our_ticks 65535 (start 2 (open_outcome full_run m r))) ≡ by_two

  pub full_run_lem : FullRun
  unfolding pick both workers_right
  full_run_lem =
      record {
        one = answers full_run accepted.0 1 refl m r e sm sr se ∙ one_worker;
        two = answers full_run accepted.0 2 refl m r e sm sr se ∙ two_workers;
        sixteen = answers full_run accepted.0 16 refl m r e sm sr se ∙ sixteen_workers;
        schedule = happened full_run accepted.0 2 refl m r e sm sr se ∙ two_do;
      }

  pub record Renumbered : Type 0 where
    pub sixteen : answer_in (simulate_outcome renumbered our_ticks 16 m r e) ≡ Ended 26 40
    pub schedule : history_in (rounds renumbered our_ticks 65535 (start 16 (open_outcome renumbered m r))) ≡ by_sixteen

  pub in_order : Renumbered
  unfolding pick both workers_right
  in_order =
      record {
        sixteen = answers renumbered accepted.1 16 refl m r e sm sr se ∙ sixteen_do.0;
        schedule = happened renumbered accepted.1 16 refl m r e sm sr se ∙ sixteen_do.1;
      }
