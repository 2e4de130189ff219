-- 1, 10, 11 and 12 are given before 13: the trace has no form, and the answer is that of the opening.
use Rattle.std.specs.Prelude.{◌≡◌, refl, List, [], ◌∷◌, ℕ, replicate}
use Rattle.spec_words.specs.Words.{load, size, pick, both, either}
use Rattle.spec_lists.specs.Tests.{upto}
use Rattle.spec_layout.specs.Layout.{WORDS}
use Rattle.spec_tree.specs.Rights.{bits, pushes, pops, each_queue, subset}
use Rattle.spec_job.specs.Fields.{bytes2, bytes4, procedures, segment_length, offset, count, rights, reserved, instruction_from, instruction_at}
use Rattle.spec_job.specs.Operations.{row_of}
use Rattle.spec_job.specs.Test.{between, head_holds, refusal10, entry_holds, entries_hold, contents_hold, refusal11, which_holds, operand_holds, fitting}
use Rattle.spec_job.specs.Test.{instruction_holds, last_holds, body_holds, refusal12}
use Rattle.spec_job.specs.Examples.{head, entry, ins, alone, full_run}
use Rattle.spec_runner.specs.Words.{RUNNER}
use Rattle.spec_runner.specs.Answers.{has_moved, status_of, answer_of}
use Rattle.spec_runner.specs.Rules.{refused, job_tested}
use Rattle.spec_runner.specs.Open.{open_outcome}
use Rattle.text.specs.Text.{ascii}
use Rattle.spec_replay.specs.declared.Replayed.TheVariants.{Refused}
use Rattle.spec_replay.specs.Replay.{replay_answer}

-- words lent, and a trace that has no form
abbrev lent : List ℕ
lent = replicate WORDS 7

abbrev lent_runner : List ℕ
lent_runner = replicate RUNNER 7

abbrev five : List ℕ
five = 7 ∷ 7 ∷ 7 ∷ 7 ∷ 7 ∷ []

abbrev bad : List ℕ
bad = ascii "job refused 10\n"

pub record Before : Type 0 where
  pub short_core : replay_answer full_run bad five lent_runner ≡ Refused 1
  pub short_runner : replay_answer full_run bad lent five ≡ Refused 1
  pub one_before_ten : replay_answer [] bad five five ≡ Refused 1
  pub ten : replay_answer [] bad lent lent_runner ≡ Refused 10
  pub eleven : replay_answer (head 1 1 (entry 10 1 3 (ins 0 0 0 []))) bad lent lent_runner ≡ Refused 11
  pub twelve : replay_answer (alone 1 (ins 10 0 0 [])) bad lent lent_runner ≡ Refused 12
  -- and so where the trace has a form
  pub ten_of_nothing : replay_answer [] [] lent lent_runner ≡ Refused 10

pub before : Before
unfolding load size pick both either upto bits pushes pops each_queue subset bytes2 bytes4 procedures segment_length offset count rights reserved instruction_from
    instruction_at row_of between head_holds refusal10 entry_holds entries_hold contents_hold refusal11 which_holds operand_holds fitting instruction_holds last_holds
    body_holds refusal12 has_moved status_of answer_of refused job_tested open_outcome replay_answer
before =
    record {
      short_core = refl;
      short_runner = refl;
      one_before_ten = refl;
      ten = refl;
      eleven = refl;
      twelve = refl;
      ten_of_nothing = refl;
    }
