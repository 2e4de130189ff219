-- A GUARANTEE ON THE SIMULATED TIME: "Where the simulation reaches the job's end, the span is listed too, and W times the ticks used is at most the
-- work plus W − 1 times the span. Span is read from the serial run, its bounds aside." (document 02, No. 6)
use Rattle.std.specs.Prelude.{◌≡◌, true, ℕ, ◌+◌, ◌-◌, ◌*◌, ◌≤◌}
use mathlib.Core.List.{List, []}
use Rattle.spec_words.specs.Words.{size}
use Rattle.spec_layout.specs.Layout.{WORDS}
use Rattle.spec_answers.specs.declared.Answer.TheVariants.{Moved}
use Rattle.spec_job.specs.Operations.{Operation}
use Rattle.spec_job.specs.Test.{job_answer}
use Rattle.spec_plain.specs.Run.{stack_of, run}
use Rattle.spec_runner.specs.Words.{RUNNER}
use Rattle.spec_simulate.specs.declared.Simulated.TheVariants.{Ended}
use Rattle.spec_simulate.specs.Ticks.{ticks_for, EachTakesTime}
use Rattle.spec_simulate.specs.Machine.{workers_right}
use Rattle.spec_span.specs.Needs.{history_of, Span}
use Rattle.spec_span.specs.Listing.{SIMULATE, listing, ceiling_of, listed_outcome}

-- What is promised of w workers, the ticks used, the work and the span of job j.
pub record Guarantee (j table : List ℕ) (w used work span : ℕ) : Type 0 where
  -- the serial run ends, and this is its span: its longest chain
  pub steps : ℕ
  pub ends : stack_of (run steps j) ≡ []
  pub is : Span j table (history_of steps j) span
  pub ceiling : w * used ≤ work + (w - 1) * span
  -- so the ticks used are at most the ceiling listed beside them
  pub within : used ≤ ceiling_of w work span
  -- the ticks used are at least the span, and at least the work divided by W
  pub least : span ≤ used
  pub shared : work ≤ w * used

-- WHAT IS LISTED, of every accepted job, by every table with numbers of 1 to 1,000, with 1 to 16 workers, and on words of any content and the right
-- lengths: where the answer is the job's end, with ticks, work and span, these are so guaranteed.
abbrev pub Promise : Type 0
Promise =
    (j table : List ℕ) → job_answer j ≡ Moved 0 → EachTakesTime table → ((o : Operation) → ticks_for table o ≤ 1000) → (w : ℕ) → workers_right w ≡ true
    → (m r x : List ℕ) → size m ≡ WORDS → size r ≡ RUNNER → size x ≡ SIMULATE → (c k span : ℕ) (m' r' e' : List ℕ)
    → listed_outcome j table w m r x ≡ listing (Ended c k) span m' r' e' → Guarantee j table w c k span
