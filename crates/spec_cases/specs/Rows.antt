-- A case is a list of calls, each with the answer that it must get. Each case is tried twice: on program order alone
-- (crate spec_order), and on the outcomes of the calls on memory (crate spec_outcomes).
use Rattle.std.specs.Prelude.{true, false, List, ℕ}
use Rattle.spec_answers.specs.declared.Answer.{Answer}
use Rattle.spec_answers.specs.Calls.{Call, take_call}

pub data Row : Type 0 where
  row : Call → Answer → Row

abbrev pub Case : Type 0
Case = List Row

-- a take by task t from queue q, and one that leaves the value queued
abbrev pub taking : ℕ → ℕ → Call
taking t q = take_call t q false

abbrev pub keeping : ℕ → ℕ → Call
keeping t q = take_call t q true
