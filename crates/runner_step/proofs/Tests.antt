-- What the tests of a step leave to its instruction.
use Rattle.std.proofs.Common.{◌≡◌, ℕ, ◌<◌, true, eqb, ltb, List, sym, ◌∙◌, arith, ltb-true}
use Rattle.spec_words.specs.Words.{both, halt, both_true}
use Rattle.spec_lists.specs.Tests.{upto_says}
use Rattle.spec_layout.specs.Layout.{rights_of}
use Rattle.spec_outcomes.specs.Waits.{unfinished}
use Rattle.spec_job.specs.Fields.{procedures, count, rights}
use Rattle.spec_job.specs.Accepted.{accepted}
use Rattle.spec_runner.specs.Words.{position_of, procedure_of}
use Rattle.spec_runner.specs.Rules.{task_holds, record_holds, runner_holds}
use Rattle.runner_words.specs.Refusals.{Fits}

-- the words of an unfinished task name an instruction of a body, and no body is long
pub position_small : (j m r : List ℕ) (t : ℕ) → Fits j m r → runner_holds j m r ≡ true → unfinished m t ≡ true → position_of r t < 2147483648
unfolding runner_holds record_holds task_holds unfinished
position_small j m r t f h u =
    let few = ltb-true t 128 (both_true _ _ u).0 in
    let there = ltb-true (procedure_of r t) (procedures j) (holds few).0 in
    let inside = ltb-true (position_of r t) (count j (procedure_of r t)) (both_true _ _ (holds few).1).0 in
    let short = ((accepted j f.job).entries (procedure_of r t) there).few in
    omega (arith, inside, short)
  where
    holds : t < 128 → (ltb (procedure_of r t) (procedures j) ≡ true)
        × (both (ltb (position_of r t) (count j (procedure_of r t))) (eqb (rights_of m t) (rights j (procedure_of r t))) ≡ true)
    holds few = both_true _ _ (sym (halt _ _ u) ∙ upto_says (record_holds j m r) 128 0 h t (omega arith) (omega (arith, few)))
