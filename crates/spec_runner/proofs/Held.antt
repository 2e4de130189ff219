-- REFUSALS 5 AND 6 CANNOT ARISE in a step: the job test fixed queue and right, and the memory rules give the core's task the rights of
-- its procedure, on memory of any origin.
use Rattle.std.specs.Prelude.{◌≡◌, refl, true, false, List, ℕ, ◌<◌, eqb}
use Rattle.std.proofs.Common.{ap, ◌∙◌, arith}
use Rattle.std.proofs.Math.Path.{sym, subst}
use Rattle.std.proofs.Math.Bool.{not}
use borrow.Author.Tests.{ltb-true, eqb-true, lt-leb}
use Rattle.spec_words.specs.Words.{pick, pass, halt, both_true}
use Rattle.spec_lists.specs.Tests.{upto_says}
use Rattle.spec_tree.specs.Rights.{pushes, pops, subset}
use Rattle.spec_answers.specs.declared.Answer.TheVariants.{Moved, Waits, Refused}
use Rattle.spec_answers.specs.Answers.{Outcome, outcome}
use Rattle.spec_outcomes.specs.Waits.{unfinished, blocked}
use Rattle.spec_outcomes.specs.Push.{pushed_run, push_tested}
use Rattle.spec_outcomes.specs.Take.{pop_allowed}
use Rattle.spec_outcomes.specs.Spawn.{spawned, spawn_tested}
use Rattle.spec_layout.specs.Layout.{free_tasks, rights_of, read}
use Rattle.spec_job.specs.Operations.{row_of}
use Rattle.spec_job.specs.Test.{which_holds, fitting, instruction_holds, job_answer}
use Rattle.spec_job.specs.Accepted.{accepted}
use Rattle.spec_runner.specs.Words.{procedure_of, position_of, register_of, instruction_for}
use Rattle.spec_runner.specs.Rules.{task_holds, zeros, record_holds, runner_holds}

module _ (j m r : List ℕ) (t : ℕ) (job : job_answer j ≡ Moved 0) (rules : runner_holds j m r ≡ true) (there : unfinished m t ≡ true) where
  few : t < 128
  unfolding unfinished
  few = ltb-true t 128 (both_true _ _ there).0

  holds : task_holds j m r t ≡ true
  unfolding runner_holds record_holds
  holds = let l = few in sym (halt _ _ there) ∙ upto_says (record_holds j m r) 128 0 rules t (omega (arith, l)) (omega (arith, l))

  -- the byte "which" of the instruction that the task is at is right for the rights that the core has of the task
  pub right_held : let i = instruction_for j r t in which_holds j (rights_of m t) (row_of i.operation) i.which ≡ true
  unfolding task_holds instruction_holds fitting instruction_for
  right_held =
      let w = both_true _ _ (unfold task_holds in holds) in
      let v = both_true _ _ w.1 in
      let p = procedure_of r t in
      let i = instruction_for j r t in
      subst (λ (k : ℕ). which_holds j k (row_of i.operation) i.which ≡ true) (sym (eqb-true _ _ v.1))
      (both_true _ _ ((accepted j job).instructions p (position_of r t) (ltb-true _ _ w.0) (ltb-true _ _ v.0))).0

  -- so these tests of the core's calls pass
  pub push_allowed : (q : ℕ) (vs : List ℕ) → q < 4 → pushes (rights_of m t) q ≡ true
      → push_tested m t q vs ≡ pick (blocked m t) (outcome Waits m) (pushed_run m t q vs)
  unfolding push_tested
  push_allowed q vs small may = pass _ (ap not there) (pass _ (lt-leb 4 q small) (pass _ (ap not may) refl))

  pub pop_allowed_lem : (q : ℕ) (o : Outcome) → q < 4 → pops (rights_of m t) q ≡ true → pop_allowed m t q o ≡ o
  unfolding pop_allowed
  pop_allowed_lem q o small may = pass _ (ap not there) (pass _ (lt-leb 4 q small) (pass _ (ap not may) refl))

  pub spawn_allowed : (u : ℕ) → subset u (rights_of m t) ≡ true
      → spawn_tested m t u ≡ pick (blocked m t) (outcome Waits m) (pick (eqb (read m free_tasks) 0) (outcome (Refused 8) m) (spawned m t u))
  unfolding spawn_tested
  spawn_allowed u may = pass _ (ap not there) (pass _ (ap not may) refl)

-- "zeros for records not unfinished": all three words
pub idle_zeros : (j m r : List ℕ) (t : ℕ) → runner_holds j m r ≡ true → t < 128 → unfinished m t ≡ false
    → (procedure_of r t ≡ 0) × (position_of r t ≡ 0) × (register_of r t ≡ 0)
unfolding runner_holds record_holds zeros
idle_zeros j m r t rules small idle =
    let h : zeros r t ≡ true = sym (pass _ idle refl) ∙ upto_says (record_holds j m r) 128 0 rules t (omega arith) (omega arith) in
    let a = both_true _ _ h in
    let b = both_true _ _ a.1 in
    (eqb-true _ _ a.0, eqb-true _ _ b.0, eqb-true _ _ b.1)
