-- A TASK NEED NOT WAIT, by program order: nobody makes its next step wait. Then the step moves or is refused for want of a record or
-- a segment; otherwise it waits.
use Rattle.std.specs.Prelude.{◌≡◌, refl, Bool, true, false, List, ℕ, ◌<◌}
use Rattle.std.proofs.Common.{subst, ltb-true}
use Rattle.spec_words.specs.Words.{both_true}
use Rattle.spec_tree.specs.Rights.{pops as mayPop}
use Rattle.spec_answers.specs.declared.Finding.TheVariants as Finding
use Rattle.spec_order.specs.Steps.{Item as Mark}
use Rattle.spec_order.specs.Waits.{blocked, has_child}
use Rattle.spec_order.specs.Finding.{finding}
use Rattle.spec_job.specs.declared.Instruction.{Instruction}
use Rattle.spec_job.specs.Operations.{Operation, return, push, push_sum, pop, go_if_empty, go, go_if_zero, add, spawn, sync, take_or_go, operation_at}
use Rattle.spec_plain.specs.Stack.{rights_of}
use Rattle.spec_line.specs.Line.{Action, puts, looks, returns}
use Rattle.spec_line.specs.Rights.{Within}
use Rattle.law_job_line.specs.Tasks.{can_pop, Runner, action_by, action, instruction_of, by_test, Pushing, Popping}
use Rattle.law_job_line.proofs.Within.{action_within}
use Rattle.law_job_order.specs.Beside.{Numbered}
use Rattle.law_job_order.specs.Instructions.{action_by_lem}
use Rattle.law_job_times.specs.Kin.{awaits}

-- the queue that an action looks in
abbrev pub LooksIn : ℕ → Action Runner → Type 0
LooksIn q (puts xs) = ⊥
LooksIn q (looks b p f) = p ≡ q
LooksIn q (returns p v xs) = ⊥

-- the next step of u waits for its children
abbrev pub Awaits : List ℕ → Runner → Type 0
Awaits j u = awaits (operation_at (instruction_of j u).operation) ≡ true

-- document 01's waits, for the next step of task n: for older siblings, for children, for what a queue will hold
pub record Able (j : List ℕ) (xs : List Mark) (n : Numbered) : Type 0 where
  pub free : blocked n.number xs ≡ false
  pub childless : Awaits j n.runner → has_child n.number xs ≡ false
  pub finds : (q : ℕ) → LooksIn q (action j n.runner) → finding n.number q xs ≡ Finding.Waits → ⊥

-- THE OPERATIONS THAT LOOK in a queue
unfoldable pub searches : Operation → Bool
searches pop = true
searches go_if_empty = true
searches take_or_go = true
searches return = false
searches push = false
searches push_sum = false
searches go = false
searches go_if_zero = false
searches add = false
searches spawn = false
searches sync = false

module _ (j : List ℕ) (u : Runner) (s : Instruction) (q : ℕ) where
  abbrev Only : Operation → Action Runner → Type 0
  Only o i = LooksIn q i → (searches o ≡ true) × (s.which ≡ q)

  only : (o : Operation) → Only o (action_by o j u s)
  unfolding searches
  only pop = by_test (Only pop) _ _ _ (λ e l. (refl, l)) (λ l. absurd l)
  only go_if_empty = by_test (Only go_if_empty) _ _ _ (λ e l. (refl, l)) (λ l. absurd l)
  only take_or_go = by_test (Only take_or_go) _ _ _ (λ e l. (refl, l)) (λ l. absurd l)
  only return = λ l. absurd l
  only push = by_test (Only push) _ _ _ (λ e l. absurd l) (λ l. absurd l)
  only push_sum = by_test (Only push_sum) _ _ _ (λ e l. absurd l) (λ l. absurd l)
  only go = λ l. absurd l
  only go_if_zero = λ l. absurd l
  only add = λ l. absurd l
  only spawn = by_test (Only spawn) _ _ _ (λ e l. absurd l) (λ l. absurd l)
  only sync = λ l. absurd l

  -- they look in queue `which`, and no other operation looks anywhere
  pub looks_only : instruction_of j u ≡ s → LooksIn q (action j u) → (searches (operation_at s.operation) ≡ true) × (s.which ≡ q)
  looks_only is l = only (operation_at s.operation) (subst (LooksIn q) (action_by_lem j u s is) l)

-- a task that looks in a queue may pop there
pub looks_right : (j : List ℕ) (u : Runner) (q : ℕ) → LooksIn q (action j u) → (q < 4) × (mayPop (rights_of j u.task) q ≡ true)
unfolding can_pop
looks_right j u q l = go (action j u) (action_within j u) l
  where
    go : (i : Action Runner) → Within (Pushing j) (Popping j) u i → LooksIn q i → (q < 4) × (mayPop (rights_of j u.task) q ≡ true)
    go (puts xs) w l = absurd l
    go (returns p v xs) w l = absurd l
    go (looks b p f) w l =
        unfold can_pop in
        let d = both_true _ _ (subst (λ (k : ℕ). can_pop (rights_of j u.task) k ≡ true) l w.0) in
        (ltb-true q 4 d.0, d.1)
