-- What a step of the serial runner has to give: document 01's effect of the operation, and the lists after it.
use Rattle.std.specs.Prelude.{◌≡◌, List, ℕ, ◌≤◌}
use Rattle.spec_job.specs.Operations.{Operation, operation_at}
use Rattle.spec_job.specs.Effects.{effect}
use Rattle.spec_plain.specs.Machine.{queue, front, queues_after}
use Rattle.job_effect.specs.declared.Made.{Made}
use Rattle.job_effect.specs.Made.{coded}

-- an operation that neither spawns nor returns
pub record Inner (k : ℕ) : Type 0 where
  pub some : 1 ≤ k
  pub few : k ≤ 10
  pub inside : k ≡ 8 → ⊥

-- Operation o with fields q and x, by a task at instruction i with register r, where the lists were qs, gives e and the lists us.
pub record Does (o : Operation) (q x i r : ℕ) (qs : List (List ℕ)) (e : Made) (us : List (List ℕ)) : Type 0 where
  pub made : e ≡ coded (effect o i r x (front (queue qs q)))
  pub lists : us ≡ queues_after o q e.value qs

-- the same of operation number k
abbrev pub Gives : ℕ → ℕ → ℕ → ℕ → ℕ → List (List ℕ) → Made → List (List ℕ) → Type 0
Gives k = Does (operation_at k)
