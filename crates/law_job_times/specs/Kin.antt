-- WHAT A TASK OF A JOB PUTS: itself, unfinished or finished, under the same name and with the same rights; values; its children.
use Rattle.std.specs.Prelude.{◌≡◌, Bool, List, [], ◌∷◌, ℕ}
use Rattle.std.proofs.Math.Path.{refl}
use Rattle.std.proofs.Common.{inl, inr}
use Rattle.spec_lists.specs.Maps.{All}
use Rattle.spec_tree.specs.Rights.{shares_pop}
use Rattle.spec_order.specs.Steps.{Name}
use Rattle.spec_job.specs.declared.Instruction.{Instruction}
use Rattle.spec_job.specs.Operations.{Operation, return, push, push_sum, pop, go_if_empty, go, go_if_zero, add, spawn, sync, take_or_go, operation_at}
use Rattle.spec_plain.specs.Machine.{advanced, parent, child}
use Rattle.spec_plain.specs.Stack.{rights_of}
use Rattle.spec_line.specs.Line.{Item, value, spot, finished, Action, Search, Acts, Every, acts_every}
use Rattle.law_timed_line.specs.Walks.{Clear}
use Rattle.law_job_line.specs.Tasks.{can_push, can_pop, Runner, action_by, action, instruction_of, by_test}
use Rattle.law_named_waits.specs.Named as named

-- "Sync and finish wait while any child is unfinished."
unfoldable pub awaits : Operation → Bool
awaits return = Bool.true
awaits sync = Bool.true
awaits push = Bool.false
awaits push_sum = Bool.false
awaits pop = Bool.false
awaits go_if_empty = Bool.false
awaits take_or_go = Bool.false
awaits go = Bool.false
awaits go_if_zero = Bool.false
awaits add = Bool.false
awaits spawn = Bool.false

module _ (j : List ℕ) where
  abbrev pub name_of : Runner → Name
  name_of u = u.task.name

  abbrev pub pushes_of : Runner → ℕ → Bool
  pushes_of u q = can_push (rights_of j u.task) q

  abbrev pub pops_of : Runner → ℕ → Bool
  pops_of u q = can_pop (rights_of j u.task) q

  abbrev pub shares_of : Runner → Runner → Bool
  shares_of s u = shares_pop (rights_of j s.task) (rights_of j u.task)

  abbrev pub awaits_of : Runner → Bool
  awaits_of u = awaits (operation_at (instruction_of j u).operation)

  abbrev pub ticks_of : (ℕ → ℕ) → Runner → ℕ
  ticks_of ticks u = ticks (instruction_of j u).operation

  -- which unfinished tasks stop u, by names and rights
  abbrev pub halts : Runner → Runner → Bool
  halts = named.halts name_of pushes_of pops_of shares_of awaits_of

  abbrev pub stops : Search → Runner → Bool
  stops = named.stops name_of pushes_of pops_of shares_of awaits_of

  abbrev pub counts : Search → Runner → Runner → Bool
  counts = named.counts name_of pushes_of pops_of shares_of awaits_of

  -- nobody of these items is above u or halts it
  abbrev pub Unhalted : Runner → List (Item Runner) → Type 0
  Unhalted u =
      All (Clear (named.Halts name_of pushes_of pops_of shares_of awaits_of) (named.Above name_of pushes_of pops_of shares_of awaits_of) u)

  abbrev pub Like : Runner → Runner → Type 0
  Like = named.Like name_of pushes_of pops_of shares_of awaits_of

  abbrev pub Kept : Runner → List (Item Runner) → Type 0
  Kept = named.Kept name_of pushes_of pops_of shares_of awaits_of

  -- the same name and procedure
  like : (u t : Runner) → t.task.name ≡ u.task.name → t.task.procedure ≡ u.task.procedure → Like u t
  unfolding rights_of
  like u t e f = record { same = e; pop = λ q. rw f refl; share = λ w. rw f refl; less = λ q h. rw (← f) h }

  abbrev Keeps : Runner → Action Runner → Type 0
  Keeps u = Every (λ o. Kept u)

  module _ (u t : Runner) (e : t.task.name ≡ u.task.name) (f : t.task.procedure ≡ u.task.procedure) where
    holds : (q : ℕ) → named.Pushing name_of pushes_of pops_of shares_of awaits_of u q
        → named.Pushing name_of pushes_of pops_of shares_of awaits_of t q
    unfolding rights_of
    holds q h = rw f h

    goes : Kept u (spot t ∷ [])
    goes = record { kin = (inl (like u t e f), tt); lasts = inl (like u t e f); holds = λ q h. inl (like u t e f, holds q h) }

    pushed : (q v : ℕ) → Kept u (value q v ∷ spot t ∷ [])
    pushed q v = record { kin = (tt, (inl (like u t e f), tt)); lasts = inr (inl (like u t e f)); holds = λ p h. inr (inl (like u t e f, holds p h)) }

    ended : Kept u (finished t ∷ [])
    ended = record { kin = (like u t e f, tt); lasts = inl (like u t e f); holds = λ q h. inl (like u t e f, holds q h) }

    spawned : (s : Runner) (c : ℕ) → s.task.name ≡ c ∷ u.task.name → Kept u (spot s ∷ spot t ∷ [])
    spawned s c i =
        record { kin = (inr (c, i), (inl (like u t e f), tt)); lasts = inr (inl (like u t e f)); holds = λ q h. inr (inl (like u t e f, holds q h)) }

  keeps : (o : Operation) (u : Runner) (s : Instruction) → Keeps u (action_by o j u s)
  unfolding advanced parent child
  keeps return u s = ended u _ refl refl
  keeps push u s = by_test (Keeps u) _ _ _ (λ e. pushed u _ refl refl _ _) (goes u _ refl refl)
  keeps push_sum u s = by_test (Keeps u) _ _ _ (λ e. pushed u _ refl refl _ _) (goes u _ refl refl)
  keeps pop u s = by_test (Keeps u) _ _ _ (λ e o. goes u _ refl refl) (goes u _ refl refl)
  keeps go_if_empty u s = by_test (Keeps u) _ _ _ (λ e o. goes u _ refl refl) (goes u _ refl refl)
  keeps take_or_go u s = by_test (Keeps u) _ _ _ (λ e o. goes u _ refl refl) (goes u _ refl refl)
  keeps go u s = goes u _ refl refl
  keeps go_if_zero u s = goes u _ refl refl
  keeps add u s = goes u _ refl refl
  keeps sync u s = goes u _ refl refl
  keeps spawn u s = by_test (Keeps u) _ _ _ (λ e. spawned u _ refl refl _ u.task.children refl) (goes u _ refl refl)

  pub puts_kept : (u : Runner) (m : Search) (xs : List (Item Runner)) → Acts m (action j u) xs → Kept u xs
  unfolding action
  puts_kept u m xs d = acts_every (λ o. Kept u) _ m xs (keeps (operation_at (instruction_of j u).operation) u (instruction_of j u)) d
