-- Names are used once: where a task is spawned, no step before it was made by a task of its name or by a descendant of it.
-- So the answers of a task are the events of its name, and of no other task.
use Rattle.std.specs.Prelude.{◌≡◌}
use Rattle.std.proofs.Math.Path.{refl}
use Rattle.std.proofs.Common.{subst, arith}
use mathlib.Core.List.{List, [], ◌∷◌, ◌++◌, append_assoc}
use Prim.Native.Nat.{ℕ, zero, suc, ◌<◌}
use Rattle.spec_words.specs.Words.{pass}
use Rattle.spec_order.specs.Steps.{Name}
use Rattle.law_order.specs.Names.{Under, under_self, under_parent, not_under_child, one_branch, same_no}
use Rattle.spec_job.specs.Fields.{instruction_at}
use Rattle.spec_job.specs.Operations.{Operation, return, push, push_sum, pop, go_if_empty, go, go_if_zero, add, spawn, sync, take_or_go, operation_at}
use Rattle.spec_job.specs.Effects.{Effect}
use Rattle.spec_job.specs.Accepted.{Accepted}
use Rattle.spec_plain.specs.Machine.{Task, State, state, Event, begin, advanced, parent, child, stack_after, effect_on, event_of, does, step}
use Rattle.spec_plain.specs.Run.{stack_of, after, event_in, next, run_from, events_from, run, events, answers_of}
use Rattle.spec_plain.specs.Stack.{Stack}
use Rattle.spec_plain.proofs.Kept.{next_kept, begin_stands}

-- A name p that descends from a child of a task of the stack descends from one that was made.
abbrev Old : List Task → Name → Type 0
Old [] p = Unit {0}
Old (t ∷ ts) p = ((k : ℕ) → Under (k ∷ t.name) p → k < t.children) × Old ts p

abbrev AllOld : List Task → List Event → Type 0
AllOld ts [] = Unit {0}
AllOld ts (e ∷ es) = Old ts e.name × AllOld ts es

all_join : (ts : List Task) (xs ys : List Event) → AllOld ts xs → AllOld ts ys → AllOld ts (xs ++ ys)
all_join ts [] ys a b = b
all_join ts (x ∷ xs) ys a b = (a.0, all_join ts xs ys a.1 b)

-- what follows for each name follows for all
all_map : (ts us : List Task) → ((p : Name) → Old ts p → Old us p) → (es : List Event) → AllOld ts es → AllOld us es
all_map ts us f [] h = tt
all_map ts us f (e ∷ es) h = (f e.name h.0, all_map ts us f es h.1)

-- a descendant of the first task is old to those under it, each being the youngest child of the next
ancestors : (j : List ℕ) (t : Task) (ts : List Task) → Stack j (t ∷ ts) → (p : Name) → Under t.name p → Old ts p
ancestors j t [] h p u = tt
ancestors j t (v ∷ ts) h p u =
    let c = h.1 in
    let w = subst (λ (q : Name). Under q p) c.name u in
    (λ k x. let e = one_branch x w in let y = c.youngest in omega (arith, e, y), ancestors j v ts h.2 p (under_parent w))

-- the first task's own name
own : (j : List ℕ) (t : Task) (ts : List Task) → Stack j (t ∷ ts) → Old (t ∷ ts) t.name
own j t ts h = (λ k u. absurd (not_under_child (under_self t.name) u), ancestors j t ts h t.name (under_self t.name))

-- A step leaves old what was old: the child's number is one that no name descends from.
old_kept : (o : Operation) (t : Task) (e : Effect) (w x : ℕ) (ts : List Task) (p : Name) → Old (t ∷ ts) p → Old (stack_after o t e w x ts) p
unfolding stack_after advanced parent child
old_kept return t e w x ts p h = h.1
old_kept spawn t e w x ts p h =
    (λ k u. let z = h.0 t.children (under_parent u) in omega (arith, z), (λ k u. let z = h.0 k u in omega (arith, z), h.1))
old_kept push t e w x ts p h = h
old_kept push_sum t e w x ts p h = h
old_kept pop t e w x ts p h = h
old_kept go_if_empty t e w x ts p h = h
old_kept go t e w x ts p h = h
old_kept go_if_zero t e w x ts p h = h
old_kept add t e w x ts p h = h
old_kept sync t e w x ts p h = h
old_kept take_or_go t e w x ts p h = h

next_old : (j : List ℕ) (s : State) (es : List Event) → Stack j (stack_of s) → AllOld (stack_of s) es → AllOld (stack_of (next j s)) (es ++ event_in (step j s))
unfolding stack_of next after event_in step does event_of
next_old j (state qs [] n) es h a = all_join [] es [] a tt
next_old j (state qs (t ∷ ts) n) es h a =
    let s = instruction_at j t.procedure t.position in
    all_map (t ∷ ts) _ (old_kept (operation_at s.operation) t (effect_on qs t s) s.which s.operand ts) (es ++ (_ ∷ []))
    (all_join (t ∷ ts) es (_ ∷ []) a (own j t ts h, tt))

module _ (j : List ℕ) (acc : Accepted j) where
  run_old : (n : ℕ) (s : State) (es : List Event) → Stack j (stack_of s) → AllOld (stack_of s) es → AllOld (stack_of (run_from n j s)) (es ++ events_from n j s)
  unfolding run_from events_from
  run_old zero s es h a = all_join (stack_of s) es [] a tt
  run_old (suc n) s es h a =
      rw append_assoc at (run_old n (next j s) (es ++ event_in (step j s)) (next_kept j acc s h) (next_old j s es h a))

  all_old : (n : ℕ) → AllOld (stack_of (run n j)) (events n j)
  unfolding run events
  all_old n = run_old n begin [] (begin_stands j acc) tt

  -- no answer of a task that has a name p from which no event's name descends
  unheard : (t : Task) (ts : List Task) (es : List Event) → AllOld (t ∷ ts) es → answers_of (t.children ∷ t.name) es ≡ []
  unfolding answers_of
  unheard t ts [] a = refl
  unheard t ts (e ∷ es) a = pass _ (same_no e.name (t.children ∷ t.name) (λ q. no q)) (unheard t ts es a.1)
    where
      no : e.name ≡ t.children ∷ t.name → ⊥
      no q = let z = a.0.0 t.children ([], q) in omega (arith, z)

  -- A NEW TASK'S NAME IS NEW: the next child of the task whose turn it is has made no step before.
  pub new_name : (n k : ℕ) (qs : List (List ℕ)) (t : Task) (ts : List Task) → run n j ≡ state qs (t ∷ ts) k
      → answers_of (t.children ∷ t.name) (events n j) ≡ []
  new_name n k qs t ts e = unheard t ts (events n j) (unfold stack_of in rw e at (all_old n))
