-- THE TOP STANDS LAST on the line until it has finished, and then the last time on the line is that of its last step.
use Rattle.std.specs.Prelude.{◌≡◌, Bool, ◌⊎◌, ℕ}
use Rattle.std.proofs.Math.Path.{refl}
use Rattle.std.proofs.Common.{ap, sym, ◌∙◌, inl, inr, ⊎_elim}
use Rattle.std.proofs.Math.Bool.{true, false}
use mathlib.Core.List.{List, [], ◌∷◌, ◌++◌, cons-ne-nil}
use Rattle.spec_lists.specs.Maps.{All}
use Rattle.spec_job.specs.declared.Instruction.{Instruction}
use Rattle.spec_job.specs.Operations.{Operation, return, push, push_sum, pop, go_if_empty, go, go_if_zero, add, spawn, sync, take_or_go, operation_at}
use Rattle.spec_plain.specs.Machine.{advanced, parent}
use Rattle.spec_line.specs.Line.{Item, value, spot, finished, gave, Action, Search, found, Acts, Every, acts_every}
use Rattle.law_timed_line.specs.Times.{Timed, at, stamp, leave_at, last_from, last_time}
use Rattle.law_timed_line.specs.Walks.{Waits, Goes, Walk}
use Rattle.law_timed_line.proofs.Agreement.{Bare}
use Rattle.law_job_line.specs.Tasks.{Runner, action_by, action, instruction_of, by_test}
use Rattle.law_job_line.proofs.Within.{job_tasks}
use Rattle.law_job_line.proofs.Agree.{start}
use Rattle.law_named_waits.specs.Names.{above, above_self}
use Rattle.law_named_waits.specs.Named.{Kin}
use Rattle.law_job_times.specs.Kin.{name_of, pushes_of, pops_of, shares_of, awaits_of, puts_kept}
use Rattle.law_job_times.specs.Times.{job_waits}

-- the top has the empty name
abbrev IsTop : Runner → Type 0
IsTop u = u.task.name ≡ []

-- its spot is the last item
pub data EndsTop : List (Timed Runner) → Type 0 where
  end : {t : ℕ} {s : Runner} → IsTop s → EndsTop (at t (spot s) ∷ [])
  more : {x : Timed Runner} {l : List (Timed Runner)} → EndsTop l → EndsTop (x ∷ l)

-- it does not stand on the line
abbrev pub NotTop : Timed Runner → Type 0
NotTop (at t (value q v)) = Unit {0}
NotTop (at t (spot s)) = ¬ IsTop s
NotTop (at t (finished s)) = Unit {0}
NotTop (at t (gave q)) = Unit {0}

abbrev pub TopLast : List (Timed Runner) → Type 0
TopLast l = EndsTop l ⊎ All NotTop l

pub start_top : TopLast start
start_top = inl (end refl)

ends_behind : (k : List (Timed Runner)) {l : List (Timed Runner)} → EndsTop l → EndsTop (k ++ l)
ends_behind [] e = e
ends_behind (x ∷ k) e = more (ends_behind k e)

pub ends_spot : {l : List (Timed Runner)} → EndsTop l → ¬ Bare l
ends_spot (end e) b = b.0
ends_spot (more {x = at t x} e) b = ends_spot e b.1

-- WHAT A TASK PUTS ends with its spot, or with its finish alone
data Ending (u : Runner) : List (Item Runner) → Type 0 where
  goes : (t : Runner) → t.task.name ≡ u.task.name → Ending u (spot t ∷ [])
  puts : (x : Item Runner) (t : Runner) → t.task.name ≡ u.task.name → Ending u (x ∷ spot t ∷ [])
  ends : (t : Runner) → Ending u (finished t ∷ [])

module _ (j : List ℕ) where
  abbrev Endings : Runner → Action Runner → Type 0
  Endings u = Every (λ o. Ending u)

  endings : (o : Operation) (u : Runner) (s : Instruction) → Endings u (action_by o j u s)
  unfolding advanced parent
  endings return u s = ends _
  endings push u s = by_test (Endings u) _ _ _ (λ e. puts _ _ refl) (goes _ refl)
  endings push_sum u s = by_test (Endings u) _ _ _ (λ e. puts _ _ refl) (goes _ refl)
  endings pop u s = by_test (Endings u) _ _ _ (λ e o. goes _ refl) (goes _ refl)
  endings go_if_empty u s = by_test (Endings u) _ _ _ (λ e o. goes _ refl) (goes _ refl)
  endings take_or_go u s = by_test (Endings u) _ _ _ (λ e o. goes _ refl) (goes _ refl)
  endings go u s = goes _ refl
  endings go_if_zero u s = goes _ refl
  endings add u s = goes _ refl
  endings sync u s = goes _ refl
  endings spawn u s = by_test (Endings u) _ _ _ (λ e. puts _ _ refl) (goes _ refl)

  ending : (u : Runner) (m : Search) (xs : List (Item Runner)) → Acts m (action j u) xs → Ending u xs
  unfolding action
  ending u m xs d = acts_every (λ o. Ending u) _ m xs (endings (operation_at (instruction_of j u).operation) u (instruction_of j u)) d

  module _ (ticks : ℕ → ℕ) where
    abbrev W : Waits (job_tasks j)
    W = job_waits j ticks

    -- After a move of u, done at time d, the top stands last still; or u was the top and has finished.
    pub data After (u : Runner) (d : ℕ) (k : List (Timed Runner)) : Type 0 where
      stays : EndsTop k → After u d k
      leaves : IsTop u → All NotTop k → ((t : ℕ) → last_from t k ≡ d) → After u d k

    at_end : (u : Runner) (d : ℕ) (xs : List (Item Runner)) → IsTop u → Ending u xs → After u d (stamp d xs ++ [])
    unfolding last_from
    at_end u d _ top (goes t e) = stays (end (e ∙ top))
    at_end u d _ top (puts x t e) = stays (more (end (e ∙ top)))
    at_end u d _ top (ends t) = leaves top (tt, tt) (λ i. refl)

    -- what the top has gone past is not the top
    passed_not : (m : Search) (u : Runner) (t : ℕ) (x : Item Runner) → IsTop u → Goes (job_tasks j) W m u x → NotTop (at t x)
    passed_not m u t (value q v) top g = tt
    passed_not m u t (spot s) top g = λ e. g.1.0 (ap (above s.task.name) (top ∙ sym e) ∙ above_self s.task.name)
    passed_not m u t (finished s) top g = tt
    passed_not m u t (gave q) top g = tt

    past_it : (m : Search) (u : Runner) (d t : ℕ) (x : Item Runner) {k : List (Timed Runner)} → Goes (job_tasks j) W m u x → After u d k → After u d (at t x ∷ k)
    unfolding last_from
    past_it m u d t x g (stays e) = stays (more e)
    past_it m u d t x g (leaves top n f) = leaves top (passed_not m u t x top g, n) (λ i. f t)

    found_it : (b : Bool) (u : Runner) (d t q v : ℕ) {k : List (Timed Runner)} → After u d k → After u d (leave_at b (at t (value q v)) k)
    unfolding last_from
    found_it true u d t q v (stays e) = stays (more e)
    found_it true u d t q v (leaves top n f) = leaves top (tt, n) (λ i. f t)
    found_it false u d t q v a = a

    no_walk : (u : Runner) (m e : Search) (a d : ℕ) {l k : List (Timed Runner)} → Bare l → Walk (job_tasks j) W u m e a d l k → ⊥
    no_walk u m e a d b (Walk.here xs acts i) = b.0
    no_walk u m e a d b (Walk.past g v) = no_walk u m e _ d b.1 v
    no_walk u m e a d b (Walk.finds v) = no_walk u _ e _ d b.1 v

    pub ends_after : (u : Runner) (m e : Search) (a d : ℕ) {l k : List (Timed Runner)} → Walk (job_tasks j) W u m e a d l k → EndsTop l → After u d k
    ends_after u m e a d (Walk.here xs acts i) (end top) = at_end u d xs top (ending u m xs acts)
    ends_after u m e a d (Walk.here xs acts i) (more f) = stays (ends_behind (stamp d xs) f)
    ends_after u m e a d (Walk.past g v) (end top) = absurd (no_walk u m e _ d tt v)
    ends_after u m e a d (Walk.past {t = t} {x = x} g v) (more f) = past_it m u d t x g (ends_after u m e _ d v f)
    ends_after u m e a d (Walk.finds {b = b} {q = q} {v = y} {t = t} v) (more f) = found_it b u d t q y (ends_after u (found b q y) e _ d v f)

    -- where the top does not stand, it does not after a move
    put_not : (u : Runner) (d : ℕ) → ¬ IsTop u → (xs : List (Item Runner)) (l : List (Timed Runner))
        → All (Kin (name_of j) (pushes_of j) (pops_of j) (shares_of j) (awaits_of j) u) xs → All NotTop l → All NotTop (stamp d xs ++ l)
    put_not u d n [] l k h = h
    put_not u d n (value q v ∷ xs) l k h = (tt, put_not u d n xs l k.1 h)
    put_not u d n (spot t ∷ xs) l k h =
        ((λ e. ⊎_elim (λ i. n (sym i.same ∙ e)) (λ c. cons-ne-nil _ _ (sym c.1 ∙ e)) k.0), put_not u d n xs l k.1 h)
    put_not u d n (finished t ∷ xs) l k h = (tt, put_not u d n xs l k.1 h)
    put_not u d n (gave q ∷ xs) l k h = (tt, put_not u d n xs l k.1 h)

    left_not : (b : Bool) (t q v : ℕ) (k : List (Timed Runner)) → All NotTop k → All NotTop (leave_at b (at t (value q v)) k)
    left_not true t q v k h = (tt, h)
    left_not false t q v k h = h

    not_after : (u : Runner) (m e : Search) (a d : ℕ) {l k : List (Timed Runner)} → Walk (job_tasks j) W u m e a d l k → All NotTop l → All NotTop k
    not_after u m e a d (Walk.here {l = l} xs acts i) h = put_not u d h.0 xs l (puts_kept j u m xs acts).kin h.1
    not_after u m e a d (Walk.past g v) h = (h.0, not_after u m e _ d v h.1)
    not_after u m e a d (Walk.finds {b = b} {q = q} {v = y} {t = t} {k = k} v) h = left_not b t q y k (not_after u (found b q y) e _ d v h.1)

    -- A MOVE KEEPS IT
    pub top_kept : (u : Runner) (m e : Search) (a d : ℕ) {l k : List (Timed Runner)} → Walk (job_tasks j) W u m e a d l k → TopLast l → TopLast k
    top_kept u m e a d {k = k} v (inl f) = go (ends_after u m e a d v f)
      where
        go : After u d k → TopLast k
        go (stays e) = inl e
        go (leaves top n i) = inr n
    top_kept u m e a d v (inr h) = inr (not_after u m e a d v h)

    -- where a move of some task leaves nobody unfinished, it was the top's, and its time is the last on the line
    pub last_done : (u : Runner) (m e : Search) (a d : ℕ) {l k : List (Timed Runner)} → Walk (job_tasks j) W u m e a d l k → EndsTop l → Bare k → last_time k ≡ d
    last_done u m e a d {k = k} v f b = go (ends_after u m e a d v f)
      where
        go : After u d k → last_time k ≡ d
        go (stays i) = absurd (ends_spot i b)
        go (leaves top n i) = i 0
