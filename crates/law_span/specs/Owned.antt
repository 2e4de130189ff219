-- WHAT THE TASKS OF THE STACK NEED OF THEMSELVES: each has the time of its last step, or of its spawn before its first.
use Rattle.std.specs.Prelude.{◌≡◌, refl, false, List, [], ◌∷◌, ◌++◌, ◌⊎◌, ℕ, ◌+◌, ◌<◌, ◌≤◌, length}
use Rattle.std.proofs.Common.{ap, ap₂, sym, ◌∙◌, subst, inl, inr, ⊎_elim, arith}
use Rattle.spec_words.specs.Words.{halt, pass, refuted}
use Rattle.spec_lists.specs.Maps.{All, all_map}
use Rattle.spec_order.specs.Steps.{Name}
use Rattle.spec_order.specs.Waits.{same_name}
use Rattle.law_order.specs.Names.{Under, under_self, under_parent, not_under_child, one_branch, same_true, same_yes}
use Rattle.spec_job.specs.Operations.{Operation, return, push, push_sum, pop, go_if_empty, go, go_if_zero, add, spawn, sync, take_or_go}
use Rattle.spec_plain.specs.Machine.{Task}
use Rattle.law_job_line.specs.Tasks.{Runner}
use Rattle.law_serial_times.specs.Dominated.{Frame, frame}
use Rattle.law_serial_times.specs.Returned.{Nested}
use Rattle.spec_span.specs.Needs.{Made, History, makes, previous, spawn_of}
use Rattle.law_span.specs.Chains.{Longest, Latest, latest_one, among_right}

-- a shorter name is another
shorter : (p q : Name) → length q < length p → same_name p q ≡ false
shorter p q h = refuted _ (λ e. let i = ap (λ (n : Name). length n) (same_true p q e) in omega (arith, i))

-- a task makes no task with a name as short as its own
makes_none : (o : Operation) (t : Task) (q : Name) → length q ≤ length t.name → makes o t q ≡ false
unfolding makes
makes_none spawn t q h = shorter (t.children ∷ t.name) q (omega arith)
makes_none return t q h = refl
makes_none push t q h = refl
makes_none push_sum t q h = refl
makes_none pop t q h = refl
makes_none go_if_empty t q h = refl
makes_none go t q h = refl
makes_none go_if_zero t q h = refl
makes_none add t q h = refl
makes_none sync t q h = refl
makes_none take_or_go t q h = refl

-- WHAT THE TASK NAMED q NEEDS OF ITSELF
abbrev pub own_of : Name → History → List History
own_of q h = previous q h ++ spawn_of q h

-- it stays as it was after an instruction of a task with a longer name
own_other : (k : Made) (h : History) (q : Name) → length q < length k.task.name → own_of q (k ∷ h) ≡ own_of q h
unfolding previous spawn_of
own_other k h q i = ap₂ ◌++◌ (pass _ (shorter k.task.name q i) refl) (pass _ (makes_none k.event.operation k.task q (omega arith)) refl)

-- after an instruction of its own it needs that one, and its spawn
own_step : (k : Made) (h : History) (q : Name) → k.task.name ≡ q → own_of q (k ∷ h) ≡ (k ∷ h) ∷ spawn_of q h
unfolding previous spawn_of
own_step k h q i =
    let l = ap (λ (n : Name). length n) i in
    ap₂ ◌++◌ (halt _ _ (same_yes k.task.name q i)) (pass _ (makes_none k.event.operation k.task q (omega (arith, l))) refl)

-- k has made it, and nobody of its name has made an instruction
none_previous : (q : Name) (g : History) → All (λ e. ¬ (e.task.name ≡ q)) g → previous q g ≡ []
unfolding previous
none_previous q [] n = refl
none_previous q (e ∷ g) n = pass _ (refuted _ (λ i. n.0 (same_true e.task.name q i))) (none_previous q g n.1)

own_spawn : (k : Made) (h : History) (q : Name) → k.event.operation ≡ spawn → k.task.children ∷ k.task.name ≡ q
    → All (λ e. ¬ (e.task.name ≡ q)) (k ∷ h) → own_of q (k ∷ h) ≡ (k ∷ h) ∷ []
unfolding spawn_of makes
own_spawn k h q o i new = ap₂ ◌++◌ (none_previous q (k ∷ h) new) (halt _ _ (rw o (same_yes (k.task.children ∷ k.task.name) q i)))

-- NEW NAMES: what was made below a child of a task of the stack, was made below one that the task has made
abbrev Branch : Runner → Made → Type 0
Branch u e = (i : ℕ) → Under (i ∷ u.task.name) e.task.name → i < u.task.children

abbrev pub Fresh : History → List Frame → Type 0
Fresh h [] = Unit {0}
Fresh h (frame t u ∷ st) = All (Branch u) h × Fresh h st

-- a step of a task c above the stack
pub fresh_below : (j : List ℕ) (k : Made) (h : History) (c : Runner) (st : List Frame) → Under c.task.name k.task.name → Nested j c st → Fresh h st
    → Fresh (k ∷ h) st
fresh_below j k h c [] u n o = tt
fresh_below j k h c (frame t w ∷ st) u n o =
    let v : Under (n.0.number ∷ w.task.name) k.task.name = rw n.0.name at u in (
      (λ i x. let e = one_branch x v in let y = n.0.youngest in omega (arith, e, y), o.0),
      fresh_below j k h w st (under_parent v) n.1 o.1,
    )

-- the task itself, with no fewer children
pub fresh_own : (k : Made) (h : History) (u v : Runner) → k.task.name ≡ u.task.name → v.task.name ≡ u.task.name → u.task.children ≤ v.task.children
    → All (Branch u) h → All (Branch v) (k ∷ h)
fresh_own k h u v e n l o = (
  λ i x. absurd (not_under_child {i = i} (under_self u.task.name) (rw (n, e) at x)),
  all_map (Branch u) (Branch v) h (λ m b i x. let y = b i (rw n at x) in omega (arith, y, l)) o,
)

-- the child c that it has made
pub fresh_child : (k : Made) (h : History) (u c : Runner) → k.task.name ≡ u.task.name → c.task.name ≡ u.task.children ∷ u.task.name
    → All (Branch u) h → All (Branch c) (k ∷ h)
fresh_child k h u c e n o = (
  λ i x. absurd (not_under_child {i = u.task.children} (under_self u.task.name) (under_parent (rw (n, e) at x))),
  all_map (Branch u) (Branch c) h (λ m b i x. let y = b u.task.children (under_parent (rw n at x)) in let z : ⊥ = omega (arith, y) in absurd z) o,
)

-- so nobody has its name
new_name : (k : Made) (h : History) (u : Runner) (q : Name) → k.task.name ≡ u.task.name → q ≡ u.task.children ∷ u.task.name → All (Branch u) h
    → All (λ e. ¬ (e.task.name ≡ q)) (k ∷ h)
new_name k h u q e n o = (
  λ x. let l = ap (λ (p : Name). length p) (sym e ∙ x ∙ n) in omega (arith, l),
  all_map (Branch u) (λ m. ¬ (m.task.name ≡ q)) h (λ m b x. let y = b u.task.children ([], x ∙ n) in omega (arith, y)) o,
)

module _ (j table : List ℕ) where
  abbrev pub Owns : History → List Frame → Type 0
  Owns h [] = Unit {0}
  Owns h (frame t u ∷ st) = Latest j table (own_of u.task.name h) t × Owns h st

  -- a step of a task above the stack
  pub owns_below : (k : Made) (h : History) (c : Runner) (st : List Frame) → length c.task.name ≤ length k.task.name → Nested j c st → Owns h st → Owns (k ∷ h) st
  owns_below k h c [] l n o = tt
  owns_below k h c (frame t w ∷ st) l n o =
      let i = ap (λ (p : Name). length p) n.0.name in (
        subst (λ (ss : List History). Latest j table ss t) (sym (own_other k h w.task.name (omega (arith, i)))) o.0,
        owns_below k h w st (omega (arith, i)) n.1 o.1,
      )

  -- a step of the task itself, done at d, later than t
  pub owns_step : (k : Made) (h : History) (q : Name) (t d : ℕ) → k.task.name ≡ q → t ≤ d → Latest j table (own_of q h) t → Longest j table (k ∷ h) d
      → Latest j table (own_of q (k ∷ h)) d
  owns_step k h q t d e l o long =
      subst (λ (ss : List History). Latest j table ss d) (sym (own_step k h q e))
      (record {
        below = λ s a.
            ⊎_elim (λ i. (d, subst (λ (z : History). Longest j table z d) i long, omega arith))
            (λ i. let w = o.below s (among_right j table (previous q h) (spawn_of q h) s i) in let y = w.2 in (w.0, w.1, omega (arith, y))) a;
        met = inr (k ∷ h, inl refl, long);
      })

  -- the child that it has made
  pub owns_child : (k : Made) (h : History) (u : Runner) (q : Name) (d : ℕ) → k.event.operation ≡ spawn → k.task ≡ u.task
      → q ≡ u.task.children ∷ u.task.name → All (Branch u) h → Longest j table (k ∷ h) d → Latest j table (own_of q (k ∷ h)) d
  owns_child k h u q d o e n new long =
      subst (λ (ss : List History). Latest j table ss d)
      (sym (own_spawn k h q o (ap (λ (x : Task). x.children ∷ x.name) e ∙ sym n) (new_name k h u q (ap (λ (x : Task). x.name) e) n new)))
      (latest_one j table (k ∷ h) d long)
