-- WHO STANDS ON THE LINE of a run under way: one task for a number, one for a runner; who can move there does not wait; and while any task
-- stands there the top stands last.
use Rattle.std.specs.Prelude.{◌≡◌, true, ℕ}
use Rattle.std.proofs.Math.Path.{refl, ap, sym, subst}
use Rattle.std.proofs.Common.{◌∙◌, inl, inr}
use mathlib.Core.List.Memᴰ
use mathlib.Core.List.{List, [], ◌∷◌, ◌++◌, Memᴰ}
use Rattle.std.proofs.Math.Logic.{⊎_elim}
use Rattle.spec_lists.specs.Maps.{All, all_behind}
use Rattle.spec_answers.specs.declared.Answer.TheVariants.{Moved}
use Rattle.spec_order.specs.Steps.{Name, Task, spot as place_of, name_of, number_of}
use Rattle.spec_outcomes.specs.Waits.{unfinished}
use Rattle.law_order.specs.Items.{In}
use Rattle.law_order_waits.specs.Spots.{same_name, same_number, says_unfinished}
use Rattle.law_order_waits.specs.Played.{Played, played_reached}
use Rattle.law_order_waits.specs.Kinship.{kinship}
use Rattle.law_order_waits.specs.Changes.{in_right}
use Rattle.spec_job.specs.Test.{job_answer}
use Rattle.spec_line.specs.Line.{Item, value, spot, finished, gave, Search, NoSpot}
use Rattle.spec_line.specs.Fronts.{Fronts}
use Rattle.law_timed_line.specs.Times.{Timed, at, Some, untimed}
use Rattle.law_timed_line.specs.Walks.{Waits, Walk}
use Rattle.law_timed_line.proofs.Parts.{parted}
use Rattle.law_timed_line.proofs.Agreement.{MoveOf, Bare}
use Rattle.law_job_line.specs.Tasks.{Runner}
use Rattle.law_job_line.proofs.Within.{job_tasks}
use Rattle.law_job_line.proofs.Agree.{none_back}
use Rattle.law_job_times.specs.Times.{job_waits}
use Rattle.law_job_order.specs.Beside.{Numbered, unnumbered, standing, task_of}
use Rattle.law_job_order.specs.Points.{standing_append, unnumbered_append}
use Rattle.law_job_order.specs.Located.{On, located, stands_unfinished, unfinished_stands}
use Rattle.law_job_moves.specs.MovesAble.{moves_able}
use Rattle.spec_runner.specs.declared.StepAnswer.TheVariants as Step
use Rattle.spec_runner.specs.Answers.{answer_of}
use Rattle.law_any_order.specs.Statement.{Stand, step_answer}
use Rattle.law_any_order.proofs.States.{state_unfinished}
use Rattle.law_any_order.proofs.Goes.{Place, StaysOrGoes, stays, goes, represents}
use Rattle.law_any_order.proofs.Looking.{step_does}
use Rattle.law_any_order.proofs.Written.{Other}
use Rattle.law_any_order.proofs.Numbers.{others}
use Rattle.law_any_order.proofs.Running.{Running}
use Rattle.law_any_order.proofs.Called.{place, has_gone}
use Rattle.law_any_order.proofs.AnyOrder.{stayed}
use Rattle.law_any_two.proofs.Stands.{At}
use Rattle.law_simulate.proofs.Keeps.{waits_still, waits_not_refused, wanted}
use Rattle.law_simulated_time.specs.Top.{EndsTop, NotTop, TopLast}

-- what holds of all holds of a member
all_of : {A : Type 0} (P : A → Type 0) (x : A) (xs : List A) → All P xs → Memᴰ x xs → P x
all_of P x [] h m = absurd (Memᴰ.not-nil m)
all_of P x (y ∷ xs) h m = ⊎_elim (λ e. subst P (sym e) h.0) (λ i. all_of P x xs h.1 i) (Memᴰ.cases_cons m)

-- an unfinished task on the line
abbrev Is : Runner → Item Runner → Type 0
Is u (value q v) = ⊥
Is u (spot s) = s ≡ u
Is u (finished s) = ⊥
Is u (gave q) = ⊥

further : {n : Numbered} {l : List (Item Numbered)} (x : Item Numbered) → At n l → At n (x ∷ l)
further x w = record { before = x ∷ w.before; behind = w.behind; here = ap (λ (k : List (Item Numbered)). x ∷ k) w.here }

-- who has a spot there has a number
numbered : (u : Runner) (l : List (Item Numbered)) → Some (Is u) (unnumbered l) → (n : Numbered) × At n l × (n.runner ≡ u)
unfolding unnumbered
numbered u [] i = absurd i
numbered u (value q v ∷ l) (inl i) = absurd i
numbered u (value q v ∷ l) (inr i) = let w = numbered u l i in (w.0, further (value q v) w.1, w.2)
numbered u (spot n ∷ l) (inl i) = (n, record { before = []; behind = l; here = refl }, i)
numbered u (spot n ∷ l) (inr i) = let w = numbered u l i in (w.0, further (spot n) w.1, w.2)
numbered u (finished n ∷ l) (inl i) = absurd i
numbered u (finished n ∷ l) (inr i) = let w = numbered u l i in (w.0, further (finished n) w.1, w.2)
numbered u (gave q ∷ l) (inl i) = absurd i
numbered u (gave q ∷ l) (inr i) = let w = numbered u l i in (w.0, further (gave q) w.1, w.2)

module _ (j : List ℕ) (ticks : ℕ → ℕ) (accept : job_answer j ≡ Moved 0) (s : Stand) (line : List (Item Numbered)) (run : Running j ticks s line) where
  abbrev W : Waits (job_tasks j)
  W = job_waits j ticks

  -- A TASK ON THE LINE
  module _ (n : Numbered) (w : At n line) where
    pub run_at : Running j ticks s (w.before ++ spot n ∷ w.behind)
    run_at = subst (Running j ticks s) w.here run

    pub place_at : Place j s.core s.runner s.order w.before w.behind n
    place_at = place j ticks accept s w.before w.behind n run_at

    played : Played s.order
    played = (represents place_at).played

    marked : In (place_of (task_of j n)) s.order
    marked =
        let v = located j w.before w.behind n run_at.beside in
        subst (In (place_of (task_of j n))) (sym v.here) (in_right (place_of (task_of j n)) v.before (place_of (task_of j n) ∷ v.behind) (inl refl))

    pub at_unfinished : unfinished s.core n.number ≡ true
    at_unfinished =
        state_unfinished s.core s.order run.state n.number ∙ stands_unfinished j w.before w.behind n run_at.beside

    member : Memᴰ n (standing line)
    unfolding standing
    member =
        subst (Memᴰ n) (sym (ap standing w.here ∙ standing_append w.before (spot n ∷ w.behind)))
        (Memᴰ.append_right (standing w.before) (Memᴰ.head refl))

    -- somebody has a move on its times, so it does not wait
    module _ (times : List (Timed Runner)) (same : untimed times ≡ unnumbered line) where
      at_times : untimed times ≡ unnumbered w.before ++ spot n.runner ∷ unnumbered w.behind
      unfolding unnumbered
      at_times = same ∙ ap unnumbered w.here ∙ unnumbered_append w.before (spot n ∷ w.behind)

      pub not_bare : ¬ Bare times
      not_bare b = (all_behind NoSpot (unnumbered w.before) (spot n.runner ∷ unnumbered w.behind) (subst (All NoSpot) at_times b)).0

      is_not_top : All NotTop times → ¬ (n.runner.task.name ≡ [])
      is_not_top h =
          let p = parted times (unnumbered w.before) (spot n.runner) (unnumbered w.behind) at_times in
          (all_behind NotTop p.before (at p.time (spot n.runner) ∷ p.behind) (subst (All NotTop) p.line h)).0

      pub not_waits : (e : Search) (d : ℕ) (y : Fronts) (k : List (Timed Runner)) → MoveOf (job_tasks j) W n.runner e d none_back times y k
          → ¬ (step_answer j s n.number ≡ Step.Waits)
      not_waits e d y k m waits = go (step_does place_at)
        where
          go : StaysOrGoes j s.core s.runner s.order w.before w.behind n → ⊥
          go (stays x i o) =
              ⊎_elim
              (λ v. v.0 (moves_able j ticks played w.before w.behind n run_at.beside times (same ∙ ap unnumbered w.here) e d y k m))
              (λ v. waits_not_refused waits (wanted j s n.number v).1)
              (stayed j ticks accept s _ run_at n x i (unfold step_answer answer_of in ap answer_of o))
          go (goes g) = waits_still waits (has_gone j ticks accept s w.before w.behind n run_at g)

  -- ONE TASK FOR A NUMBER
  pub one_number : (n o : Numbered) → At n line → At o line → n.number ≡ o.number → n ≡ o
  unfolding standing
  one_number n o w v e =
      let other = others j s.order w.before w.behind n (played n w) (run_at n w).beside in
      ⊎_elim (λ i. absurd (all_of (Other n.number) o (standing w.before) other.0 i (sym e)))
      (λ i. ⊎_elim (λ d. sym d) (λ k. absurd (all_of (Other n.number) o (standing w.behind) other.1 k (sym e))) (Memᴰ.cases_cons i))
      (Memᴰ.append_cases (standing w.before)
      (subst (Memᴰ o) (ap standing w.here ∙ standing_append w.before (spot n ∷ w.behind)) (member o v)))

  -- and one for a runner
  pub one_runner : (n o : Numbered) → At n line → At o line → n.runner ≡ o.runner → n.number ≡ o.number
  unfolding task_of name_of number_of
  one_runner n o w v e =
      ap number_of
      (same_name s.order (played_reached (played n w)) (task_of j n) (task_of j o) (marked n w) (marked o v) (ap (λ (r : Runner). r.task.name) e))

  -- WHILE ANY STANDS THERE the top does
  root : Played s.order → (p : Name) (o : Task) → In (place_of o) s.order → name_of o ≡ p → (q : Task) × In (place_of q) s.order × (name_of q ≡ [])
  root p [] o i e = (o, i, e)
  root p (k ∷ q) o i e = let w = (kinship p).parent o k q i e in root p q w.0 w.1 w.2

  pub top_there : (n : Numbered) → At n line → (times : List (Timed Runner)) → untimed times ≡ unnumbered line → TopLast times → EndsTop times
  unfolding task_of name_of number_of
  top_there n w times same top = ⊎_elim (λ e. e) (λ h. absurd (is_not_top o.who v times same h name)) top
    where
      r : (q : Task) × In (place_of q) s.order × (name_of q ≡ [])
      r = root (played n w) (name_of (task_of j n)) (task_of j n) (marked n w) refl

      o : On (number_of r.0) line
      o = unfinished_stands j run.beside (number_of r.0) (says_unfinished s.order r.0 r.1)

      v : At o.who line
      v = record { before = o.before; behind = o.behind; here = o.here }

      name : o.who.runner.task.name ≡ []
      name =
          ap name_of (same_number s.order (played_reached (played n w)) (task_of j o.who) r.0 (marked o.who v) r.1 o.number) ∙ r.2

  -- WHO HAS A MOVE stands there
  walk_stands : (u : Runner) (m e : Search) (a d : ℕ) {l k : List (Timed Runner)} → Walk (job_tasks j) W u m e a d l k → Some (Is u) (untimed l)
  walk_stands u m e a d (Walk.here xs acts i) = inl refl
  walk_stands u m e a d (Walk.past g v) = inr (walk_stands u m e _ d v)
  walk_stands u m e a d (Walk.finds v) = inr (walk_stands u _ e _ d v)

  pub mover_stands : (u : Runner) (e : Search) (d : ℕ) (y : Fronts) {times k : List (Timed Runner)} → untimed times ≡ unnumbered line
      → MoveOf (job_tasks j) W u e d none_back times y k → (n : Numbered) × At n line × (n.runner ≡ u)
  mover_stands u e d y same m = numbered u line (subst (Some (Is u)) same (walk_stands u _ e 0 d m.walk))
