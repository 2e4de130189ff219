-- THE OTHER WAY ROUND: a task that can move on the timed line need not wait by program order. So a move of another task, which leaves
-- it able to move on the line, leaves it able by program order.
use Rattle.std.specs.Prelude.{◌≡◌, refl, ℕ, ◌<◌}
use Rattle.std.proofs.Math.Path.{ap, sym}
use Rattle.std.proofs.Common.{ap₂, ◌∙◌, subst, inl, inr, arith, lt-ltb, eq-eqb}
use Rattle.std.proofs.Math.Bool.{true, false, false≢true}
use mathlib.Core.List.{List, [], ◌∷◌, ◌++◌, head-eq_of_cons-eq, tail-eq_of_cons-eq}
use Rattle.spec_words.specs.Words.{halt, pass, both_true, true_both, refuted, neither}
use Rattle.spec_tree.specs.Rights.{pushes as mayPush, pops as mayPop, uses}
use Rattle.spec_tree.specs.Users.{pops_uses, uses_pushes}
use Rattle.spec_answers.specs.declared.Finding.TheVariants as Finding
use Rattle.spec_order.specs.Steps.{Task, Item as Mark, spot as place, name_of, number_of, rights_of}
use Rattle.spec_order.specs.Waits.{blocked, child_pops}
use Rattle.spec_order.specs.Finding.{finding}
use Rattle.law_order.specs.Items.{In}
use Rattle.law_order.specs.Reached.{Reached}
use Rattle.law_order_waits.specs.Spots.{some_says, pair_is}
use Rattle.law_order_waits.specs.Played.{Played, played_reached}
use Rattle.law_order_waits.specs.Changes.{in_right}
use Rattle.law_order_queue.specs.Found.{first_of}
use Rattle.law_order_queue.specs.Finds.{finds}
use Rattle.spec_lists.specs.Maps.{All}
use Rattle.spec_plain.specs.Stack.{rights_of as jobRights}
use Rattle.spec_line.specs.Line.{Item, value, spot, finished, gave, Action, puts, looks, returns, Search, seeking, found}
use Rattle.spec_line.specs.Rights.{Passes}
use Rattle.law_job_line.specs.Tasks.{can_push, can_pop, Runner, action, Pushing, Popping}
use Rattle.law_job_line.proofs.Within.{job_tasks}
use Rattle.law_job_order.specs.Beside.{Numbered, unnumbered, task_of, points_of, Beside}
use Rattle.law_job_order.specs.Located.{Located, located}
use Rattle.law_job_order.specs.Points.{unnumbered_append, point_is, value_here, value_past, finished_past, gave_past}
use Rattle.law_job_order.specs.Steps.{Old, single, time}
use Rattle.law_job_order.specs.Searches.{value_waits, empty_waits, Spots, on_line, NoPop}
use Rattle.law_job_order.specs.Found.{no_popper}
use Rattle.law_timed_line.specs.Times.{Timed, untimed}
use Rattle.law_timed_line.specs.Walks.{Waits}
use Rattle.law_timed_line.proofs.Starts.{start_of}
use Rattle.law_timed_line.proofs.Agreement.{MoveOf}
use Rattle.law_timed_line.proofs.Reach.{Searched, Went, went}
use Rattle.law_named_waits.specs.Names.{above, above_self}
use Rattle.spec_line.specs.Fronts.{Fronts}
use Rattle.law_job_line.proofs.Agree.{none_back}
use Rattle.law_job_times.specs.Times.{job_waits}
use Rattle.law_job_waits.specs.Before.{not_above, child_before, off_line}
use Rattle.law_job_waits.specs.Halted.{never_blocked, never_awaited}
use Rattle.law_job_times.specs.Kin.{Unhalted}
use Rattle.law_job_waits.specs.Able.{LooksIn, Able, looks_right}
use Rattle.law_job_moves.specs.AbleMoves.{Whole}

-- WHERE A TASK STANDS on a line: before it is no other spot of its own
abbrev Differs : Runner → Item Runner → Type 0
Differs u (value q v) = Unit {0}
Differs u (spot s) = s ≡ u → ⊥
Differs u (finished s) = Unit {0}
Differs u (gave q) = Unit {0}

no_own : (u : Runner) (x : Item Runner) → Differs u x → spot u ≡ x → ⊥
no_own u (value q v) d e = let z : ◌≡◌ {A = ℕ} 0 1 = cc in omega (arith, z)
no_own u (spot s) d e = let i : s ≡ u = cc in d i
no_own u (finished s) d e = let z : ◌≡◌ {A = ℕ} 0 1 = cc in omega (arith, z)
no_own u (gave q) d e = let z : ◌≡◌ {A = ℕ} 0 1 = cc in omega (arith, z)

same_front : (u : Runner) (f g r t : List (Item Runner)) → All (Differs u) f → All (Differs u) g → f ++ spot u ∷ r ≡ g ++ spot u ∷ t → f ≡ g
same_front u [] [] r t p q e = refl
same_front u [] (y ∷ g) r t p q e = absurd (no_own u y q.0 (head-eq_of_cons-eq e))
same_front u (x ∷ f) [] r t p q e = absurd (no_own u x p.0 (sym (head-eq_of_cons-eq e)))
same_front u (x ∷ f) (y ∷ g) r t p q e =
    ap₂ (λ (z : Item Runner) (l : List (Item Runner)). z ∷ l) (head-eq_of_cons-eq e) (same_front u f g r t p.1 q.1 (tail-eq_of_cons-eq e))

module _ (j : List ℕ) (u : Runner) where
  -- a task with another name
  other_name : (s : Runner) → (above s.task.name u.task.name ≡ true → ⊥) → s ≡ u → ⊥
  other_name s n e = n (subst (λ (x : Runner). above x.task.name u.task.name ≡ true) (sym e) (above_self u.task.name))

  clear_differs : (l : List (Item Runner)) → Unhalted j u l → All (Differs u) l
  clear_differs [] h = tt
  clear_differs (value q v ∷ l) h = (tt, clear_differs l h.1)
  clear_differs (spot s ∷ l) h = (other_name s h.0.0, clear_differs l h.1)
  clear_differs (finished s ∷ l) h = (tt, clear_differs l h.1)
  clear_differs (gave q ∷ l) h = (tt, clear_differs l h.1)

  spots_differ : (a : List (Item Numbered)) → All (Spots j (λ o. above (name_of o) u.task.name ≡ true → ⊥)) a → All (Differs u) (unnumbered a)
  unfolding unnumbered task_of name_of
  spots_differ [] h = tt
  spots_differ (value q v ∷ a) h = (tt, spots_differ a h.1)
  spots_differ (spot m ∷ a) h = (other_name m.runner h.0, spots_differ a h.1)
  spots_differ (finished m ∷ a) h = (tt, spots_differ a h.1)
  spots_differ (gave q ∷ a) h = (tt, spots_differ a h.1)

-- WHAT A SEARCH SAYS of the tasks that it went past
module _ (j : List ℕ) (q : ℕ) (small : q < 4) where
  lacks_pop : (r : ℕ) → (can_pop r q ≡ true → ⊥) → mayPop r q ≡ false
  unfolding can_pop
  lacks_pop r n = refuted _ (λ e. n (true_both (lt-ltb q 4 small) e))

  lacks_push : (r : ℕ) → (can_push r q ≡ true → ⊥) → mayPush r q ≡ false
  unfolding can_push
  lacks_push r n = refuted _ (λ e. n (true_both (lt-ltb q 4 small) e))

  unused : (r : ℕ) → (can_pop r q ≡ true → ⊥) → (can_push r q ≡ true → ⊥) → uses r q ≡ false
  unused r n m = refuted _ (λ e. false≢true (sym (lacks_push r m) ∙ uses_pushes r q e (lacks_pop r n)))

  found_quiet : (a : List (Item Numbered)) → All (Passes (Pushing j) (Popping j) (found true q 0)) (unnumbered a)
      → All (NoPop j q) a
  unfolding unnumbered task_of rights_of
  found_quiet [] h = tt
  found_quiet (value p v ∷ a) h = (tt, found_quiet a h.1)
  found_quiet (spot m ∷ a) h = (lacks_pop _ h.0, found_quiet a h.1)
  found_quiet (finished m ∷ a) h = (tt, found_quiet a h.1)
  found_quiet (gave p ∷ a) h = (tt, found_quiet a h.1)

  search_quiet : (a : List (Item Numbered)) → Searched (job_tasks j) q (unnumbered a) → All (NoPop j q) a
  unfolding unnumbered task_of rights_of
  search_quiet [] h = tt
  search_quiet (value p v ∷ a) (inl h) = (tt, search_quiet a h.1)
  search_quiet (value p v ∷ a) (inr h) = (tt, found_quiet a h.1)
  search_quiet (spot m ∷ a) (inl h) = (lacks_pop _ h.0.0, search_quiet a h.1)
  search_quiet (spot m ∷ a) (inr h) = absurd h.0
  search_quiet (finished m ∷ a) (inl h) = (tt, search_quiet a h.1)
  search_quiet (finished m ∷ a) (inr h) = absurd h.0
  search_quiet (gave p ∷ a) (inl h) = (tt, search_quiet a h.1)
  search_quiet (gave p ∷ a) (inr h) = absurd h.0

  -- the first point of the queue is a value, or the task itself
  search_first : (b : List (Item Numbered)) (n : Numbered) → uses (rights_of (task_of j n)) q ≡ true → (a : List (Item Numbered))
      → Searched (job_tasks j) q (unnumbered a) → first_of (number_of (task_of j n)) (points_of j q (a ++ spot n ∷ b)) ≡ Finding.Waits → ⊥
  unfolding unnumbered task_of rights_of first_of number_of
  search_first b n used [] h e =
      empty_waits
      (sym (halt Finding.Empty Finding.Waits (eq-eqb n.number n.number refl))
      ∙ sym (unfold task_of rights_of number_of in ap (first_of n.number) (point_is j q n b ∙ halt _ _ used))
      ∙ e)
  search_first b n used (value p v ∷ a) (inl h) e =
      search_first b n used a h.1 (sym (ap (first_of n.number) (value_past j q p v (a ++ spot n ∷ b) h.0)) ∙ e)
  search_first b n used (value p v ∷ a) (inr h) e =
      value_waits {v = v}
      (sym (ap (λ (x : ℕ). first_of n.number (points_of j q (value x v ∷ (a ++ spot n ∷ b)))) h.0
      ∙ ap (first_of n.number) (value_here j q v (a ++ spot n ∷ b))) ∙ e)
  search_first b n used (spot m ∷ a) (inl h) e =
      search_first b n used a h.1
      (sym (unfold task_of rights_of number_of in ap (first_of n.number) (point_is j q m (a ++ spot n ∷ b) ∙ pass _ (unused _ h.0.0 h.0.1) refl)) ∙ e)
  search_first b n used (spot m ∷ a) (inr h) e = h.0
  search_first b n used (finished m ∷ a) (inl h) e =
      search_first b n used a h.1 (sym (ap (first_of n.number) (finished_past j q m (a ++ spot n ∷ b))) ∙ e)
  search_first b n used (finished m ∷ a) (inr h) e = h.0
  search_first b n used (gave p ∷ a) (inl h) e =
      search_first b n used a h.1 (sym (ap (first_of n.number) (gave_past j q p (a ++ spot n ∷ b))) ∙ e)
  search_first b n used (gave p ∷ a) (inr h) e = h.0

module _ (j : List ℕ) (ticks : ℕ → ℕ) {xs : List Mark} (played : Played xs) (a b : List (Item Numbered)) (n : Numbered)
    (h : Beside j xs (a ++ spot n ∷ b)) where
  abbrev u : Runner
  u = n.runner

  abbrev W : Waits (job_tasks j)
  W = job_waits j ticks

  abbrev s : Task
  s = task_of j n

  abbrev here : Located j xs a b n
  here = located j a b n h

  abbrev Steps : List Mark
  Steps = Old j (played_reached played) a b n h

  reached : Reached Steps
  reached = subst Reached here.here (played_reached played)

  mine : In (place s) Steps
  mine = in_right (place s) here.before (place s ∷ here.behind) (inl refl)

  apart : All (Differs u) (unnumbered a)
  unfolding task_of name_of
  apart =
      spots_differ j u a
      (on_line j (λ o. above (name_of o) u.task.name ≡ true → ⊥) here.before a here.first
      (λ o i. not_above here.before here.behind s reached o i))

  -- what its search went past is what stands before it
  front_is : (m : Search) (l : List (Item Runner)) → l ≡ Whole j ticks played a b n h → (c : Went (job_tasks j) W u m l) → c.before ≡ unnumbered a
  unfolding unnumbered
  front_is m l i c =
      same_front u c.before (unnumbered a) c.behind (unnumbered b) (clear_differs j u c.before c.clear) apart
      (sym c.line ∙ i ∙ unnumbered_append a (spot n ∷ b))

  -- it waits for no queue
  no_wait : (q : ℕ) → q < 4 → mayPop (jobRights j u.task) q ≡ true → blocked n.number xs ≡ false → Searched (job_tasks j) q (unnumbered a)
      → finding n.number q xs ≡ Finding.Waits → ⊥
  unfolding task_of name_of number_of rights_of finding child_pops
  no_wait q small may unblocked went e =
      search_first j q small b n (pops_uses (jobRights j u.task) q may) a went
      (sym (finds q here.before here.behind s (single j (played_reached played) a b n h) may (no_popper q here.before quiet)
      (time j (played_reached played) a b n h q small))
      ∙ sym (pass _ (neither free childless) refl)
      ∙ ap (finding (number_of s) q) (sym here.here)
      ∙ e)
    where
      quiet : (o : Task) → In (place o) here.before → mayPop (rights_of o) q ≡ false
      quiet = off_line j (λ o. mayPop (rights_of o) q ≡ false) here.before a here.first (search_quiet j q small a went)

      free : blocked (number_of s) Steps ≡ false
      free = ap (blocked (number_of s)) (sym here.here) ∙ unblocked

      childless : child_pops q (number_of s) Steps ≡ false
      childless = unfold child_pops in
          refuted _
          (λ d.
          let w = some_says _ Steps (sym (pair_is Steps reached _ s mine) ∙ d) in
          let v = both_true _ _ w.2 in
          false≢true (sym (quiet w.0 (child_before here.before here.behind s reached w.0 w.1 v.0)) ∙ v.1))

  -- A TASK THAT CAN MOVE NEED NOT WAIT
  pub moves_able : (l : List (Timed Runner)) → untimed l ≡ Whole j ticks played a b n h → (f : Search) (d : ℕ) (x : Fronts) (k : List (Timed Runner))
      → MoveOf (job_tasks j) W u f d none_back l x k → Able j xs n
  moves_able l e f d x k m = go (action j u) refl (went (job_tasks j) W u _ f 0 d m.walk)
    where
      go : (i : Action Runner) → action j u ≡ i → Went (job_tasks j) W u (start_of i none_back) (untimed l) → Able j xs n
      go i is c = record { free = unblocked; childless = never_awaited j played a b n h clear; finds = λ q k. waits i is c q (subst (LooksIn q) is k) }
        where
          clear : Unhalted j u (unnumbered a)
          clear = subst (Unhalted j u) (front_is _ (untimed l) e c) c.clear

          unblocked : blocked n.number xs ≡ false
          unblocked = never_blocked j played a b n h clear

          waits : (i : Action Runner) → action j u ≡ i → Went (job_tasks j) W u (start_of i none_back) (untimed l) → (q : ℕ) → LooksIn q i
              → finding n.number q xs ≡ Finding.Waits → ⊥
          waits (puts ys) is c q k d = k
          waits (returns p v ys) is c q k d = k
          waits (looks b p g) is c q k d =
              let r = looks_right j u p (subst (LooksIn p) (sym is) refl) in
              no_wait p r.0 r.1 unblocked (subst (Searched (job_tasks j) p) (front_is (seeking b p) (untimed l) e c) c.along)
              (ap (λ (y : ℕ). finding n.number y xs) k ∙ d)
