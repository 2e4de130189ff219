-- THE FINISHES THAT A STEP WAITS FOR, in document 02's words: "the finish of every older sibling, child or pusher that its wait rules
-- name". The line also counts far poppers, other finished tasks that may pop the queue: Dominated.antt shows that they change no time.
use Rattle.std.specs.Prelude.{◌≡◌, Bool, true, false, List, ◌⊎◌, ℕ}
use Rattle.std.proofs.Math.Path.{refl}
use Rattle.std.proofs.Common.{sym, ◌∙◌}
use Rattle.std.proofs.lemmas.Bool.{false≢true}
use Rattle.std.proofs.Math.Logic.{inl, inr, ⊎_elim}
use Rattle.spec_words.specs.Words.{both, either, both_true, either_true, neither_true, true_left, true_right}
use Rattle.spec_order.specs.Waits.{is_child, is_older}
use Rattle.spec_plain.specs.Stack.{rights_of}
use Rattle.spec_line.specs.Line.{Search, free, seeking, found, putting, About}
use Rattle.law_job_line.specs.Tasks.{Runner}
use Rattle.law_named_waits.specs.Names.{above}
use Rattle.law_named_waits.specs.Named.{halts, stops, counts}
use Rattle.law_job_times.specs.Kin.{pushes_of, pops_of, shares_of, halts as haltsOf, stops as stopsOf, counts as countsOf}

-- t has the name and the procedure of u
abbrev pub Like : Runner → Runner → Type 0
Like u t = (t.task.name ≡ u.task.name) × (t.task.procedure ≡ u.task.procedure)

module _ (j : List ℕ) where
  -- s is an older sibling of u that shares a pop right with it
  abbrev pub older_shares : Runner → Runner → Bool
  older_shares u s = both (is_older s.task.name u.task.name) (shares_of j s u)

  -- s is a child of u that pops queue q
  abbrev pub child_pops : Runner → ℕ → Runner → Bool
  child_pops u q s = both (is_child s.task.name u.task.name) (pops_of j s q)

  -- for what a queue holds: a child that pops there; before the value is found, a task that pushes there
  unfoldable pub by_queue : Search → Runner → Runner → Bool
  by_queue free u s = false
  by_queue (seeking b q) u s = either (child_pops u q s) (pushes_of j s q)
  by_queue (found b q v) u s = child_pops u q s
  by_queue (putting q v) u s = child_pops u q s

  -- `halts`: an older sibling that shares a pop right; a child, where u syncs or finishes
  unfoldable pub names : Runner → Search → Runner → Bool
  names u m s = either (haltsOf j s u) (by_queue m u s)

  -- each of them counts
  queue_stops : (m : Search) (u s : Runner) → by_queue m u s ≡ true → stopsOf j m s ≡ true
  unfolding by_queue stops
  queue_stops free u s e = e
  queue_stops (seeking b q) u s e = ⊎_elim (λ d. true_left _ (both_true _ _ d).1) (λ d. true_right _ d) (either_true _ _ e)
  queue_stops (found b q v) u s e = (both_true _ _ e).1
  queue_stops (putting q v) u s e = (both_true _ _ e).1

  pub names_counts : (u : Runner) (m : Search) (s : Runner) → names u m s ≡ true → countsOf j m u s ≡ true
  unfolding names counts
  names_counts u m s e = true_right _ (⊎_elim (λ d. true_left _ d) (λ d. true_right _ (queue_stops m u s d)) (either_true _ _ e))

  -- what counts and is not named: a task above u, or a popper of the queue that the search is about
  abbrev pub Popper : Search → Runner → Type 0
  Popper m s = (q : ℕ) × About q m × (pops_of j s q ≡ true)

  stops_far : (m : Search) (u s : Runner) → stopsOf j m s ≡ true → by_queue m u s ≡ false → Popper m s
  unfolding by_queue stops
  stops_far free u s e f = absurd (false≢true e)
  stops_far (seeking b q) u s e f =
      ⊎_elim (λ d. (q, refl, d)) (λ d. absurd (false≢true (sym (neither_true _ _ f).1 ∙ d))) (either_true _ _ e)
  stops_far (found b q v) u s e f = (q, refl, e)
  stops_far (putting q v) u s e f = (q, refl, e)

  pub far : (m : Search) (u s : Runner) → countsOf j m u s ≡ true → names u m s ≡ false
      → (above s.task.name u.task.name ≡ true) ⊎ Popper m s
  unfolding names counts
  far m u s e f =
      let n = neither_true _ _ f in
      ⊎_elim inl
      (λ d. ⊎_elim (λ h. absurd (false≢true (sym n.0 ∙ h))) (λ h. inr (stops_far m u s h n.1)) (either_true _ _ d))
      (either_true _ _ e)

  -- NEAR TASKS, whose finish every step about queue q waits for: older siblings that share a pop right, children that pop there
  unfoldable pub near : Runner → ℕ → Runner → Bool
  near u q s = either (older_shares u s) (child_pops u q s)

  near_queue : (n : Search) (q : ℕ) (u s : Runner) → About q n → child_pops u q s ≡ true → by_queue n u s ≡ true
  unfolding by_queue
  near_queue free q u s i e = absurd i
  near_queue (seeking b p) q u s i e = true_left _ (rw i at e)
  near_queue (found b p v) q u s i e = rw i at e
  near_queue (putting p v) q u s i e = rw i at e

  pub near_names : (n : Search) (q : ℕ) (u s : Runner) → About q n → near u q s ≡ true → names u n s ≡ true
  unfolding near names halts
  near_names n q u s i e = ⊎_elim (λ d. true_left _ (true_left _ d)) (λ d. true_right _ (near_queue n q u s i d)) (either_true _ _ e)

  -- it hangs on the name and the procedure of u
  pub near_like : (u v : Runner) (q : ℕ) (s : Runner) → Like u v → near v q s ≡ near u q s
  unfolding near rights_of
  near_like u v q s l = rw (l.0, l.1)
