-- WHAT WAS MADE SO FAR was done no later than a task of the stack has moved, or than a finished child of one has finished. So the last step of all,
-- the top's return, is the latest.
use Rattle.std.specs.Prelude.{◌≡◌, true, List, [], ◌∷◌, ◌++◌, ◌⊎◌, ℕ, ◌≤◌}
use Rattle.std.proofs.Common.{inl, inr, arith}
use Rattle.spec_order.specs.Waits.{is_child}
use Rattle.law_order_waits.specs.Spots.{says_child}
use Rattle.law_job_line.specs.Tasks.{Runner}
use Rattle.law_serial_times.specs.Ended.{Over, over, Among, among_more, among_last}
use Rattle.law_serial_times.specs.Dominated.{Frame, frame}
use Rattle.law_serial_times.specs.Returned.{Nested}

abbrev pub Covered : List (Over Runner) → List Frame → ℕ → Type 0
Covered F [] y = ⊥
Covered F (frame t u ∷ st) y =
    (y ≤ t) ⊎ (((z : ℕ) × (x : Runner) × Among F z x × (is_child x.task.name u.task.name ≡ true) × (y ≤ z)) ⊎ Covered F st y)

-- once no task is left, no later than the last step
abbrev pub Known : List (Over Runner) → ℕ → List Frame → ℕ → Type 0
Known F last [] y = y ≤ last
Known F last (frame t u ∷ st) y = Covered F (frame t u ∷ st) y

-- the task goes on, with the same name
pub covered_on : (F : List (Over Runner)) (t d : ℕ) (u v : Runner) (st : List Frame) (y : ℕ) → v.task.name ≡ u.task.name → t ≤ d
    → Covered F (frame t u ∷ st) y → Covered F (frame d v ∷ st) y
covered_on F t d u v st y e h (inl i) = inl (omega arith)
covered_on F t d u v st y e h (inr (inl (z, x, m, c, i))) = inr (inl (z, x, m, rw e c, i))
covered_on F t d u v st y e h (inr (inr k)) = inr (inr k)

more_covered : (F : List (Over Runner)) (d : ℕ) (x : Runner) (st : List Frame) (y : ℕ) → Covered F st y → Covered (F ++ over d x ∷ []) st y
more_covered F d x [] y k = absurd k
more_covered F d x (frame t u ∷ st) y (inl i) = inl i
more_covered F d x (frame t u ∷ st) y (inr (inl (z, s, m, c, i))) = inr (inl (z, s, among_more d x F z s m, c, i))
more_covered F d x (frame t u ∷ st) y (inr (inr k)) = inr (inr (more_covered F d x st y k))

-- the task u has finished at d, later than its last step and its children; x is how it stands then
module _ (j : List ℕ) (F : List (Over Runner)) (t d : ℕ) (u x : Runner) (like : x.task.name ≡ u.task.name) (after : t ≤ d)
    (alone : (z : ℕ) (s : Runner) → Among F z s → is_child s.task.name u.task.name ≡ true → z ≤ d) where
  by_it : (st : List Frame) → Nested j u st → (y : ℕ) → y ≤ d → Known (F ++ over d x ∷ []) d st y
  by_it [] n y h = h
  by_it (frame r w ∷ st) n y h =
      inr (inl (d, x, among_last d x F, rw (like, n.0.name) (says_child n.0.number w.task.name), h))

  pub covered_return : (st : List Frame) → Nested j u st → (y : ℕ) → Covered F (frame t u ∷ st) y → Known (F ++ over d x ∷ []) d st y
  covered_return st n y (inl i) = by_it st n y (omega arith)
  covered_return st n y (inr (inl (z, s, m, c, i))) = let l = alone z s m c in by_it st n y (omega (arith, l))
  covered_return [] n y (inr (inr k)) = absurd k
  covered_return (frame r w ∷ st) n y (inr (inr k)) = more_covered F d x (frame r w ∷ st) y k

  pub covered_last : (st : List Frame) → Nested j u st → Known (F ++ over d x ∷ []) d st d
  covered_last st n = by_it st n d (omega arith)
