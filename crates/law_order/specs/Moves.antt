-- What a step puts in place of a spot, and the steps of each task after it.
use Rattle.std.specs.Prelude.{◌≡◌, refl, true, List, [], ◌∷◌, ◌++◌, map, ℕ, ◌+◌, ◌≤◌}
use Rattle.std.proofs.Common.{ap, sym, ◌∙◌, append-nil}
use Rattle.std.proofs.lemmas.Bool.{false≢true}
use Rattle.spec_order.specs.Steps.{Name, Task, Item, step, spot, task, Act, spawns, pushes, pops, tests, syncs, finishes, name_of, number_of, made, advance}
use Rattle.law_order.specs.Items.{steps_of, Free, steps_here, steps_past, steps_append, steps_none}
use Rattle.law_order.specs.Count.{count, spot_numbered}
use Rattle.law_order.specs.Numbers.{advance_at}
use Rattle.law_order.specs.Courses.{plain}

-- the step, then spots
pub made_step : (s : Task) (a : Act) → (ts : List Task) × (made s a ≡ step (name_of s) a ∷ map spot ts)
unfolding made name_of
made_step (task p t r k) (spawns c s) = (task (k ∷ p) c s 0 ∷ task p t r (k + 1) ∷ [], refl)
made_step (task p t r k) (pushes q v) = (task p t r k ∷ [], refl)
made_step (task p t r k) (pops q) = (task p t r k ∷ [], refl)
made_step (task p t r k) (tests q) = (task p t r k ∷ [], refl)
made_step (task p t r k) syncs = (task p t r k ∷ [], refl)
made_step (task p t r k) finishes = ([], refl)

-- a plain step, and the spot again
pub made_plain : (s : Task) (a : Act) → plain a ≡ true → made s a ≡ step (name_of s) a ∷ spot s ∷ []
unfolding made name_of plain
made_plain (task p t r k) (spawns c s) e = absurd (false≢true e)
made_plain (task p t r k) (pushes q v) e = refl
made_plain (task p t r k) (pops q) e = refl
made_plain (task p t r k) (tests q) e = refl
made_plain (task p t r k) syncs e = refl
made_plain (task p t r k) finishes e = absurd (false≢true e)

-- a finish, and no spot
pub made_finish : (s : Task) → made s finishes ≡ step (name_of s) finishes ∷ []
unfolding made name_of
made_finish (task p t r k) = refl

-- the acts of a task that are plain
pub plain_push : (q v : ℕ) → plain (pushes q v) ≡ true
unfolding plain
plain_push q v = refl

pub plain_pop : (q : ℕ) → plain (pops q) ≡ true
unfolding plain
plain_pop q = refl

pub plain_test : (q : ℕ) → plain (tests q) ≡ true
unfolding plain
plain_test q = refl

pub plain_sync : plain syncs ≡ true
unfolding plain
plain_sync = refl

spots_stepless : (q : Name) (ts : List Task) → steps_of q (map spot ts) ≡ []
unfolding steps_of
spots_stepless q [] = refl
spots_stepless q (s ∷ ts) = spots_stepless q ts

made_own : (s : Task) (a : Act) → steps_of (name_of s) (made s a) ≡ a ∷ []
made_own s a =
    let w = made_step s a in
    ap (steps_of (name_of s)) w.1 ∙ steps_here (name_of s) a (map spot w.0) ∙ ap (λ (l : List Act). a ∷ l) (spots_stepless (name_of s) w.0)

made_other : (s : Task) (a : Act) (q : Name) → (name_of s ≡ q → ⊥) → steps_of q (made s a) ≡ []
made_other s a q n =
    let w = made_step s a in
    ap (steps_of q) w.1 ∙ steps_past q (name_of s) a (map spot w.0) n ∙ spots_stepless q w.0

module _ (before behind : List Item) (s : Task) (a : Act) (single : count (spot_numbered (number_of s)) (before ++ spot s ∷ behind) ≤ 1) where
  parted : (q : Name) → steps_of q (advance (number_of s) a (before ++ spot s ∷ behind)) ≡ steps_of q before ++ (steps_of q (made s a) ++ steps_of q behind)
  parted q =
      ap (steps_of q) (advance_at before behind s a single)
      ∙ steps_append q before (made s a ++ behind)
      ∙ ap (λ (l : List Act). steps_of q before ++ l) (steps_append q (made s a) behind)

  whole : (q : Name) → steps_of q (before ++ spot s ∷ behind) ≡ steps_of q before ++ steps_of q behind
  unfolding steps_of
  whole q = steps_append q before (spot s ∷ behind)

  -- the task that makes it
  pub own_steps : Free (name_of s) behind
      → steps_of (name_of s) (advance (number_of s) a (before ++ spot s ∷ behind)) ≡ steps_of (name_of s) (before ++ spot s ∷ behind) ++ (a ∷ [])
  own_steps free =
      let none = steps_none (name_of s) behind (λ x i e. free x i ([], e)) in
      let past = steps_of (name_of s) before in
      parted (name_of s)
      ∙ ap (λ (l : List Act). past ++ (l ++ steps_of (name_of s) behind)) (made_own s a)
      ∙ ap (λ (l : List Act). past ++ (a ∷ l)) none
      ∙ ap (λ (l : List Act). l ++ (a ∷ [])) (sym (whole (name_of s) ∙ ap (λ (l : List Act). past ++ l) none ∙ append-nil past))

  -- the others
  pub others_steps : (q : Name) → (name_of s ≡ q → ⊥)
      → steps_of q (advance (number_of s) a (before ++ spot s ∷ behind)) ≡ steps_of q (before ++ spot s ∷ behind)
  others_steps q n =
      parted q ∙ ap (λ (l : List Act). steps_of q before ++ (l ++ steps_of q behind)) (made_other s a q n) ∙ sym (whole q)
