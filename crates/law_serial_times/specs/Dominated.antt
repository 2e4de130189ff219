-- FAR POPPERS ARE DOMINATED: in a serial run every finished popper of a queue that the task on top of the stack may pop was done no
-- later than that task's last step, or than the finish of a near task. So counting it changes no time. A step and a spawn keep this.
use Rattle.std.specs.Prelude.{◌≡◌, ◌⊎◌, ℕ, ◌+◌, ◌<◌, ◌≤◌}
use Rattle.std.proofs.Common.{sym, ◌∙◌, subst, arith, ltb-true}
use Rattle.std.proofs.Math.Bool.{true}
use mathlib.Core.List.{List, [], ◌∷◌, ◌++◌, tail-eq_of_cons-eq}
use Rattle.std.proofs.Math.Logic.{inl, inr, ⊎_elim}
use Rattle.spec_words.specs.Words.{both_true, true_both, either_true, true_left}
use Rattle.spec_tree.specs.Rights.{pops as mayPop}
use Rattle.spec_order.specs.Steps.{Name}
use Rattle.spec_order.specs.Waits.{is_child, is_older}
use Rattle.law_order.specs.Names.{Under, under_parent}
use Rattle.law_order_waits.specs.Spots.{child_says, says_older}
use Rattle.law_order_waits.specs.Popper.{both_share}
use Rattle.spec_plain.specs.Stack.{rights_of}
use Rattle.spec_line.specs.Line.{spot}
use Rattle.law_timed_line.specs.Times.{Timed, at}
use Rattle.law_job_line.specs.Tasks.{can_pop, Runner}
use Rattle.law_job_times.specs.Kin.{pops_of}
use Rattle.law_serial_times.specs.Ended.{Over, Among, Every}
use Rattle.law_serial_times.specs.Named.{Like, older_shares, near, near_like}

-- s is u, or descends from it
abbrev pub Beneath : Runner → Runner → Type 0
Beneath u s = Under u.task.name s.task.name

-- a task of the stack, and the time of its last step
pub data Frame : Type 0 where
  frame : ℕ → Runner → Frame

-- the spots of a stack
abbrev pub spots_of : List Frame → List (Timed Runner)
spots_of [] = []
spots_of (frame t u ∷ st) = at t (spot u) ∷ spots_of st

module _ (j : List ℕ) where
  abbrev pub Pop : Runner → ℕ → Type 0
  Pop u q = pops_of j u q ≡ true

  may_pop : (u : Runner) (q : ℕ) → Pop u q → (q < 4) × (mayPop (rights_of j u.task) q ≡ true)
  unfolding can_pop
  may_pop u q p = let h = both_true _ _ p in (ltb-true q 4 h.0, h.1)

  -- no later than t, or than the finish of a near task
  abbrev pub Below : List (Over Runner) → Runner → ℕ → ℕ → ℕ → Type 0
  Below F u t q y = (y ≤ t) ⊎ ((z : ℕ) × (s : Runner) × Among F z s × (y ≤ z) × (near j u q s ≡ true))

  -- What holds of a task u of the stack and the finished F; X says of which poppers nothing is said.
  pub record Framed (F : List (Over Runner)) (X : Runner → Type 0) (t : ℕ) (u : Runner) : Type 0 where
    pub below : (q : ℕ) → Pop u q → Every F (λ y s. Pop s q → X s ⊎ Below F u t q y)
    pub rights : Every F (λ y s. Beneath u s → (q : ℕ) → Pop s q → Pop u q)
    pub kids : Every F (λ y s. (k : ℕ) → Under (k ∷ u.task.name) s.task.name → k < u.task.children)
    pub none : Every F (λ y s. Beneath s u → ⊥)

  -- of the whole stack: below its top, nothing is said of what is under the task above
  abbrev pub Dom : List (Over Runner) → (Runner → Type 0) → List Frame → Type 0
  Dom F X [] = Unit {0}
  Dom F X (frame t u ∷ st) = Framed F X t u × Dom F (Beneath u) st

  abbrev pub Nobody : Runner → Type 0
  Nobody s = ⊥

  pub pop_like : (u v : Runner) (q : ℕ) → Like u v → Pop v q → Pop u q
  unfolding rights_of
  pop_like u v q l p = rw l.1 at p

  pub pop_back : (u v : Runner) (q : ℕ) → Like u v → Pop u q → Pop v q
  unfolding rights_of
  pop_back u v q l p = rw l.1 p

  below_like : (F : List (Over Runner)) (u v : Runner) (t d q y : ℕ) → Like u v → t ≤ d → Below F u t q y → Below F v d q y
  below_like F u v t d q y l h (inl i) = inl (omega arith)
  below_like F u v t d q y l h (inr (z, s, m, i, n)) = inr (z, s, m, i, near_like j u v q s l ∙ n)

  -- A STEP OF u: the same task later
  framed_like : (F : List (Over Runner)) (X : Runner → Type 0) (t d : ℕ) (u v : Runner) → Like u v → u.task.children ≤ v.task.children → t ≤ d
      → Framed F X t u → Framed F X d v
  framed_like F X t d u v l c h f =
      record {
        below = λ q p y s m i. ⊎_elim inl (λ b. inr (below_like F u v t d q y l h b)) (f.below q (pop_like u v q l p) y s m i);
        rights = λ y s m e q p. pop_back u v q l (f.rights y s m (rw l.0 at e) q p);
        kids = λ y s m k e. omega (arith, f.kids y s m k (rw l.0 at e));
        none = λ y s m e. f.none y s m (rw l.0 at e);
      }

  tail_like : (F : List (Over Runner)) (u v : Runner) (st : List Frame) → Like u v → Dom F (Beneath u) st → Dom F (Beneath v) st
  tail_like F u v st l h = subst (λ (p : Name). Dom F (λ s. Under p s.task.name) st) (sym l.0) h

  pub goes_dom : (F : List (Over Runner)) (t d : ℕ) (u v : Runner) (st : List Frame) → Like u v → u.task.children ≤ v.task.children → t ≤ d
      → Dom F Nobody (frame t u ∷ st) → Dom F Nobody (frame d v ∷ st)
  goes_dom F t d u v st l c h f = (framed_like F Nobody t d u v l c h f.0, tail_like F u v st l f.1)

  -- no older sibling that shares a pop right finished after d
  abbrev pub Earlier : List (Over Runner) → Runner → ℕ → Type 0
  Earlier F u d = Every F (λ z s. older_shares j u s ≡ true → z ≤ d)

  -- no child finished after d
  abbrev pub Childless : List (Over Runner) → Runner → ℕ → Type 0
  Childless F u d = Every F (λ z s. is_child s.task.name u.task.name ≡ true → z ≤ d)

  -- A SPAWN: the child c of u on top
  module _ (F : List (Over Runner)) (t d : ℕ) (u v c : Runner) (st : List Frame) (like : Like u v)
      (more : v.task.children ≡ u.task.children + 1) (after : t ≤ d) (new : c.task.name ≡ u.task.children ∷ u.task.name)
      (within : (q : ℕ) → Pop c q → Pop u q) (early : Earlier F u d) (dom : Dom F Nobody (frame t u ∷ st)) where
    -- a near task of u is done, or near c
    nearer : (q y : ℕ) → Pop c q → Below F u t q y → Below F c d q y
    unfolding near
    nearer q y p (inl i) = inl (omega arith)
    nearer q y p (inr (z, s, m, h, n)) =
        ⊎_elim
        (λ e. inl (omega (arith, early z s m e)))
        (λ e.
        let w = both_true _ _ e in
        let x = child_says s.task.name u.task.name w.0 in
        let older : is_older s.task.name c.task.name ≡ true =
        rw (x.1, new) (says_older x.0 u.task.children u.task.name (dom.0.kids z s m x.0 ([], x.1))) in
        let i = may_pop c q p in
        inr (z, s, m, h, true_left _ (true_both older (both_share _ _ q i.0 (may_pop s q w.1).1 i.1))))
        (either_true _ _ n)

    -- nothing finished is under c, and c is under nothing finished
    fresh : Every F (λ y s. Beneath c s → ⊥)
    fresh y s m e = omega (arith, dom.0.kids y s m u.task.children (rw new at e))

    apart : Every F (λ y s. Beneath s c → ⊥)
    apart y s m e = go e.0 (sym new ∙ e.1)
      where
        go : (path : List ℕ) → u.task.children ∷ u.task.name ≡ path ++ s.task.name → ⊥
        go [] i = fresh y s m ([], sym i ∙ sym new)
        go (k ∷ path) i = dom.0.none y s m (path, tail-eq_of_cons-eq i)

    child_framed : Framed F Nobody d c
    child_framed =
        record {
          below = λ q p y s m i. ⊎_elim inl (λ b. inr (nearer q y p b)) (dom.0.below q (within q p) y s m i);
          rights = λ y s m e q p. absurd (fresh y s m e);
          kids = λ y s m k e. absurd (fresh y s m (under_parent e));
          none = apart;
        }

    parent_framed : Framed F (Beneath c) d v
    parent_framed =
        let f = framed_like F Nobody t d u v like (omega (arith, more)) after dom.0 in
        record { below = λ q p y s m i. ⊎_elim (λ n. absurd n) inr (f.below q p y s m i); rights = f.rights; kids = f.kids; none = f.none }

    pub spawn_dom : Dom F Nobody (frame d c ∷ frame d v ∷ st)
    spawn_dom = (child_framed, (parent_framed, tail_like F u v st like dom.1))
