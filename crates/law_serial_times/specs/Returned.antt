-- A RETURN keeps far poppers dominated: the task on top of the stack is finished at d, later than all that it waited for, and the next
-- task of the stack comes on top.
use Rattle.std.specs.Prelude.{◌≡◌, List, [], ◌∷◌, ◌++◌, ◌⊎◌, ℕ, ◌+◌, ◌≤◌}
use Rattle.std.proofs.Common.{◌∙◌, inl}
use Rattle.std.proofs.Math.Bool.{true}
use Rattle.std.proofs.Math.Logic.{inr, ⊎_elim}
use native.Mathlib.Omega.{arith}
use Rattle.spec_words.specs.Words.{both_true, true_both, either_true, true_right}
use Rattle.spec_order.specs.Waits.{is_child}
use Rattle.law_order.specs.Names.{Under, under_parent, not_under_child, one_branch}
use Rattle.law_order_waits.specs.Spots.{says_child}
use Rattle.law_job_line.specs.Tasks.{Runner}
use Rattle.law_serial_times.specs.Ended.{Over, over, Among, among_more, among_last, every_more}
use Rattle.law_serial_times.specs.Named.{Like, near}
use Rattle.law_serial_times.specs.Dominated.{Beneath, Frame, frame, Pop, Below, Framed, Dom, Nobody, pop_back, pop_like, Earlier, Childless}

module _ (j : List ℕ) where
  -- each task of the stack is the youngest child of the next
  pub record Child (c p : Runner) : Type 0 where
    pub number : ℕ
    pub youngest : p.task.children ≡ number + 1
    pub name : c.task.name ≡ number ∷ p.task.name
    pub pops : (q : ℕ) → Pop j c q → Pop j p q

  abbrev pub Nested : Runner → List Frame → Type 0
  Nested c [] = Unit {0}
  Nested c (frame t p ∷ st) = Child c p × Nested p st

  -- THE TASK x, FINISHED AT d, is added to what is finished
  module _ (F : List (Over Runner)) (x : Runner) (d : ℕ) where
    abbrev more : List (Over Runner)
    more = F ++ over d x ∷ []

    below_more : (w : Runner) (t q y : ℕ) → Below j F w t q y → Below j more w t q y
    below_more w t q y (inl i) = inl i
    below_more w t q y (inr (z, s, m, i, n)) = inr (z, s, among_more d x F z s m, i, n)

    -- it is under the youngest child c of w, with no pop right that c lacks
    module _ (c w : Runner) (kin : Child c w) (under : Beneath c x) (pops : (q : ℕ) → Pop j x q → Pop j c q) where
      branch : Under (kin.number ∷ w.task.name) x.task.name
      branch = rw kin.name at under

      added : (X : Runner → Type 0) (t : ℕ) → X x → Framed j F X t w → Framed j more X t w
      added X t h f =
          record {
            below = λ q p. every_more d x _ F (λ y s m i. ⊎_elim inl (λ b. inr (below_more w t q y b)) (f.below q p y s m i)) (λ z. inl h);
            rights = every_more d x _ F f.rights (λ e q p. kin.pops q (pops q p));
            kids = every_more d x _ F f.kids (λ k e. omega (arith, one_branch e branch, kin.youngest));
            none = every_more d x _ F f.none (λ e. not_under_child e branch);
          }

    all_added : (c : Runner) (st : List Frame) → Beneath c x → ((q : ℕ) → Pop j x q → Pop j c q) → Nested c st → Dom j F (Beneath c) st
        → Dom j more (Beneath c) st
    all_added c [] u p n f = tt
    all_added c (frame t w ∷ st) u p n f = (
      added c w n.0 u p (Beneath c) t u f.0,
      all_added w st (under_parent (branch c w n.0 u p)) (λ q i. n.0.pops q (p q i)) n.1 f.1,
    )

  module _ (F : List (Over Runner)) (t d : ℕ) (u v : Runner) (like : Like u v) (after : t ≤ d) (early : Earlier j F u d) (alone : Childless j F u d)
      (mine : Framed j F (Nobody j) t u) where
    -- nothing near u finished later
    near_early : (q y : ℕ) → Below j F u t q y → y ≤ d
    unfolding near
    near_early q y (inl i) = omega arith
    near_early q y (inr (z, s, m, i, n)) =
        ⊎_elim (λ e. omega (arith, early z s m e)) (λ e. omega (arith, alone z s m (both_true _ _ e).0)) (either_true _ _ n)

    -- the finished task v is u, with the rights of u
    same : Beneath u v
    same = ([], like.0)

    rights : (q : ℕ) → Pop j v q → Pop j u q
    rights q p = pop_like j u v q like p

    -- the next task of the stack, now on top
    next_framed : (t1 : ℕ) (w : Runner) → Child u w → Framed j F (Beneath u) t1 w → Framed j (more F v d) (Nobody j) t1 w
    unfolding near
    next_framed t1 w c f =
        let g = added F v d u w c same rights (Beneath u) t1 same f in
        record {
          below = λ q p. every_more d v _ F (λ y s m i. inr (⊎_elim (under_it q y s m i) (below_more F v d w t1 q y) (f.below q p y s m i)))
              (λ i. inr (near_it q d i (omega arith)));
          rights = g.rights;
          kids = g.kids;
          none = g.none;
        }
      where
        near_it : (q y : ℕ) → Pop j v q → y ≤ d → Below j (more F v d) w t1 q y
        near_it q y i h =
            let child : is_child v.task.name w.task.name ≡ true = rw (like.0 ∙ c.name) (says_child c.number w.task.name) in
            inr (d, v, among_last d v F, h, true_right _ (true_both child i))

        -- all poppers under u are done by d
        under_it : (q y : ℕ) (s : Runner) → Among F y s → Pop j s q → Beneath u s → Below j (more F v d) w t1 q y
        under_it q y s m i e =
            let p = mine.rights y s m e q i in
            near_it q y (pop_back j u v q like p) (⊎_elim (λ n. absurd n) (near_early q y) (mine.below q p y s m i))

    pub return_dom : (st : List Frame) → Nested u st → Dom j F (Beneath u) st → Dom j (more F v d) (Nobody j) st
    return_dom [] n f = tt
    return_dom (frame t1 w ∷ st) n f =
        let c = n.0 in
        (next_framed t1 w c f.0, all_added F v d w st (under_parent (branch F v d u w c same rights)) (λ q p. c.pops q (rights q p)) n.1 f.1)
