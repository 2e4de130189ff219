-- WHAT THE WALK BACK FINDS: a vacant view where the latest gap has no chain, else a view that has the chain's tail.
use Rattle.std.specs.Prelude.{◌≡◌, List, ◌∷◌, ℕ}
use Rattle.std.proofs.Common.{ap, sym, ◌∙◌, subst}
use Rattle.spec_lists.specs.Maps.{last_of}
use Rattle.law_gaps.specs.Line.{End, nonlocal, local, Extent, vacant, extent, exited, entered, pass, Line, Mode, settled, awaiting, rest, mid, close, bare, whole}
use Rattle.law_gaps.specs.Line.{begun, Views, queue, exiting, entering, passing}
use Rattle.law_gaps.proofs.Frames.{clash}
use Rattle.law_gaps.specs.Moves.{Place, children_of, right_of, view_at}
use Rattle.law_gaps.specs.Places.{Target}
use Rattle.law_gaps.proofs.Chains.{Gap, NoGap}

module _ {children user right : ℕ → Extent} where
  -- a chain whose tail is still to come
  pub awaited : {l : Line} {z : ℕ} → Views children user right l (awaiting z) → (p : ℕ) × (r : List ℕ) × Gap l p r × (last_of p r ≡ z)
  awaited (queue {s = s} {c = c} e) = (s, c, Gap.at_base, e)
  awaited (exiting v e rest r) = let g = awaited r in (g.0, g.1, Gap.on_exited g.2, g.3)
  awaited (exiting v e mid r) = let g = awaited r in (g.0, g.1, Gap.on_exited g.2, g.3)
  awaited (entering v w e i f (begun {s = s} {c = c} y) r) = (s, c, Gap.at_entered, y)
  awaited (passing r) = let g = awaited r in (g.0, g.1, Gap.on_pass g.2, g.3)

  -- what stands before a task's user view: a chain that awaits its tail, where the view has one, and nothing else
  pub user_awaits : (t : ℕ) (c : List ℕ) (a : Line) (h : End) (z : ℕ) {n : Mode} → user t ≡ extent h (local z)
      → Views children user right (entered t c ∷ a) n → Views children user right a (awaiting z)
  user_awaits t c a h z u (entering v w e rest f g r) = clash (user t) e u
  user_awaits t c a h z u (entering v w e (close {z = s}) f g r) =
      let d : extent nonlocal (local s) ≡ extent h (local z) = sym e ∙ u in
      let p : s ≡ z = cc in
      subst (λ z. Views children user right a (awaiting z)) p r

  pub user_settled : (t : ℕ) (c : List ℕ) (a : Line) {n : Mode} → user t ≡ vacant → Views children user right (entered t c ∷ a) n
      → Views children user right a settled
  user_settled t c a u (entering v w e rest f g r) = r
  user_settled t c a u (entering v w e close f g r) = clash (user t) u e

-- The view at the place k, and the chain of the latest gap of l.
pub data Found (children right : ℕ → Extent) (l : Line) (k : Place) : Type 0 where
  nothing : view_at children right k ≡ vacant → NoGap l → Found children right l k
  tail : (h : End) (p : ℕ) (r : List ℕ) → view_at children right k ≡ extent h (local (last_of p r)) → Gap l p r → Found children right l k

module _ {children right : ℕ → Extent} {l : Line} {k : Place} where
  found_exited : (t : ℕ) → Found children right l k → Found children right (exited t ∷ l) k
  found_exited t (nothing e g) = nothing e (NoGap.on_exited g)
  found_exited t (tail h p r e g) = tail h p r e (Gap.on_exited g)

  found_pass : (x : ℕ) → Found children right l k → Found children right (pass x ∷ l) k
  found_pass x (nothing e g) = nothing e (NoGap.on_pass g)
  found_pass x (tail h p r e g) = tail h p r e (Gap.on_pass g)

-- a children view that has the tail of the chain before it
with_tail : {children user right : ℕ → Extent} {l : Line} {z : ℕ} (t : ℕ) → children t ≡ extent nonlocal (local z)
    → Views children user right l (awaiting z)
    → Found children right (exited t ∷ l) (children_of t)
with_tail t e r = let g = awaited r in tail nonlocal g.0 g.1 (e ∙ ap (λ (z : ℕ). extent nonlocal (local z)) (sym g.3)) (Gap.on_exited g.2)

pub find : {children user right : ℕ → Extent} {l : Line} (k : Place) → Target children l k → Views children user right l settled
    → Found children right l k
find (right_of t) Target.at_entered (entering v w e i f bare r) = nothing f NoGap.at_entered
find (right_of t) Target.at_entered (entering v w e i f (whole {s = s} {c = c} y) r) =
    tail (local s) s c (f ∙ ap (λ (z : ℕ). extent (local s) (local z)) (sym y)) Gap.at_entered
find {children} (children_of t) (Target.at_exited h x f) (exiting v e rest r) = clash (children t) e f
find (children_of t) (Target.at_exited h x f) (exiting v e close r) = with_tail t e r
find (children_of t) Target.top (exiting v e rest r) = elim r [ ]
find (children_of t) Target.top (exiting v e close r) = with_tail t e r
find k (Target.up {t = t} f o) (exiting v e rest r) = found_exited t (find k o r)
find {children} k (Target.up {t = t} f o) (exiting v e close r) = clash (children t) f e
find k (Target.over {x = x} o) (passing r) = found_pass x (find k o r)
