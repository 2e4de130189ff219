-- THE HEADS OF VIEWS that a sync or a finish reduces: a local one is a segment opened with.
use Rattle.std.specs.Prelude.{refl, List, ◌∷◌, ℕ, ◌<◌}
use Rattle.std.proofs.Common.{sym, subst, arith}
use Rattle.spec_lists.specs.Counting.{occurrences, occurs_here}
use Rattle.law_gaps.specs.Line.{nonlocal, local, Extent, vacant, extent, Line, entered, Mode, bare, whole, begun, Views, entering}
use Rattle.law_gaps.specs.Moves.{reduced}
use Rattle.law_invariant.specs.Nexts.{HeadBelow}
use Rattle.law_invariant_finish.specs.Meets.{Headless}

module _ (P : ℕ → Type 0) (some_opened : P 0) where
  abbrev Below : Extent → Type 0
  Below = HeadBelow P some_opened

  pub headless_below : (v : Extent) → Headless v → Below v
  headless_below vacant h = tt
  headless_below (extent nonlocal y) h = tt
  headless_below (extent (local s) y) h = absurd h

  pub reduced_below : (v w : Extent) → Headless v → Below w → Below (reduced v w)
  reduced_below vacant w h b = b
  reduced_below (extent x y) vacant h b = headless_below (extent x y) h
  reduced_below (extent nonlocal y) (extent g z) h b = tt
  reduced_below (extent (local s) y) (extent g z) h b = absurd h

  -- a right view begins the chain behind the task's spot
  pub right_below : {children user right : ℕ → Extent} (t : ℕ) (c : List ℕ) (a : Line) {k : Mode} → Views children user right (entered t c ∷ a) k
      → ((x : ℕ) → 0 < occurrences x c → P x) → Below (right t)
  right_below t c a (entering v w e i f bare r) h = subst Below (sym f) tt
  right_below t c a (entering v w e i f (whole {s = s} {c = d} y) r) h = subst Below (sym f) (h s (let o = occurs_here s s d refl in omega (arith, o)))
  right_below t c a (entering v w e i f (begun {s = s} {c = d} y) r) h = subst Below (sym f) (h s (let o = occurs_here s s d refl in omega (arith, o)))
