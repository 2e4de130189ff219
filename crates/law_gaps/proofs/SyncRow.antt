-- SYNC: the children view of a task without children joins its user view. No segments are linked.
use Rattle.std.specs.Prelude.{◌≡◌, List, ◌∷◌, ◌++◌, ℕ}
use Rattle.std.proofs.Math.Path.{refl}
use Rattle.law_gaps.specs.Line.{Extent, exited, entered, Line, Mode, settled, Inside, rest, mid, close, Views, exiting, entering}
use Rattle.law_gaps.specs.Store.{Store, Memory, Laid, timeline}
use Rattle.law_gaps.proofs.Frames.{split}
use Rattle.law_gaps.specs.Moves.{joined, synced}
use Rattle.law_gaps.proofs.ViewRows.{sync_views}
use Rattle.law_gaps.proofs.After.{After}

-- a view inside a gap has no local head to link to
inside : {m n : Mode} {v w : Extent} (holder : ℕ) (st : Store) → Inside m v n → Inside n w settled → joined holder v w st ≡ st
inside holder st rest j = refl
inside holder st mid j = refl
inside holder st close rest = refl

unlinked : (m : Memory) (holder t : ℕ) (c : List ℕ) (a : Line) {n : Mode} → Views m.children m.user m.right (entered t c ∷ (exited t ∷ a)) n
    → joined holder (m.children t) (m.user t) m.store ≡ m.store
unlinked m holder t c a (entering v w e i f g (exiting v' e' i' r)) = rw (e, e') (inside holder m.store i' i)

module _ (own : ℕ → ℕ) (m : Memory) (holder : ℕ) (b : Line) (t : ℕ) (c : List ℕ) (a : Line) (r : Laid own m holder (b ++ (entered t c ∷ (exited t ∷ a)))) where
  -- the segments are as they were
  pub sync_store : joined holder (m.children t) (m.user t) m.store ≡ m.store
  sync_store = unlinked m holder t c a (split b (entered t c) (exited t ∷ a) r.views).1

  pub sync_row : After own m.store (synced holder t m) holder (b ++ (entered t c ∷ (exited t ∷ a)))
      (timeline m.store.contents (b ++ (entered t c ∷ (exited t ∷ a))))
  unfolding synced
  sync_row = record {
    line = b ++ (entered t c ∷ (exited t ∷ a));
    laid = record {
      views = sync_views m.children m.user m.right b t c a r.dist r.views;
      dist = r.dist;
      held = rw sync_store r.held;
      closed = r.closed;
    };
    outlined = refl;
    points = rw sync_store refl;
    kept = λ x k. (rw sync_store refl, rw sync_store refl);
  }
