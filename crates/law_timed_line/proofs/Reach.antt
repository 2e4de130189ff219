-- WHAT A SEARCH WENT PAST where its task moved. So a task with something before it that it may not go past has no move.
use Rattle.std.specs.Prelude.{◌≡◌, refl, Bool, List, [], ◌∷◌, ◌++◌, ◌⊎◌, ℕ}
use Rattle.std.proofs.Common.{ap, inl, inr}
use Rattle.spec_lists.specs.Maps.{All}
use Rattle.spec_line.specs.Line.{Item, value, spot, finished, gave, Search, free, seeking, found, putting}
use Rattle.spec_line.specs.Rights.{Tasks, Passing}
use Rattle.law_timed_line.specs.Times.{Timed, untimed}
use Rattle.law_timed_line.specs.Walks.{Clear, Waits, Walk}

module _ {S : Type 0} (T : Tasks S) where
  abbrev pub IsValue : ℕ → Item S → Type 0
  IsValue q (value p v) = p ≡ q
  IsValue q (spot s) = ⊥
  IsValue q (finished s) = ⊥
  IsValue q (gave p) = ⊥

  -- a search for a value of queue q, up to the first one if there is one: no task that pushes or pops there; from then on none that pops
  abbrev pub Searched : ℕ → List (Item S) → Type 0
  Searched q [] = Unit {0}
  Searched q (x ∷ f) = (Passing T (seeking Bool.true q) x × Searched q f) ⊎ (IsValue q x × All (Passing T (found Bool.true q 0)) f)

  abbrev pub Along : Search → List (Item S) → Type 0
  Along free f = Unit {0}
  Along (seeking b q) f = Searched q f
  Along (found b q v) f = All (Passing T (found b q v)) f
  Along (putting q v) f = All (Passing T (putting q v)) f

  along_none : (m : Search) → Along m []
  along_none free = tt
  along_none (seeking b q) = tt
  along_none (found b q v) = tt
  along_none (putting q v) = tt

  along_past : (m : Search) (x : Item S) (f : List (Item S)) → Passing T m x → Along m f → Along m (x ∷ f)
  along_past free x f p a = tt
  along_past (seeking b q) x f p a = inl (p, a)
  along_past (found b q v) x f p a = (p, a)
  along_past (putting q v) x f p a = (p, a)

  module _ (W : Waits T) where
    pub record Went (u : S) (m : Search) (l : List (Item S)) : Type 0 where
      pub before : List (Item S)
      pub behind : List (Item S)
      pub line : l ≡ before ++ spot u ∷ behind
      pub clear : All (Clear W.Halts W.Above u) before
      pub along : Along m before

    pub went : (u : S) (m e : Search) (a d : ℕ) {l k : List (Timed S)} → Walk T W u m e a d l k → Went u m (untimed l)
    went u m e a d (Walk.here {l = l} xs acts i) = record { before = []; behind = untimed l; line = refl; clear = tt; along = along_none m }
    went u m e a d (Walk.past {x = x} g w) =
        let h = went u m e _ d w in
        record {
          before = x ∷ h.before;
          behind = h.behind;
          line = ap (λ (l : List (Item S)). x ∷ l) h.line;
          clear = (g.1, h.clear);
          along = along_past m x h.before g.0 h.along;
        }
    went u m e a d (Walk.finds {b = b} {q = q} {v = v} w) =
        let h = went u (found b q v) e _ d w in
        record {
          before = value q v ∷ h.before;
          behind = h.behind;
          line = ap (λ (l : List (Item S)). value q v ∷ l) h.line;
          clear = (tt, h.clear);
          along = inr (refl, h.along);
        }
