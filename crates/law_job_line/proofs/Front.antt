-- THE FIRST TASK'S MOVE: no unfinished task stands before it, so it finds the first value of its queue that stands before it, as the
-- plain machine does.
use Rattle.std.specs.Prelude.{◌≡◌, Bool, ℕ, eqb}
use Rattle.std.proofs.Math.Path.{refl, ap, sym, subst}
use Rattle.std.proofs.Common.{subst₂, eq-eqb, ne_eqb}
use Rattle.std.proofs.Math.Logic.{⊎_elim}
use Rattle.std.proofs.Math.Bool.{true, false}
use Rattle.std.proofs.Math.Option.{Option, none, some}
use mathlib.Core.List.{List, [], ◌∷◌, ◌++◌}
use Rattle.spec_words.specs.Words.{pick, halt, pass}
use Rattle.spec_lists.specs.Counting.{equal?}
use Rattle.spec_lists.specs.Maps.{All}
use Rattle.spec_plain.specs.Machine.{front}
use Rattle.spec_line.specs.Line.{Item, value, spot, finished, gave, looks, Search, seeking, found, NoSpot, leave}
pub use Rattle.spec_line.specs.Line.{found_by}
use Rattle.spec_line.specs.Rights.{Tasks}
use Rattle.law_timed_line.specs.Times.{Timed, at, untimed}
use Rattle.law_timed_line.specs.Walks.{Waits, Goes, heard}
use Rattle.law_timed_line.proofs.Lift.{Lifted, lift_past, lift_finds, lift_here}
use Rattle.law_timed_line.proofs.Parts.{parted}
use Rattle.law_timed_line.proofs.First.{lead_settled}

module _ {S : Type 0} where
  -- the values of queue q, in order
  unfoldable pub values_of : ℕ → List (Item S) → List ℕ
  values_of q [] = []
  values_of q (value p v ∷ l) = let rest = values_of q l in pick (eqb p q) (v ∷ rest) rest
  values_of q (spot s ∷ l) = values_of q l
  values_of q (finished s ∷ l) = values_of q l
  values_of q (gave p ∷ l) = values_of q l

  -- the same without the first value of queue q
  unfoldable pub without : ℕ → List (Item S) → List (Item S)
  without q [] = []
  without q (value p v ∷ l) = let rest = without q l in pick (eqb p q) l (value p v ∷ rest)
  without q (spot s ∷ l) = spot s ∷ without q l
  without q (finished s ∷ l) = finished s ∷ without q l
  without q (gave p ∷ l) = gave p ∷ without q l

  abbrev pub remaining : Bool → ℕ → List (Item S) → List (Item S)
  remaining true q l = l
  remaining false q l = without q l

  remaining_past : (b : Bool) (q : ℕ) (x : Item S) (l : List (Item S)) → without q (x ∷ l) ≡ x ∷ without q l
      → remaining b q (x ∷ l) ≡ x ∷ remaining b q l
  remaining_past true q x l e = refl
  remaining_past false q x l e = e

  remaining_here : (b : Bool) (q v : ℕ) (l k : List (Item S)) → leave b (value q v) (l ++ k) ≡ remaining b q (value q v ∷ l) ++ k
  unfolding without
  remaining_here true q v l k = refl
  remaining_here false q v l k = ap (λ (x : List (Item S)). x ++ k) (sym (halt _ _ (eq-eqb q q refl)))

  front_here : (q v : ℕ) (l : List (Item S)) → front (values_of q (value q v ∷ l)) ≡ some v
  unfolding values_of front
  front_here q v l = ap front (halt (v ∷ values_of q l) (values_of q l) (eq-eqb q q refl))

  module _ (T : Tasks S) (W : Waits T) (u : S) (b : Bool) (q : ℕ) (f : Option ℕ → List (Item S)) (does : T.next u ≡ looks b q f) where
    -- the search finds the front of the values vs that stand before u
    pub record Looked (l : List (Timed S)) (vs rest : List (Item S)) (a : ℕ) : Type 0 where
      pub end : Search
      pub finds : found_by end ≡ front (values_of q vs)
      pub lead : Lifted T W u (seeking b q) end a l (remaining b q vs ++ (f (front (values_of q vs)) ++ rest))

    module _ (t : ℕ) (r : List (Timed S)) where
      abbrev Finds : List (Timed S) → ℕ → Type 0
      Finds vs a = Looked (vs ++ at t (spot u) ∷ r) (untimed vs) (untimed r) a

      -- past an item that is no value of the queue
      finds_past : (c : ℕ) (x : Item S) (vs : List (Timed S)) (a : ℕ) → Goes T W (seeking b q) u x → without q (x ∷ untimed vs) ≡ x ∷ without q (untimed vs)
          → values_of q (x ∷ untimed vs) ≡ values_of q (untimed vs) → Finds vs (heard T W (seeking b q) u x c a) → Finds (at c x ∷ vs) a
      finds_past c x vs a g e d w =
          record {
            end = w.end;
            finds = rw d w.finds;
            lead = rw (remaining_past b q x (untimed vs) e, d) (lift_past T W u (seeking b q) w.end a c x _ _ g w.lead);
          }

      lead_front : (vs : List (Timed S)) → All NoSpot (untimed vs) → (a : ℕ) → Finds vs a
      lead_front [] h a =
          record {
            end = seeking b q;
            finds = unfold values_of front in refl;
            lead = subst (λ (k : List (Item S)). Lifted T W u (seeking b q) (seeking b q) a (at t (spot u) ∷ r) k) (nothing b)
                (lift_here T W u (seeking b q) a t (f none) r (untimed r) (rw does (refl, refl, refl)) refl);
          }
        where
          nothing : (c : Bool) → f none ++ untimed r ≡ remaining c q [] ++ (f (front (values_of q [])) ++ untimed r)
          nothing true = unfold values_of front in refl
          nothing false = unfold values_of front without in refl
      lead_front (at c (value p v) ∷ vs) h a = ⊎_elim is (other (lead_front vs h.1 a)) (equal? p q)
        where
          is : p ≡ q → Finds (at c (value p v) ∷ vs) a
          is i =
              rw i (record {
                end = found b q v;
                finds = sym (front_here q v (untimed vs));
                lead = rw (front_here q v (untimed vs), ← remaining_here b q v (untimed vs) (f (some v) ++ untimed r))
                    (lift_finds T W u (found b q v) a c b q v _ _
                    (lead_settled T W u (found b q v) t (f (some v)) r tt (rw does (refl, refl, refl)) vs h.1 _));
              })

          other : Finds vs a → (p ≡ q → ⊥) → Finds (at c (value p v) ∷ vs) a
          other w n =
              finds_past c (value p v) vs a (n, tt) (unfold without in pass _ (ne_eqb p q n) refl) (unfold values_of in pass _ (ne_eqb p q n) refl) w
      lead_front (at c (spot s) ∷ vs) h a = absurd h.0
      lead_front (at c (finished s) ∷ vs) h a =
          finds_past c (finished s) vs a (tt, tt) (unfold without in refl) (unfold values_of in refl) (lead_front vs h.1 _)
      lead_front (at c (gave p) ∷ vs) h a =
          finds_past c (gave p) vs a (tt, tt) (unfold without in refl) (unfold values_of in refl) (lead_front vs h.1 _)

    -- the same on a line by its items
    pub looked : (l : List (Timed S)) (vs rest : List (Item S)) → untimed l ≡ vs ++ spot u ∷ rest → All NoSpot vs → (a : ℕ) → Looked l vs rest a
    looked l vs rest e h a =
        let p = parted l vs (spot u) rest e in
        subst (λ (k : List (Timed S)). Looked k vs rest a) (sym p.line)
        (subst₂ (λ (x y : List (Item S)). Looked (p.before ++ at p.time (spot u) ∷ p.behind) x y a) p.front p.rest
        (lead_front p.time p.behind p.before (subst (All NoSpot) (sym p.front) h) a))
