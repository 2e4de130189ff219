-- THE FIRST TASK on the line can always move: nobody stands before it. That is progress, while a task is unfinished.
use Rattle.std.specs.Prelude.{◌≡◌, refl, ◌⊎◌, Bool, List, [], ◌∷◌, ◌++◌, ℕ}
use Rattle.std.proofs.Common.{ap, sym, ◌∙◌, subst, subst₂, ⊎_elim}
use Rattle.std.proofs.Math.Option.{Option, none, some}
use Rattle.spec_lists.specs.Counting.{equal?}
use Rattle.spec_lists.specs.Maps.{All}
use Rattle.spec_line.specs.Line.{Item, value, spot, finished, gave, Action, puts, looks, returns, Search, free, seeking, found, putting, NoSpot, Acts}
use Rattle.spec_line.specs.Rights.{NoPop, Tasks}
use Rattle.spec_line.specs.Fronts.{Fronts}
use Rattle.law_timed_line.specs.Times.{Timed, at, untimed}
use Rattle.law_timed_line.specs.Walks.{Clear, Waits, Goes, heard, Walk}
use Rattle.law_timed_line.proofs.Starts.{start_at, start_of, opening, fronts_of}
use Rattle.law_timed_line.proofs.Agreement.{MoveOf}
use Rattle.law_timed_line.proofs.Parts.{parted}
use Rattle.law_timed_line.proofs.Lift.{Lifted, lift_past, lift_finds, lift_here}

-- a search that no longer looks for a value
abbrev pub Settled : Search → Type 0
Settled free = Unit {0}
Settled (seeking b q) = ⊥
Settled (found b q v) = Unit {0}
Settled (putting q v) = Unit {0}

module _ {S : Type 0} (T : Tasks S) (W : Waits T) where
  no_spot : (u : S) (q : ℕ) (x : Item S) → NoSpot x → NoPop T.Pushes T.Pops q x × Clear W.Halts W.Above u x
  no_spot u q (value p v) n = (tt, tt)
  no_spot u q (spot t) n = absurd n
  no_spot u q (finished t) n = (tt, tt)
  no_spot u q (gave p) n = (tt, tt)

  bare_goes : (u : S) (m : Search) (x : Item S) → Settled m → NoSpot x → Goes T W m u x
  bare_goes u free x s n = (tt, (no_spot u 0 x n).1)
  bare_goes u (seeking b p) x s n = absurd s
  bare_goes u (found b p w) x s n = no_spot u p x n
  bare_goes u (putting p w) x s n = no_spot u p x n

  -- past values, finished tasks and give-ups to the first spot
  pub lead_settled : (u : S) (m : Search) (t : ℕ) (xs : List (Item S)) (r : List (Timed S)) → Settled m → Acts m (T.next u) xs
      → (vs : List (Timed S)) → All NoSpot (untimed vs) → (a : ℕ) → Lifted T W u m m a (vs ++ at t (spot u) ∷ r) (untimed vs ++ (xs ++ untimed r))
  lead_settled u m t xs r s acts [] h a = lift_here T W u m a t xs r (untimed r) acts refl
  lead_settled u m t xs r s acts (at c x ∷ vs) h a =
      lift_past T W u m m a c x _ _ (bare_goes u m x s h.0) (lead_settled u m t xs r s acts vs h.1 (heard T W m u x c a))

  -- the same on a line by its items
  pub lead_at : (u : S) (m : Search) (xs : List (Item S)) → Settled m → Acts m (T.next u) xs → (l : List (Timed S)) (vs rest : List (Item S))
      → untimed l ≡ vs ++ spot u ∷ rest → All NoSpot vs → (a : ℕ) → Lifted T W u m m a l (vs ++ (xs ++ rest))
  lead_at u m xs s acts l vs rest e h a =
      let p = parted l vs (spot u) rest e in
      subst (λ (k : List (Timed S)). Lifted T W u m m a k (vs ++ (xs ++ rest))) (sym p.line)
      (subst₂ (λ (f g : List (Item S)). Lifted T W u m m a (p.before ++ at p.time (spot u) ∷ p.behind) (f ++ (xs ++ g))) p.front p.rest
      (lead_settled u m p.time xs p.behind s acts p.before (subst (All NoSpot) (sym p.front) h) a))

  -- a search along the items before the first spot ends, whatever it finds
  record Seen (u : S) (b : Bool) (q a : ℕ) (l : List (Timed S)) : Type 0 where
    end : Search
    items : List (Item S)
    lead : Lifted T W u (seeking b q) end a l items

  -- past an item that is no value of the queue
  seen_past : (u : S) (b : Bool) (q a c : ℕ) (x : Item S) {l : List (Timed S)} → Goes T W (seeking b q) u x
      → Seen u b q (heard T W (seeking b q) u x c a) l → Seen u b q a (at c x ∷ l)
  seen_past u b q a c x g w = record { end = w.end; items = _; lead = lift_past T W u (seeking b q) w.end a c x _ _ g w.lead }

  lead_seeking : (u : S) (b : Bool) (q t : ℕ) (f : Option ℕ → List (Item S)) (r : List (Timed S)) → T.next u ≡ looks b q f
      → (vs : List (Timed S)) → All NoSpot (untimed vs) → (a : ℕ) → Seen u b q a (vs ++ at t (spot u) ∷ r)
  lead_seeking u b q t f r e [] h a =
      record { end = seeking b q; items = _; lead = lift_here T W u (seeking b q) a t (f none) r (untimed r) (rw e (refl, refl, refl)) refl }
  lead_seeking u b q t f r e (at c (value p v) ∷ vs) h a =
      ⊎_elim is (λ n. seen_past u b q a c (value p v) (n, tt) (lead_seeking u b q t f r e vs h.1 a)) (equal? p q)
    where
      is : p ≡ q → Seen u b q a (at c (value p v) ∷ (vs ++ at t (spot u) ∷ r))
      is i =
          rw i (record {
            end = found b q v;
            items = _;
            lead = lift_finds T W u (found b q v) a c b q v _ _
                (lead_settled u (found b q v) t (f (some v)) r tt (rw e (refl, refl, refl)) vs h.1 _);
          })
  lead_seeking u b q t f r e (at c (spot s) ∷ vs) h a = absurd h.0
  lead_seeking u b q t f r e (at c (finished s) ∷ vs) h a = seen_past u b q a c (finished s) (tt, tt) (lead_seeking u b q t f r e vs h.1 _)
  lead_seeking u b q t f r e (at c (gave p) ∷ vs) h a = seen_past u b q a c (gave p) (tt, tt) (lead_seeking u b q t f r e vs h.1 _)

  -- a walk of u from its start is a move
  pub record Can (u : S) (r : Fronts) (l : List (Timed S)) : Type 0 where
    pub end : Search
    pub done : ℕ
    pub line : List (Timed S)
    pub move : MoveOf T W u end done r l (fronts_of T u r) line

  can_move : (u : S) (r : Fronts) {m e : Search} {l : List (Timed S)} {k : List (Item S)} → m ≡ start_at T u r → Lifted T W u m e 0 l k → Can u r l
  can_move u r {e = e} {l = l} d h =
      record {
        end = e;
        done = h.done;
        line = h.line;
        move = record { fronts = refl; walk = subst (λ (m : Search). Walk T W u m e 0 h.done l h.line) d h.walk };
      }

  pub first_moves : (u : S) (i : Action S) → T.next u ≡ i → (r : Fronts) (t : ℕ) (vs l : List (Timed S)) → All NoSpot (untimed vs)
      → Can u r (vs ++ at t (spot u) ∷ l)
  first_moves u (puts xs) e r t vs l h = can_move u r (ap (λ i. start_of i r) (sym e)) (lead_settled u free t xs l tt (rw e refl) vs h 0)
  first_moves u (returns q v xs) e r t vs l h =
      can_move u r (ap (λ i. start_of i r) (sym e)) (lead_settled u (putting q v) t xs l tt (rw e (refl, refl, refl)) vs h 0)
  first_moves u (looks b q f) e r t vs l h = go (r q) refl
    where
      start : (c : List ℕ) → r q ≡ c → opening b q c ≡ start_at T u r
      start c d = ap (opening b q) (sym d) ∙ ap (λ (i : Action S). start_of i r) (sym e)

      go : (c : List ℕ) → r q ≡ c → Can u r (vs ++ at t (spot u) ∷ l)
      go [] d = can_move u r (start [] d) (lead_seeking u b q t f l e vs h 0).lead
      go (v ∷ c) d = can_move u r (start (v ∷ c) d) (lead_settled u (found b q v) t (f (some v)) l tt (rw e (refl, refl, refl)) vs h 0)
