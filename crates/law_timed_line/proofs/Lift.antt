-- MOVES WHATEVER THE TIMES: a move on a timed line that leads to given items, built item by item. Proofs about the items of a line
-- make moves so, without saying their times.
use Rattle.std.specs.Prelude.{◌≡◌, refl, Bool, true, false, List, [], ◌∷◌, ◌++◌, ℕ, ◌+◌}
use Rattle.std.proofs.Common.{ap, ◌∙◌}
use Rattle.spec_line.specs.Line.{Item, value, spot, Search, seeking, found, Acts, leave}
use Rattle.spec_line.specs.Rights.{Tasks}
use Rattle.law_timed_line.specs.Times.{Timed, at, later, stamp, untimed, leave_at}
use Rattle.law_timed_line.specs.Walks.{Waits, Goes, heard, Walk}

module _ {S : Type 0} where
  pub untimed_put : (d : ℕ) (xs : List (Item S)) (l : List (Timed S)) → untimed (stamp d xs ++ l) ≡ xs ++ untimed l
  untimed_put d [] l = refl
  untimed_put d (x ∷ xs) l = ap (λ (m : List (Item S)). x ∷ m) (untimed_put d xs l)

  untimed_leave : (b : Bool) (t : ℕ) (x : Item S) (l : List (Timed S)) → untimed (leave_at b (at t x) l) ≡ leave b x (untimed l)
  untimed_leave true t x l = refl
  untimed_leave false t x l = refl

module _ {S : Type 0} (T : Tasks S) (W : Waits T) where
  -- a move of u on the timed line l that leads to the line k
  pub record Lifted (u : S) (m e : Search) (a : ℕ) (l : List (Timed S)) (k : List (Item S)) : Type 0 where
    pub done : ℕ
    pub line : List (Timed S)
    pub walk : Walk T W u m e a done l line
    pub same : untimed line ≡ k

  pub lift_past : (u : S) (m e : Search) (a t : ℕ) (x : Item S) (l : List (Timed S)) (k : List (Item S)) → Goes T W m u x
      → Lifted u m e (heard T W m u x t a) l k → Lifted u m e a (at t x ∷ l) (x ∷ k)
  lift_past u m e a t x l k g h =
      record { done = h.done; line = at t x ∷ h.line; walk = Walk.past g h.walk; same = ap (λ (i : List (Item S)). x ∷ i) h.same }

  pub lift_finds : (u : S) (e : Search) (a t : ℕ) (b : Bool) (q v : ℕ) (l : List (Timed S)) (k : List (Item S)) → Lifted u (found b q v) e (later a t) l k
      → Lifted u (seeking b q) e a (at t (value q v) ∷ l) (leave b (value q v) k)
  lift_finds u e a t b q v l k h =
      record {
        done = h.done;
        line = leave_at b (at t (value q v)) h.line;
        walk = Walk.finds h.walk;
        same = untimed_leave b t (value q v) h.line ∙ ap (leave b (value q v)) h.same;
      }

  pub lift_here : (u : S) (m : Search) (a t : ℕ) (xs : List (Item S)) (l : List (Timed S)) (k : List (Item S)) → Acts m (T.next u) xs → untimed l ≡ k
      → Lifted u m m a (at t (spot u) ∷ l) (xs ++ k)
  lift_here u m a t xs l k d e =
      let c = later a t + W.ticks u in
      record {
        done = c;
        line = stamp c xs ++ l;
        walk = Walk.here xs d refl;
        same = untimed_put c xs l ∙ ap (λ (i : List (Item S)). xs ++ i) e;
      }
