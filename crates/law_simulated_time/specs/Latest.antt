-- THE LATEST TIMES ON A LINE: where no time is later than c, a step is done at most its ticks after c.
use mathlib.Core.List.{List, [], ◌∷◌, ◌++◌}
use Rattle.std.specs.Prelude.{Bool, true, false, ℕ, ◌+◌, ◌≤◌, eqb}
use Rattle.std.proofs.Common.{arith}
use Rattle.spec_line.specs.Line.{Item, value, spot, finished, gave, Search, free, seeking, found, putting}
use Rattle.spec_line.specs.Rights.{Tasks}
use Rattle.law_timed_line.specs.Times.{Timed, at, picked, later, later_least, stamp, leave_at, last_from}
use Rattle.law_timed_line.specs.Walks.{given, Waits, heard, Walk}

module _ {S : Type 0} where
  -- no time on the line is later than c
  abbrev pub By : ℕ → List (Timed S) → Type 0
  By c [] = Unit {0}
  By c (at t x ∷ l) = (t ≤ c) × By c l

  pub by_later : (c d : ℕ) → c ≤ d → (l : List (Timed S)) → By c l → By d l
  by_later c d h [] b = tt
  by_later c d h (at t x ∷ l) b = (omega (arith, h, b.0), by_later c d h l b.1)

  by_put : (c d : ℕ) → d ≤ c → (xs : List (Item S)) (l : List (Timed S)) → By c l → By c (stamp d xs ++ l)
  by_put c d h [] l b = b
  by_put c d h (x ∷ xs) l b = (h, by_put c d h xs l b)

  pub last_by : (c t : ℕ) → t ≤ c → (l : List (Timed S)) → By c l → last_from t l ≤ c
  unfolding last_from
  last_by c t h [] b = h
  last_by c t h (at d x ∷ l) b = last_by c d b.0 l b.1

given_by : (m : Search) (q t a c : ℕ) → t ≤ c → a ≤ c → given m q t a ≤ c
given_by free q t a c h k = k
given_by (seeking b p) q t a c h k = picked (λ x. x ≤ c) (eqb p q) (later_least a t c k h) k
given_by (found b p v) q t a c h k = k
given_by (putting p v) q t a c h k = k

module _ {S : Type 0} (T : Tasks S) (W : Waits T) where
  heard_by : (m : Search) (u : S) (x : Item S) (t a c : ℕ) → t ≤ c → a ≤ c → heard T W m u x t a ≤ c
  heard_by m u (value q v) t a c h k = k
  heard_by m u (spot s) t a c h k = k
  heard_by m u (finished s) t a c h k = picked (λ x. x ≤ c) (W.counts m u s) (later_least a t c k h) k
  heard_by m u (gave q) t a c h k = given_by m q t a c h k

  -- A STEP IS DONE at most its ticks after the latest time
  pub done_by : (u : S) (m e : Search) (a d c : ℕ) {l k : List (Timed S)} → a ≤ c → By c l → Walk T W u m e a d l k → d ≤ c + W.ticks u
  done_by u m e a d c h b (Walk.here {t = t} xs acts i) = omega (arith, later_least a t c h b.0, i)
  done_by u m e a d c h b (Walk.past {t = t} {x = x} g v) = done_by u m e (heard T W m u x t a) d c (heard_by m u x t a c b.0 h) b.1 v
  done_by u m e a d c h b (Walk.finds {b = f} {q = q} {v = y} {t = t} v) = done_by u (found f q y) e (later a t) d c (later_least a t c h b.0) b.1 v

  by_left : (b : Bool) (c t : ℕ) (x : Item S) (k : List (Timed S)) → t ≤ c → By c k → By c (leave_at b (at t x) k)
  by_left true c t x k h i = (h, i)
  by_left false c t x k h i = i

  -- and what it puts has the time when it is done
  pub kept_by : (u : S) (m e : Search) (a d c : ℕ) {l k : List (Timed S)} → d ≤ c → By c l → Walk T W u m e a d l k → By c k
  kept_by u m e a d c h b (Walk.here {l = l} xs acts i) = by_put c d h xs l b.1
  kept_by u m e a d c h b (Walk.past {t = t} {x = x} g v) = (b.0, kept_by u m e (heard T W m u x t a) d c h b.1 v)
  kept_by u m e a d c h b (Walk.finds {b = f} {q = q} {v = y} {t = t} {k = k} v) =
      by_left f c t (value q y) k b.0 (kept_by u (found f q y) e (later a t) d c h b.1 v)
