-- A TIMED LINE AT AN ITEM: where the items of a line split at x, the timed line splits there too. Proofs that know only the items of
-- a line need this.
use Rattle.std.specs.Prelude.{◌≡◌, refl, ℕ}
use Rattle.std.proofs.Common.{ap, ◌∙◌}
use mathlib.Core.List.{List, [], ◌∷◌, ◌++◌, nil≢cons, head-eq_of_cons-eq, tail-eq_of_cons-eq}
use Rattle.spec_line.specs.Line.{Item}
use Rattle.law_timed_line.specs.Times.{Timed, at, untimed}

pub record Parted {S : Type 0} (l : List (Timed S)) (f : List (Item S)) (x : Item S) (r : List (Item S)) : Type 0 where
  pub before : List (Timed S)
  pub time : ℕ
  pub behind : List (Timed S)
  pub line : l ≡ before ++ at time x ∷ behind
  pub front : untimed before ≡ f
  pub rest : untimed behind ≡ r

module _ {S : Type 0} where
  pub parted : (l : List (Timed S)) (f : List (Item S)) (x : Item S) (r : List (Item S)) → untimed l ≡ f ++ x ∷ r → Parted l f x r
  parted [] [] x r e = absurd (nil≢cons e)
  parted [] (y ∷ f) x r e = absurd (nil≢cons e)
  parted (at t y ∷ l) [] x r e =
      record {
        before = [];
        time = t;
        behind = l;
        line = ap (λ (z : Item S). at t z ∷ l) (head-eq_of_cons-eq e);
        front = refl;
        rest = tail-eq_of_cons-eq e;
      }
  parted (at t y ∷ l) (z ∷ f) x r e =
      let p = parted l f x r (tail-eq_of_cons-eq e) in
      record {
        before = at t y ∷ p.before;
        time = p.time;
        behind = p.behind;
        line = ap (λ (k : List (Timed S)). at t y ∷ k) p.line;
        front = ap (λ (k : List (Item S)). y ∷ k) p.front ∙ ap (λ (w : Item S). w ∷ f) (head-eq_of_cons-eq e);
        rest = p.rest;
      }
