-- THE FINISHED TASKS OF A LINE and when each finished: which of them a step waits for decides its time.
use Rattle.std.specs.Prelude.{◌≡◌, ◌⊎◌, ℕ}
use Rattle.std.proofs.Math.Path.{refl, ap}
use Rattle.std.proofs.Common.{subst₂, inl, inr}
use mathlib.Core.List.{List, [], ◌∷◌, ◌++◌}
use Rattle.spec_line.specs.Line.{value, spot, finished, gave}
use Rattle.law_timed_line.specs.Times.{Timed, at}

-- a finished task and its time
pub data Over (S : Type 0) : Type 0 where
  over : ℕ → S → Over S

module _ {S : Type 0} where
  unfoldable pub ended : List (Timed S) → List (Over S)
  ended [] = []
  ended (at t (value p v) ∷ l) = ended l
  ended (at t (spot s) ∷ l) = ended l
  ended (at t (finished s) ∷ l) = over t s ∷ ended l
  ended (at t (gave q) ∷ l) = ended l

  pub ended_append : (l k : List (Timed S)) → ended (l ++ k) ≡ ended l ++ ended k
  unfolding ended
  ended_append [] k = refl
  ended_append (at t (value p v) ∷ l) k = ended_append l k
  ended_append (at t (spot s) ∷ l) k = ended_append l k
  ended_append (at t (gave q) ∷ l) k = ended_append l k
  ended_append (at t (finished s) ∷ l) k = ap (λ (x : List (Over S)). over t s ∷ x) (ended_append l k)

  -- the task s, finished at t, is one of them
  abbrev pub Among : List (Over S) → ℕ → S → Type 0
  Among [] t s = ⊥
  Among (over y v ∷ l) t s = ((y ≡ t) × (v ≡ s)) ⊎ Among l t s

  abbrev pub Every : List (Over S) → (ℕ → S → Type 0) → Type 0
  Every l P = (t : ℕ) (s : S) → Among l t s → P t s

  -- one more at the end
  module _ (d : ℕ) (x : S) where
    pub among_more : (l : List (Over S)) (t : ℕ) (s : S) → Among l t s → Among (l ++ over d x ∷ []) t s
    among_more [] t s h = absurd h
    among_more (over y v ∷ l) t s (inl e) = inl e
    among_more (over y v ∷ l) t s (inr h) = inr (among_more l t s h)

    pub among_last : (l : List (Over S)) → Among (l ++ over d x ∷ []) d x
    among_last [] = inl (refl, refl)
    among_last (over y v ∷ l) = inr (among_last l)

    pub every_more : (P : ℕ → S → Type 0) (l : List (Over S)) → Every l P → P d x → Every (l ++ over d x ∷ []) P
    every_more P [] h p t s (inl e) = subst₂ P e.0 e.1 p
    every_more P [] h p t s (inr a) = absurd a
    every_more P (over y v ∷ l) h p t s (inl e) = h t s (inl e)
    every_more P (over y v ∷ l) h p t s (inr a) = every_more P l (λ z w b. h z w (inr b)) p t s a
