-- THE VALUES OF A QUEUE along the front, each with the later of its push and of the finishes of pushers before it. These are the places that
-- the pass keeps.
use Rattle.std.specs.Prelude.{◌≡◌, Bool, ℕ}
use Rattle.std.proofs.Math.Path.{refl, ap, sym}
use Rattle.std.proofs.Common.{◌∙◌, eq-eqb, ne_eqb, eqb-true}
use Rattle.std.proofs.Math.Bool.{true, false}
use mathlib.Core.List.{List, [], ◌∷◌, ◌++◌}
use Rattle.std.proofs.Math.Option.{Option, none, some}
use Rattle.std.proofs.Math.Dec.{eqb}
use Rattle.std.proofs.Math.ListN.{drop}
use Rattle.spec_words.specs.Words.{pick, halt, pass}
use Rattle.spec_line.specs.Line.{value, spot, finished, gave}
use Rattle.spec_line.specs.Later.{later}
use Rattle.law_timed_line.specs.Times.{Timed, at}
use Rattle.law_serial_times.specs.Ended.{ended}
use Rattle.law_serial_times.specs.Leaving.{first_value, value_taken}
use Rattle.law_span_pass.specs.Raised.{raise, latest_by}

pub data Place : Type 0 where
  place : ℕ → ℕ → Place

-- the front place: its value, and its time; where there is none, the time of the pushers
abbrev pub value_in : List Place → Option ℕ
value_in [] = none
value_in (place v t ∷ ps) = some v

abbrev pub time_in : ℕ → List Place → ℕ
time_in a [] = a
time_in a (place v t ∷ ps) = t

module _ {S : Type 0} (pushes : S → ℕ → Bool) (q : ℕ) where
  -- a: the latest finish so far of a task that may push to q
  unfoldable pub places_of : ℕ → List (Timed S) → List Place
  places_of a [] = []
  places_of a (at t (value p v) ∷ f) = let rest = places_of a f in pick (eqb p q) (place v (later a t) ∷ rest) rest
  places_of a (at t (spot s) ∷ f) = places_of a f
  places_of a (at t (finished s) ∷ f) = places_of (raise (pushes s q) t a) f
  places_of a (at t (gave p) ∷ f) = places_of a f

  -- when a look there can be made: the first value's time, or all pushers'
  unfoldable pub front_at : ℕ → List (Timed S) → ℕ
  front_at a [] = a
  front_at a (at t (value p v) ∷ f) = let rest = front_at a f in pick (eqb p q) (later a t) rest
  front_at a (at t (spot s) ∷ f) = front_at a f
  front_at a (at t (finished s) ∷ f) = front_at (raise (pushes s q) t a) f
  front_at a (at t (gave p) ∷ f) = front_at a f

  abbrev pub pushers_by : ℕ → List (Timed S) → ℕ
  pushers_by a f = latest_by (λ s. pushes s q) a (ended f)

  -- THE FRONT PLACE
  pub first_is : (a : ℕ) (f : List (Timed S)) → first_value q f ≡ value_in (places_of a f)
  unfolding first_value places_of
  first_is a [] = refl
  first_is a (at t (value p v) ∷ f) = go (eqb p q) (first_is a f)
    where
      go : (b : Bool) → first_value q f ≡ value_in (places_of a f)
          → pick b (some v) (first_value q f) ≡ value_in (pick b (place v (later a t) ∷ places_of a f) (places_of a f))
      go true e = unfold pick in refl
      go false e = unfold pick in e
  first_is a (at t (spot s) ∷ f) = first_is a f
  first_is a (at t (finished s) ∷ f) = first_is (raise (pushes s q) t a) f
  first_is a (at t (gave p) ∷ f) = first_is a f

  pub front_is : (a : ℕ) (f : List (Timed S)) → front_at a f ≡ time_in (pushers_by a f) (places_of a f)
  unfolding front_at places_of latest_by ended
  front_is a [] = refl
  front_is a (at t (value p v) ∷ f) = go (eqb p q) (front_is a f)
    where
      go : (b : Bool) → front_at a f ≡ time_in (pushers_by a f) (places_of a f)
          → pick b (later a t) (front_at a f) ≡ time_in (pushers_by a f) (pick b (place v (later a t) ∷ places_of a f) (places_of a f))
      go true e = unfold pick in refl
      go false e = unfold pick in e
  front_is a (at t (spot s) ∷ f) = front_is a f
  front_is a (at t (finished s) ∷ f) = front_is (raise (pushes s q) t a) f
  front_is a (at t (gave p) ∷ f) = front_is a f

  -- A PUSH to q at d, and to another queue; a finish
  pub places_push : (a d v : ℕ) (f : List (Timed S)) → places_of a (f ++ at d (value q v) ∷ []) ≡ places_of a f ++ place v (later (pushers_by a f) d) ∷ []
  unfolding places_of latest_by ended
  places_push a d v [] = halt _ _ (eq-eqb q q refl)
  places_push a d v (at t (value p x) ∷ f) = go (eqb p q) (places_push a d v f)
    where
      go : (b : Bool) → places_of a (f ++ at d (value q v) ∷ []) ≡ places_of a f ++ place v (later (pushers_by a f) d) ∷ []
          → pick b (place x (later a t) ∷ places_of a (f ++ at d (value q v) ∷ [])) (places_of a (f ++ at d (value q v) ∷ []))
          ≡ pick b (place x (later a t) ∷ places_of a f) (places_of a f) ++ place v (later (pushers_by a f) d) ∷ []
      go true e = unfold pick in ap (λ (ps : List Place). place x (later a t) ∷ ps) e
      go false e = unfold pick in e
  places_push a d v (at t (spot s) ∷ f) = places_push a d v f
  places_push a d v (at t (finished s) ∷ f) = places_push (raise (pushes s q) t a) d v f
  places_push a d v (at t (gave p) ∷ f) = places_push a d v f

  -- what is no value of q changes no place
  module _ (x : Timed S) (none_there : (a : ℕ) → places_of a (x ∷ []) ≡ []) where
    pub places_other : (a : ℕ) (f : List (Timed S)) → places_of a (f ++ x ∷ []) ≡ places_of a f
    unfolding places_of
    places_other a [] = none_there a
    places_other a (at t (value p v) ∷ f) = ap (λ (ps : List Place). pick (eqb p q) (place v (later a t) ∷ ps) ps) (places_other a f)
    places_other a (at t (spot s) ∷ f) = places_other a f
    places_other a (at t (finished s) ∷ f) = places_other (raise (pushes s q) t a) f
    places_other a (at t (gave p) ∷ f) = places_other a f

  pub other_value : (p v d a : ℕ) → ¬ (p ≡ q) → places_of a (at d (value p v) ∷ []) ≡ []
  unfolding places_of
  other_value p v d a n = pass _ (ne_eqb p q n) refl

  pub a_finish : (s : S) (d a : ℕ) → places_of a (at d (finished s) ∷ []) ≡ []
  unfolding places_of
  a_finish s d a = refl

  -- THE FIRST VALUE of q is taken, or that of another queue
  pub places_taken : (a : ℕ) (f : List (Timed S)) → places_of a (value_taken q f) ≡ drop 1 (places_of a f)
  unfolding places_of value_taken
  places_taken a [] = refl
  places_taken a (at t (value p v) ∷ f) = go (eqb p q) refl (places_taken a f)
    where
      go : (b : Bool) → eqb p q ≡ b → places_of a (value_taken q f) ≡ drop 1 (places_of a f)
          → places_of a (pick b f (at t (value p v) ∷ value_taken q f)) ≡ drop 1 (pick b (place v (later a t) ∷ places_of a f) (places_of a f))
      go true i e = unfold pick in refl
      go false i e = unfold pick places_of in pass _ i e
  places_taken a (at t (spot s) ∷ f) = places_taken a f
  places_taken a (at t (finished s) ∷ f) = places_taken (raise (pushes s q) t a) f
  places_taken a (at t (gave p) ∷ f) = places_taken a f

  pub places_kept : (p a : ℕ) (f : List (Timed S)) → ¬ (p ≡ q) → places_of a (value_taken p f) ≡ places_of a f
  unfolding places_of value_taken
  places_kept p a [] n = refl
  places_kept p a (at t (value r v) ∷ f) n = go (eqb r p) refl (places_kept p a f n)
    where
      go : (b : Bool) → eqb r p ≡ b → places_of a (value_taken p f) ≡ places_of a f
          → places_of a (pick b f (at t (value r v) ∷ value_taken p f)) ≡ pick (eqb r q) (place v (later a t) ∷ places_of a f) (places_of a f)
      go true i e = unfold pick in sym (pass _ (ne_eqb r q (λ z. n (sym (eqb-true r p i) ∙ z))) refl)
      go false i e = unfold pick places_of in ap (λ (ps : List Place). pick (eqb r q) (place v (later a t) ∷ ps) ps) e
  places_kept p a (at t (spot s) ∷ f) n = places_kept p a f n
  places_kept p a (at t (finished s) ∷ f) n = places_kept p (raise (pushes s q) t a) f n
  places_kept p a (at t (gave r) ∷ f) n = places_kept p a f n
