-- WHAT THE FIRST TASK'S STEP LEAVES, item for item: nobody unfinished stands before it, so it finds the first value of its queue, and takes
-- that one away or leaves it.
use Rattle.std.specs.Prelude.{◌≡◌, Bool, ℕ, eqb}
use Rattle.std.proofs.Math.Path.{refl, ap, sym}
use Rattle.std.proofs.Common.{◌∙◌, subst₂, eq-eqb, ne_eqb}
use Rattle.std.proofs.Math.Bool.{true, false}
use mathlib.Core.List.{List, [], ◌∷◌, ◌++◌}
use Rattle.std.proofs.Math.Option.{Option, none, some}
use Rattle.spec_words.specs.Words.{pick, halt, pass}
use Rattle.spec_line.specs.Line.{Item, value, spot, finished, gave, Search, free, seeking, found, putting, Acts, found_by}
use Rattle.spec_line.specs.Rights.{Passes, Tasks}
use Rattle.law_timed_line.specs.Times.{picked, Timed, at, later, stamp, leave_at}
use Rattle.law_timed_line.specs.Walks.{given, Waits, Walk}
use Rattle.law_timed_line.proofs.Once.{ends}
use Rattle.law_timed_line.proofs.Agreement.{Bare}
use Rattle.law_serial_times.specs.Ended.{Over, over, ended}

module _ {S : Type 0} where
  -- the first value of queue q
  unfoldable pub first_value : ℕ → List (Timed S) → Option ℕ
  first_value q [] = none
  first_value q (at t (value p v) ∷ f) = let rest = first_value q f in pick (eqb p q) (some v) rest
  first_value q (at t (spot s) ∷ f) = first_value q f
  first_value q (at t (finished s) ∷ f) = first_value q f
  first_value q (at t (gave p) ∷ f) = first_value q f

  -- the line without it
  unfoldable pub value_taken : ℕ → List (Timed S) → List (Timed S)
  value_taken q [] = []
  value_taken q (at t (value p v) ∷ f) = let rest = value_taken q f in pick (eqb p q) f (at t (value p v) ∷ rest)
  value_taken q (at t (spot s) ∷ f) = at t (spot s) ∷ value_taken q f
  value_taken q (at t (finished s) ∷ f) = at t (finished s) ∷ value_taken q f
  value_taken q (at t (gave p) ∷ f) = at t (gave p) ∷ value_taken q f

  -- what a search finds along a front, and what it leaves of it
  unfoldable pub finding : Search → List (Timed S) → Option ℕ
  finding free f = none
  finding (seeking b q) f = first_value q f
  finding (found b q v) f = some v
  finding (putting q v) f = none

  unfoldable pub leaving : Search → List (Timed S) → List (Timed S)
  leaving free f = f
  leaving (seeking true q) f = f
  leaving (seeking false q) f = value_taken q f
  leaving (found b q v) f = f
  leaving (putting q v) f = f

  -- past an item that is no value of its queue
  abbrev Skips : Search → Timed S → Type 0
  Skips m x = (f : List (Timed S)) → (finding m (x ∷ f) ≡ finding m f) × (leaving m (x ∷ f) ≡ x ∷ leaving m f)

module _ {S : Type 0} (T : Tasks S) (W : Waits T) where
  skips_finished : (m : Search) (t : ℕ) (s : S) → Skips {S = S} m (at t (finished s))
  unfolding finding leaving first_value value_taken
  skips_finished free t s f = (refl, refl)
  skips_finished (seeking true q) t s f = (refl, refl)
  skips_finished (seeking false q) t s f = (refl, refl)
  skips_finished (found b q v) t s f = (refl, refl)
  skips_finished (putting q v) t s f = (refl, refl)

  skips_gave : (m : Search) (t p : ℕ) → Skips {S = S} m (at t (gave p))
  unfolding finding leaving first_value value_taken
  skips_gave free t s f = (refl, refl)
  skips_gave (seeking true q) t s f = (refl, refl)
  skips_gave (seeking false q) t s f = (refl, refl)
  skips_gave (found b q v) t s f = (refl, refl)
  skips_gave (putting q v) t s f = (refl, refl)

  skips_value : (m : Search) (t p v : ℕ) → Passes T.Pushes T.Pops m (value p v) → Skips {S = S} m (at t (value p v))
  unfolding finding leaving first_value value_taken
  skips_value free t p v h f = (refl, refl)
  skips_value (seeking true q) t p v h f = (pass _ (ne_eqb p q h) refl, refl)
  skips_value (seeking false q) t p v h f = (pass _ (ne_eqb p q h) refl, pass _ (ne_eqb p q h) refl)
  skips_value (found b q w) t p v h f = (refl, refl)
  skips_value (putting q w) t p v h f = (refl, refl)

  pub record Leaves (u : S) (m e : Search) (d : ℕ) (f r k : List (Timed S)) : Type 0 where
    pub puts : List (Item S)
    pub acts : Acts e (T.next u) puts
    pub found : found_by e ≡ finding m f
    pub line : k ≡ leaving m f ++ (stamp d puts ++ r)

  past_item : (u : S) (m e : Search) (d : ℕ) (x : Timed S) (f r k : List (Timed S)) → Skips m x → Leaves u m e d f r k → Leaves u m e d (x ∷ f) r (x ∷ k)
  past_item u m e d x f r k s h =
      record {
        puts = h.puts;
        acts = h.acts;
        found = h.found ∙ sym (s f).0;
        line = ap (λ (l : List (Timed S)). x ∷ l) h.line ∙ ap (λ (l : List (Timed S)). l ++ (stamp d h.puts ++ r)) (sym (s f).1);
      }

  finds_item : (u : S) (b : Bool) (q v t : ℕ) (e : Search) (d : ℕ) (f r k : List (Timed S)) → Leaves u (found b q v) e d f r k
      → Leaves u (seeking b q) e d (at t (value q v) ∷ f) r (leave_at b (at t (value q v)) k)
  unfolding finding leaving first_value value_taken
  finds_item u true q v t e d f r k h =
      record {
        puts = h.puts;
        acts = h.acts;
        found = h.found ∙ sym (halt _ _ (eq-eqb q q refl));
        line = ap (λ (l : List (Timed S)). at t (value q v) ∷ l) h.line;
      }
  finds_item u false q v t e d f r k h =
      record {
        puts = h.puts;
        acts = h.acts;
        found = h.found ∙ sym (halt _ _ (eq-eqb q q refl));
        line = h.line ∙ ap (λ (l : List (Timed S)). l ++ (stamp d h.puts ++ r)) (sym (halt _ _ (eq-eqb q q refl)));
      }

  -- the search comes to the task with nothing found
  ends_here : (u : S) (m : Search) (d t : ℕ) (r : List (Timed S)) (xs : List (Item S)) → Acts m (T.next u) xs → Leaves u m m d [] r (stamp d xs ++ r)
  unfolding finding leaving first_value value_taken
  ends_here u free d t r xs acts = record { puts = xs; acts = acts; found = refl; line = refl }
  ends_here u (seeking true q) d t r xs acts = record { puts = xs; acts = acts; found = refl; line = refl }
  ends_here u (seeking false q) d t r xs acts = record { puts = xs; acts = acts; found = refl; line = refl }
  ends_here u (found b q v) d t r xs acts = record { puts = xs; acts = acts; found = refl; line = refl }
  ends_here u (putting q v) d t r xs acts = record { puts = xs; acts = acts; found = refl; line = refl }

  pub leaves : (u : S) (m e : Search) (a d : ℕ) (f : List (Timed S)) (t : ℕ) (r : List (Timed S)) {k : List (Timed S)} → Bare f
      → Walk T W u m e a d (f ++ at t (spot u) ∷ r) k → Leaves u m e d f r k
  leaves u m e a d [] t r b w =
      let z = ends T W u u m e a t d refl w in
      subst₂ (λ (i : Search) (l : List (Timed S)). Leaves u m i d [] r l) z.found (sym z.line) (ends_here u m d t r z.puts z.acts)
  leaves u m e a d (at x (value p v) ∷ f) t r b (Walk.past g w) =
      past_item u m e d (at x (value p v)) f r _ (skips_value m x p v g.0) (leaves u m e a d f t r b.1 w)
  leaves u m e a d (at x (value p v) ∷ f) t r b (Walk.finds {b = c} w) = finds_item u c p v x e d f r _ (leaves u (found c p v) e (later a x) d f t r b.1 w)
  leaves u m e a d (at x (spot s) ∷ f) t r b w = absurd b.0
  leaves u m e a d (at x (gave q) ∷ f) t r b (Walk.past g w) =
      past_item u m e d (at x (gave q)) f r _ (skips_gave m x q) (leaves u m e (given m q x a) d f t r b.1 w)
  leaves u m e a d (at x (finished s) ∷ f) t r b (Walk.past g w) =
      past_item u m e d (at x (finished s)) f r _ (skips_finished m x s) (leaves u m e (pick (W.counts m u s) (later a x) a) d f t r b.1 w)

-- TAKING A VALUE leaves the finished tasks, and no task is unfinished there
module _ {S : Type 0} (q : ℕ) where
  pub ended_taken : (f : List (Timed S)) → ended (value_taken q f) ≡ ended f
  unfolding ended value_taken
  ended_taken [] = refl
  ended_taken (at t (value p v) ∷ f) = go (eqb p q) (ended_taken f)
    where
      go : (b : Bool) → ended (value_taken q f) ≡ ended f → ended (pick b f (at t (value p v) ∷ value_taken q f)) ≡ ended f
      go true e = unfold pick in refl
      go false e = unfold pick in e
  ended_taken (at t (spot s) ∷ f) = ended_taken f
  ended_taken (at t (finished s) ∷ f) = ap (λ (l : List (Over S)). over t s ∷ l) (ended_taken f)
  ended_taken (at t (gave p) ∷ f) = ended_taken f

  pub bare_taken : (f : List (Timed S)) → Bare f → Bare (value_taken q f)
  unfolding value_taken
  bare_taken [] b = tt
  bare_taken (at t (value p v) ∷ f) b = picked Bare (eqb p q) b.1 (tt, bare_taken f b.1)
  bare_taken (at t (spot s) ∷ f) b = absurd b.0
  bare_taken (at t (finished s) ∷ f) b = (tt, bare_taken f b.1)
  bare_taken (at t (gave p) ∷ f) b = (tt, bare_taken f b.1)
