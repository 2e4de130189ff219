-- THE TIME OF THE FIRST TASK'S STEP: nobody unfinished stands before it, so its search goes along the whole front. It notes the finishes
-- that count, the give-ups it waits for and the push of the value it finds. The step is done its ticks after the latest of these and of
-- the task's own last step.
use Rattle.std.specs.Prelude.{◌≡◌, Bool, true, false, ℕ, ◌+◌, ◌≤◌, eqb}
use Rattle.std.proofs.Math.Path.{refl}
use Rattle.std.proofs.Common.{sym, ◌∙◌, inl, inr}
use Rattle.std.proofs.lemmas.Bool.{false≢true}
use mathlib.Core.List.{List, [], ◌∷◌, ◌++◌}
use native.Mathlib.Omega.{arith}
use borrow.Author.Tests.{eq-eqb, ne_eqb}
use Rattle.spec_words.specs.Words.{pick, pass, halt}
use Rattle.spec_line.specs.Line.{value, spot, finished, gave, Search, free, seeking, found, putting, About}
use Rattle.spec_line.specs.Rights.{Passes, Tasks}
use Rattle.law_job_line.specs.Tasks.{by_test}
use Rattle.law_timed_line.specs.Times.{Timed, at, later, later_bounds, later_least}
use Rattle.law_timed_line.specs.Walks.{given, Waits, Walk}
use Rattle.law_timed_line.proofs.Once.{ends}
use Rattle.law_timed_line.proofs.Back.{given_more}
use Rattle.law_timed_line.proofs.Agreement.{Bare}
use Rattle.law_serial_times.specs.Ended.{ended, Among, Every}

-- the search that a search was at first
abbrev pub first : Search → Search
first free = free
first (seeking b q) = seeking b q
first (found b q v) = seeking b q
first (putting q v) = putting q v

-- so it is about the same queue
pub same_first : (m n : Search) (q : ℕ) → first m ≡ first n → About q m → About q n
same_first m n q e h = rw (← about n, ← e, about m) h
  where
    about : (i : Search) → ◌≡◌ {A = Type 0} (About q (first i)) (About q i)
    about free = refl
    about (seeking b p) = refl
    about (found b p v) = refl
    about (putting p v) = refl

-- what a search becomes at a value of queue p
unfoldable pub entering : Search → ℕ → ℕ → Search
entering free p v = free
entering (seeking b q) p v = pick (eqb q p) (found b q v) (seeking b q)
entering (found b q w) p v = found b q w
entering (putting q w) p v = putting q w

meeting_first : (m : Search) (p v : ℕ) → first (entering m p v) ≡ first m
unfolding entering
meeting_first free p v = refl
meeting_first (seeking b q) p v = by_test (λ m. first m ≡ seeking b q) (eqb q p) _ _ (λ e. refl) refl
meeting_first (found b q w) p v = refl
meeting_first (putting q w) p v = refl

-- a time that x may raise is at most c, where one that y may raise is; what x notes and y does not is no later than c
raised_below : (x y : Bool) (a b t c : ℕ) → a ≤ c → pick y (later b t) b ≤ c → (x ≡ true → y ≡ false → t ≤ c) → pick x (later a t) a ≤ c
unfolding pick
raised_below false y a b t c h k f = h
raised_below true false a b t c h k f = later_least a t c h (f refl refl)
raised_below true true a b t c h k f = later_least a t c h (omega (arith, (later_bounds b t).1))

given_below : (m : Search) (q t a b c : ℕ) → a ≤ c → given m q t b ≤ c → given m q t a ≤ c
given_below free q t a b c h k = h
given_below (seeking x p) q t a b c h k = raised_below (eqb p q) (eqb p q) a b t c h k (λ d e. absurd (false≢true (sym e ∙ d)))
given_below (found x p v) q t a b c h k = h
given_below (putting p v) q t a b c h k = h

module _ {S : Type 0} where
  -- THE LATEST TIME NOTED along a front, where K says which finishes count. A search that still looks in a queue notes a value there as it
  -- notes a give-up there.
  unfoldable pub hear : (Search → S → Bool) → Search → ℕ → List (Timed S) → ℕ
  hear K m a [] = a
  hear K m a (at t (value p v) ∷ l) = hear K (entering m p v) (given m p t a) l
  hear K m a (at t (spot s) ∷ l) = hear K m a l
  hear K m a (at t (finished s) ∷ l) = hear K m (pick (K m s) (later a t) a) l
  hear K m a (at t (gave q) ∷ l) = hear K m (given m q t a) l

  -- it only grows
  hear_more : (K : Search → S → Bool) (m : Search) (a : ℕ) (l : List (Timed S)) → a ≤ hear K m a l
  unfolding hear
  hear_more K m a [] = omega arith
  hear_more K m a (at t (value p v) ∷ l) = omega (arith, hear_more K (entering m p v) (given m p t a) l, given_more m p t a)
  hear_more K m a (at t (spot s) ∷ l) = hear_more K m a l
  hear_more K m a (at t (gave q) ∷ l) = omega (arith, hear_more K m (given m q t a) l, given_more m q t a)
  hear_more K m a (at t (finished s) ∷ l) =
      let h = by_test (λ x. a ≤ x) (K m s) (later a t) a (λ e. (later_bounds a t).0) (omega arith) in
      omega (arith, hear_more K m (pick (K m s) (later a t) a) l, h)

  -- a finish that counts whatever the search has found so far is noted
  pub hear_has : (K : Search → S → Bool) (i m : Search) (a : ℕ) (l : List (Timed S)) (z : ℕ) (w : S) → first m ≡ i → Among (ended l) z w
      → ((n : Search) → first n ≡ i → K n w ≡ true) → z ≤ hear K m a l
  unfolding hear ended
  hear_has K i m a [] z w e h k = absurd h
  hear_has K i m a (at t (value p v) ∷ l) z w e h k = hear_has K i (entering m p v) (given m p t a) l z w (meeting_first m p v ∙ e) h k
  hear_has K i m a (at t (spot s) ∷ l) z w e h k = hear_has K i m a l z w e h k
  hear_has K i m a (at t (gave q) ∷ l) z w e h k = hear_has K i m (given m q t a) l z w e h k
  hear_has K i m a (at t (finished s) ∷ l) z w e (inl h) k =
      let y : pick (K m s) (later a t) a ≡ later a t = halt _ _ (rw h.1 (k m e)) in
      omega (arith, hear_more K m (pick (K m s) (later a t) a) l, y, (later_bounds a t).1, h.0)
  hear_has K i m a (at t (finished s) ∷ l) z w e (inr h) k = hear_has K i m (pick (K m s) (later a t) a) l z w e h k

  -- TWO WAYS OF COUNTING: what K counts and L does not is no later than c, nor is what L notes; so nor is what K notes
  abbrev pub Fine : (Search → S → Bool) → (Search → S → Bool) → Search → ℕ → ℕ → S → Type 0
  Fine K L i c y s = (n : Search) → first n ≡ i → K n s ≡ true → L n s ≡ false → y ≤ c

  pub hear_below : (K L : Search → S → Bool) (i m : Search) (a b : ℕ) (l : List (Timed S)) (c : ℕ) → first m ≡ i → a ≤ c → hear L m b l ≤ c
      → Every (ended l) (Fine K L i c) → hear K m a l ≤ c
  unfolding hear ended
  hear_below K L i m a b [] c e h k f = h
  hear_below K L i m a b (at t (value p v) ∷ l) c e h k f =
      hear_below K L i (entering m p v) (given m p t a) (given m p t b) l c (meeting_first m p v ∙ e)
      (given_below m p t a b c h (omega (arith, hear_more L (entering m p v) (given m p t b) l, k))) k f
  hear_below K L i m a b (at t (spot s) ∷ l) c e h k f = hear_below K L i m a b l c e h k f
  hear_below K L i m a b (at t (gave q) ∷ l) c e h k f =
      hear_below K L i m (given m q t a) (given m q t b) l c e (given_below m q t a b c h (omega (arith, hear_more L m (given m q t b) l, k))) k f
  hear_below K L i m a b (at t (finished s) ∷ l) c e h k f =
      hear_below K L i m (pick (K m s) (later a t) a) (pick (L m s) (later b t) b) l c e
      (raised_below (K m s) (L m s) a b t c h (omega (arith, hear_more L m (pick (L m s) (later b t) b) l, k)) (f t s (inl (refl, refl)) m e)) k
      (λ y w o. f y w (inr o))

-- ALONG THE FRONT
module _ {S : Type 0} (T : Tasks S) (W : Waits T) where
  abbrev pub counting : S → Search → S → Bool
  counting u m s = W.counts m u s

  -- a value that the search goes past changes nothing
  meets_past : (m : Search) (p v a t : ℕ) → Passes T.Pushes T.Pops m (value p v) → (entering m p v ≡ m) × (given m p t a ≡ a)
  unfolding entering
  meets_past free p v a t h = (refl, refl)
  meets_past (seeking b q) p v a t h = let n = ne_eqb q p (λ e. h (sym e)) in (pass _ n refl, pass _ n refl)
  meets_past (found b q w) p v a t h = (refl, refl)
  meets_past (putting q w) p v a t h = (refl, refl)

  meets_found : (b : Bool) (q v a t : ℕ) → (entering (seeking b q) q v ≡ found b q v) × (given (seeking b q) q t a ≡ later a t)
  unfolding entering
  meets_found b q v a t = (halt _ _ (eq-eqb q q refl), halt _ _ (eq-eqb q q refl))

  -- THE TIME OF A STEP before which nobody unfinished stands
  pub time_is : (u : S) (m e : Search) (a d : ℕ) (f : List (Timed S)) (t : ℕ) (r : List (Timed S)) {k : List (Timed S)} → Bare f
      → Walk T W u m e a d (f ++ at t (spot u) ∷ r) k → d ≡ later (hear (counting u) m a f) t + W.ticks u
  unfolding hear
  time_is u m e a d [] t r b w = (ends T W u u m e a t d refl w).time
  time_is u m e a d (at x (value p v) ∷ f) t r b (Walk.past g w) =
      let h = meets_past m p v a x g.0 in
      rw (h.0, h.1) (time_is u m e a d f t r b.1 w)
  time_is u m e a d (at x (value p v) ∷ f) t r b (Walk.finds {b = c} w) =
      let h = meets_found c p v a x in
      rw (h.0, h.1) (time_is u (found c p v) e (later a x) d f t r b.1 w)
  time_is u m e a d (at x (spot s) ∷ f) t r b w = absurd b.0
  time_is u m e a d (at x (finished s) ∷ f) t r b (Walk.past g w) = time_is u m e (pick (W.counts m u s) (later a x) a) d f t r b.1 w
  time_is u m e a d (at x (gave q) ∷ f) t r b (Walk.past g w) = time_is u m e (given m q x a) d f t r b.1 w
