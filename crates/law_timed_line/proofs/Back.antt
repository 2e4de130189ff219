-- WHAT MADE A TASK'S MOVE POSSIBLE: where s has moved and then u can move, u could move before, with the same answer and the same time;
-- or its step is done at least its ticks after that of s. Used by the bound on the simulated time: request 6.
use Rattle.std.specs.Prelude.{◌≡◌, refl, Bool, true, false, List, [], ◌∷◌, ◌++◌, ◌⊎◌, ℕ, ◌+◌, ◌≤◌, eqb}
use Rattle.std.proofs.Common.{ap, sym, ◌∙◌, subst, inl, inr, ⊎_elim, arith, eq-eqb}
use Rattle.spec_words.specs.Words.{halt}
use Rattle.spec_lists.specs.Maps.{All}
use Rattle.spec_line.specs.Line.{Item, value, spot, finished, gave, Search, free, seeking, found, putting, About, Apart, Acts}
use Rattle.spec_line.specs.Fronts.{Fronts}
use Rattle.spec_line.specs.Rights.{Tasks, Passing}
use Rattle.spec_line.proofs.Rights.{put_passes}
use Rattle.law_timed_line.specs.Times.{Timed, at, picked, later, later_bounds, Some, stamp, leave_at}
use Rattle.law_timed_line.specs.Walks.{Awaits, given, Waits, Goes, Still, Stays, heard, Walk}
use Rattle.law_timed_line.proofs.Starts.{start_at, fronts_of, start_kept}
use Rattle.law_timed_line.specs.Diamond.{apart_flip, still_heard, alone}
use Rattle.law_timed_line.proofs.Agreement.{MoveOf}

pub given_more : (m : Search) (q t a : ℕ) → a ≤ given m q t a
given_more free q t a = omega arith
given_more (seeking b p) q t a = picked (λ x. a ≤ x) (eqb p q) (later_bounds a t).0 (omega arith)
given_more (found b p v) q t a = omega arith
given_more (putting p v) q t a = omega arith

given_late : (m : Search) (q t a : ℕ) → Awaits m q → t ≤ given m q t a
given_late free q t a h = absurd h
given_late (seeking b p) q t a h = subst (λ x. t ≤ x) (sym (halt _ _ (eq-eqb p q h))) (later_bounds a t).1
given_late (found b p v) q t a h = absurd h
given_late (putting p v) q t a h = absurd h

module _ {S : Type 0} (T : Tasks S) (W : Waits T) where
  heard_more : (m : Search) (u : S) (x : Item S) (t a : ℕ) → a ≤ heard T W m u x t a
  heard_more m u (value q v) t a = omega arith
  heard_more m u (spot s) t a = omega arith
  heard_more m u (finished s) t a = picked (λ x. a ≤ x) (W.counts m u s) (later_bounds a t).0 (omega arith)
  heard_more m u (gave q) t a = given_more m q t a

  -- u waits for what a task puts that u does not go past
  heard_late : (m : Search) (u : S) (x : Item S) (t a : ℕ) → Goes T W m u x → Stays T W m u x → t ≤ heard T W m u x t a
  heard_late m u (value q v) t a g r = absurd r
  heard_late m u (spot s) t a g r = absurd (r g)
  heard_late m u (finished s) t a g r = subst (λ x. t ≤ x) (sym (halt _ _ r)) (later_bounds a t).1
  heard_late m u (gave q) t a g r = given_late m q t a r

  -- a step is done its ticks after the latest time noted on the way
  pub noted : (u : S) (m e : Search) (a d : ℕ) {l k : List (Timed S)} → Walk T W u m e a d l k → a + W.ticks u ≤ d
  noted u m e a d (Walk.here {t = t} xs acts i) = omega (arith, (later_bounds a t).0, i)
  noted u m e a d (Walk.past {t = t} {x = x} g v) = omega (arith, noted u m e (heard T W m u x t a) d v, heard_more m u x t a)
  noted u m e a d (Walk.finds {b = b} {q = q} {v = x} {t = t} v) = omega (arith, noted u (found b q x) e (later a t) d v, (later_bounds a t).0)

  -- THROUGH WHAT s PUT, where u may go past s: the rest of the line alone says the same
  stripped : (u : S) (m e : Search) (a d c : ℕ) (xs : List (Item S)) {l k : List (Timed S)} → All (Passing T m) xs → All (Still T W m u) xs
      → Walk T W u m e a d (stamp c xs ++ l) k → (j : List (Timed S)) × Walk T W u m e a d l j
  stripped u m e a d c [] {k = k} p q v = (k, v)
  stripped u m e a d c (x ∷ xs) p q (Walk.here ys acts i) = absurd (q.0.0 (W.self u))
  stripped u m e a d c (x ∷ xs) p q (Walk.past g v) = stripped u m e a d c xs p.1 q.1 (rw (still_heard T W m u x c a q.0) at v)
  stripped u m e a d c (x ∷ xs) p q (Walk.finds v) = absurd (p.0 refl)

  -- where u may not go past s, its step is done after that of s
  after_put : (u : S) (m e : Search) (a d c : ℕ) (xs : List (Item S)) (l : List (Timed S)) {k : List (Timed S)} → Some (Stays T W m u) xs
      → Walk T W u m e a d (stamp c xs ++ l) k → c + W.ticks u ≤ d
  after_put u m e a d c [] l r v = absurd r
  after_put u m e a d c (x ∷ xs) l r (Walk.here ys acts i) = omega (arith, (later_bounds a c).1, i)
  after_put u m e a d c (x ∷ xs) l (inl r) (Walk.past g v) = omega (arith, noted u m e (heard T W m u x c a) d v, heard_late m u x c a g r)
  after_put u m e a d c (x ∷ xs) l (inr r) (Walk.past g v) = after_put u m e (heard T W m u x c a) d c xs l r v
  after_put u m e a d c (x ∷ xs) l r (Walk.finds {b = b} {q = q} {v = y} v) =
      omega (arith, noted u (found b q y) e (later a c) d v, (later_bounds a c).1)

  -- BACK: s with search m has moved, done at time c; then u with search n can move, done at time d.
  pub data Back (s u : S) (m n f : Search) (b c d : ℕ) (l : List (Timed S)) : Type 0 where
    behind : c + W.ticks u ≤ d → Back s u m n f b c d l
    before : ¬ (u ≡ s) → Apart m n → (j : List (Timed S)) → Walk T W u n f b d l j → Back s u m n f b c d l

  -- from the rest of a line to the line
  longer : {s u : S} {m n m' n' f : Search} {b b' c d : ℕ} {l l' : List (Timed S)} → Back s u m n f b c d l
      → (¬ (u ≡ s) → Apart m n → (j : List (Timed S)) → Walk T W u n f b d l j → Back s u m' n' f b' c d l') → Back s u m' n' f b' c d l'
  longer (behind h) g = behind h
  longer (before i p j v) g = g i p j v

  -- a search that is not about queue q goes past its values
  passes_value : (n : Search) (q v : ℕ) (b : Bool) (w : ℕ) → Apart (found b q w) n → Passing T n (value q v)
  passes_value free q v b w a = tt
  passes_value (seeking c p) q v b w a = λ e. a q refl e
  passes_value (found c p x) q v b w a = tt
  passes_value (putting p x) q v b w a = tt

  -- the head of the line: s has put xs
  at_head : (s u : S) (m n f : Search) (b c d t : ℕ) (xs : List (Item S)) {l k : List (Timed S)} → Acts m (T.next s) xs
      → Walk T W u n f b d (stamp c xs ++ l) k → Back s u m n f b c d (at t (spot s) ∷ l)
  at_head s u m n f b c d t xs {l} {k} acts v = ⊎_elim goes (λ r. behind (after_put u n f b d c xs l r v)) (W.remains s u m n xs acts)
    where
      goes : Goes T W n u (spot s) → Back s u m n f b c d (at t (spot s) ∷ l)
      goes g =
          let w = stripped u n f b d c xs (put_passes T s m n xs acts g.0) (W.quiet s u m n xs acts g) v in
          before (λ e. g.1.0 (subst (W.Above s) (sym e) (W.self s))) (alone T W s m n xs acts g.0) (at t (spot s) ∷ w.0) (Walk.past g w.1)

  pub back : (s u : S) (m n e f : Search) (a b c d : ℕ) {l k j : List (Timed S)} → Walk T W s m e a c l k → Walk T W u n f b d k j → Back s u m n f b c d l
  back s u m n e f a b c d (Walk.here {t = t} xs acts i) v = at_head s u m n f b c d t xs acts v
  back s u m n e f a b c d (Walk.past {x = x} g w) (Walk.here {l = l} ys acts i) =
      before (λ h. g.1.0 (subst (λ (z : S). W.Above z s) (sym h) (W.self s))) (apart_flip n m (alone T W u n m ys acts g.0)) _ (Walk.here ys acts i)
  back s u m n e f a b c d (Walk.past {t = t} {x = x} g w) (Walk.past g' v) =
      longer (back s u m n e f (heard T W m s x t a) (heard T W n u x t b) c d w v) (λ i p j z. before i p (at t x ∷ j) (Walk.past g' z))
  -- u finds a value that s goes past
  back s u m n e f a b c d (Walk.past {t = t} {x = x} g w) (Walk.finds {b = h} {q = q} {v = y} v) =
      longer (back s u m (found h q y) e f a (later b t) c d w v) (λ i p j z. before i p (leave_at h (at t (value q y)) j) (Walk.finds z))
  back s u m n e f a b c d (Walk.finds {b = true} {q = q} {v = y} {t = t} w) (Walk.past g v) =
      longer (back s u (found true q y) n e f (later a t) b c d w v) (λ i p j z. before i p (at t (value q y) ∷ j) (Walk.past g z))
  -- both have found one value: then s kept u from it
  back s u m n e f a b c d (Walk.finds {b = true} {q = q} {v = y} {t = t} w) (Walk.finds {b = h} v) =
      longer (back s u (found true q y) (found h q y) e f (later a t) (later b t) c d w v) (λ i p j z. absurd (p q refl refl))
  -- s has taken a value
  back s u m n e f a b c d (Walk.finds {b = false} {q = q} {v = y} {t = t} w) v =
      longer (back s u (found false q y) n e f (later a t) b c d w v)
      (λ i p j z. before i p (at t (value q y) ∷ j) (Walk.past (passes_value n q y false y p, tt) z))

  -- THE SAME OF MOVES, with what stands in front of the line
  pub data BackMove (s u : S) (f : Search) (c d : ℕ) (r : Fronts) (l : List (Timed S)) : Type 0 where
    after : c + W.ticks u ≤ d → BackMove s u f c d r l
    earlier : ¬ (u ≡ s) → (x : Fronts) (j : List (Timed S)) → MoveOf T W u f d r l x j → BackMove s u f c d r l

  pub back_move : (s u : S) (e f : Search) (c d : ℕ) {r x y : Fronts} {l k j : List (Timed S)} → MoveOf T W s e c r l x k → MoveOf T W u f d x k y j
      → BackMove s u f c d r l
  back_move s u e f c d {r} {x} {y} {l} {k} {j} p v = go (back s u _ _ e f 0 0 c d p.walk v.walk)
    where
      go : Back s u (start_at T s r) (start_at T u x) f 0 c d l → BackMove s u f c d r l
      go (behind h) = after h
      go (before n a i w) =
          let b : start_at T u x ≡ start_at T u r = ap (λ (z : Fronts). start_at T u z) (sym p.fronts) ∙ start_kept (start_at T s r) (T.next u) r x a in
          earlier n (fronts_of T u r) i (record { fronts = refl; walk = subst (λ (m : Search). Walk T W u m f 0 d l i) b w })

  -- WHO LOOKS IN A QUEUE straight after a task that looked there or put back is done its ticks after it
  pub same_queue : (s u : S) (e f : Search) (c d q : ℕ) {r x y : Fronts} {l k j : List (Timed S)} → MoveOf T W s e c r l x k → MoveOf T W u f d x k y j
      → About q (start_at T s r) → About q (start_at T u x) → c + W.ticks u ≤ d
  same_queue s u e f c d q {r} {x} {l = l} p v g h = go (back s u _ _ e f 0 0 c d p.walk v.walk)
    where
      go : Back s u (start_at T s r) (start_at T u x) f 0 c d l → c + W.ticks u ≤ d
      go (behind i) = i
      go (before n a i w) = absurd (a q g h)
