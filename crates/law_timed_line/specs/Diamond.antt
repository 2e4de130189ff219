-- THE DIAMOND: the moves of any two tasks may be made in either order, each with the same answer and the same time, and lead to the
-- same timed line. So a task that can move still can, with the same answer, after any other task's move.
use Rattle.std.specs.Prelude.{◌≡◌, refl, Bool, true, false, List, [], ◌∷◌, ◌++◌, ℕ}
use Rattle.std.proofs.Common.{sym, subst, ne_eqb}
use Rattle.spec_words.specs.Words.{pass}
use Rattle.spec_lists.specs.Maps.{All}
use Rattle.spec_line.specs.Line.{Item, value, spot, finished, gave, Search, free, seeking, found, putting, Apart, Acts}
use Rattle.spec_line.specs.Rights.{looks_alone, Tasks, Passing}
use Rattle.spec_line.proofs.Rights.{put_passes}
use Rattle.law_timed_line.specs.Times.{Timed, at, later, stamp, leave_at}
use Rattle.law_timed_line.specs.Walks.{Awaits, given, Clear, Waits, Goes, Still, heard, Walk}

-- a give-up that a search does not wait for leaves what it has noted
given_not : (m : Search) (q t a : ℕ) → ¬ Awaits m q → given m q t a ≡ a
given_not free q t a n = refl
given_not (seeking b p) q t a n = pass _ (ne_eqb p q n) refl
given_not (found b p v) q t a n = refl
given_not (putting p v) q t a n = refl

pub apart_flip : (m n : Search) → Apart m n → Apart n m
apart_flip m n a q i j = a q j i

module _ {S : Type 0} (T : Tasks S) (W : Waits T) where
  -- HOW TWO MOVES ON ONE LINE COME TOGETHER, of u with search m and of w with search n: it is one task; or each can be made after
  -- the other.
  pub data Both (u w : S) (m n e f : Search) (a b c d : ℕ) (l k : List (Timed S)) : Type 0 where
    same : u ≡ w → Both u w m n e f a b c d l k
    either_way : Apart m n → (j : List (Timed S)) → Walk T W w n f b d l j → Walk T W u m e a c k j → Both u w m n e f a b c d l k

  -- what a task puts that u goes past: u goes past it too, and notes nothing there
  still_clear : (m : Search) (u : S) (x : Item S) → Still T W m u x → Clear W.Halts W.Above u x
  still_clear m u (value q v) h = tt
  still_clear m u (spot s) h = h
  still_clear m u (finished s) h = tt
  still_clear m u (gave q) h = tt

  pub still_heard : (m : Search) (u : S) (x : Item S) (t a : ℕ) → Still T W m u x → heard T W m u x t a ≡ a
  still_heard m u (value q v) t a h = refl
  still_heard m u (spot s) t a h = refl
  still_heard m u (finished s) t a h = pass _ h refl
  still_heard m u (gave q) t a h = given_not m q t a h

  through : (w : S) (n f : Search) (a d c : ℕ) (xs : List (Item S)) {l k : List (Timed S)} → All (Passing T n) xs → All (Still T W n w) xs
      → Walk T W w n f a d l k → Walk T W w n f a d (stamp c xs ++ l) (stamp c xs ++ k)
  through w n f a d c [] p q v = v
  through w n f a d c (x ∷ xs) {l} {k} p q v =
      Walk.past (p.0, still_clear n w x q.0)
      (subst (λ (b : ℕ). Walk T W w n f b d (stamp c xs ++ l) (stamp c xs ++ k)) (sym (still_heard n w x c a q.0)) (through w n f a d c xs p.1 q.1 v))

  -- the task u at the head of the line has put xs, and w goes past it
  put_through : (u w : S) (m n f : Search) (a d c : ℕ) (xs : List (Item S)) {l k : List (Timed S)} → Acts m (T.next u) xs → Goes T W n w (spot u)
      → Walk T W w n f a d l k → Walk T W w n f a d (stamp c xs ++ l) (stamp c xs ++ k)
  put_through u w m n f a d c xs acts g v = through w n f a d c xs (put_passes T u m n xs acts g.0) (W.quiet u w m n xs acts g) v

  pub alone : (u : S) (m n : Search) (xs : List (Item S)) → Acts m (T.next u) xs → Passing T n (spot u) → Apart m n
  alone u m n xs acts p = looks_alone T.Pushes T.Pops u (T.next u) m n xs (T.within u) acts p

  -- a walk that goes past a value, which is left or taken
  walk_left : (u : S) (m e : Search) (a c t : ℕ) (b : Bool) (q x : ℕ) {l k : List (Timed S)} → Passing T m (value q x) → Walk T W u m e a c l k
      → Walk T W u m e a c (leave_at b (at t (value q x)) l) (leave_at b (at t (value q x)) k)
  walk_left u m e a c t true q x p v = Walk.past (p, tt) v
  walk_left u m e a c t false q x p v = v

  -- from the rest of a line to the line
  longer : {u w : S} {m n m' n' e f : Search} {a b a' b' c d : ℕ} {l k l' k' : List (Timed S)} → Both u w m n e f a b c d l k
      → (Apart m n → (j : List (Timed S)) → Walk T W w n f b d l j → Walk T W u m e a c k j → Both u w m' n' e f a' b' c d l' k')
      → Both u w m' n' e f a' b' c d l' k'
  longer (same i) h = same i
  longer (either_way i j v v') h = h i j v v'

  pub diamond : (u w : S) (m n e f : Search) (a b c d : ℕ) {l l₁ l₂ : List (Timed S)} → Walk T W u m e a c l l₁ → Walk T W w n f b d l l₂
      → Both u w m n e f a b c d l₁ l₂
  diamond u w m n e f a b c d (Walk.here xs acts i) (Walk.here ys acts' i') = same refl
  diamond u w m n e f a b c d (Walk.here xs acts i) (Walk.past {k = k} g v) =
      either_way (alone u m n xs acts g.0) (stamp c xs ++ k) (put_through u w m n f b d c xs acts g v) (Walk.here xs acts i)
  diamond u w m n e f a b c d (Walk.past {k = k} g v) (Walk.here ys acts i) =
      either_way (apart_flip n m (alone w n m ys acts g.0)) (stamp d ys ++ k) (Walk.here ys acts i) (put_through w u n m e a c d ys acts g v)
  diamond u w m n e f a b c d (Walk.past {t = t} {x = x} g v) (Walk.past g' v') =
      longer (diamond u w m n e f (heard T W m u x t a) (heard T W n w x t b) c d v v')
      (λ i j y z. either_way i (at t x ∷ j) (Walk.past g' y) (Walk.past g z))
  -- one goes past a value, and the other finds it
  diamond u w m n e f a b c d (Walk.past {t = t} g v) (Walk.finds {b = h} {q = q} {v = x} v') =
      longer (diamond u w m (found h q x) e f a (later b t) c d v v')
      (λ i j y z. either_way i (leave_at h (at t (value q x)) j) (Walk.finds y) (walk_left u m e a c t h q x g.0 z))
  diamond u w m n e f a b c d (Walk.finds {b = h} {q = q} {v = x} {t = t} v) (Walk.past g v') =
      longer (diamond u w (found h q x) n e f (later a t) b c d v v')
      (λ i j y z. either_way i (leave_at h (at t (value q x)) j) (walk_left w n f b d t h q x g.0 y) (Walk.finds z))
  -- both find it: then it is one task
  diamond u w m n e f a b c d (Walk.finds {b = g} {q = q} {v = x} {t = t} v) (Walk.finds {b = h} v') =
      longer (diamond u w (found g q x) (found h q x) e f (later a t) (later b t) c d v v') (λ i j y z. absurd (i q refl refl))
