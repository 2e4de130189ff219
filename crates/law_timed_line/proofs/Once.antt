-- A TASK HAS ONE MOVE: on one line its search finds the same, and the step is done at the same time and leaves the same line.
-- So a run is settled by the order in which its tasks move.
use Rattle.std.specs.Prelude.{◌≡◌, refl, Bool, List, ◌∷◌, ◌++◌, ℕ, ◌+◌}
use Rattle.std.proofs.Common.{ap, ap₂, sym, ◌∙◌, subst}
use Rattle.spec_line.specs.Line.{Item, value, spot, Search, seeking, found, Acts, acts_same}
use Rattle.spec_line.specs.Rights.{Tasks}
use Rattle.law_timed_line.specs.Times.{Timed, at, later, stamp, leave_at}
use Rattle.law_timed_line.specs.Walks.{Waits, heard, Walk}

module _ {S : Type 0} (T : Tasks S) (W : Waits T) where
  pub record Same (e f : Search) (c d : ℕ) (l k : List (Timed S)) : Type 0 where
    pub found : e ≡ f
    pub time : c ≡ d
    pub line : l ≡ k

  kept : {e f : Search} {c d : ℕ} {l k : List (Timed S)} (h : List (Timed S) → List (Timed S)) → Same e f c d l k → Same e f c d (h l) (h k)
  kept h s = record { found = s.found; time = s.time; line = ap h s.line }

  -- what a search leads to that has come to its own task s
  pub record Ends (u : S) (m f : Search) (a t d : ℕ) (l j : List (Timed S)) : Type 0 where
    pub puts : List (Item S)
    pub found : m ≡ f
    pub acts : Acts m (T.next u) puts
    pub time : d ≡ later a t + W.ticks u
    pub line : j ≡ stamp d puts ++ l

  pub ends : (s u : S) (m f : Search) (a t d : ℕ) {l j : List (Timed S)} → s ≡ u → Walk T W u m f a d (at t (spot s) ∷ l) j → Ends u m f a t d l j
  ends s u m f a t d p (Walk.here ys acts i) = record { puts = ys; found = refl; acts = acts; time = i; line = refl }
  ends s u m f a t d p (Walk.past g v) = absurd (g.1.0 (subst (λ (x : S). W.Above x u) (sym p) (W.self u)))

  -- what a search leads to that has come to a value of the queue it looks in
  record Takes (u : S) (b : Bool) (q v : ℕ) (f : Search) (a t d : ℕ) (l j : List (Timed S)) : Type 0 where
    left : List (Timed S)
    walk : Walk T W u (found b q v) f (later a t) d l left
    line : j ≡ leave_at b (at t (value q v)) left

  takes : (u : S) (b : Bool) (p q v : ℕ) (f : Search) (a t d : ℕ) {l j : List (Timed S)} → p ≡ q
      → Walk T W u (seeking b q) f a d (at t (value p v) ∷ l) j → Takes u b q v f a t d l j
  takes u b p q v f a t d e (Walk.finds {k = k} w) = record { left = k; walk = w; line = refl }
  takes u b p q v f a t d e (Walk.past g w) = absurd (g.0 e)

  pub once : (u : S) (m e f : Search) (a c d : ℕ) {l k j : List (Timed S)} → Walk T W u m e a c l k → Walk T W u m f a d l j → Same e f c d k j
  once u m e f a c d (Walk.here {t = t} {l = l} xs acts i) w =
      let r = ends u u m f a t d refl w in
      let h : xs ≡ r.puts = acts_same m (T.next u) r.puts xs r.acts acts in
      record {
        found = r.found;
        time = i ∙ sym r.time;
        line = ap₂ (λ (t : ℕ) (zs : List (Item S)). stamp t zs ++ l) (i ∙ sym r.time) h ∙ sym r.line;
      }
  once u m e f a c d (Walk.past g v) (Walk.here ys acts i) = absurd (g.1.0 (W.self u))
  once u m e f a c d (Walk.past {t = t} {x = x} g v) (Walk.past g' v') = kept (λ i. at t x ∷ i) (once u m e f (heard T W m u x t a) c d v v')
  once u m e f a c d (Walk.past g v) (Walk.finds v') = absurd (g.0 refl)
  once u m e f a c d (Walk.finds {b = b} {q = q} {v = x} {t = t} {k = k} v) w =
      let r = takes u b q q x f a t d refl w in
      subst (Same e f c d (leave_at b (at t (value q x)) k)) (sym r.line)
      (kept (leave_at b (at t (value q x))) (once u (found b q x) e f (later a t) c d v r.walk))
