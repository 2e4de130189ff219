-- AGREEMENT: any two runs of all tasks to their end have as many moves and end in the same timed line, with the same values put back.
-- So the order in which tasks move does not matter.
use Rattle.std.specs.Prelude.{◌≡◌, refl, List, ℕ, zero, suc, ◌+◌}
use Rattle.std.proofs.Common.{ap, sym, ◌∙◌, subst, subst₂, arith}
use Rattle.spec_lists.specs.Maps.{All}
use Rattle.spec_line.specs.Line.{Search, Apart, NoSpot}
use Rattle.spec_line.specs.Rights.{Tasks}
use Rattle.spec_line.specs.Fronts.{Fronts, fronts_after}
use Rattle.law_timed_line.specs.Times.{Timed, untimed}
use Rattle.law_timed_line.specs.Walks.{Waits, Walk}
use Rattle.law_timed_line.proofs.Starts.{start_at, fronts_of, start_after, fronts_after_lem, fronts_both}
use Rattle.law_timed_line.proofs.Once.{once}
use Rattle.law_timed_line.specs.Diamond.{apart_flip, Both, same, either_way, diamond}

-- no task is unfinished
abbrev pub Bare : {S : Type 0} → List (Timed S) → Type 0
Bare l = All NoSpot (untimed l)

module _ {S : Type 0} (T : Tasks S) (W : Waits T) where
  -- task u moves, with r in front of the line l: what its search came to, and the time when the step is done
  pub record MoveOf (u : S) (e : Search) (d : ℕ) (r : Fronts) (l : List (Timed S)) (x : Fronts) (k : List (Timed S)) : Type 0 where
    pub fronts : fronts_of T u r ≡ x
    pub walk : Walk T W u (start_at T u r) e 0 d l k

  pub record Move (r : Fronts) (l : List (Timed S)) (x : Fronts) (k : List (Timed S)) : Type 0 where
    pub task : S
    pub end : Search
    pub done : ℕ
    pub move : MoveOf task end done r l x k

  pub data Moves : ℕ → Fronts → List (Timed S) → Fronts → List (Timed S) → Type 0 where
    no_move : {r : Fronts} {l : List (Timed S)} → Moves zero r l r l
    moves : {n : ℕ} {r x y : Fronts} {l k j : List (Timed S)} → Move r l x k → Moves n x k y j → Moves (suc n) r l y j

  unfoldable pub one_more : {n : ℕ} {r x y : Fronts} {l k j : List (Timed S)} → Moves n r l x k → Move x k y j → Moves (suc n) r l y j
  one_more no_move o = moves o no_move
  one_more (moves m ms) o = moves m (one_more ms o)

  -- a walk of w, made after a move of u about other queues
  then_walk : (u w : S) (f : Search) (d : ℕ) (r x : Fronts) {k i : List (Timed S)} → fronts_of T u r ≡ x → Apart (start_at T u r) (start_at T w r)
      → Walk T W w (start_at T w r) f 0 d k i → MoveOf w f d x k (fronts_after (start_at T w r) (fronts_after (start_at T u r) r)) i
  then_walk u w f d r x {k} {i} e a v =
      record {
        fronts = fronts_after_lem T u w r a x e;
        walk = subst (λ (m : Search). Walk T W w m f 0 d k i) (sym (start_after T u w r a x e)) v;
      }

  -- TWO MOVES: of one task they are the same; of two each can be made after the other
  pub data Meet {r x y : Fronts} {l k j : List (Timed S)} (m : Move r l x k) (n : Move r l y j) : Type 0 where
    equal : x ≡ y → k ≡ j → Meet m n
    close : (z : Fronts) (i : List (Timed S)) → MoveOf n.task n.end n.done x k z i → MoveOf m.task m.end m.done y j z i → Meet m n

  both_ways : (u w : S) (e f : Search) (c d : ℕ) (r x y : Fronts) {k j i : List (Timed S)} → fronts_of T u r ≡ x → fronts_of T w r ≡ y
      → Apart (start_at T u r) (start_at T w r) → Walk T W w (start_at T w r) f 0 d k i → Walk T W u (start_at T u r) e 0 c j i
      → (z : Fronts) × MoveOf w f d x k z i × MoveOf u e c y j z i
  both_ways u w e f c d r x y {k} {j} {i} p q a v v' = (
    fronts_after (start_at T w r) (fronts_after (start_at T u r) r),
    then_walk u w f d r x p a v,
    subst (λ (z : Fronts). MoveOf u e c y j z i) (sym (fronts_both T u w r a)) (then_walk w u e c r y q (apart_flip (start_at T u r) (start_at T w r) a) v'),
  )

  pub meet : {r x y : Fronts} {l k j : List (Timed S)} (m : Move r l x k) (n : Move r l y j) → Meet m n
  meet {r} {x} {y} {l} {k} {j} m n =
      go (diamond T W m.task n.task _ _ m.end n.end 0 0 m.done n.done m.move.walk n.move.walk)
    where
      go : Both T W m.task n.task (start_at T m.task r) (start_at T n.task r) m.end n.end 0 0 m.done n.done k j
          → Meet m n
      go (same e) =
          equal (sym m.move.fronts ∙ ap (λ (u : S). fronts_of T u r) e ∙ n.move.fronts)
          (once T W m.task _ m.end n.end 0 m.done n.done m.move.walk
          (subst (λ (u : S). Walk T W u (start_at T u r) n.end 0 n.done l j) (sym e) n.move.walk)).line
      go (either_way a i v w) =
          let b = both_ways m.task n.task m.end n.end m.done n.done r x y m.move.fronts n.move.fronts a v w in
          close b.0 i b.1 b.2

  -- STABILITY: after a move of another task a task can still move, with the same answer and the same time
  pub stable : (u w : S) (e f : Search) (c d : ℕ) {r x y : Fronts} {l k j : List (Timed S)} → ¬ (u ≡ w) → MoveOf u e c r l x k → MoveOf w f d r l y j
      → (z : Fronts) × (i : List (Timed S)) × MoveOf u e c y j z i
  stable u w e f c d {r} {x} {y} {l} {k} {j} n v v' = go (diamond T W u w _ _ e f 0 0 c d v.walk v'.walk)
    where
      go : Both T W u w (start_at T u r) (start_at T w r) e f 0 0 c d k j → (z : Fronts) × (i : List (Timed S)) × MoveOf u e c y j z i
      go (same h) = absurd (n h)
      go (either_way a i p q) = let b = both_ways u w e f c d r x y v.fronts v'.fronts a p q in (b.0, i, b.2)

  no_walk : (u : S) (m e : Search) (a d : ℕ) {l k : List (Timed S)} → Bare l → Walk T W u m e a d l k → ⊥
  no_walk u m e a d b (Walk.here xs acts i) = b.0
  no_walk u m e a d b (Walk.past g v) = no_walk u m e _ d b.1 v
  no_walk u m e a d b (Walk.finds v) = no_walk u _ e _ d b.1 v

  -- what is left of a run to the end after one move
  pub record Rest (n : ℕ) (x : Fronts) (k : List (Timed S)) (y : Fronts) (z : List (Timed S)) : Type 0 where
    pub left : ℕ
    pub less : n ≡ suc left
    pub run : Moves left x k y z

  join : {n : ℕ} {r x y o : Fronts} {l k j z : List (Timed S)} (m : Move r l x k) (p : Move r l y j) → Moves n x k o z
      → ((h : Fronts) (i : List (Timed S)) → Move x k h i → Rest n h i o z) → Meet m p → Rest (suc n) y j o z
  join {n} {o = o} {z = z} m p s h (equal d e) =
      record { left = n; less = refl; run = subst₂ (λ (f : Fronts) (i : List (Timed S)). Moves n f i o z) d e s }
  join m p s h (close f i v w) =
      let c = h f i (record { task = p.task; end = p.end; done = p.done; move = v }) in
      record {
        left = suc c.left;
        less = ap suc c.less;
        run = moves (record { task = m.task; end = m.end; done = m.done; move = w }) c.run;
      }

  pub after_move : {n : ℕ} {r x y : Fronts} {l k z : List (Timed S)} → Bare z → Moves n r l y z → Move r l x k → Rest n x k y z
  after_move b no_move o = absurd (no_walk o.task _ o.end 0 o.done b o.move.walk)
  after_move b (moves m ms) o = join m o ms (λ f i w. after_move b ms w) (meet m o)

  -- what is left of a run to the end after any run
  pub record Agrees (n k : ℕ) (x : Fronts) (j : List (Timed S)) (y : Fronts) (z : List (Timed S)) : Type 0 where
    pub left : ℕ
    pub count : n ≡ k + left
    pub run : Moves left x j y z

  pub agree : {n k : ℕ} {r x y : Fronts} {l j z : List (Timed S)} → Bare z → Moves n r l y z → Moves k r l x j → Agrees n k x j y z
  agree {n} b s no_move = record { left = n; count = omega arith; run = s }
  agree b s (moves m ms) =
      let a = after_move b s m in
      let c = agree {n = a.left} b a.run ms in
      record { left = c.left; count = omega (arith, a.less, c.count); run = c.run }

  pub all_finished : {n k : ℕ} {r x y : Fronts} {l j z : List (Timed S)} → Bare z → Moves n r l y z → Bare j → Moves k r l x j
      → (n ≡ k) × (y ≡ x) × (z ≡ j)
  all_finished b no_move c no_move = (refl, refl, refl)
  all_finished b (moves m ms) c no_move = absurd (no_walk m.task _ m.end 0 m.done c m.move.walk)
  all_finished b ms c (moves o os) =
      let r = after_move b ms o in
      let h = all_finished {n = r.left} b r.run c os in
      (r.less ∙ ap suc h.0, h.1, h.2)
