-- FROM QUEUE TO QUEUE: a sync or a finish goes through the four queues in turn. What holds of the words n between two turns,
-- and what the turn of one queue leaves of it.
use Rattle.std.specs.Prelude.{◌≡◌, refl, List, ℕ, ◌+◌, ◌<◌}
use Rattle.std.proofs.Math.Path.{ap, subst}
use Rattle.std.proofs.Common.{sym, ◌∙◌, subst₂}
use Rattle.std.proofs.Math.Bool.{false}
use Rattle.std.proofs.Math.Option.{Option, some}
use Rattle.std.proofs.Math.Logic.{⊎_elim}
use Rattle.spec_lists.specs.Counting.{occurrences, equal?}
use Rattle.spec_layout.specs.Layout.{Opened}
use Rattle.spec_order.specs.Steps.{Item}
use Rattle.law_order_waits.specs.Popper.{first_popper}
use Rattle.law_order_queue.specs.Points.{Timeline}
use Rattle.spec_lists.specs.Maps.{All, put, put_same, put_other}
use Rattle.law_gaps.specs.Line.{Line, marks, Fits}
use Rattle.law_gaps.specs.Store.{Store, Chain, Memory, Laid, timeline}
use Rattle.law_gaps.proofs.Stores.{Kept as StoreKept}
use Rattle.law_gaps.proofs.Pool.{all_segments, mine}
use Rattle.law_maps.specs.Meaning.{Meaning, next_in, contents_in, free_in, store_in, memory_of, Sized}
use Rattle.law_maps.specs.Kept.{Kept, kept_all, kept_then, Becomes}
use Rattle.law_maps.specs.Update.{shared}
use Rattle.law_invariant.specs.Represents.{alive, of_tasks, queue_memory, uses_in, opened, Represents}
use Rattle.law_invariant.specs.Nexts.{Nexts, words_nexts}
use Rattle.law_invariant.specs.Laids.{four, Laids, laids_row, other_timeline}
use Rattle.law_invariant.specs.Parts.{holders, parts_of, opened_single}
use Rattle.law_invariant.specs.Plain.{laids_as}
use Rattle.law_invariant.specs.Push.{queue_memory_lem}
use Rattle.law_invariant.specs.Covered.{Vacant}

-- THE WORDS n, on the way from m: the tree is that of m, and the four queues are laid out.
pub record Way (m n : List ℕ) (holder : ℕ → ℕ) (line : ℕ → Line) : Type 0 where
  pub kept : Kept m n
  pub sized : Sized n
  pub laids : Laids (opened m) (store_in n 0) (queue_memory n) holder line
  pub fits : (q : ℕ) → q < 4 → All (Fits (uses_in m q)) (line q)
  pub bare : (q : ℕ) → q < 4 → (x : ℕ) → uses_in m q x ≡ false → Vacant (queue_memory n q) x
  pub nexts : Nexts (Opened m) (next_in n)

-- ONE QUEUE stands as the list xs of program order and the tour T say.
pub record Standing (n : List ℕ) (xs : List Item) (T : List ℕ) (q h : ℕ) (l : Line) : Type 0 where
  pub marked : marks l ≡ T
  pub first : first_popper q xs ≡ some h
  pub time : Timeline q xs (timeline (contents_in n) l)

-- All four queues are laid out along some lines, and S holds of each.
pub record AllStand (m n : List ℕ) (S : ℕ → ℕ → Line → Type 0) : Type 0 where
  pub holder : ℕ → ℕ
  pub line : ℕ → Line
  pub way : Way m n holder line
  pub stands : (q : ℕ) → q < 4 → S q (holder q) (line q)

-- at the start
module _ (m : List ℕ) (xs : List Item) (r : Represents m xs) where
  pub all_begin : AllStand m m (Standing m xs r.tour)
  all_begin =
      let p = parts_of m xs r in
      record {
        holder = holders m xs r;
        line = r.line;
        way = record { kept = kept_all m; sized = r.sized; laids = p.laids; fits = p.fits; bare = p.bare; nexts = words_nexts m r.sized r.nexts };
        stands = λ q i. record { marked = p.marked q i; first = p.first q i; time = p.time q i };
      }

-- the four queues with other names for the holders
pub holders_as : (own : ℕ → ℕ) (n : List ℕ) (holder holder' : ℕ → ℕ) (line : ℕ → Line) → ((q : ℕ) → q < 4 → holder q ≡ holder' q)
    → Laids own (store_in n 0) (queue_memory n) holder line → Laids own (store_in n 0) (queue_memory n) holder' line
holders_as own n holder holder' line e h =
    record {
      laid = λ q i. subst (λ (x : ℕ). Laid (mine (queue_memory n q).store (line q)) (queue_memory n q) x (line q)) (e q i) (h.laid q i);
      shares = h.shares;
      pool = h.pool;
    }

-- the four queues over the segments of the words w, which are those of the store st
pub laids_over : (own : ℕ → ℕ) (st : Store) (w : List ℕ) (holder : ℕ → ℕ) (line : ℕ → Line) → next_in w ≡ st.next → contents_in w ≡ st.contents
    → free_in w ≡ st.free
    → Laids own st (queue_memory w) holder line → Laids own (store_in w 0) (queue_memory w) holder line
unfolding queue_memory of_tasks
laids_over own st w holder line e f g h =
    record {
      laid = h.laid;
      shares = λ q i. refl;
      pool = record {
        chains = subst₂ (λ (a : ℕ → Option ℕ) (b : ℕ → List ℕ). All (λ l. All (Chain a b) l) (four line)) (sym e) (sym f) h.pool.chains;
        total = subst (λ (a : List ℕ). (x : ℕ) → occurrences x (all_segments (four line)) + occurrences x a ≡ own x) (sym g) h.pool.total;
      };
    }

-- a fact of one queue, and of the others, where two maps are written there
pub at_queue : (P : (p h : ℕ) → Line → Type 0) (holder : ℕ → ℕ) (line : ℕ → Line) (q h : ℕ) (l : Line) → P q h l
    → ((p : ℕ) → p < 4 → (p ≡ q → ⊥) → P p (holder p) (line p)) → (p : ℕ) → p < 4 → P p (put holder q h p) (put line q l p)
at_queue P holder line q h l x f p i =
    ⊎_elim
    (λ e. subst (λ (y : ℕ). P y (put holder q h y) (put line q l y)) (sym e) (subst₂ (P q) (sym (put_same holder q h)) (sym (put_same line q l)) x))
    (λ k. subst₂ (P p) (sym (put_other holder q h p k)) (sym (put_other line q l p k)) (f p i k))
    (equal? p q)

-- THE TURN OF QUEUE q, whose line is l: the words n become n', and its memory is laid out along another line, with the queue
-- view at h.
pub record Turn (m n n' : List ℕ) (q : ℕ) (l : Line) (h : ℕ) : Type 0 where
  pub meaning : Meaning
  pub memory : Memory
  pub line : Line
  pub becomes : Becomes n n' meaning
  pub here : of_tasks (alive n) (memory_of meaning q) ≡ memory
  pub others : (p : ℕ) → p < 4 → (p ≡ q → ⊥) → of_tasks (alive n) (memory_of meaning p) ≡ shared memory.store (queue_memory n p)
  pub kept : StoreKept (mine (queue_memory n q).store l) (queue_memory n q).store memory.store
  pub laid : Laid (mine (queue_memory n q).store l) memory h line
  pub fits : All (Fits (uses_in m q)) line
  pub bare : (x : ℕ) → uses_in m q x ≡ false → Vacant memory x
  pub nexts : Nexts (Opened m) memory.store.next

module _ (m n : List ℕ) (holder : ℕ → ℕ) (line : ℕ → Line) (way : Way m n holder line) (q : ℕ) (small : q < 4) (n' : List ℕ) (h : ℕ)
    (c : Turn m n n' q (line q) h) where
  abbrev W : Memory
  W = c.memory

  abbrev l : Line
  l = c.line

  abbrev Then : ℕ → Memory
  Then = put (λ p. shared W.store (queue_memory n p)) q W

  is_here : queue_memory n' q ≡ W
  is_here = queue_memory_lem q c.becomes ∙ c.here

  is_other : (p : ℕ) → p < 4 → (p ≡ q → ⊥) → queue_memory n' p ≡ shared W.store (queue_memory n p)
  is_other p i k = queue_memory_lem p c.becomes ∙ c.others p i k

  memory_is : (p : ℕ) → p < 4 → queue_memory n' p ≡ Then p
  memory_is p i =
      ⊎_elim
      (λ e. subst (λ (x : ℕ). queue_memory n' x ≡ Then x) (sym e) (is_here ∙ sym (put_same _ q W)))
      (λ k. is_other p i k ∙ sym (put_other _ q W p k))
      (equal? p q)

  over_new : Laids (opened m) W.store (queue_memory n') (put holder q h) (put line q l)
  over_new =
      laids_as (opened m) W.store Then (queue_memory n') (put holder q h) (put line q l) memory_is
      (laids_row (opened m) (opened_single m) (store_in n 0) (queue_memory n) holder line way.laids q small W h l c.kept c.laid)

  same_laids : Laids (opened m) (store_in n' 0) (queue_memory n') (put holder q h) (put line q l)
  unfolding queue_memory of_tasks
  same_laids =
      laids_over (opened m) W.store n' (put holder q h) (put line q l) (ap (λ (w : Memory). w.store.next) is_here)
      (ap (λ (w : Memory). w.store.contents) is_here)
      (ap (λ (w : Memory). w.store.free) is_here) over_new

  -- tasks without views
  pub turn_gone : (x : ℕ) → Vacant W x → Vacant (queue_memory n' q) x
  turn_gone x v = subst (λ (w : Memory). Vacant w x) (sym is_here) v

  pub turn_vacant : (p : ℕ) → p < 4 → (p ≡ q → ⊥) → (x : ℕ) → Vacant (queue_memory n p) x → Vacant (queue_memory n' p) x
  turn_vacant p i k x v = subst (λ (w : Memory). Vacant w x) (sym (is_other p i k)) v

  pub turn : Way m n' (put holder q h) (put line q l)
  unfolding queue_memory of_tasks
  turn =
      record {
        kept = kept_then way.kept c.becomes.kept;
        sized = c.becomes.sized;
        laids = same_laids;
        fits = at_queue (λ p x k. All (Fits (uses_in m p)) k) holder line q h l c.fits (λ p i k. way.fits p i);
        bare = λ p i.
            ⊎_elim
            (λ e. subst (λ (y : ℕ). (x : ℕ) → uses_in m y x ≡ false → Vacant (queue_memory n' y) x) (sym e) (λ x u. turn_gone x (c.bare x u)))
            (λ k x u. turn_vacant p i k x (way.bare p i x u))
            (equal? p q);
        nexts = subst (λ (w : Memory). Nexts (Opened m) w.store.next) (sym is_here) c.nexts;
      }

  -- the values of the other queues are as they were
  pub turn_time : (p : ℕ) → p < 4 → (p ≡ q → ⊥) → timeline (contents_in n') (line p) ≡ timeline (contents_in n) (line p)
  turn_time p i k =
      ap (λ (f : ℕ → List ℕ). timeline f (line p)) contents_are
      ∙ other_timeline (opened m) (opened_single m) (store_in n 0) (queue_memory n) holder line way.laids q small W h l c.kept c.laid p i k
    where
      contents_are : contents_in n' ≡ W.store.contents
      contents_are = unfold queue_memory of_tasks in ap (λ (w : Memory). w.store.contents) is_here

  -- so they stand as before
  pub turn_other : (xs : List Item) (T : List ℕ) (p : ℕ) → p < 4 → (p ≡ q → ⊥) → Standing n xs T p (holder p) (line p) → Standing n' xs T p (holder p) (line p)
  turn_other xs T p i k s =
      record { marked = s.marked; first = s.first; time = subst (Timeline p xs) (sym (turn_time p i k)) s.time }

  -- and this one by its new line
  pub turn_here : (xs : List Item) (T : List ℕ) → marks l ≡ T → first_popper q xs ≡ some h → Timeline q xs (timeline W.store.contents l)
      → Standing n' xs T q h l
  unfolding queue_memory of_tasks
  turn_here xs T e f g =
      record { marked = e; first = f; time = subst (Timeline q xs) (sym (ap (λ (w : Memory). timeline w.store.contents l) is_here)) g }

  -- A TURN IN WHICH NO MARK CHANGES: all stand as before.
  pub turn_same : (xs : List Item) (T : List ℕ) → ((p : ℕ) → p < 4 → Standing n xs T p (holder p) (line p)) → marks l ≡ marks (line q) → h ≡ holder q
      → timeline W.store.contents l ≡ timeline (contents_in n) (line q) → AllStand m n' (Standing n' xs T)
  turn_same xs T stands e f g =
      let st = stands q small in
      record {
        holder = put holder q h;
        line = put line q l;
        way = turn;
        stands = at_queue (Standing n' xs T) holder line q h l
            (turn_here xs T (e ∙ st.marked) (st.first ∙ ap some (sym f)) (subst (Timeline q xs) (sym g) st.time))
            (λ p i k. turn_other xs T p i k (stands p i));
      }
