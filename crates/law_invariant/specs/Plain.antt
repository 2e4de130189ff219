-- A STEP THAT IS NEITHER SPAWN NOR FINISH keeps the tree; what it does to one queue leaves the others alone.
use Rattle.std.specs.Prelude.{◌≡◌, Bool, true, List, [], ◌∷◌, ◌++◌, ℕ, ◌<◌, ◌≤◌}
use Rattle.std.proofs.Math.Path.{ap, sym, subst, fun_ext}
use Rattle.std.proofs.Common.{◌∙◌, inl, inr, arith}
use Rattle.std.proofs.Math.Bool.{false}
use Rattle.std.proofs.Math.Logic.{⊎_elim}
use Rattle.spec_lists.specs.Counting.{equal?}
use Rattle.spec_layout.specs.Layout.{Opened}
use Rattle.spec_order.specs.Steps.{Task, Item, step, spot, Act, name_of, number_of, advance}
use Rattle.law_order.specs.Items.{In, in_parts}
use Rattle.law_order.specs.Count.{count, spot_numbered}
use Rattle.law_order.specs.Courses.{plain}
use Rattle.law_order.specs.Numbers.{advance_at}
use Rattle.law_order.specs.Laws.{one_spot}
use Rattle.law_order.specs.Moves.{made_plain}
use Rattle.law_order_waits.specs.Played.{Played, played_reached}
use Rattle.law_order_waits.specs.Changes.{in_left, in_right}
use Rattle.law_order_waits.specs.Popper.{first_popper}
use Rattle.law_order_waits.specs.Heirs.{plain_popper}
use Rattle.law_order_queue.specs.Points.{Point, added, takes, Timeline}
use Rattle.law_order_queue.specs.Laws.{plain_line}
use Rattle.spec_lists.specs.Maps.{All, put, put_same, put_other}
use Rattle.law_gaps.specs.Line.{vacant, Line, marks, Fits}
use Rattle.law_gaps.specs.Store.{Store, Memory, Laid, timeline}
use Rattle.law_gaps.proofs.After.{After, after_marks, after_fits}
use Rattle.law_gaps.proofs.Pool.{mine}
use Rattle.law_links.specs.Linked.{numbers_back, back_append, Linked}
use Rattle.law_links.specs.Frame.{SameLinks, keeps_linked}
use Rattle.law_maps.specs.Meaning.{next_in, contents_in, store_in, Sized}
use Rattle.law_maps.specs.Kept.{Kept}
use Rattle.law_maps.specs.Update.{shared}
use Rattle.law_invariant.specs.Represents.{of_tasks, queue_memory, uses_in, opened, Represents}
use Rattle.law_invariant.specs.Nexts.{Nexts}
use Rattle.law_invariant.specs.Laids.{Laids, laids_row, other_timeline}
use Rattle.law_invariant.specs.Parts.{Parts, holders, parts_of, of_parts, opened_single, same_uses, same_opened}

-- links are kept
pub same_links : (m n : List ℕ) → Sized m → Kept m n → SameLinks m n
same_links m n s k =
    record { sized = k.words ∙ s.words; words = λ t i l j. k.links t i l (omega (arith, j)); height = k.idle_height; stack = k.idle }

-- the four queues by memories and a store that are equal
pub laids_as : (own : ℕ → ℕ) (st : Store) (memory memory' : ℕ → Memory) (holder : ℕ → ℕ) (line : ℕ → Line) → ((q : ℕ) → q < 4 → memory' q ≡ memory q)
    → Laids own st memory holder line → Laids own st memory' holder line
laids_as own st memory memory' holder line e h =
    record {
      laid = λ q i. subst (λ (m : Memory). Laid (mine m.store (line q)) m (holder q) (line q)) (sym (e q i)) (h.laid q i);
      shares = λ q i. subst (λ (m : Memory). m ≡ shared st m) (sym (e q i)) (h.shares q i);
      pool = h.pool;
    }

module _ (m : List ℕ) (ys zs : List Item) (s : Task) (r : Represents m (ys ++ spot s ∷ zs)) (a : Act) (is : plain a ≡ true) where
  abbrev Old : List Item
  Old = ys ++ spot s ∷ zs

  abbrev New : List Item
  New = advance (number_of s) a Old

  single : count (spot_numbered (number_of s)) Old ≤ 1
  single = (one_spot Old (played_reached r.played)).1 (number_of s)

  new_is : New ≡ ys ++ (step (name_of s) a ∷ spot s ∷ zs)
  new_is = advance_at ys zs s a single ∙ ap (λ (l : List Item). ys ++ (l ++ zs)) (made_plain s a is)

  same_back : numbers_back New ≡ numbers_back Old
  unfolding numbers_back
  same_back = ap numbers_back new_is ∙ back_append ys (step (name_of s) a ∷ spot s ∷ zs) ∙ sym (back_append ys (spot s ∷ zs))

  same_spots : (o : Task) → In (spot o) New → In (spot o) Old
  same_spots o i = ⊎_elim (in_left (spot o) ys (spot s ∷ zs)) right (in_parts (spot o) ys _ (subst (In (spot o)) new_is i))
    where
      right : In (spot o) (step (name_of s) a ∷ spot s ∷ zs) → In (spot o) Old
      right (inl e) = let z : ◌≡◌ {A = ℕ} 0 1 = cc in absurd (omega (arith, z))
      right (inr j) = in_right (spot o) ys (spot s ∷ zs) j

  same_popper : (q : ℕ) → first_popper q New ≡ first_popper q Old
  same_popper q = ap (first_popper q) (advance_at ys zs s a single) ∙ plain_popper ys zs s q a is

  abbrev pub holder : ℕ → ℕ
  holder = holders m Old r

  module _ (n : List ℕ) (kept : Kept m n) (sized : Sized n) (played : Played New) where
    -- the tree
    new_linked : Linked n r.tour New
    new_linked = keeps_linked m n (same_links m n r.sized kept) r.tour Old New r.linked same_back same_spots

    -- all parts, queue by queue
    pub plain_represents : (line : ℕ → Line) → Nexts (Opened m) (next_in n) → Laids (opened n) (store_in n 0) (queue_memory n) holder line
        → ((q : ℕ) → q < 4 → marks (line q) ≡ r.tour)
        → ((q : ℕ) → q < 4 → All (Fits (uses_in m q)) (line q)) → ((q : ℕ) → q < 4 → Timeline q New (timeline (contents_in n) (line q)))
        → ((q : ℕ) → q < 4 → (t : ℕ) → uses_in m q t ≡ false → ((queue_memory n q).children t ≡ vacant) × ((queue_memory n q).user t ≡ vacant)
        × ((queue_memory n q).right t ≡ vacant))
        → Represents n New
    plain_represents line e l k f t b =
        of_parts n r.tour New line holder new_linked played sized (subst (λ (x : ℕ). Nexts (λ s. s < x) (next_in n)) (sym kept.number) e)
        (record {
          laids = l;
          first = λ q i. same_popper q ∙ (parts_of m Old r).first q i;
          marked = k;
          fits = λ q i. subst (λ (u : ℕ → Bool). All (Fits u) (line q)) (sym (same_uses m n kept q)) (f q i);
          time = t;
          bare = λ q i x d. b q i x (ap (λ (u : ℕ → Bool). u x) (sym (same_uses m n kept q)) ∙ d);
        })

    -- ONE QUEUE CHANGES
    module _ (q : ℕ) (small : q < 4) (ps : List Point) (nexts : Nexts (Opened m) (next_in n))
        (row : After (mine (queue_memory m q).store (r.line q)) (queue_memory m q).store (queue_memory n q) (holder q) (r.line q) ps)
        (others : (p : ℕ) → p < 4 → (p ≡ q → ⊥) → queue_memory n p ≡ shared (queue_memory n q).store (queue_memory m p))
        (bare : (t : ℕ) → uses_in m q t ≡ false → ((queue_memory n q).children t ≡ vacant) × ((queue_memory n q).user t ≡ vacant)
        × ((queue_memory n q).right t ≡ vacant))
        (time : Timeline q New ps) (quiet : (p : ℕ) → p < 4 → (p ≡ q → ⊥) → (added p a ≡ []) × (takes p a ≡ 0)) where
      old : Parts m r.tour Old r.line holder
      old = parts_of m Old r

      abbrev line : ℕ → Line
      line = put r.line q row.line

      rows : Laids (opened m) (queue_memory n q).store (put (λ p. shared (queue_memory n q).store (queue_memory m p)) q (queue_memory n q))
          (put holder q (holder q)) line
      rows =
          laids_row (opened m) (opened_single m) (store_in m 0) (queue_memory m) holder r.line old.laids q small (queue_memory n q) (holder q) row.line
          row.kept row.laid

      holder_same : put holder q (holder q) ≡ holder
      holder_same =
          fun_ext λ p. ⊎_elim (λ e. ap (put holder q (holder q)) e ∙ put_same holder q (holder q) ∙ ap holder (sym e))
          (λ k. put_other holder q (holder q) p k) (equal? p q)

      memory_same : (p : ℕ) → p < 4 → queue_memory n p ≡ put (λ p. shared (queue_memory n q).store (queue_memory m p)) q (queue_memory n q) p
      memory_same p i =
          ⊎_elim
          (λ e. subst (λ (x : ℕ). queue_memory n x ≡ put (λ p. shared (queue_memory n q).store (queue_memory m p)) q (queue_memory n q) x) (sym e)
          (sym (put_same _ q _)))
          (λ k. others p i k ∙ sym (put_other _ q _ p k))
          (equal? p q)

      over_new : Laids (opened n) (queue_memory n q).store (queue_memory n) holder line
      over_new =
          subst (λ (o : ℕ → ℕ). Laids o (queue_memory n q).store (queue_memory n) holder line) (sym (same_opened m n kept))
          (subst (λ (h : ℕ → ℕ). Laids (opened m) (queue_memory n q).store (queue_memory n) h line) holder_same
          (laids_as (opened m) (queue_memory n q).store _ (queue_memory n) _ line memory_same rows))

      laids : Laids (opened n) (store_in n 0) (queue_memory n) holder line
      unfolding queue_memory of_tasks
      laids =
          record {
            laid = over_new.laid;
            shares = over_new.shares;
            pool = record { chains = over_new.pool.chains; total = over_new.pool.total };
          }

      -- a fact of the changed queue, and of the others
      by : (P : (p : ℕ) → Line → Type 0) → P q row.line → ((p : ℕ) → p < 4 → (p ≡ q → ⊥) → P p (r.line p)) → (p : ℕ) → p < 4 → P p (line p)
      by P x f p i =
          ⊎_elim
          (λ e. subst (λ (y : ℕ). P y (line y)) (sym e) (subst (P q) (sym (put_same r.line q row.line)) x))
          (λ k. subst (P p) (sym (put_other r.line q row.line p k)) (f p i k))
          (equal? p q)

      pub queue_represents : Represents n New
      unfolding queue_memory of_tasks
      queue_represents =
          plain_represents line nexts laids
          (by (λ p l. marks l ≡ r.tour) (after_marks row ∙ old.marked q small) (λ p i k. old.marked p i))
          (by (λ p l. All (Fits (uses_in m p)) l) (after_fits row (uses_in m q) (old.fits q small)) (λ p i k. old.fits p i))
          (by (λ p l. Timeline p New (timeline (contents_in n) l)) (subst (Timeline q New) (sym row.points) time) other_time)
          (λ p i.
          ⊎_elim
          (λ e. subst (λ (x : ℕ). (t : ℕ) → uses_in m x t ≡ false → ((queue_memory n x).children t ≡ vacant) × ((queue_memory n x).user t ≡ vacant)
          × ((queue_memory n x).right t ≡ vacant)) (sym e) bare)
          (λ k t u. let b = old.bare p i t u in let o = others p i k in
          (ap (λ (w : Memory). w.children t) o ∙ b.0, ap (λ (w : Memory). w.user t) o ∙ b.1, ap (λ (w : Memory). w.right t) o ∙ b.2))
          (equal? p q))
        where
          other_time : (p : ℕ) → p < 4 → (p ≡ q → ⊥) → Timeline p New (timeline (contents_in n) (r.line p))
          other_time p i k =
              subst (Timeline p New)
              (sym (other_timeline (opened m) (opened_single m) (store_in m 0) (queue_memory m) holder r.line old.laids q small (queue_memory n q)
              (holder q) row.line row.kept row.laid p i k))
              (plain_line p ys zs s single a is (quiet p i k).0 (quiet p i k).1 (old.time p i))
