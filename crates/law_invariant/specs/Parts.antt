-- The invariant queue by queue, with the four queues over one store: to it and back.
use Rattle.std.specs.Prelude.{◌≡◌, Bool, List, ℕ, ◌<◌, ◌≤◌, eqb}
use Rattle.std.proofs.Math.Path.{refl, ap, fun_ext}
use Rattle.std.proofs.Math.Bool.{true, false, not}
use Rattle.std.proofs.Math.Option.{some}
use Rattle.std.proofs.Common.{arith, ltb-true}
use Rattle.std.proofs.Math.Dec.{ltb}
use Rattle.spec_words.specs.Words.{pick, both}
use Rattle.spec_lists.specs.Counting.{one}
use Rattle.spec_layout.specs.Layout.{STATUS, RIGHTS, FREE, task, Opened, is_opened, rights_of as rights_in, read}
use Rattle.spec_tree.specs.Rights.{uses}
use Rattle.spec_tree.specs.Queues.{by_four}
use Rattle.spec_order.specs.Steps.{Item}
use Rattle.law_order_waits.specs.Played.{Played}
use Rattle.law_order_waits.specs.Popper.{first_popper}
use Rattle.law_order_queue.specs.Points.{Timeline}
use Rattle.spec_lists.specs.Maps.{All}
use Rattle.law_gaps.specs.Line.{vacant, Line, marks, Fits}
use Rattle.law_gaps.specs.Store.{Laid, timeline}
use Rattle.law_gaps.proofs.Pool.{mine}
use Rattle.law_links.specs.Linked.{Linked}
use Rattle.law_maps.specs.Meaning.{next_in, contents_in, store_in, Sized}
use Rattle.law_maps.specs.Kept.{Kept}
use Rattle.law_invariant.specs.Represents.{alive, of_tasks, queue_memory, uses_in, opened, Represents}
use Rattle.law_invariant.specs.Nexts.{Nexts, nexts_words}
use Rattle.law_invariant.specs.Laids.{Laids}

-- one number for each queue
unfoldable pub choose : ℕ → ℕ → ℕ → ℕ → ℕ → ℕ
choose a b c d q = pick (eqb q 0) a (pick (eqb q 1) b (pick (eqb q 2) c d))

pub record Parts (m : List ℕ) (T : List ℕ) (xs : List Item) (line : ℕ → Line) (holder : ℕ → ℕ) : Type 0 where
  pub laids : Laids (opened m) (store_in m 0) (queue_memory m) holder line
  pub first : (q : ℕ) → q < 4 → first_popper q xs ≡ some (holder q)
  pub marked : (q : ℕ) → q < 4 → marks (line q) ≡ T
  pub fits : (q : ℕ) → q < 4 → All (Fits (uses_in m q)) (line q)
  pub time : (q : ℕ) → q < 4 → Timeline q xs (timeline (contents_in m) (line q))
  pub bare : (q : ℕ) → q < 4 → (t : ℕ) → uses_in m q t ≡ false
      → ((queue_memory m q).children t ≡ vacant) × ((queue_memory m q).user t ≡ vacant) × ((queue_memory m q).right t ≡ vacant)

pub opened_single : (m : List ℕ) (s : ℕ) → opened m s ≤ 1
unfolding opened one pick
opened_single m s = go (is_opened m s)
  where
    go : (b : Bool) → pick b 1 0 ≤ 1
    go true = omega arith
    go false = omega arith

module _ (m : List ℕ) (xs : List Item) (r : Represents m xs) where
  abbrev pub holders : ℕ → ℕ
  holders = choose (r.queue 0 (omega arith)).holder (r.queue 1 (omega arith)).holder (r.queue 2 (omega arith)).holder (r.queue 3 (omega arith)).holder

  pub parts_of : Parts m r.tour xs r.line holders
  unfolding choose pick queue_memory of_tasks
  parts_of =
      record {
        laids = record {
          laid = by_four (λ q. Laid (mine (queue_memory m q).store (r.line q)) (queue_memory m q) (holders q) (r.line q))
              (r.queue 0 (omega arith)).laid (r.queue 1 (omega arith)).laid (r.queue 2 (omega arith)).laid (r.queue 3 (omega arith)).laid;
          shares = λ q i. refl;
          pool = r.pool;
        };
        first = by_four (λ q. first_popper q xs ≡ some (holders q))
            (r.queue 0 (omega arith)).first (r.queue 1 (omega arith)).first (r.queue 2 (omega arith)).first (r.queue 3 (omega arith)).first;
        marked = λ q i. (r.queue q i).marked;
        fits = λ q i. (r.queue q i).fits;
        time = λ q i. (r.queue q i).time;
        bare = λ q i. (r.queue q i).bare;
      }

pub of_parts : (m : List ℕ) (T : List ℕ) (xs : List Item) (line : ℕ → Line) (holder : ℕ → ℕ) → Linked m T xs → Played xs → Sized m
    → Nexts (Opened m) (next_in m) → Parts m T xs line holder → Represents m xs
of_parts m T xs line holder l p s n a =
    record {
      tour = T;
      linked = l;
      played = p;
      sized = s;
      line = line;
      queue = λ q i.
          record {
            holder = holder q;
            first = a.first q i;
            laid = a.laids.laid q i;
            marked = a.marked q i;
            fits = a.fits q i;
            time = a.time q i;
            bare = a.bare q i;
          };
      pool = a.laids.pool;
      nexts = nexts_words m s n;
    }

-- WHAT AN OPERATION KEEPS: which records are in use, who has a right, which segments are opened
module _ (m n : List ℕ) (k : Kept m n) where
  pub same_alive : alive n ≡ alive m
  unfolding alive both pick
  same_alive = fun_ext λ t. go t (ltb t 128) refl
    where
      go : (t : ℕ) (b : Bool) → ltb t 128 ≡ b → pick b (not (eqb (read n (task t STATUS)) FREE)) false ≡ pick b (not (eqb (read m (task t STATUS)) FREE)) false
      go t true e = ap (λ (x : ℕ). not (eqb x FREE)) (k.links t STATUS (ltb-true t 128 e) (omega arith))
      go t false e = refl

  pub same_uses : (q : ℕ) → uses_in n q ≡ uses_in m q
  unfolding uses_in both pick
  same_uses q = fun_ext λ t. go t (ltb t 128) refl
    where
      go : (t : ℕ) (b : Bool) → ltb t 128 ≡ b → pick b (uses (rights_in n t) q) false ≡ pick b (uses (rights_in m t) q) false
      go t true e = ap (λ (x : ℕ). uses x q) (k.links t RIGHTS (ltb-true t 128 e) (omega arith))
      go t false e = refl

  pub same_opened : opened n ≡ opened m
  unfolding opened
  same_opened = fun_ext λ s. ap (λ (x : ℕ). one (ltb s x)) k.number
