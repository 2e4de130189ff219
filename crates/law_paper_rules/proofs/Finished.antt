-- THE FINISH OF THE TOP writes the top's status last, after what a sync does. That word is part of no view, no segment, no link
-- and no right: all that the rules look at is as it was before.
use Rattle.std.specs.Prelude.{◌≡◌, Bool, not, leb, ltb, eqb, drop}
use Rattle.std.proofs.Math.Path.{refl, ap, ap₂, fun_ext}
use Rattle.std.proofs.Common.{sym, ◌∙◌, subst, inl, inr, ⊎_elim, arith}
use mathlib.Core.List.{List, [], ◌∷◌}
use Prim.Native.Nat.{ℕ, zero, suc, ◌+◌, ◌-◌, ◌*◌, ◌<◌, ◌≤◌}
use Rattle.std.proofs.Math.ListN.{take}
use Rattle.std.proofs.Math.Seq.{take-set-le}
use Rattle.std.proofs.lemmas.List.{drop-set-add}
use Rattle.spec_words.specs.Words.{load, store, load_other, pick}
use Rattle.spec_lists.specs.Counting.{occurrences, equal?}
use Rattle.spec_layout.specs.Layout.{NONE, FREE_SEGMENTS, STATUS, RIGHTS, PARENT, OLDER, YOUNGEST, FINISHED, QUEUE_HEADS, HEADS, TAILS, CHILDREN}
use Rattle.spec_layout.specs.Layout.{USER, RIGHT, Field, number_word, free_segments, task, next, rights_of as rights_in, address, read, write, record_of}
use Rattle.spec_layout.proofs.Frame.{record_word}
use Rattle.spec_tree.specs.Rights.{pops, shares_pop}
use Rattle.spec_tree.specs.Tour.{END, MARKS, entering, after, tour, sibling}
use Rattle.spec_rules.specs.Contents.{decode}
use Rattle.spec_rules.specs.Rules.{Holder, Held}
use Rattle.spec_outcomes.specs.Waits.{blocked, child_pops}
use Rattle.spec_order.specs.Steps.{Item}
use Rattle.law_links.specs.Linked.{word_is}
use Rattle.law_maps.specs.Meaning.{next_in, heads_in, view_in}
use Rattle.law_maps.specs.Reads.{next_same_at, head_same_at, view_same_at}
use Rattle.law_invariant.specs.Represents.{Represents}
use Rattle.law_paper_rules.specs.Order.{ViewName, queue, children, user, right, place_in, place}
use Rattle.law_paper_rules.specs.Words.{head_only, view_at}

-- What the rules look at is in the words n as it is in the words m.
pub record SameViews (m n : List ℕ) : Type 0 where
  pub views : (q : ℕ) (v : ViewName) → view_at n q v ≡ view_at m q v
  pub heads : (q t : ℕ) → heads_in n q t ≡ heads_in m q t
  pub nexts : (s : ℕ) → next_in n s ≡ next_in m s
  pub places : (v : ViewName) → place n v ≡ place m v
  pub rights : (t : ℕ) → rights_in n t ≡ rights_in m t
  pub block : (t : ℕ) → blocked n t ≡ blocked m t
  pub child : (t q : ℕ) → child_pops n t q ≡ child_pops m t q
  pub held : (s : ℕ) → Held (decode m) s → Held (decode n) s
  pub holding : (t : ℕ) → Holder (decode m) t → Holder (decode n) t
  pub held_by : (t : ℕ) → Holder (decode n) t → Holder (decode m) t

pub itself : (m : List ℕ) → SameViews m m
itself m =
    record {
      views = λ q v. refl;
      heads = λ q t. refl;
      nexts = λ s. refl;
      places = λ v. refl;
      rights = λ t. refl;
      block = λ t. refl;
      child = λ t q. refl;
      held = λ s h. h;
      holding = λ t h. h;
      held_by = λ t h. h;
    }

-- Walks over task records f and g that differ in the status words alone.
module _ (f g : ℕ → List ℕ) (same : (t k : ℕ) → 0 < k → load (g t) k ≡ load (f t) k) where
  after_same : (x : ℕ) → after g x ≡ after f x
  unfolding after
  after_same x =
      ap₂ (λ (a b : ℕ). pick (ltb x 128) a b) (ap (entering x) (same x YOUNGEST (omega arith)))
      (ap₂ entering (same (x - 128) PARENT (omega arith)) (same (x - 128) OLDER (omega arith)))

  tour_same : (k x : ℕ) → tour k g x ≡ tour k f x
  unfolding tour
  tour_same zero x = refl
  tour_same (suc k) x = ap (λ (l : List ℕ). pick (leb END x) [] (x ∷ l)) (tour_same k (after g x) ∙ ap (tour k f) (after_same x))

  sibling_same : (k : ℕ) (a : ℕ → Bool) (c : ℕ) → sibling k a g c ≡ sibling k a f c
  unfolding sibling
  sibling_same zero a c = refl
  sibling_same (suc k) a c =
      ap (λ (y : ℕ). pick (leb 128 c) NONE (pick (a c) c y)) (sibling_same k a (load (g c) OLDER) ∙ ap (sibling k a f) (same c OLDER (omega arith)))

module _ (m : List ℕ) where
  abbrev n : List ℕ
  n = write m (task 0 STATUS) FINISHED

  same_word : (f : Field) → (address f ≡ 1472 → ⊥) → read n f ≡ read m f
  unfolding read write address
  same_word f k = load_other m 1472 (address f) FINISHED k

  pub finished_next : (s : ℕ) → next_in n s ≡ next_in m s
  unfolding address
  finished_next s = next_same_at m n s (λ l. same_word (next s) (λ e. omega (arith, e, l)))

  task_word : (t k : ℕ) → 0 < k → read n (task t k) ≡ read m (task t k)
  unfolding address
  task_word t k l = same_word (task t k) (λ e. omega (arith, e, l))

  kind_same : (q k t : ℕ) → view_in n q k t ≡ view_in m q k t
  kind_same q k t =
      view_same_at m n q k t (λ a b d. (task_word t (HEADS + k * 4 + q) (omega arith), task_word t (TAILS + k * 4 + q) (omega arith)))

  head_same : (q t : ℕ) → heads_in n q t ≡ heads_in m q t
  head_same q t = head_same_at m n q t (λ a b. task_word t (QUEUE_HEADS + q) (omega arith))

  pub finished_view : (q : ℕ) (v : ViewName) → view_at n q v ≡ view_at m q v
  finished_view q (queue t) = ap head_only (head_same q t)
  finished_view q (children t) = kind_same q CHILDREN t
  finished_view q (user t) = kind_same q USER t
  finished_view q (right t) = kind_same q RIGHT t

  links : (t k : ℕ) → 0 < k → load (record_of n t) k ≡ load (record_of m t) k
  links t k l = record_word n t k ∙ task_word t k l ∙ sym (record_word m t k)

  place_same : (v : ViewName) → place n v ≡ place m v
  unfolding place
  place_same v = ap (λ (T : List ℕ). place_in T v) (tour_same (record_of m) (record_of n) links MARKS 0)

  rights_same : (t : ℕ) → rights_in n t ≡ rights_in m t
  rights_same t = task_word t RIGHTS (omega arith)

  some_sibling : (a b : ℕ → Bool) (x y : ℕ) → ((c : ℕ) → b c ≡ a c) → y ≡ x
      → not (eqb (sibling 128 b (record_of n) y) NONE) ≡ not (eqb (sibling 128 a (record_of m) x) NONE)
  some_sibling a b x y e i =
      ap (λ (c : ℕ). not (eqb c NONE))
      (sibling_same (record_of m) (record_of n) links 128 b y ∙ ap₂ (λ (h : ℕ → Bool) (c : ℕ). sibling 128 h (record_of m) c) (fun_ext e) i)

  block_same : (t : ℕ) → blocked n t ≡ blocked m t
  unfolding blocked
  block_same t =
      some_sibling (λ c. shares_pop (rights_in m c) (rights_in m t)) (λ c. shares_pop (rights_in n c) (rights_in n t)) _ _
      (λ c. ap₂ shares_pop (rights_same c) (rights_same t)) (task_word t OLDER (omega arith))

  child_same : (t q : ℕ) → child_pops n t q ≡ child_pops m t q
  unfolding child_pops
  child_same t q =
      some_sibling (λ c. pops (rights_in m c) q) (λ c. pops (rights_in n c) q) _ _ (λ c. ap (λ (x : ℕ). pops x q) (rights_same c))
      (task_word t YOUNGEST (omega arith))

  -- the top has views, finished or not, and every other task has its status
  status_same : (t : ℕ) → (t ≡ 0 → ⊥) → read n (task t STATUS) ≡ read m (task t STATUS)
  unfolding address
  status_same t k = same_word (task t STATUS) (λ e. k (omega (arith, e)))

  holder_on : (t : ℕ) → Holder (decode m) t → Holder (decode n) t
  holder_on t (inl e) = inl e
  holder_on t (inr u) =
      ⊎_elim (λ e. inl e) (λ k. inr (u.0, word_is n t STATUS ∙ status_same t k ∙ sym (word_is m t STATUS) ∙ u.1)) (equal? t 0)

  holder_back : (t : ℕ) → Holder (decode n) t → Holder (decode m) t
  holder_back t (inl e) = inl e
  holder_back t (inr u) =
      ⊎_elim (λ e. inl e) (λ k. inr (u.0, word_is m t STATUS ∙ sym (status_same t k) ∙ sym (word_is n t STATUS) ∙ u.1)) (equal? t 0)

  -- the stack of free segments stands in front of the task records
  free_same : read m free_segments ≤ 256 → (decode n).free ≡ (decode m).free
  unfolding read write address store
  free_same l =
      ap (λ (h : ℕ). take h (drop FREE_SEGMENTS n)) (same_word free_segments (λ e. omega (arith, e)))
      ∙ ap (take (read m free_segments)) (drop-set-add 64 m 1408 FINISHED)
      ∙ take-set-le (read m free_segments) (drop FREE_SEGMENTS m) 1408 FINISHED (omega (arith, l))

  number_same : (decode n).number ≡ (decode m).number
  unfolding address
  number_same = same_word number_word (λ e. omega (arith, e))

  pub finished_same : (xs : List Item) → Represents m xs → SameViews m n
  finished_same xs r =
      record {
        views = finished_view;
        heads = head_same;
        nexts = finished_next;
        places = place_same;
        rights = rights_same;
        block = block_same;
        child = child_same;
        held = λ s h. (subst (λ (k : ℕ). s < k) (sym number_same) h.0, ap (occurrences s) (free_same few) ∙ h.1);
        holding = holder_on;
        held_by = holder_back;
      }
    where
      few : read m free_segments ≤ 256
      few = let a = r.sized.free_height_lem in let b = r.sized.number_range.1 in omega (arith, a, b)
