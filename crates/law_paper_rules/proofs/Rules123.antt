-- RULES 1, 2 AND 3 of the paper's section 4.4, of all memory that represents program order.
use Rattle.std.specs.Prelude.{◌≡◌, refl, true, false, List, ◌∷◌, ◌⊎◌, ℕ, ◌<◌}
use Rattle.std.proofs.Common.{ap, sym, ◌∙◌, subst, inl, inr, ⊎_elim, arith}
use Rattle.std.proofs.Math.Option.{Option, none, some, some-injective}
use Rattle.spec_lists.specs.Counting.{occurrences, occurs_here, equal?}
use Rattle.spec_lists.specs.Sums.{total_term}
use Rattle.spec_layout.specs.Layout.{RIGHTS, rights_of as rights_in}
use Rattle.spec_tree.specs.Rights.{uses, pops as mayPop}
use Rattle.spec_rules.specs.Contents.{decode}
use Rattle.spec_rules.specs.Rules.{Holder, Held}
use Rattle.spec_outcomes.specs.Waits.{blocked, child_pops}
use Rattle.spec_order.specs.Steps.{Task, Item, spot, number_of, rights_of}
use Rattle.spec_order.specs.Waits.{blocked as orderBlocked, child_pops as orderChildPops}
use Rattle.law_order.specs.Items.{In, in_split}
use Rattle.law_order_waits.specs.Played.{Played}
use Rattle.law_order_waits.specs.Popper.{first_popper}
use Rattle.law_order_waits.specs.Poppers.{popper_says, free_first}
use Rattle.spec_lists.specs.Maps.{put, put_same, put_other}
use Rattle.law_gaps.specs.Line.{nonlocal, local, vacant, extent, first_chain}
use Rattle.law_gaps.specs.Store.{head_of}
use Rattle.law_gaps.proofs.Names.{count_parts}
use Rattle.law_links.specs.Linked.{word_is, unfinished_spot}
use Rattle.law_links.specs.Waits.{same_rights, same_blocked, same_child_pops}
use Rattle.law_maps.specs.Meaning.{heads_in}
use Rattle.law_invariant.specs.Represents.{Represents}
use Rattle.law_invariant_rules.specs.Heads.{holder, holder_busy, holder_uses, first_segment, first_is, first_opened}
use Rattle.law_invariant.specs.Parts.{opened_single}
use Rattle.law_invariant_rules.specs.Segments.{held, pool_total}
use Rattle.law_invariant_rules.specs.Free.{free_count}
use Rattle.law_paper_rules.specs.Order.{queue, user}
use Rattle.law_paper_rules.specs.Slots.{slots, each_user}
use Rattle.law_paper_rules.proofs.Along.{Stands, slot_at}
use Rattle.law_paper_rules.specs.Words.{view_at, head_only}
use Rattle.law_paper_rules.proofs.Words.{busy, same_head, same_view, empty_or_stands}

-- RULE 2. "At any one time, for a given hyperqueue, there is exactly one queue view with a local head pointer. This view
-- is accessible by the single task with pop privileges that is allowed to consume data." A spawn hands the queue view to
-- the first child that may pop, a finish to the next task that may: so it is always with the task that may pop and whose
-- spot stands first in program order.
pub record OneQueueView (m : List ℕ) (q : ℕ) : Type 0 where
  pub task : ℕ
  pub segment : ℕ
  pub current : Holder (decode m) task
  pub head : heads_in m q task ≡ some segment
  -- no other task has a queue view with a head
  pub alone : (t : ℕ) → Holder (decode m) t → (t ≡ task → ⊥) → heads_in m q t ≡ none
  pub may : mayPop (rights_in m task) q ≡ true
  -- a task with pop right on q that neither an older sibling nor a child keeps from popping is this one
  pub consumer : (t : ℕ) → Holder (decode m) t → mayPop (rights_in m t) q ≡ true → blocked m t ≡ false → child_pops m t q ≡ false → t ≡ task

module _ (m : List ℕ) (xs : List Item) (r : Represents m xs) (q : ℕ) (small : q < 4) where
  -- what the words have as queue heads
  head_is : (t : ℕ) → Holder (decode m) t → heads_in m q t ≡ put (λ y. none) (holder m xs r q small) (head_of (first_chain (r.line q))) t
  head_is t u = sym (same_head m xs r q small t u) ∙ (r.queue q small).laid.held.head t

  holder_has : heads_in m q (holder m xs r q small) ≡ some (first_segment m xs r q small)
  holder_has =
      head_is (holder m xs r q small) (inr (holder_busy m xs r q small))
      ∙ put_same (λ y. none) (holder m xs r q small) (head_of (first_chain (r.line q)))
      ∙ ap head_of (first_is m xs r q small).1

  -- a queue view with a head is that of the holder
  pub queue_holder : (t : ℕ) → Holder (decode m) t → (s : ℕ) → heads_in m q t ≡ some s → t ≡ holder m xs r q small
  queue_holder t u s e = ⊎_elim (λ i. i) (λ n. absurd (other n)) (equal? t (holder m xs r q small))
    where
      other : (t ≡ holder m xs r q small → ⊥) → ⊥
      other n =
          let a : none ≡ some s = sym (head_is t u ∙ put_other (λ y. none) (holder m xs r q small) (head_of (first_chain (r.line q))) t n) ∙ e in
          let z : ◌≡◌ {A = ℕ} 0 1 = cc in
          omega (arith, z)

  -- and its head the first segment of the first chain
  pub queue_head : (t : ℕ) → Holder (decode m) t → (s : ℕ) → heads_in m q t ≡ some s → (d : List ℕ) × (first_chain (r.line q) ≡ s ∷ d)
  queue_head t u s e =
      let i = some-injective _ _ (sym holder_has ∙ ap (heads_in m q) (sym (queue_holder t u s e)) ∙ e) in
      let w = first_is m xs r q small in
      (w.0, w.1 ∙ ap (λ (x : ℕ). x ∷ w.0) i)

  pub holds_right : (t : ℕ) → Holder (decode m) t → (s : ℕ) × (heads_in m q t ≡ some s) → uses (rights_in m t) q ≡ true
  holds_right t u w =
      ap (λ (x : ℕ). uses (rights_in m x) q) (queue_holder t u w.0 w.1)
      ∙ ap (λ (x : ℕ). uses x q) (sym (word_is m (holder m xs r q small) RIGHTS))
      ∙ holder_uses m xs r q small

  -- RULE 1. "Every hyperqueue holds at least one segment. .. The last segment is not deleted when it is empty."
  -- The chain of the first gap is never empty, and its first segment, which the queue view names, is held.
  pub rule_1 : (s : ℕ) × Held (decode m) s × (t : ℕ) × Holder (decode m) t × (heads_in m q t ≡ some s)
  rule_1 = (first_segment m xs r q small, (first_opened m xs r q small, not_free), holder m xs r q small, inr (holder_busy m xs r q small), holder_has)
    where
      not_free : occurrences (first_segment m xs r q small) (decode m).free ≡ 0
      not_free =
          let g = first_segment m xs r q small in
          let w = first_is m xs r q small in
          let a = pool_total m xs r g in
          let b = opened_single m g in
          let d = total_term 4 (held m xs r g) q small in
          let e = count_parts g (r.queue q small).laid.views in
          let f = ap (occurrences g) w.1 in
          let h = occurs_here g g w.0 refl in
          let i = free_count m r.sized g in
          omega (arith, a, b, d, e, f, h, i)

  rights_of_lem : (s : Task) → In (spot s) xs → rights_in m (number_of s) ≡ rights_of s
  rights_of_lem s i = same_rights m r.tour xs r.played r.linked s i

  holder_may : mayPop (rights_in m (holder m xs r q small)) q ≡ true
  holder_may =
      let w = popper_says q xs (holder m xs r q small) (r.queue q small).first in
      ap (λ (t : ℕ). mayPop (rights_in m t) q) (sym w.2) ∙ ap (λ (x : ℕ). mayPop x q) (rights_of_lem w.0 w.1) ∙ w.3

  free_holds : (s : Task) → In (spot s) xs → mayPop (rights_in m (number_of s)) q ≡ true → blocked m (number_of s) ≡ false → child_pops m (number_of s) q ≡ false
      → number_of s ≡ holder m xs r q small
  free_holds s i p b d =
      let w = in_split (spot s) xs i in
      let e = w.2 in
      let first =
      free_first w.0 w.1 s q small (subst Played e r.played) (ap (λ (x : ℕ). mayPop x q) (sym (rights_of_lem s i)) ∙ p)
      (ap (orderBlocked (number_of s)) (sym e) ∙ sym (same_blocked m r.tour xs r.played r.linked s i) ∙ b)
      (ap (orderChildPops q (number_of s)) (sym e) ∙ sym (same_child_pops m r.tour xs r.played r.linked q s i) ∙ d) in
      some-injective _ _ (sym first ∙ ap (first_popper q) (sym e) ∙ (r.queue q small).first)

  pub rule_2 : OneQueueView m q
  rule_2 =
      record {
        task = holder m xs r q small;
        segment = first_segment m xs r q small;
        current = inr (holder_busy m xs r q small);
        head = holder_has;
        alone = λ t u n. head_is t u ∙ put_other (λ y. none) (holder m xs r q small) (head_of (first_chain (r.line q))) t n;
        may = holder_may;
        consumer = λ t u p b d.
            let w = unfinished_spot m r.tour xs r.linked t (busy m xs r t u) in
            let e = sym w.2 in
            e
            ∙ free_holds w.0 w.1 (ap (λ (x : ℕ). mayPop (rights_in m x) q) w.2 ∙ p) (ap (blocked m) w.2 ∙ b)
            (ap (λ (x : ℕ). child_pops m x q) w.2 ∙ d);
      }

  -- RULE 3. "The tail pointer in the queue view and the head pointer in the user view are always non-local unless if these
  -- views are empty. Space may be saved by not storing these pointers." A push that finds an empty user view gives the head
  -- of its new segment away at once, to the view just before. The queue view's tail is not stored.
  pub rule_3 : (t : ℕ) → Holder (decode m) t
      → ((view_at m q (queue t) ≡ vacant) ⊎ ((s : ℕ) × (view_at m q (queue t) ≡ extent (local s) nonlocal)))
      × ((view_at m q (user t) ≡ vacant) ⊎ ((s : ℕ) × (view_at m q (user t) ≡ extent nonlocal (local s))))
  rule_3 t u = (by_head (heads_in m q t), ⊎_elim (λ e. inl e) by_slot (empty_or_stands m xs r q small (user t) tt u))
    where
      by_head : (o : Option ℕ) → (head_only o ≡ vacant) ⊎ ((s : ℕ) × (head_only o ≡ extent (local s) nonlocal))
      by_head none = inl refl
      by_head (some s) = inr (s, refl)

      by_slot : Stands (user t) (slots (r.line q)) → (view_at m q (user t) ≡ vacant) ⊎ ((s : ℕ) × (view_at m q (user t) ≡ extent nonlocal (local s)))
      by_slot w =
          let e = sym (same_view m xs r q small (user t) tt u) in
          ⊎_elim (λ i. inl (e ∙ i)) (λ i. inr (i.0, e ∙ i.1)) (slot_at _ (user t) (slots (r.line q)) (each_user _ _ _ (r.queue q small).laid.views) w)
