-- RULE 8 of the paper's section 4.4, of all memory that represents program order: how far the linked list from the queue
-- head reaches. It holds as amended here; Counterexamples.antt shows that it is false as written.
use Rattle.std.specs.Prelude.{◌≡◌, refl, true, ℕ, ◌<◌, ◌≤◌}
use Rattle.std.proofs.Common.{ap, sym, ◌∙◌, ⊎_elim, arith, lt-ltb}
use Rattle.std.proofs.Math.Path.{subst}
use Rattle.std.proofs.Math.Option.{Option, none, some}
use mathlib.Core.List.{List, [], ◌∷◌, ◌++◌, append_assoc}
use Rattle.spec_words.specs.Words.{true_both}
use Rattle.spec_lists.specs.Counting.{occurrences}
use Rattle.spec_tree.specs.Rights.{uses}
use Rattle.spec_rules.specs.Contents.{decode}
use Rattle.spec_rules.specs.Rules.{Holder}
use Rattle.spec_order.specs.Steps.{Item}
use Rattle.spec_lists.specs.Maps.{All, last_of, all_append}
use Rattle.spec_layout.specs.Layout.{rights_of as rights_in}
use Rattle.law_gaps.specs.Line.{local, extent, Line, first_chain, base, exited, entered, pass}
use Rattle.law_gaps.specs.Store.{Linked, Chain}
use Rattle.law_maps.specs.Meaning.{heads_in, next_in, contents_in}
use Rattle.law_invariant.specs.Represents.{queue_memory, of_tasks, uses_in, Represents}
use Rattle.law_paper_rules.specs.Order.{ViewName, queue, children, user, right, place_in, place}
use Rattle.law_paper_rules.specs.Slots.{Slot, slot, slots, chains, chain_in, NoRight, Ends, ends_in}
use Rattle.law_paper_rules.proofs.Along.{Stands, slot_at, Falling, Above, falling_after}
use Rattle.law_paper_rules.specs.Words.{LinkedList, head_only, NotQueue}
use Rattle.law_paper_rules.proofs.Words.{busy, same_place, stands, line_falls}
use Rattle.law_paper_rules.proofs.Spans.{linked_same, CalmHere, full_stands, tail_chain, not_both}
use Rattle.law_paper_rules.proofs.Rules123.{queue_head, holds_right}
use Rattle.law_paper_rules.proofs.Rules79.{tail_not_queue}

-- The first chain of a line is linked.
first_linked : (next : ℕ → Option ℕ) (contents : ℕ → List ℕ) (l : Line) → All (Chain next contents) l → Linked next (first_chain l)
first_linked next contents [] h = tt
first_linked next contents (base c ∷ l) h = h.0.0
first_linked next contents (exited t ∷ l) h = first_linked next contents l h.1
first_linked next contents (entered t c ∷ l) h = first_linked next contents l h.1
first_linked next contents (pass x ∷ l) h = first_linked next contents l h.1

module _ (m : List ℕ) (xs : List Item) (r : Represents m xs) (q : ℕ) (small : q < 4) where
  abbrev S : List Slot
  S = slots (r.line q)

  abbrev T : List ℕ
  T = r.tour

  -- THE LIST FROM THE QUEUE HEAD ends before every right view of a task with a right to the queue.
  module _ (t : ℕ) (w : ViewName) (l : LinkedList m q (queue t) w) where
    abbrev z : ℕ
    z = last_of l.start l.rest

    not_queue : NotQueue w
    not_queue = tail_not_queue m xs r q small w l.head_end z l.tail_in

    at_w : Stands w S
    at_w = full_stands m xs r q small w l.head_end (local z) not_queue l.tail_task l.tail_in

    -- t has the queue view, and its head is the first segment of the first chain
    first_is_it : (d : List ℕ) × (first_chain (r.line q) ≡ l.start ∷ d)
    first_is_it = go (heads_in m q t) refl l.head_in
      where
        go : (o : Option ℕ) → heads_in m q t ≡ o → head_only o ≡ extent (local l.start) l.tail_end → (d : List ℕ) × (first_chain (r.line q) ≡ l.start ∷ d)
        go none e i = let u : ◌≡◌ {A = ℕ} 0 1 = cc in absurd (omega (arith, u))
        go (some s) e i =
            let k : s ≡ l.start = cc in
            let w = queue_head m xs r q small t l.head_task s e in
            (w.0, w.1 ∙ ap (λ (x : ℕ). x ∷ w.0) k)

    first_ends : Ends (first_chain (r.line q)) z
    unfolding queue_memory of_tasks
    first_ends =
        let c = first_is_it in
        let k = subst (Linked (next_in m)) c.1 (first_linked (next_in m) (contents_in m) (r.line q) (r.queue q small).laid.held.chains.good) in
        subst (λ (d : List ℕ). Ends d z) (sym c.1) (ap (last_of l.start) (linked_same (next_in m) l.start c.0 l.rest k l.linked))

    not_later : 0 < occurrences z (chains S) → ⊥
    not_later p = not_both m xs r q small z (ends_in (first_chain (r.line q)) z first_ends) p

    -- only quiet views follow from the queue head to w, and none of them is a right view
    quiet_first : NoRight w × All (CalmHere m xs r q small) at_w.earlier
    quiet_first =
        ⊎_elim
        (λ p. (p.0, ⊎_elim (λ o. o.0) (λ o. absurd (not_later (later_has o))) p.1))
        (λ e. absurd (not_later (own_has e)))
        (tail_chain m xs r q small w l.head_end z not_queue l.tail_task l.tail_in at_w)
      where
        own_has : Ends at_w.chain z → 0 < occurrences z (chains S)
        own_has e =
            subst (λ (k : List Slot). 0 < occurrences z (chains k)) (sym at_w.here)
            (chain_in z at_w.later w at_w.chain at_w.earlier (ends_in at_w.chain z e))

        later_has : (b : List Slot) × (n : ViewName) × (c : List ℕ) × (f : List Slot) × (at_w.earlier ≡ b ++ slot n c ∷ f) × All (CalmHere m xs r q small)
            b × Ends c z
            → 0 < occurrences z (chains S)
        later_has o =
            subst (λ (k : List Slot). 0 < occurrences z (chains k))
            (append_assoc at_w.later (slot w at_w.chain ∷ o.0) (slot o.1 o.2 ∷ o.3)
            ∙ sym (at_w.here ∙ ap (λ (e : List Slot). at_w.later ++ slot w at_w.chain ∷ e) o.4))
            (chain_in z (at_w.later ++ slot w at_w.chain ∷ o.0) o.1 o.2 o.3 (ends_in o.2 z o.6))

    abbrev RightLater : Slot → Type 0
    RightLater (slot (queue u) c) = Unit {0}
    RightLater (slot (children u) c) = Unit {0}
    RightLater (slot (user u) c) = Unit {0}
    RightLater (slot (right u) c) = place_in T w < place_in T (right u)

    not_right : (v : ViewName) (c : List ℕ) → NoRight v → RightLater (slot v c)
    not_right (queue u) c n = tt
    not_right (children u) c n = tt
    not_right (user u) c n = tt
    not_right (right u) c n = absurd n

    calm_later : (a : List Slot) → All (CalmHere m xs r q small) a → All RightLater a
    calm_later [] h = tt
    calm_later (slot v c ∷ a) h = (not_right v c h.0.1, calm_later a h.1)

    above_later : (a : List Slot) → All (Above T (place_in T w)) a → All RightLater a
    above_later [] h = tt
    above_later (slot (queue u) c ∷ a) h = (tt, above_later a h.1)
    above_later (slot (children u) c ∷ a) h = (tt, above_later a h.1)
    above_later (slot (user u) c ∷ a) h = (tt, above_later a h.1)
    above_later (slot (right u) c ∷ a) h = (h.0, above_later a h.1)

    all_later : All RightLater S
    all_later =
        subst (All RightLater) (sym at_w.here)
        (all_append RightLater at_w.later (slot w at_w.chain ∷ at_w.earlier)
        (above_later at_w.later (falling_after T at_w.later w at_w.chain at_w.earlier (subst (Falling T) at_w.here (line_falls m xs r q small))))
        (not_right w at_w.chain quiet_first.0, calm_later at_w.earlier quiet_first.1))

    ends_early : (u : ℕ) → Holder (decode m) u → uses_in m q u ≡ true → place_in T w < place_in T (right u)
    ends_early u c b = slot_at RightLater (right u) S all_later (stands m xs r q small (right u) tt c b)

  -- RULE 8, AMENDED. "For views T1.v1 and T2.v2 as in invariant 7, it holds that T2.v2 < T1.v1 provided that v1 is a queue view
  -- and T1 does not have both push and pop privileges. This invariant shows that a consumer task can only observe values that
  -- have been pushed by tasks preceding it in program order." What holds is T2.v2 < T1.user or T2.v2 = T1.user, with either
  -- right or both: a spawn hands the user view on with the queue view, so the tail may lie in the consumer's own user view,
  -- and the queue view stands before that. It holds of the user view of every task with a right to the queue: the first
  -- list ends before the first spot.
  pub rule_8_amended : (t u : ℕ) (w : ViewName) → LinkedList m q (queue t) w → Holder (decode m) u → uses (rights_in m u) q ≡ true
      → place m w ≤ place m (user u)
  unfolding place_in uses_in
  rule_8_amended t u w l c b =
      let a = ends_early t w l u c (true_both (lt-ltb u 128 (busy m xs r u c).0) b) in
      let d = same_place m xs r w in
      let e = same_place m xs r (user u) in
      omega (arith, a, d, e)

  -- of the consumer itself
  pub rule_8_consumer : (t : ℕ) (w : ViewName) → LinkedList m q (queue t) w → place m w ≤ place m (user t)
  rule_8_consumer t w l = rule_8_amended t t w l l.head_task (holds_right m xs r q small t l.head_task (some_head l))
    where
      some_head : LinkedList m q (queue t) w → (s : ℕ) × (heads_in m q t ≡ some s)
      some_head l = go (heads_in m q t) refl l.head_in
        where
          go : (o : Option ℕ) → heads_in m q t ≡ o → head_only o ≡ extent (local l.start) l.tail_end → (s : ℕ) × (heads_in m q t ≡ some s)
          go none e i = let u : ◌≡◌ {A = ℕ} 0 1 = cc in absurd (omega (arith, u))
          go (some s) e i = (s, e)
