-- RULE 6 of the paper's section 4.4, of all memory that represents program order: at most two views name a segment by an end,
-- one by its head and one by its tail.
use Rattle.std.specs.Prelude.{◌≡◌, refl, List, [], ◌∷◌, ◌++◌, ◌⊎◌, ℕ, ◌<◌}
use Rattle.std.proofs.Common.{ap, sym, ◌∙◌, subst, append_assoc, inl, inr, ⊎_elim, arith}
use Rattle.std.proofs.Math.Option.{Option, none, some}
use Rattle.spec_lists.specs.Counting.{occurrences, occurs_here, equal?, below?}
use Rattle.spec_order.specs.Steps.{Item}
use Rattle.spec_lists.specs.Maps.{All, all_append}
use Rattle.law_gaps.specs.Line.{End, local, extent, first_chain, segments}
use Rattle.law_gaps.specs.Store.{Memory}
use Rattle.law_maps.specs.Meaning.{heads_in, store_in}
use Rattle.law_invariant.specs.Represents.{queue_memory, opened, Represents}
use Rattle.law_invariant.specs.Parts.{parts_of, opened_single}
use Rattle.law_invariant.specs.Laids.{apart}
use Rattle.law_gaps.proofs.Names.{count_parts}
use Rattle.law_paper_rules.specs.Order.{ViewName, queue, children, user, right, place_in}
use Rattle.law_paper_rules.specs.Slots.{Slot, slot, slots, chains, chain_in, chains_later, ends_in, Open}
use Rattle.law_paper_rules.proofs.Along.{Stands, slot_at, Falling, Below, Above, falling_before, falling_after}
use Rattle.law_paper_rules.proofs.Tails.{NoTail, EachOnly, each_only, only_at}
use Rattle.law_paper_rules.specs.Words.{head_only, view_at, NotQueue, Current}
use Rattle.law_paper_rules.proofs.Words.{view_here, same_view, line_falls, segments_once}
use Rattle.law_paper_rules.proofs.Spans.{full_stands, head_chain, tail_chain, not_both, one_view}
use Rattle.law_paper_rules.proofs.Rules123.{queue_holder, queue_head}
use Rattle.law_paper_rules.proofs.Rules79.{tail_not_queue}

module _ (m : List ℕ) (xs : List Item) (r : Represents m xs) where
  -- ONE QUEUE
  module _ (q : ℕ) (small : q < 4) where
    abbrev S : List Slot
    S = slots (r.line q)

    abbrev T : List ℕ
    T = r.tour

    abbrev M : Memory
    M = queue_memory m q

    -- a queue view with a head
    some_head : (t s : ℕ) (x : End) → view_at m q (queue t) ≡ extent (local s) x → heads_in m q t ≡ some s
    some_head t s x = go (heads_in m q t)
      where
        go : (o : Option ℕ) → head_only o ≡ extent (local s) x → o ≡ some s
        go none e = let u : ◌≡◌ {A = ℕ} 0 1 = cc in absurd (omega (arith, u))
        go (some k) e = cc

    -- a segment in the first chain, or in a later one
    first_has : (t s : ℕ) (x : End) → Current m (queue t) → view_at m q (queue t) ≡ extent (local s) x → 0 < occurrences s (first_chain (r.line q))
    first_has t s x u e =
        let w = queue_head m xs r q small t u s (some_head t s x e) in
        let a = ap (occurrences s) w.1 in
        let b = occurs_here s s w.0 refl in
        omega (arith, a, b)

    chain_has : (v : ViewName) (s : ℕ) (x : End) → NotQueue v → Current m v → view_at m q v ≡ extent (local s) x
        → (w : Stands v S) × (0 < occurrences s w.chain)
    chain_has v s x k u e =
        let w = full_stands m xs r q small v (local s) x k u e in
        let d = head_chain m xs r q small v s x k u e w in
        let a = ap (occurrences s) d.1 in
        let b = occurs_here s s d.0 refl in
        (w, omega (arith, a, b))

    in_chains : (v : ViewName) (s : ℕ) (w : Stands v S) → 0 < occurrences s w.chain → 0 < occurrences s (chains S)
    in_chains v s w p = subst (λ (l : List Slot). 0 < occurrences s (chains l)) (sym w.here) (chain_in s w.later v w.chain w.earlier p)

    mixed : (t : ℕ) (v : ViewName) (s : ℕ) (x y : End) → NotQueue v → Current m (queue t) → Current m v → view_at m q (queue t) ≡ extent (local s) x
        → view_at m q v ≡ extent (local s) y → ⊥
    mixed t v s x y k u c e f = let w = chain_has v s y k c f in not_both m xs r q small s (first_has t s x u e) (in_chains v s w.0 w.1)

    -- two heads
    apart_heads : (v w : ViewName) (s : ℕ) (x y : End) → NotQueue v → NotQueue w → Current m v → Current m w → view_at m q v ≡ extent (local s) x
        → view_at m q w ≡ extent (local s) y → v ≡ w
    apart_heads v w s x y k l c d e f =
        let a = chain_has v s x k c e in let b = chain_has w s y l d f in one_view m xs r q small s v w a.0 b.0 a.1 b.1

    same_heads : (v w : ViewName) (s : ℕ) (x y : End) → Current m v → Current m w → view_at m q v ≡ extent (local s) x → view_at m q w ≡ extent (local s) y
        → v ≡ w
    same_heads (queue t) (queue u) s x y c d e f =
        ap queue (queue_holder m xs r q small t c s (some_head t s x e) ∙ sym (queue_holder m xs r q small u d s (some_head u s y f)))
    same_heads (queue t) (children u) s x y c d e f = absurd (mixed t (children u) s x y tt c d e f)
    same_heads (queue t) (user u) s x y c d e f = absurd (mixed t (user u) s x y tt c d e f)
    same_heads (queue t) (right u) s x y c d e f = absurd (mixed t (right u) s x y tt c d e f)
    same_heads (children t) (queue u) s x y c d e f = absurd (mixed u (children t) s y x tt d c f e)
    same_heads (user t) (queue u) s x y c d e f = absurd (mixed u (user t) s y x tt d c f e)
    same_heads (right t) (queue u) s x y c d e f = absurd (mixed u (right t) s y x tt d c f e)
    same_heads (children t) (children u) s x y c d e f = apart_heads (children t) (children u) s x y tt tt c d e f
    same_heads (children t) (user u) s x y c d e f = apart_heads (children t) (user u) s x y tt tt c d e f
    same_heads (children t) (right u) s x y c d e f = apart_heads (children t) (right u) s x y tt tt c d e f
    same_heads (user t) (children u) s x y c d e f = apart_heads (user t) (children u) s x y tt tt c d e f
    same_heads (user t) (user u) s x y c d e f = apart_heads (user t) (user u) s x y tt tt c d e f
    same_heads (user t) (right u) s x y c d e f = apart_heads (user t) (right u) s x y tt tt c d e f
    same_heads (right t) (children u) s x y c d e f = apart_heads (right t) (children u) s x y tt tt c d e f
    same_heads (right t) (user u) s x y c d e f = apart_heads (right t) (user u) s x y tt tt c d e f
    same_heads (right t) (right u) s x y c d e f = apart_heads (right t) (right u) s x y tt tt c d e f

    -- two tails: neither stands before the other
    module _ (w : ViewName) (p : Stands w S) where
      falls : Falling T (p.later ++ slot w p.chain ∷ p.earlier)
      falls = subst (Falling T) p.here (line_falls m xs r q small)

      abbrev NotBefore : ℕ → Slot → Type 0
      NotBefore z (slot u c) = (y : End) → view_here m xs r q small u ≡ extent y (local z) → place_in T u < place_in T w → ⊥

      none_after : (z : ℕ) (a : List Slot) → All (Above T (place_in T w)) a → All (NotBefore z) a
      none_after z [] h = tt
      none_after z (slot u c ∷ a) h = (λ y e l. let b = h.0 in omega (arith, b, l), none_after z a h.1)

      none_before : (z : ℕ) (a : List Slot) → All (NoTail M.children M.user M.right z) a → All (NotBefore z) a
      none_before z [] h = tt
      none_before z (slot u c ∷ a) h = (λ y e l. h.0 y e, none_before z a h.1)

      not_before : (v : ViewName) (z : ℕ) (x y : End) → Stands v S → view_here m xs r q small v ≡ extent x (local z)
          → view_here m xs r q small w ≡ extent y (local z)
          → place_in T v < place_in T w → ⊥
      not_before v z x y o e f =
          slot_at (NotBefore z) v S
          (subst (All (NotBefore z)) (sym p.here)
          (all_append (NotBefore z) p.later (slot w p.chain ∷ p.earlier)
          (none_after z p.later (falling_after T p.later w p.chain p.earlier falls))
          (λ k i l. omega (arith, l), none_before z p.earlier (only z y f))))
          o x e
        where
          only : (z : ℕ) (y : End) → view_here m xs r q small w ≡ extent y (local z) → All (NoTail M.children M.user M.right z) p.earlier
          only =
              only_at M.children M.user M.right p.later (slot w p.chain) p.earlier
              (subst (EachOnly M.children M.user M.right) p.here
              (each_only M.children M.user M.right (r.queue q small).laid.views (segments_once m xs r q small)))

      -- a view at the same place is the same view
      abbrev SameIfThere : Slot → Type 0
      SameIfThere (slot u c) = place_in T u ≡ place_in T w → u ≡ w

      same_after : (a : List Slot) → All (Above T (place_in T w)) a → All SameIfThere a
      same_after [] h = tt
      same_after (slot u c ∷ a) h = (λ e. let b = h.0 in let z : ⊥ = omega (arith, b, e) in absurd z, same_after a h.1)

      same_before : (a : List Slot) → All (Below T (place_in T w)) a → All SameIfThere a
      same_before [] h = tt
      same_before (slot u c ∷ a) h = (λ e. let b = h.0 in let z : ⊥ = omega (arith, b, e) in absurd z, same_before a h.1)

      same_there : (v : ViewName) → Stands v S → place_in T v ≡ place_in T w → v ≡ w
      same_there v o =
          slot_at SameIfThere v S
          (subst (All SameIfThere) (sym p.here)
          (all_append SameIfThere p.later (slot w p.chain ∷ p.earlier)
          (same_after p.later (falling_after T p.later w p.chain p.earlier falls))
          (λ e. refl, same_before p.earlier (falling_before T p.later w p.chain p.earlier falls))))
          o

    same_tails : (v w : ViewName) (z : ℕ) (x y : End) → Current m v → Current m w → view_at m q v ≡ extent x (local z) → view_at m q w ≡ extent y (local z)
        → v ≡ w
    same_tails v w z x y c d e f =
        let k = tail_not_queue m xs r q small v x z e in
        let l = tail_not_queue m xs r q small w y z f in
        let o = full_stands m xs r q small v x (local z) k c e in
        let p = full_stands m xs r q small w y (local z) l d f in
        let i = same_view m xs r q small v k c ∙ e in
        let j = same_view m xs r q small w l d ∙ f in
        ⊎_elim
        (λ g. absurd (not_before w p v z x y o i j g))
        (λ g. ⊎_elim (λ h. absurd (not_before v o w z y x p j i h)) (λ h. same_there w p v o (omega (arith, g, h))) (below? (place_in T w) (place_in T v)))
        (below? (place_in T v) (place_in T w))

    -- what a view names is a segment of the queue
    of_queue : (s : ℕ) → (0 < occurrences s (first_chain (r.line q))) ⊎ (0 < occurrences s (chains S)) → 0 < occurrences s (segments (r.line q))
    of_queue s p =
        let a = count_parts s (r.queue q small).laid.views in
        let b = ap (occurrences s) (chains_later (r.line q)) in
        ⊎_elim (λ i. omega (arith, a, i)) (λ i. omega (arith, a, b, i)) p

    head_held : (v : ViewName) (s : ℕ) (x : End) → Current m v → view_at m q v ≡ extent (local s) x → 0 < occurrences s (segments (r.line q))
    head_held (queue t) s x c e = of_queue s (inl (first_has t s x c e))
    head_held (children t) s x c e = of_queue s (inr (let w = chain_has (children t) s x tt c e in in_chains (children t) s w.0 w.1))
    head_held (user t) s x c e = of_queue s (inr (let w = chain_has (user t) s x tt c e in in_chains (user t) s w.0 w.1))
    head_held (right t) s x c e = of_queue s (inr (let w = chain_has (right t) s x tt c e in in_chains (right t) s w.0 w.1))

    tail_held : (v : ViewName) (z : ℕ) (x : End) → Current m v → view_at m q v ≡ extent x (local z) → 0 < occurrences z (segments (r.line q))
    tail_held v z x c e =
        let k = tail_not_queue m xs r q small v x z e in
        let p = full_stands m xs r q small v x (local z) k c e in
        of_queue z (⊎_elim (λ o. opened_in p o.1) (λ i. inr (in_chains v z p (ends_in p.chain z i))) (tail_chain m xs r q small v x z k c e p))
      where
        opened_in : (p : Stands v S) → Open M.children M.user M.right (first_chain (r.line q)) p.earlier z
            → (0 < occurrences z (first_chain (r.line q))) ⊎ (0 < occurrences z (chains S))
        opened_in p (inl o) = inl (ends_in (first_chain (r.line q)) z o.1)
        opened_in p (inr o) =
            inr
            (subst (λ (l : List Slot). 0 < occurrences z (chains l))
            (append_assoc p.later (slot v p.chain ∷ o.0) (slot o.1 o.2 ∷ o.3)
            ∙ sym (p.here ∙ ap (λ (l : List Slot). p.later ++ slot v p.chain ∷ l) o.4))
            (chain_in z (p.later ++ slot v p.chain ∷ o.0) o.1 o.2 o.3 (ends_in o.2 z o.6)))

  -- a segment is of one queue
  one_queue : (q p s : ℕ) → q < 4 → p < 4 → 0 < occurrences s (segments (r.line q)) → 0 < occurrences s (segments (r.line p)) → q ≡ p
  one_queue q p s i j a b =
      ⊎_elim
      (λ e. e)
      (λ n.
      let d = apart (opened m) (opened_single m) (store_in m 0) r.line (parts_of m xs r).laids.pool q p i j n s in
      let z : ⊥ = omega (arith, a, b, d) in
      absurd z)
      (equal? q p)

  -- RULE 6. "A consequence of invariants 4 and 5 is that any segment may be shared by at most two tasks, of which one is a
  -- consumer and one is a producer, as a consumer requires access through the head pointer and a producer requires access
  -- through the tail pointer." Two views with the same head are one view of one queue, and so are two views with the same
  -- tail: so at most two tasks share a segment, and where two do, one names it by a head and the other by a tail
  -- (`at_most_two`, `head_and_tail` in AfterCalls.antt). That is the rule if the consumer is the task that names the segment
  -- by a head. It is false if the consumer must have pop right (Counterexamples.antt): the head of a list that no consumer can
  -- reach yet lies in a right view. The paper's own Figure 4 (a) has such a view: Task 2, with push right only, has the head of
  -- Task 3's new segment in its right view (section 4.3).
  pub rule_6_heads : (q p : ℕ) → q < 4 → p < 4 → (v w : ViewName) (s : ℕ) (x y : End) → Current m v → Current m w
      → view_at m q v ≡ extent (local s) x → view_at m p w ≡ extent (local s) y → (q ≡ p) × (v ≡ w)
  rule_6_heads q p i j v w s x y c d e f =
      let k = one_queue q p s i j (head_held q i v s x c e) (head_held p j w s y d f) in
      (k, same_heads q i v w s x y c d e (ap (λ (n : ℕ). view_at m n w) k ∙ f))

  pub rule_6_tails : (q p : ℕ) → q < 4 → p < 4 → (v w : ViewName) (s : ℕ) (x y : End) → Current m v → Current m w
      → view_at m q v ≡ extent x (local s) → view_at m p w ≡ extent y (local s) → (q ≡ p) × (v ≡ w)
  rule_6_tails q p i j v w s x y c d e f =
      let k = one_queue q p s i j (tail_held q i v s x c e) (tail_held p j w s y d f) in
      (k, same_tails q i v w s x y c d e (ap (λ (n : ℕ). view_at m n w) k ∙ f))
