-- RULES 7 AND 9 of the paper's section 4.4, of all memory that represents program order: the order of the views with the
-- head and the tail of one linked list of segments. Rule 7 holds as amended here, where the two views differ;
-- Counterexamples.antt shows that they may be one.
use Rattle.std.specs.Prelude.{◌≡◌, refl, List, [], ◌∷◌, ◌++◌, ◌⊎◌, ℕ, ◌<◌}
use Rattle.std.proofs.Common.{ap, sym, ◌∙◌, subst, inl, inr, ⊎_elim, arith}
use Rattle.std.proofs.Math.Option.{Option, none, some}
use Rattle.spec_order.specs.Steps.{Item}
use Rattle.spec_lists.specs.Maps.{All, last_of, all_append}
use Rattle.law_gaps.specs.Line.{End, nonlocal, local, vacant, extent}
use Rattle.law_maps.specs.Meaning.{heads_in}
use Rattle.law_invariant.specs.Represents.{Represents}
use Rattle.law_paper_rules.specs.Order.{ViewName, queue, children, user, right, place_in, place, Before}
use Rattle.law_paper_rules.specs.Slots.{Slot, slot, slots}
use Rattle.law_paper_rules.proofs.Along.{Stands, slot_at, Falling, Below, Above, falling_before, falling_after}
use Rattle.law_paper_rules.specs.Words.{LinkedList, head_only, view_at, NotQueue, Current}
use Rattle.law_paper_rules.proofs.Words.{view_here, same_place, same_view, empty_or_stands, line_falls}
use Rattle.law_paper_rules.proofs.Spans.{CalmHere, Between, span}

module _ (m : List ℕ) (xs : List Item) (r : Represents m xs) (q : ℕ) (small : q < 4) where
  abbrev S : List Slot
  S = slots (r.line q)

  abbrev T : List ℕ
  T = r.tour

  -- places by the tour and by the words
  by_words : (v w : ViewName) → place_in T v < place_in T w → Before m v w
  by_words v w l = let a = same_place m xs r v in let b = same_place m xs r w in omega (arith, a, b, l)

  by_tour : (v w : ViewName) → Before m v w → place_in T v < place_in T w
  by_tour v w l = let a = same_place m xs r v in let b = same_place m xs r w in omega (arith, a, b, l)

  -- a queue view has no local tail
  no_queue_tail : (t : ℕ) (x : End) (z : ℕ) → view_at m q (queue t) ≡ extent x (local z) → ⊥
  no_queue_tail t x z = go (heads_in m q t)
    where
      go : (o : Option ℕ) → head_only o ≡ extent x (local z) → ⊥
      go none e = let u : ◌≡◌ {A = ℕ} 0 1 = cc in omega (arith, u)
      go (some s) e = let u : ◌≡◌ {A = ℕ} 0 1 = cc in omega (arith, u)

  pub tail_not_queue : (w : ViewName) (x : End) (z : ℕ) → view_at m q w ≡ extent x (local z) → NotQueue w
  tail_not_queue (queue t) x z e = no_queue_tail t x z e
  tail_not_queue (children t) x z e = tt
  tail_not_queue (user t) x z e = tt
  tail_not_queue (right t) x z e = tt

  spans : (v w : ViewName) → NotQueue v → LinkedList m q v w → (v ≡ w) ⊎ Between m xs r q small v w
  spans v w k l =
      span m xs r q small v w l.start l.rest l.head_end l.tail_end k (tail_not_queue w l.head_end (last_of l.start l.rest) l.tail_in)
      l.head_task
      l.tail_task l.head_in l.linked l.tail_in

  -- RULE 7, AMENDED. "If a linked list of segments is pointed to by the head pointer of view T1.v1 and by the tail pointer of
  -- view T2.v2, then T1.v1 < T2.v2 provided that v1 is not a queue view." It fails where head and tail are those of one view,
  -- and only there: no view stands before itself. Once the younger sibling that pushed has finished, the right view of the
  -- older one has both. Else v1 stands before v2: a list begins at the right view of a task, and its tail comes to lie only in
  -- views that follow.
  pub rule_7_amended : (v w : ViewName) → NotQueue v → LinkedList m q v w → (v ≡ w) ⊎ Before m v w
  rule_7_amended v w k l = ⊎_elim (λ e. inl e) (λ b. inr (by_words v w (follows b))) (spans v w k l)
    where
      follows : (b : Between m xs r q small v w) → place_in T v < place_in T w
      follows b =
          slot_at (Below T (place_in T w)) v (b.between ++ slot v b.chain ∷ b.earlier)
          (falling_before T b.later w b.last_chain (b.between ++ slot v b.chain ∷ b.earlier)
          (subst (Falling T) b.parts (line_falls m xs r q small)))
          (record { later = b.between; chain = b.chain; earlier = b.earlier; here = refl })

  -- BETWEEN v AND w, by places
  module _ (v w : ViewName) (b : Between m xs r q small v w) where
    abbrev Rest : List Slot
    Rest = b.between ++ slot v b.chain ∷ b.earlier

    abbrev Here : Slot → Type 0
    Here (slot x c) =
        place_in T v < place_in T x → place_in T x < place_in T w
        → (view_here m xs r q small x ≡ vacant) ⊎ (view_here m xs r q small x ≡ extent nonlocal nonlocal)

    falls : Falling T (b.later ++ slot w b.last_chain ∷ Rest)
    falls = subst (Falling T) b.parts (line_falls m xs r q small)

    rest_falls : (a : List Slot) → Falling T (a ++ slot w b.last_chain ∷ Rest) → Falling T Rest
    rest_falls [] f = f.1
    rest_falls (slot x c ∷ a) f = rest_falls a f.1

    above : (a : List Slot) → All (Above T (place_in T w)) a → All Here a
    above [] h = tt
    above (slot x c ∷ a) h = (λ f g. let t = h.0 in let z : ⊥ = omega (arith, t, g) in absurd z, above a h.1)

    below : (a : List Slot) → All (Below T (place_in T v)) a → All Here a
    below [] h = tt
    below (slot x c ∷ a) h = (λ f g. let t = h.0 in let z : ⊥ = omega (arith, t, f) in absurd z, below a h.1)

    inner : (a : List Slot) → All (CalmHere m xs r q small) a → All Here a
    inner [] h = tt
    inner (slot x c ∷ a) h = (λ f g. h.0.0, inner a h.1)

    all_here : All Here (b.later ++ slot w b.last_chain ∷ Rest)
    all_here =
        all_append Here b.later (slot w b.last_chain ∷ Rest) (above b.later (falling_after T b.later w b.last_chain Rest falls)) (
          λ f g. let z : ⊥ = omega (arith, g) in absurd z,
          all_append Here b.between (slot v b.chain ∷ b.earlier) (inner b.between b.calm) (
            λ f g. let z : ⊥ = omega (arith, f) in absurd z,
            below b.earlier (falling_before T b.between v b.chain b.earlier (rest_falls b.later falls)),
          ),
        )

    quiet_between : (u : ViewName) → Stands u S → place_in T v < place_in T u → place_in T u < place_in T w
        → (view_here m xs r q small u ≡ vacant) ⊎ (view_here m xs r q small u ≡ extent nonlocal nonlocal)
    quiet_between u p = slot_at Here u S (subst (All Here) (sym b.parts) all_here) p

  -- RULE 9. "For views T1.v1 and T2.v2 as in invariant 7, if v1 is not a queue view, then for any non-queue view v held by any
  -- task T, if T1.v1 < T.v < T2.v2, then v is a non-local view or ε." Between the head and the tail of a list every view
  -- that is not empty passes the pair of non-local ends on.
  pub rule_9 : (v w u : ViewName) → NotQueue v → LinkedList m q v w → NotQueue u → Current m u → Before m v u → Before m u w
      → (view_at m q u ≡ vacant) ⊎ (view_at m q u ≡ extent nonlocal nonlocal)
  rule_9 v w u k l ku cu i j =
      ⊎_elim (λ e. inl e) (λ p. ⊎_elim (λ e. let a = ap (place m) e in let z : ⊥ = omega (arith, a, i, j) in absurd z) (λ b. found b p) (spans v w k l))
      (empty_or_stands m xs r q small u ku cu)
    where
      found : Between m xs r q small v w → Stands u S → (view_at m q u ≡ vacant) ⊎ (view_at m q u ≡ extent nonlocal nonlocal)
      found b p =
          let e = sym (same_view m xs r q small u ku cu) in
          ⊎_elim (λ n. inl (e ∙ n)) (λ n. inr (e ∙ n)) (quiet_between v w b u p (by_tour v u i) (by_tour u w j))
