-- A LINKED LIST OF SEGMENTS has its head in one view and its tail in another, or in the same one; what lies between.
use Rattle.std.specs.Prelude.{◌≡◌, refl, List, [], ◌∷◌, ◌++◌, ◌⊎◌, ℕ, ◌<◌, ◌≤◌}
use Rattle.std.proofs.Common.{ap, sym, ◌∙◌, subst, append_assoc, inl, inr, ⊎_elim, arith}
use Rattle.std.proofs.Math.Option.{Option, none, some}
use Rattle.spec_lists.specs.Counting.{occurrences}
use Rattle.spec_lists.specs.Maps.{All, last_of}
use Rattle.law_gaps.specs.Line.{End, local, extent, first_chain}
use Rattle.law_gaps.specs.Store.{LinkedFrom, Linked, Memory}
use Rattle.law_gaps.proofs.Frames.{clash}
use Rattle.spec_order.specs.Steps.{Item}
use Rattle.law_maps.specs.Meaning.{next_in, contents_in}
use Rattle.law_invariant.specs.Represents.{queue_memory, of_tasks, Represents}
use Rattle.law_paper_rules.specs.Order.{ViewName}
use Rattle.law_paper_rules.specs.Slots.{Slot, slot, slots, chains, chain_in, LinkedSlot, linked_slots, same_slot, NoRight, Ends, ends_in, Calm, Open}
use Rattle.law_paper_rules.specs.Slots.{EachTail, each_tail, tail_at, each_head}
use Rattle.law_paper_rules.proofs.Along.{Stands, slot_at}
use Rattle.law_paper_rules.specs.Words.{view_at, NotQueue, Current}
use Rattle.law_paper_rules.proofs.Words.{same_view, empty_or_stands, segments_once}

-- a list of links is determined by where it begins
pub linked_same : (next : ℕ → Option ℕ) (s : ℕ) (d e : List ℕ) → LinkedFrom next s d → LinkedFrom next s e → d ≡ e
linked_same next s [] [] h k = refl
linked_same next s [] (u ∷ e) h k = let a : none ≡ some u = sym h ∙ k.0 in let z : ◌≡◌ {A = ℕ} 0 1 = cc in absurd (omega (arith, z))
linked_same next s (t ∷ d) [] h k = let a : none ≡ some t = sym k ∙ h.0 in let z : ◌≡◌ {A = ℕ} 0 1 = cc in absurd (omega (arith, z))
linked_same next s (t ∷ d) (u ∷ e) h k =
    let a : some t ≡ some u = sym h.0 ∙ k.0 in
    let b : u ≡ t = cc in
    let i = linked_same next t d e h.1 (subst (λ (x : ℕ). LinkedFrom next x e) b k.1) in
    cc

module _ (m : List ℕ) (xs : List Item) (r : Represents m xs) (q : ℕ) (small : q < 4) where
  abbrev S : List Slot
  S = slots (r.line q)

  abbrev M : Memory
  M = queue_memory m q

  abbrev first : List ℕ
  first = first_chain (r.line q)

  abbrev pub CalmHere : Slot → Type 0
  CalmHere = Calm M.children M.user M.right

  abbrev OpenHere : List Slot → ℕ → Type 0
  OpenHere = Open M.children M.user M.right first

  pub tails_say : EachTail M.children M.user M.right first S
  tails_say = each_tail M.children M.user M.right (r.queue q small).laid.views

  -- a view that is not empty stands in the line
  pub full_stands : (v : ViewName) (x y : End) → NotQueue v → Current m v → view_at m q v ≡ extent x y → Stands v S
  full_stands v x y k u e = ⊎_elim (λ n. clash (view_at m q v) n e) (λ w. w) (empty_or_stands m xs r q small v k u)

  -- a local head is the first segment of the view's chain
  pub head_chain : (v : ViewName) (s : ℕ) (y : End) → NotQueue v → Current m v → view_at m q v ≡ extent (local s) y → (w : Stands v S)
      → (d : List ℕ) × (w.chain ≡ s ∷ d)
  head_chain v s y k u e w =
      slot_at _ v S (each_head M.children M.user M.right (r.queue q small).laid.views) w s y (same_view m xs r q small v k u ∙ e)

  -- which is linked
  chain_linked : (v : ViewName) (w : Stands v S) → Linked (next_in m) w.chain
  unfolding queue_memory of_tasks
  chain_linked v w = slot_at (LinkedSlot (next_in m)) v S (linked_slots (next_in m) (contents_in m) (r.line q) (r.queue q small).laid.held.chains.good) w

  -- a local tail ends a chain
  pub tail_chain : (w : ViewName) (x : End) (z : ℕ) → NotQueue w → Current m w → view_at m q w ≡ extent x (local z) → (p : Stands w S)
      → (NoRight w × OpenHere p.earlier z) ⊎ Ends p.chain z
  tail_chain w x z k u e p =
      tail_at M.children M.user M.right first p.later (slot w p.chain) p.earlier
      (subst (EachTail M.children M.user M.right first) p.here tails_say) x z (same_view m xs r q small w k u ∙ e)

  -- The views v and w with the head and the tail of one list: they are one view, or v stands before w and between them only
  -- non-local and empty views.
  pub record Between (v w : ViewName) : Type 0 where
    pub later : List Slot
    pub between : List Slot
    pub earlier : List Slot
    pub last_chain : List ℕ
    pub chain : List ℕ
    pub parts : S ≡ later ++ slot w last_chain ∷ (between ++ slot v chain ∷ earlier)
    pub calm : All CalmHere between

  -- in the first chain and in a later one no segment stands
  pub not_both : (z : ℕ) → 0 < occurrences z first → 0 < occurrences z (chains S) → ⊥
  not_both z a b = let o = segments_once m xs r q small z in omega (arith, a, b, o)

  pub slots_once : (z : ℕ) → occurrences z (chains S) ≤ 1
  slots_once z = let o = segments_once m xs r q small z in omega (arith, o)

  -- two views of the line whose chains have a segment in common
  pub one_view : (z : ℕ) (v w : ViewName) (a : Stands v S) (b : Stands w S) → 0 < occurrences z a.chain → 0 < occurrences z b.chain → v ≡ w
  one_view z v w a b i j =
      (same_slot z a.later b.later a.earlier b.earlier v w a.chain b.chain (sym a.here ∙ b.here) i j
      (subst (λ (l : List Slot). occurrences z (chains l) ≤ 1) a.here (slots_once z))).2

  module _ (v w : ViewName) (s : ℕ) (d : List ℕ) (x y : End) (kv : NotQueue v) (kw : NotQueue w) (uv : Current m v) (uw : Current m w)
      (hv : view_at m q v ≡ extent (local s) y) (linked : LinkedFrom (next_in m) s d) (hw : view_at m q w ≡ extent x (local (last_of s d))) where
    abbrev z : ℕ
    z = last_of s d

    at_v : Stands v S
    at_v = full_stands v (local s) y kv uv hv

    at_w : Stands w S
    at_w = full_stands w x (local z) kw uw hw

    v_ends : Ends at_v.chain z
    v_ends =
        let c = head_chain v s y kv uv hv at_v in
        let l = subst (Linked (next_in m)) c.1 (chain_linked v at_v) in
        subst (λ (k : List ℕ). Ends k z) (sym c.1) (ap (last_of s) (linked_same (next_in m) s c.0 d l linked))

    v_has : 0 < occurrences z at_v.chain
    v_has = ends_in at_v.chain z v_ends

    among : 0 < occurrences z (chains S)
    among = subst (λ (l : List Slot). 0 < occurrences z (chains l)) (sym at_v.here) (chain_in z at_v.later v at_v.chain at_v.earlier v_has)

    opened_at : OpenHere at_w.earlier z → Between v w
    opened_at (inl o) = absurd (not_both z (ends_in first z o.1) among)
    opened_at (inr o) =
        record {
          later = at_w.later;
          between = o.0;
          earlier = o.3;
          last_chain = at_w.chain;
          chain = o.2;
          parts = subst (λ (n : ViewName). S ≡ at_w.later ++ slot w at_w.chain ∷ (o.0 ++ slot n o.2 ∷ o.3)) same whole;
          calm = o.5;
        }
      where
        whole : S ≡ at_w.later ++ slot w at_w.chain ∷ (o.0 ++ slot o.1 o.2 ∷ o.3)
        whole = at_w.here ∙ ap (λ (e : List Slot). at_w.later ++ slot w at_w.chain ∷ e) o.4

        there : Stands o.1 S
        there =
            record {
              later = at_w.later ++ slot w at_w.chain ∷ o.0;
              chain = o.2;
              earlier = o.3;
              here = whole ∙ sym (append_assoc at_w.later (slot w at_w.chain ∷ o.0) (slot o.1 o.2 ∷ o.3));
            }

        same : o.1 ≡ v
        same = one_view z o.1 v there at_v (ends_in o.2 z o.6) v_has

    pub span : (v ≡ w) ⊎ Between v w
    span =
        ⊎_elim
        (λ t. inr (opened_at t.1))
        (λ e. inl (one_view z v w at_v at_w v_has (ends_in at_w.chain z e)))
        (tail_chain w x z kw uw hw at_w)
