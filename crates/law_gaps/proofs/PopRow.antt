-- POP: the first value of the first gap goes from the front of the timeline.
use Rattle.std.specs.Prelude.{◌≡◌, ℕ, ◌≤◌}
use Rattle.std.proofs.Math.Path.{refl}
use Rattle.std.proofs.Common.{ap, sym, ◌∙◌, subst, arith}
use Rattle.std.proofs.Math.Option.{Option, none, some}
use mathlib.Core.List.{List, [], ◌∷◌, ◌++◌, append_assoc}
use Rattle.spec_lists.specs.Counting.{one_yes, occurrences, occurs_append}
use Rattle.law_order_queue.specs.Points.{Point, value, values}
use Rattle.spec_lists.specs.Maps.{All, put, put_same, put_other, agree_put, all_behind}
use Rattle.law_gaps.specs.Line.{base, Line, segments}
use Rattle.law_gaps.specs.Store.{Store, Linked, Chain, Segments, Memory, Laid, values_in, timeline}
use Rattle.law_gaps.specs.Lines.{count_segments, first_behind}
use Rattle.law_gaps.specs.Outline.{outline, outline_behind, same_once}
use Rattle.law_gaps.proofs.Frames.{no_base}
use Rattle.law_gaps.specs.Moves.{holding, popped_to, popped}
use Rattle.law_gaps.proofs.ViewRows.{pop_views}
use Rattle.law_gaps.proofs.SegmentRows.{pop_off_later, pop_off_chain, pop_last, pop_more, pop_free}
use Rattle.law_gaps.proofs.Timelines.{in_keep, timeline_append, timeline_keep}
use Rattle.law_gaps.proofs.Heads.{only_set}
use Rattle.law_gaps.proofs.Stores.{own_apart}
use Rattle.law_gaps.proofs.After.{closed_behind, After}

module _ (own : ℕ → ℕ) (single : (x : ℕ) → own x ≤ 1) (m : Memory) (holder : ℕ) (b : Line) (s : ℕ) where
  abbrev contents₀ : ℕ → List ℕ
  contents₀ = m.store.contents

  -- the line with c as the chain of the first gap
  abbrev First : List ℕ → Line
  First c = b ++ (base c ∷ [])

  -- what is left of the timeline
  abbrev Rest : List ℕ → List ℕ → List Point
  Rest vs c = values vs ++ (values_in contents₀ c ++ timeline contents₀ b)

  was : (c vs : List ℕ) (v : ℕ) → contents₀ s ≡ v ∷ vs → timeline contents₀ (First (s ∷ c)) ≡ value v ∷ Rest vs c
  was c vs v e =
      timeline_append contents₀ b (base (s ∷ c) ∷ [])
      ∙ rw e (ap (λ (l : List Point). value v ∷ l) (append_assoc (values vs) (values_in contents₀ c) (timeline contents₀ b)))

  is : (c vs : List ℕ) → Laid own m holder (First (s ∷ c)) → timeline (put contents₀ s vs) (First (s ∷ c)) ≡ Rest vs c
  is c vs r =
      timeline_append (put contents₀ s vs) b (base (s ∷ c) ∷ [])
      ∙ rw (
        put_same contents₀ s vs,
        in_keep contents₀ (put contents₀ s vs) c (agree_put contents₀ s vs c chain),
        timeline_keep contents₀ (put contents₀ s vs) b (agree_put contents₀ s vs (segments b) later),
      )
      (append_assoc (values vs) (values_in contents₀ c) (timeline contents₀ b))
    where
      chain : All (λ y. y ≡ s → ⊥) c
      chain = pop_off_chain own single m.store.next contents₀ m.store.free b s c vs r.held.chains

      later : All (λ y. y ≡ s → ⊥) (segments b)
      later = pop_off_later own single m.store.next contents₀ m.store.free b s c vs r.held.chains

  owned : (c : List ℕ) → Laid own m holder (First (s ∷ c)) → 1 ≤ own s
  unfolding occurrences
  owned c r = omega (arith, r.held.chains.once s, count_segments s b (base (s ∷ c) ∷ []), occurs_append s c [], one_yes s s refl)

  chained : (c : List ℕ) → Laid own m holder (First (s ∷ c)) → Linked m.store.next (s ∷ c)
  chained c r = (all_behind (Chain m.store.next contents₀) b (base (s ∷ c) ∷ []) r.held.chains.good).0.0

  -- the memory with another store; what a pop leaves where the next of s is n
  abbrev With : Store → Memory
  With st = record { children = m.children; user = m.user; right = m.right; store = st }

  abbrev Popped : List ℕ → Option ℕ → Memory
  Popped vs n = With (popped_to vs n holder s m.store)

  -- the segment stays in the chain
  stays : (c vs : List ℕ) → Laid own m holder (First (s ∷ c)) → Segments own m.store.next (put contents₀ s vs) m.store.free (First (s ∷ c))
      → After own m.store (With (holding s vs m.store)) holder (First (s ∷ c)) (Rest vs c)
  stays c vs r chains = record {
    line = First (s ∷ c);
    laid = record { views = r.views; dist = r.dist; held = record { chains = chains; head = r.held.head }; closed = r.closed };
    outlined = refl;
    points = is c vs r;
    kept = λ x k. (refl, put_other contents₀ s vs x (own_apart own x s k (owned c r)));
  }

  -- or is freed, and t is the first
  leaves : (t : ℕ) (c : List ℕ) → Laid own m holder (First (s ∷ (t ∷ c)))
      → After own m.store (Popped [] (some t)) holder (First (s ∷ (t ∷ c))) (Rest [] (t ∷ c))
  leaves t c r = record {
    line = First (t ∷ c);
    laid = record {
      views = pop_views m.children m.user m.right b s t c r.views;
      dist = same_once (First (t ∷ c)) (First (s ∷ (t ∷ c))) outlines r.dist;
      held = record {
        chains = pop_free own single m.store.next contents₀ m.store.free b s t c r.held.chains;
        head = rw (first_behind b (base (t ∷ c) ∷ []) (no_base b (base (s ∷ (t ∷ c))) [] r.views))
            (only_set m.store.heads holder _ (some t) r.held.head);
      };
      closed = closed_behind b (base (s ∷ (t ∷ c))) [] (base (t ∷ c) ∷ []) (λ x. absurd x) r.closed;
    };
    outlined = outlines;
    points = sym without ∙ is (t ∷ c) [] r;
    kept = λ x k. (
      put_other m.store.next s (some 0) x (own_apart own x s k (owned (t ∷ c) r)),
      put_other contents₀ s [] x (own_apart own x s k (owned (t ∷ c) r)),
    );
  }
    where
      outlines : outline (First (t ∷ c)) ≡ outline (First (s ∷ (t ∷ c)))
      outlines = outline_behind b (base (t ∷ c) ∷ []) (base (s ∷ (t ∷ c)) ∷ []) refl

      without : timeline (put contents₀ s []) (First (s ∷ (t ∷ c))) ≡ timeline (put contents₀ s []) (First (t ∷ c))
      without =
          timeline_append (put contents₀ s []) b (base (s ∷ (t ∷ c)) ∷ [])
          ∙ (rw (put_same contents₀ s []) (sym (timeline_append (put contents₀ s []) b (base (t ∷ c) ∷ []))))

  by_next : (vs c : List ℕ) (n : Option ℕ) → m.store.next s ≡ n → Laid own m holder (First (s ∷ c))
      → After own m.store (Popped vs n) holder (First (s ∷ c)) (Rest vs c)
  by_next (v ∷ vs) c n e r = stays c (v ∷ vs) r (pop_more own single m.store.next contents₀ m.store.free b s c (v ∷ vs) r.held.chains v vs refl)
  by_next [] [] none e r = stays [] [] r (pop_last own single m.store.next contents₀ m.store.free b s [] [] r.held.chains refl refl)
  by_next [] [] (some t) e r = let k = chained [] r in let z : ◌≡◌ {A = ℕ} 0 1 = cc in absurd (omega (arith, z))
  by_next [] (t ∷ c) none e r = let k = (chained (t ∷ c) r).0 in let z : ◌≡◌ {A = ℕ} 0 1 = cc in absurd (omega (arith, z))
  by_next [] (t ∷ c) (some u) e r =
      let k = (chained (t ∷ c) r).0 in
      let z : t ≡ u = cc in
      subst (λ u. After own m.store (Popped [] (some u)) holder (First (s ∷ (t ∷ c))) (Rest [] (t ∷ c))) z (leaves t c r)

  -- The first segment s holds v ∷ vs: v was in front of the timeline, and is not there any more.
  pub pop_row : (c : List ℕ) (v : ℕ) (vs : List ℕ) → contents₀ s ≡ v ∷ vs → Laid own m holder (First (s ∷ c))
      → (timeline contents₀ (First (s ∷ c)) ≡ value v ∷ Rest vs c) × After own m.store (popped holder s vs m) holder (First (s ∷ c)) (Rest vs c)
  unfolding popped
  pop_row c v vs e r = (was c vs v e, by_next vs c (m.store.next s) refl r)
