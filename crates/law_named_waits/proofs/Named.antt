-- Tasks with names and rights that may fall wait as the timed line asks: `named_waits`.
use Rattle.std.specs.Prelude.{◌≡◌, Bool, true, false, ◌⊎◌, ℕ}
use Rattle.std.proofs.Math.Path.{refl, sym}
use Rattle.std.proofs.Common.{ap, ◌∙◌}
use Rattle.std.proofs.lemmas.Bool.{false≢true}
use mathlib.Core.List.{List, [], ◌∷◌}
use Rattle.std.proofs.Math.Logic.{inl, inr, ⊎_elim}
use Rattle.spec_words.specs.Words.{either, both_true, either_true, neither, neither_true, refuted, true_left, true_right}
use Rattle.spec_lists.specs.Maps.{All}
use Rattle.spec_order.specs.Steps.{Name}
use Rattle.spec_order.specs.Waits.{is_child, is_older}
use Rattle.spec_line.specs.Line.{Item, value, spot, finished, gave, Action, Search, free, seeking, found, putting}
use Rattle.law_timed_line.specs.Times.{Some}
use Rattle.law_timed_line.specs.Walks.{Awaits, Waits}
use Rattle.law_named_waits.specs.Names.{above, above_self, above_parent, child_apart}
use Rattle.law_named_waits.specs.Named as named

-- names, rights held now, pop rights shared, the next step is sync or return
module _ {S : Type 0} (name : S → Name) (pushes pops : S → ℕ → Bool) (shares : S → S → Bool) (awaits : S → Bool) where
  abbrev halts : S → S → Bool
  halts = named.halts name pushes pops shares awaits

  abbrev stops : Search → S → Bool
  stops = named.stops name pushes pops shares awaits

  abbrev counts : Search → S → S → Bool
  counts = named.counts name pushes pops shares awaits

  abbrev Pushing : S → ℕ → Type 0
  Pushing = named.Pushing name pushes pops shares awaits

  abbrev Halts : S → S → Type 0
  Halts = named.Halts name pushes pops shares awaits

  abbrev Above : S → S → Type 0
  Above = named.Above name pushes pops shares awaits

  abbrev Passing : Search → S → Item S → Type 0
  Passing = named.Passing name pushes pops shares awaits

  abbrev Like : S → S → Type 0
  Like = named.Like name pushes pops shares awaits

  abbrev Kin : S → Item S → Type 0
  Kin = named.Kin name pushes pops shares awaits

  abbrev Lasts : S → Item S → Type 0
  Lasts = named.Lasts name pushes pops shares awaits

  abbrev Holds : S → ℕ → Item S → Type 0
  Holds = named.Holds name pushes pops shares awaits

  abbrev Kept : S → List (Item S) → Type 0
  Kept = named.Kept name pushes pops shares awaits

  abbrev Still : Search → S → Item S → Type 0
  Still = named.Still name pushes pops shares awaits

  abbrev Stays : Search → S → Item S → Type 0
  Stays = named.Stays name pushes pops shares awaits

  no : {b : Bool} → b ≡ false → b ≡ true → ⊥
  no e d = false≢true (sym e ∙ d)

  -- a task is gone past exactly where its finish would not count
  stops_not : (m : Search) (u s : S) → Passing m u (spot s) → stops m s ≡ false
  unfolding named.stops
  stops_not free u s p = refl
  stops_not (seeking b q) u s p = neither (refuted _ p.0.0) (refuted _ p.0.1)
  stops_not (found b q v) u s p = refuted _ p.0
  stops_not (putting q v) u s p = refuted _ p.0

  pub past_counts : (m : Search) (u s : S) → Passing m u (spot s) → counts m u s ≡ false
  unfolding named.counts
  past_counts m u s p = neither (refuted _ p.1.0) (neither (refuted _ p.1.1) (stops_not m u s p))

  pub counts_past : (m : Search) (u s : S) → counts m u s ≡ false → Passing m u (spot s)
  unfolding named.counts named.stops
  counts_past m u s e = go m c.1
    where
      a : (above (name s) (name u) ≡ false) × (either (halts s u) (stops m s) ≡ false)
      a = neither_true _ _ e

      c : (halts s u ≡ false) × (stops m s ≡ false)
      c = neither_true _ _ a.1

      go : (n : Search) → stops n s ≡ false → Passing n u (spot s)
      go free d = (tt, (no a.0, no c.0))
      go (seeking b q) d = let i = neither_true _ _ d in ((no i.0, no i.1), (no a.0, no c.0))
      go (found b q v) d = (no d, (no a.0, no c.0))
      go (putting q v) d = (no d, (no a.0, no c.0))

  module _ (u s t : S) (l : Like s t) where
    like_above : above (name t) (name u) ≡ above (name s) (name u)
    like_above = ap (λ (p : Name). above p (name u)) l.same

    like_halts : halts t u ≡ halts s u
    unfolding named.halts
    like_halts = rw (l.same, l.share u) refl

    -- the later task stops no more than the earlier one
    like_less : (n : Search) → stops n t ≡ true → stops n s ≡ true
    unfolding named.stops
    like_less free e = e
    like_less (seeking b q) e = ⊎_elim (λ d. true_left _ (sym (l.pop q) ∙ d)) (λ d. true_right _ (l.less q d)) (either_true _ _ e)
    like_less (found b q v) e = sym (l.pop q) ∙ e
    like_less (putting q v) e = sym (l.pop q) ∙ e

    pub less_counts : (n : Search) → counts n u t ≡ true → counts n u s ≡ true
    unfolding named.counts
    less_counts n e =
        ⊎_elim (λ d. true_left _ (sym like_above ∙ d))
        (λ d. true_right _ (⊎_elim (λ h. true_left _ (sym like_halts ∙ h)) (λ h. true_right _ (like_less n h)) (either_true _ _ d)))
        (either_true _ _ e)

    -- what stops whatever the push rights are
    pub keeps_above : (n : Search) → above (name s) (name u) ≡ true → counts n u t ≡ true
    unfolding named.counts
    keeps_above n e = true_left _ (like_above ∙ e)

    pub keeps_halts : (n : Search) → halts s u ≡ true → counts n u t ≡ true
    unfolding named.counts
    keeps_halts n e = true_right _ (true_left _ (like_halts ∙ e))

    pub keeps_stops : (n : Search) → stops n t ≡ true → counts n u t ≡ true
    unfolding named.counts
    keeps_stops n e = true_right _ (true_right _ e)

  -- a child of s neither halts u nor is above it, where s is not above u
  child_clear : (u s t : S) (i : ℕ) → name t ≡ i ∷ name s → ¬ Above s u → (¬ Above t u) × (¬ Halts t u)
  unfolding named.halts
  child_clear u s t i e n =
      let c = child_apart (name s) (name u) i n in (
        λ a. n (above_parent i (name s) (name u) (ap (λ (p : Name). above p (name u)) (sym e) ∙ a)),
        λ h. ⊎_elim (λ d. c.0 (ap (λ (p : Name). is_older p (name u)) (sym e) ∙ (both_true _ _ d).0))
            (λ d. c.1 (ap (λ (p : Name). is_child p (name u)) (sym e) ∙ (both_true _ _ d).0)) (either_true _ _ h),
      )

  not_counted : (n : Search) (u s t : S) → Passing n u (spot s) → Like s t → counts n u t ≡ false
  not_counted n u s t p l = refuted _ (λ e. no (past_counts n u s p) (less_counts u s t l n e))

  not_awaited : (n : Search) (u s : S) (q : ℕ) → Passing n u (spot s) → Pushing s q → ¬ Awaits n q
  not_awaited free u s q p h a = a
  not_awaited (seeking b r) u s q p h a = p.0.1 (ap (pushes s) a ∙ h)
  not_awaited (found b r v) u s q p h a = a
  not_awaited (putting r v) u s q p h a = a

  pub still_all : (n : Search) (u s : S) → Passing n u (spot s) → (xs : List (Item S)) → All (Kin s) xs → All (Still n u) xs
  still_all n u s p [] k = tt
  still_all n u s p (value q v ∷ xs) k = (tt, still_all n u s p xs k.1)
  still_all n u s p (spot t ∷ xs) k =
      (⊎_elim (λ l. (counts_past n u t (not_counted n u s t p l)).1) (λ c. child_clear u s t c.0 c.1 p.1.0) k.0, still_all n u s p xs k.1)
  still_all n u s p (finished t ∷ xs) k = (not_counted n u s t p k.0, still_all n u s p xs k.1)
  still_all n u s p (gave q ∷ xs) k = (not_awaited n u s q p k.0, still_all n u s p xs k.1)

  -- the later task still stops u, or its finish counts
  later_stays : (n : Search) (u s : S) → ((t : S) → Like s t → counts n u t ≡ true) → (xs : List (Item S)) → Some (Lasts s) xs → Some (Stays n u) xs
  later_stays n u s h [] k = absurd k
  later_stays n u s h (value q v ∷ xs) (inl l) = absurd l
  later_stays n u s h (value q v ∷ xs) (inr k) = inr (later_stays n u s h xs k)
  later_stays n u s h (spot t ∷ xs) (inl l) = inl (λ p. no (past_counts n u t p) (h t l))
  later_stays n u s h (spot t ∷ xs) (inr k) = inr (later_stays n u s h xs k)
  later_stays n u s h (finished t ∷ xs) (inl l) = inl (h t l)
  later_stays n u s h (finished t ∷ xs) (inr k) = inr (later_stays n u s h xs k)
  later_stays n u s h (gave q ∷ xs) (inl l) = absurd l
  later_stays n u s h (gave q ∷ xs) (inr k) = inr (later_stays n u s h xs k)

  -- the push right that stops u is held still, or was given up now
  right_stays : (b : Bool) (q : ℕ) (u s : S) (xs : List (Item S)) → Some (Holds s q) xs → Some (Stays (seeking b q) u) xs
  unfolding named.stops
  right_stays b q u s [] k = absurd k
  right_stays b q u s (value p v ∷ xs) (inl l) = absurd l
  right_stays b q u s (value p v ∷ xs) (inr k) = inr (right_stays b q u s xs k)
  right_stays b q u s (spot t ∷ xs) (inl l) =
      inl (λ p. no (past_counts (seeking b q) u t p) (keeps_stops u s t l.0 (seeking b q) (unfold named.stops in true_right _ l.1)))
  right_stays b q u s (spot t ∷ xs) (inr k) = inr (right_stays b q u s xs k)
  right_stays b q u s (finished t ∷ xs) (inl l) = inl (keeps_stops u s t l.0 (seeking b q) (unfold named.stops in true_right _ l.1))
  right_stays b q u s (finished t ∷ xs) (inr k) = inr (right_stays b q u s xs k)
  right_stays b q u s (gave p ∷ xs) (inl l) = inl l
  right_stays b q u s (gave p ∷ xs) (inr k) = inr (right_stays b q u s xs k)

  stop_stays : (n : Search) (u s : S) (xs : List (Item S)) → Kept s xs → stops n s ≡ true → Some (Stays n u) xs
  unfolding named.stops
  stop_stays free u s xs k e = absurd (false≢true e)
  stop_stays (seeking b q) u s xs k e =
      ⊎_elim
      (λ d. later_stays (seeking b q) u s (λ t l. keeps_stops u s t l (seeking b q) (unfold named.stops in true_left _ (l.pop q ∙ d))) xs k.lasts)
      (λ d. right_stays b q u s xs (k.holds q d)) (either_true _ _ e)
  stop_stays (found b q v) u s xs k e =
      later_stays (found b q v) u s (λ t l. keeps_stops u s t l (found b q v) (unfold named.stops in l.pop q ∙ e)) xs k.lasts
  stop_stays (putting q v) u s xs k e =
      later_stays (putting q v) u s (λ t l. keeps_stops u s t l (putting q v) (unfold named.stops in l.pop q ∙ e)) xs k.lasts

  pub decided : (n : Search) (u s : S) (xs : List (Item S)) → Kept s xs → Passing n u (spot s) ⊎ Some (Stays n u) xs
  decided n u s xs k = go (counts n u s) refl
    where
      go : (b : Bool) → counts n u s ≡ b → Passing n u (spot s) ⊎ Some (Stays n u) xs
      go false e = inl (counts_past n u s e)
      go true e =
          inr (⊎_elim (λ d. later_stays n u s (λ t l. keeps_above u s t l n d) xs k.lasts)
          (λ d. ⊎_elim (λ h. later_stays n u s (λ t l. keeps_halts u s t l n h) xs k.lasts) (λ h. stop_stays n u s xs k h) (either_true _ _ d))
          (either_true _ _ (unfold named.counts in e)))

  module _ (next : S → Action S) (ticks : S → ℕ) where
    abbrev pub named_waits : (h : named.Steps name pushes pops shares awaits next ticks) → Waits (named.named_tasks name pushes pops shares awaits next ticks h)
    named_waits h =
        record {
          Halts = Halts;
          Above = Above;
          ticks = ticks;
          counts = counts;
          self = λ u. above_self (name u);
          quiet = λ s u m n xs d p. still_all n u s p xs (h.kept s m xs d).kin;
          remains = λ s u m n xs d. decided n u s xs (h.kept s m xs d);
        }
