-- THE NEXT OF EVERY SEGMENT, held or free, is a segment opened with or none: the operations on segments keep that.
use Rattle.std.specs.Prelude.{◌≡◌, List, [], ◌∷◌, ◌⊎◌, ℕ, ◌<◌}
use Rattle.std.proofs.Common.{ap, sym, ◌∙◌, subst, inl, inr, ⊎_elim, arith}
use Rattle.std.proofs.Math.Option.{Option, none, some}
use Rattle.spec_lists.specs.Counting.{equal?}
use Rattle.spec_layout.specs.Layout.{NONE, next, Opened, read}
use Rattle.spec_lists.specs.Maps.{put, put_same, put_other}
use Rattle.law_gaps.specs.Line.{nonlocal, local, Extent, vacant, extent}
use Rattle.law_gaps.specs.Store.{Store}
use Rattle.law_gaps.specs.Moves.{taken, linked_holding, joined, popped_to}
use Rattle.law_maps.specs.Meaning.{optional, next_in, Sized}
use Rattle.law_maps.specs.Reads.{next_at}
use Rattle.law_maps.specs.Free.{optional_none, optional_some, none_word, link_word}

-- none, or a segment that P holds of
abbrev pub Leads : (ℕ → Type 0) → Option ℕ → Type 0
Leads P none = Unit {0}
Leads P (some s) = P s

abbrev pub Nexts : (ℕ → Type 0) → (ℕ → Option ℕ) → Type 0
Nexts P f = (s : ℕ) → P s → Leads P (f s)

pub nexts_put : (P : ℕ → Type 0) (f : ℕ → Option ℕ) (k : ℕ) (x : Option ℕ) → Leads P x → Nexts P f → Nexts P (put f k x)
nexts_put P f k x l h s i =
    ⊎_elim
    (λ e. subst (Leads P) (sym (ap (put f k x) e ∙ put_same f k x)) l)
    (λ e. subst (Leads P) (sym (put_other f k x s e)) (h s i))
    (equal? s k)

module _ (P : ℕ → Type 0) (some_opened : P 0) where
  pub nexts_taken : (g : ℕ) (rest : List ℕ) (v : ℕ) (st : Store) → Nexts P st.next → Nexts P (taken g rest v st).next
  nexts_taken g rest v st h = nexts_put P st.next g none tt h

  pub nexts_linked : (vs : List ℕ) (holder s t : ℕ) (st : Store) → P t → Nexts P st.next → Nexts P (linked_holding vs holder s t st).next
  nexts_linked [] holder s t st l h = nexts_put P st.next s (some 0) some_opened h
  nexts_linked (v ∷ vs) holder s t st l h = nexts_put P st.next s (some t) l h

  -- the head of the second view is a segment opened with
  abbrev pub HeadBelow : Extent → Type 0
  HeadBelow vacant = Unit {0}
  HeadBelow (extent nonlocal y) = Unit {0}
  HeadBelow (extent (local t) y) = P t

  pub nexts_joined : (holder : ℕ) (v w : Extent) (st : Store) → HeadBelow w → Nexts P st.next → Nexts P (joined holder v w st).next
  nexts_joined holder vacant w st l h = h
  nexts_joined holder (extent a nonlocal) w st l h = h
  nexts_joined holder (extent a (local s)) vacant st l h = h
  nexts_joined holder (extent a (local s)) (extent nonlocal y) st l h = h
  nexts_joined holder (extent a (local s)) (extent (local t) y) st l h = nexts_linked (st.contents s) holder s t st l h

  pub nexts_popped : (vs : List ℕ) (o : Option ℕ) (holder s : ℕ) (st : Store) → Nexts P st.next → Nexts P (popped_to vs o holder s st).next
  nexts_popped [] none holder s st h = h
  nexts_popped [] (some t) holder s st h = nexts_put P st.next s (some 0) some_opened h
  nexts_popped (v ∷ vs) o holder s st h = h

-- by the words
pub nexts_words : (m : List ℕ) → Sized m → Nexts (Opened m) (next_in m)
    → (s : ℕ) → Opened m s → (read m (next s) ≡ NONE) ⊎ (Opened m (read m (next s)))
nexts_words m z h s i = go (next_in m s) (next_at m s (let l = z.number_range.1 in omega (arith, i, l))) (h s i)
  where
    go : (o : Option ℕ) → o ≡ optional (read m (next s)) → Leads (Opened m) o → (read m (next s) ≡ NONE) ⊎ (Opened m (read m (next s)))
    go none e l = inl (none_word (read m (next s)) (sym e))
    go (some x) e l = inr (subst (Opened m) (sym (link_word (read m (next s)) x (sym e))) l)

pub words_nexts : (m : List ℕ) → Sized m → ((s : ℕ) → Opened m s → (read m (next s) ≡ NONE) ⊎ (Opened m (read m (next s))))
    → Nexts (Opened m) (next_in m)
words_nexts m z h s i =
    let low : s < 256 = let l = z.number_range.1 in omega (arith, i, l) in
    let many = z.number_range.1 in
    ⊎_elim
    (λ e. subst (Leads (Opened m)) (sym (next_at m s low ∙ ap optional e ∙ optional_none)) tt)
    (λ l. subst (Leads (Opened m)) (sym (next_at m s low ∙ optional_some (read m (next s)) (λ e. omega (arith, e, l, many)))) l)
    (h s i)
