-- The words of a view, and of a queue head, by what they mean.
use Rattle.std.specs.Prelude.{◌≡◌, refl, true, List, ℕ, ◌+◌, ◌*◌, ◌<◌}
use Rattle.std.proofs.Common.{sym, ◌∙◌, subst, ⊎_elim}
use borrow.Author.Tests.{eqb-true}
use Rattle.spec_words.specs.Words.{both_true}
use Rattle.spec_lists.specs.Counting.{equal?}
use Rattle.spec_layout.specs.Layout.{NONE, NL, HEADS, TAILS, head, tail, read}
use Rattle.spec_rules.specs.Contents.{decode, word}
use Rattle.spec_rules.specs.Views.{view}
use Rattle.law_rules_views.specs.Marks.{yes_no}
use Rattle.spec_outcomes.specs.Views.{view_of, is_empty}
use Rattle.law_links.specs.Linked.{word_is}
use Rattle.law_gaps.specs.Line.{End, nonlocal, local, Extent, vacant, extent}
use Rattle.law_maps.specs.Meaning.{end_of, extent_of, view_in}
use Rattle.law_maps.specs.Extents.{end_nonlocal, end_local, empty_vacant, filled_extent}
use Rattle.law_maps.specs.Reads.{view_at_lem}

-- the word of an end
abbrev pub EndWord : End → ℕ → Type 0
EndWord nonlocal w = w ≡ NL
EndWord (local s) w = w ≡ s

-- the words of a view: its head and its tail
abbrev pub ViewWords : Extent → ℕ → ℕ → Type 0
ViewWords vacant h e = (h ≡ NONE) × (e ≡ NONE)
ViewWords (extent x y) h e = EndWord x h × EndWord y e

end_word : (w : ℕ) → EndWord (end_of w) w
end_word w =
    ⊎_elim
    (λ e. subst (λ (x : End). EndWord x w) (sym (end_nonlocal w e)) e)
    (λ n. subst (λ (x : End). EndWord x w) (sym (end_local w n)) refl)
    (equal? w NL)

view_words : (h e : ℕ) → ViewWords (extent_of (view h e)) h e
view_words h e =
    ⊎_elim
    (λ b. subst (λ (v : Extent). ViewWords v h e) (sym (empty_vacant h e b)) (none b))
    (λ b. subst (λ (v : Extent). ViewWords v h e) (sym (filled_extent h e b)) (end_word h, end_word e))
    (yes_no (is_empty (view h e)))
  where
    none : is_empty (view h e) ≡ true → (h ≡ NONE) × (e ≡ NONE)
    none b = unfold is_empty in (let w = both_true _ _ b in (eqb-true _ _ w.0, eqb-true _ _ w.1))

-- view k of task t in memory
pub kind_words : (m : List ℕ) (q k t : ℕ) (v : Extent) → q < 4 → k < 3 → t < 128 → view_in m q k t ≡ v
    → ViewWords v (word (decode m) t (HEADS + k * 4 + q)) (word (decode m) t (TAILS + k * 4 + q))
unfolding view_of
kind_words m q k t v hq hk ht i =
    subst (λ (h : ℕ). ViewWords v h (word (decode m) t (TAILS + k * 4 + q))) (sym (word_is m t (HEADS + k * 4 + q)))
    (subst (λ (e : ℕ). ViewWords v (read m (head k t q)) e) (sym (word_is m t (TAILS + k * 4 + q)))
    (subst (λ (w : Extent). ViewWords w (read m (head k t q)) (read m (tail k t q))) (sym (view_at_lem m q k t hq hk ht) ∙ i)
    (view_words (read m (head k t q)) (read m (tail k t q)))))
