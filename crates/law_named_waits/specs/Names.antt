-- WHICH UNFINISHED TASKS BEFORE IT keep a task from its next step, by names.
use Rattle.std.specs.Prelude.{◌≡◌, refl, Bool, true, [], ◌∷◌, ℕ}
use Rattle.std.proofs.Common.{ap, sym, ◌∙◌, ⊎_elim}
use Rattle.std.proofs.lemmas.Bool.{false≢true}
use Rattle.spec_words.specs.Words.{either, either_true, true_left, true_right}
use Rattle.spec_order.specs.Steps.{Name}
use Rattle.spec_order.specs.Waits.{same_name, is_child, is_older}
use Rattle.law_order.specs.Names.{same_true, same_yes}
use Rattle.law_order_waits.specs.Spots.{child_says, older_says}

-- the task named q is p, or descends from it
unfoldable pub above : Name → Name → Bool
above p [] = same_name p []
above p (i ∷ q) = either (same_name p (i ∷ q)) (above p q)

pub above_self : (p : Name) → above p p ≡ true
unfolding above
above_self [] = same_yes [] [] refl
above_self (i ∷ p) = true_left _ (same_yes (i ∷ p) (i ∷ p) refl)

-- a child, and what is below a child
pub above_child : (i : ℕ) (p : Name) → above p (i ∷ p) ≡ true
unfolding above
above_child i p = true_right _ (above_self p)

pub above_parent : (i : ℕ) (p q : Name) → above (i ∷ p) q ≡ true → above p q ≡ true
unfolding above same_name
above_parent i p [] e = absurd (false≢true e)
above_parent i p (k ∷ q) e =
    ⊎_elim
    (λ d. ap (above p) (sym (same_true (i ∷ p) (k ∷ q) d)) ∙ above_child i p)
    (λ d. true_right _ (above_parent i p q d))
    (either_true _ _ e)

-- a child t of s is neither older than u nor its child, where s is not above u
pub child_apart : (s u : Name) (i : ℕ) → ¬ (above s u ≡ true) → (¬ (is_older (i ∷ s) u ≡ true)) × (¬ (is_child (i ∷ s) u ≡ true))
child_apart s u i n = (older_no, child_no)
  where
    older_no : is_older (i ∷ s) u ≡ true → ⊥
    older_no d =
        let o = older_says (i ∷ s) u d in
        let same : s ≡ o.2 = cc o.3 in
        n (ap (above s) (o.4 ∙ ap (λ (p : Name). o.1 ∷ p) (sym same)) ∙ above_child o.1 s)

    child_no : is_child (i ∷ s) u ≡ true → ⊥
    child_no d =
        let o = child_says (i ∷ s) u d in
        let same : s ≡ u = cc o.1 in
        n (ap (above s) (sym same) ∙ above_self s)
