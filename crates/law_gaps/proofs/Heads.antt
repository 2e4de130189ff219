-- QUEUE HEADS: only the holder of the queue view has one; it is set, or goes to another task.
use Rattle.std.specs.Prelude.{◌≡◌, ℕ}
use Rattle.std.proofs.Common.{sym, ◌∙◌, subst, ⊎_elim}
use Rattle.std.proofs.Math.Option.{Option, none}
use Rattle.spec_lists.specs.Counting.{equal?}
use Rattle.spec_lists.specs.Maps.{put, put_same, put_other}
use Rattle.law_gaps.specs.Moves.{head_moved}

-- the holder's queue head is o, and nobody else has one
abbrev pub Only : (ℕ → Option ℕ) → ℕ → Option ℕ → Type 0
Only heads holder o = (x : ℕ) → heads x ≡ put (λ y. none) holder o x

pub only_set : (heads : ℕ → Option ℕ) (holder : ℕ) (a b : Option ℕ) → Only heads holder a → Only (put heads holder b) holder b
only_set heads holder a b h x =
    ⊎_elim
    (λ e. subst (λ z. put heads holder b z ≡ put (λ y. none) holder b z) (sym e) (put_same heads holder b ∙ sym (put_same (λ y. none) holder b)))
    (λ d. put_other heads holder b x d ∙ (h x ∙ (put_other (λ y. none) holder a x d ∙ sym (put_other (λ y. none) holder b x d))))
    (equal? x holder)

-- what holds of t, of c and of all others
by_two : (P : ℕ → Type 0) (t c x : ℕ) → P t → P c → ((x ≡ t → ⊥) → (x ≡ c → ⊥) → P x) → P x
by_two P t c x p q f = ⊎_elim (λ e. subst P (sym e) p) (λ n. ⊎_elim (λ e. subst P (sym e) q) (λ o. f n o) (equal? x c)) (equal? x t)

module _ (heads : ℕ → Option ℕ) (t c : ℕ) (a : Option ℕ) (n : c ≡ t → ⊥) where
  -- the holder t hands it to c
  pub only_moved : Only heads t a → Only (head_moved t c heads) c a
  only_moved h x =
      by_two (λ x. head_moved t c heads x ≡ put (λ y. none) c a x) t c x
      (put_same (put heads c (heads t)) t none ∙ sym (put_other (λ y. none) c a t (λ e. n (sym e))))
      (put_other (put heads c (heads t)) t none c n ∙ (put_same heads c (heads t) ∙ (h t ∙ (put_same (λ y. none) t a ∙ sym (put_same (λ y. none) c a)))))
      (λ p q. put_other (put heads c (heads t)) t none x p ∙ (put_other heads c (heads t) x q
      ∙ (h x ∙ (put_other (λ y. none) t a x p ∙ sym (put_other (λ y. none) c a x q)))))

  -- neither is the holder, and nothing changes
  pub only_still : (holder : ℕ) → (t ≡ holder → ⊥) → (c ≡ holder → ⊥) → Only heads holder a → Only (head_moved t c heads) holder a
  only_still holder p q h x =
      by_two (λ x. head_moved t c heads x ≡ put (λ y. none) holder a x) t c x
      (put_same (put heads c (heads t)) t none ∙ sym (put_other (λ y. none) holder a t p))
      (put_other (put heads c (heads t)) t none c n ∙ (put_same heads c (heads t) ∙ (h t
      ∙ (put_other (λ y. none) holder a t p ∙ sym (put_other (λ y. none) holder a c q)))))
      (λ e f. put_other (put heads c (heads t)) t none x e ∙ (put_other heads c (heads t) x f ∙ h x))
