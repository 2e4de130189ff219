-- THE LISTS OF THE PLAIN MACHINE are the values put back and the values along the items before the first spot. A push and a pop change
-- both alike.
use Rattle.std.specs.Prelude.{◌≡◌, ℕ, ◌<◌, eqb, drop, length, set}
use Rattle.std.proofs.Math.Path.{refl, ap, sym}
use Rattle.std.proofs.Common.{◌∙◌, arith, get_or-set_other}
use Rattle.std.proofs.Math.Logic.{⊎_elim}
use mathlib.Core.List.{List, [], ◌∷◌, ◌++◌, append-nil, append_assoc}
use Rattle.std.proofs.Math.ListN.{get_or, length-set}
use Rattle.std.proofs.Math.Seq.{get_or-set_same}
use borrow.Author.Tests.{eq-eqb, ne_eqb}
use Rattle.spec_words.specs.Words.{pick, halt, pass}
use Rattle.spec_lists.specs.Counting.{equal?}
use Rattle.spec_lists.specs.Maps.{All, put, put_same, put_other}
use Rattle.spec_plain.specs.Machine.{queue}
use Rattle.spec_line.specs.Line.{Item, value, spot, finished, gave, NoSpot}
use Rattle.spec_line.specs.Fronts.{Fronts}
use Rattle.law_timed_line.specs.Times.{picked}
use Rattle.law_job_line.proofs.Front.{values_of, without}

module _ {S : Type 0} where
  values_append : (q : ℕ) (a b : List (Item S)) → values_of q (a ++ b) ≡ values_of q a ++ values_of q b
  unfolding values_of pick
  values_append q [] b = refl
  values_append q (value p v ∷ a) b =
      ⊎_elim (λ e. rw (eq-eqb p q e, values_append q a b)) (λ e. rw (ne_eqb p q e) (values_append q a b)) (equal? p q)
  values_append q (spot s ∷ a) b = values_append q a b
  values_append q (finished s ∷ a) b = values_append q a b
  values_append q (gave p ∷ a) b = values_append q a b

  -- a value is taken
  pub bare_without : (q : ℕ) (l : List (Item S)) → All NoSpot l → All NoSpot (without q l)
  unfolding without
  bare_without q [] h = tt
  bare_without q (value p v ∷ l) h = picked (All NoSpot) (eqb p q) h.1 (tt, bare_without q l h.1)
  bare_without q (spot s ∷ l) h = absurd h.0
  bare_without q (finished s ∷ l) h = (tt, bare_without q l h.1)
  bare_without q (gave p ∷ l) h = (tt, bare_without q l h.1)

  values_without : (q : ℕ) (l : List (Item S)) → values_of q (without q l) ≡ drop 1 (values_of q l)
  unfolding without values_of pick
  values_without q [] = refl
  values_without q (value p v ∷ l) = ⊎_elim (λ e. rw (eq-eqb p q e)) (λ e. rw (ne_eqb p q e, ne_eqb p q e) (values_without q l)) (equal? p q)
  values_without q (spot s ∷ l) = values_without q l
  values_without q (finished s ∷ l) = values_without q l
  values_without q (gave p ∷ l) = values_without q l

  values_other : (p q : ℕ) (l : List (Item S)) → (p ≡ q → ⊥) → values_of p (without q l) ≡ values_of p l
  unfolding without values_of pick
  values_other p q [] n = refl
  values_other p q (value r v ∷ l) n =
      ⊎_elim (λ e. rw (eq-eqb r q e, ne_eqb r p (λ d. n (sym d ∙ e)))) (λ e. rw (ne_eqb r q e, values_other p q l n)) (equal? r q)
  values_other p q (spot s ∷ l) n = values_other p q l n
  values_other p q (finished s ∷ l) n = values_other p q l n
  values_other p q (gave r ∷ l) n = values_other p q l n

-- THE FOUR LISTS of the plain machine: the values put back, and those along the items vs
pub record Lists {S : Type 0} (r : Fronts) (qs : List (List ℕ)) (vs : List (Item S)) : Type 0 where
  pub four : length qs ≡ 4
  pub same : (q : ℕ) → q < 4 → r q ++ values_of q vs ≡ queue qs q

module _ {S : Type 0} (r : Fronts) (qs : List (List ℕ)) (vs : List (Item S)) (h : Lists r qs vs) where
  -- one list changes
  lists_changed : (x : Fronts) (q : ℕ) (l : List ℕ) (ws : List (Item S)) → q < 4 → x q ++ values_of q ws ≡ l
      → ((p : ℕ) → (p ≡ q → ⊥) → x p ++ values_of p ws ≡ r p ++ values_of p vs) → Lists x (set qs q l) ws
  unfolding queue
  lists_changed x q l ws small e f =
      record {
        four = length-set qs q l ∙ h.four;
        same = λ p i.
            ⊎_elim
            (λ d. ap (λ (y : ℕ). x y ++ values_of y ws) d ∙ e
            ∙ sym (ap (λ (y : ℕ). get_or (set qs q l) y []) d ∙ get_or-set_same qs q l [] (omega (arith, h.four, small))))
            (λ d. f p d ∙ h.same p i ∙ sym (get_or-set_other qs q p l [] d))
            (equal? p q);
      }

  -- a push, and a pop from the line or of a value put back
  pub lists_pushed : (q v : ℕ) → q < 4 → Lists r (set qs q (queue qs q ++ v ∷ [])) (vs ++ value q v ∷ [])
  lists_pushed q v small =
      lists_changed r q (queue qs q ++ v ∷ []) (vs ++ value q v ∷ []) small
      (rw (values_append q vs (value q v ∷ []), one, ← append_assoc (r q) (values_of q vs) (v ∷ []), h.same q small))
      (λ p n. rw (values_append p vs (value q v ∷ []), none p n, append-nil (values_of p vs)))
    where
      one : values_of {S = S} q (value q v ∷ []) ≡ v ∷ []
      one = unfold values_of in halt _ _ (eq-eqb q q refl)

      none : (p : ℕ) → (p ≡ q → ⊥) → values_of {S = S} p (value q v ∷ []) ≡ []
      none p n = unfold values_of in pass _ (ne_eqb q p (λ e. n (sym e))) refl

  pub lists_popped : (q : ℕ) → q < 4 → r q ≡ [] → Lists r (set qs q (drop 1 (queue qs q))) (without q vs)
  lists_popped q small e =
      lists_changed r q (drop 1 (queue qs q)) (without q vs) small (rw (← h.same q small, e, values_without q vs))
      (λ p n. rw (values_other p q vs n))

  pub lists_taken : (q v : ℕ) (c : List ℕ) → q < 4 → r q ≡ v ∷ c → Lists (put r q (drop 1 (r q))) (set qs q (drop 1 (queue qs q))) vs
  lists_taken q v c small e =
      lists_changed (put r q (drop 1 (r q))) q (drop 1 (queue qs q)) vs small (rw (put_same r q (drop 1 (r q)), ← h.same q small, e))
      (λ p n. rw (put_other r q (drop 1 (r q)) p n))

  -- what is put has no values
  pub lists_kept : (ws : List (Item S)) → ((q : ℕ) → values_of q ws ≡ []) → Lists r qs (vs ++ ws)
  lists_kept ws e = record { four = h.four; same = λ q i. rw (values_append q vs ws, e q, append-nil (values_of q vs)) (h.same q i) }
