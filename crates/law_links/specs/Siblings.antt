-- The list of siblings along their OLDER links, and what a search along it finds.
use Rattle.std.specs.Prelude.{◌≡◌, Bool, List, ◌⊎◌}
use Rattle.std.proofs.Math.Path.{refl, ap, sym}
use Rattle.std.proofs.Common.{◌∙◌, subst, le_of_suc-le-suc, arith, le-leb}
use Rattle.std.proofs.Math.Bool.{true, false, false≢true}
use Rattle.std.proofs.Math.Logic.{inl, inr, ⊎_elim}
use Prim.Native.Nat.{ℕ, zero, suc, ◌<◌, ◌≤◌}
use Rattle.std.proofs.lemmas.Bool.{lt-leb}
use Rattle.spec_words.specs.Words.{load, pick, pass, halt}
use Rattle.spec_lists.specs.Counting.{below?}
use Rattle.spec_layout.specs.Layout.{NONE, OLDER}
use Rattle.spec_tree.specs.Tour.{sibling, oldest}
use Rattle.spec_rules.specs.Rules.{walk}

module _ (recs : ℕ → List ℕ) where
  abbrev older : ℕ → ℕ
  older x = load (recs x) OLDER

  -- u is c, or stands behind it on the list of c's older siblings
  pub data On : ℕ → ℕ → Type 0 where
    here : {c u : ℕ} → c < 128 → c ≡ u → On c u
    behind : {c u : ℕ} → c < 128 → On (older c) u → On c u

  pub on_below : {c u : ℕ} → On c u → c < 128
  on_below (here l e) = l
  on_below (behind l h) = l

  -- of two on one list one stands behind the other
  pub on_linear : {c u v : ℕ} → On c u → On c v → On u v ⊎ On v u
  on_linear {c} {u} {v} (here l e) h = inl (subst (λ (x : ℕ). On x v) e h)
  on_linear {c} {u} {v} (behind l g) (here m e) = inr (subst (λ (x : ℕ). On x u) e (behind l g))
  on_linear (behind l g) (behind m h) = on_linear g h

  pub on_trans : {c u v : ℕ} → On c u → On u v → On c v
  on_trans {c} {u} {v} (here l e) h = subst (λ (x : ℕ). On x v) (sym e) h
  on_trans (behind l g) h = behind l (on_trans g h)

  -- THE SEARCH
  end_is : (f : ℕ → Bool) (k c : ℕ) → 128 ≤ c → sibling (suc k) f recs c ≡ NONE
  unfolding sibling
  end_is f k c l = halt _ _ (le-leb 128 c l)

  here_is : (f : ℕ → Bool) (k c : ℕ) → c < 128 → f c ≡ true → sibling (suc k) f recs c ≡ c
  unfolding sibling
  here_is f k c l e = pass _ (lt-leb 128 c l) (halt _ _ e)

  on_is : (f : ℕ → Bool) (k c : ℕ) → c < 128 → f c ≡ false → sibling (suc k) f recs c ≡ sibling k f recs (older c)
  unfolding sibling
  on_is f k c l e = pass _ (lt-leb 128 c l) (pass _ e refl)

  none_is : (f : ℕ → Bool) (c : ℕ) → sibling 0 f recs c ≡ NONE
  unfolding sibling
  none_is f c = refl

  -- what it finds stands on the list
  pub found_on : (f : ℕ → Bool) (k c w : ℕ) → sibling k f recs c ≡ w → (w ≡ NONE → ⊥) → On c w × (f w ≡ true)
  found_on f zero c w e n = absurd (n (sym e ∙ none_is f c))
  found_on f (suc k) c w e n = ⊎_elim (λ l. go l (f c) refl (found_on f k (older c) w)) (λ l. absurd (n (sym e ∙ end_is f k c l))) (below? c 128)
    where
      go : c < 128 → (b : Bool) → f c ≡ b → (sibling k f recs (older c) ≡ w → (w ≡ NONE → ⊥) → On (older c) w × (f w ≡ true)) → On c w × (f w ≡ true)
      go l true d rest = let q = sym (here_is f k c l d) ∙ e in (here l q, ap f (sym q) ∙ d)
      go l false d rest = let v = rest (sym (on_is f k c l d) ∙ e) n in (behind l v.0, v.1)

  -- where the list ends within n steps, it finds one where there is one
  pub on_found : (f : ℕ → Bool) (n k c u : ℕ) → k ≤ n → walk older k c ≡ NONE → On c u → f u ≡ true → sibling n f recs c ≡ NONE → ⊥
  unfolding walk
  on_found f n zero c u m w h e d = let l = on_below h in omega (arith, l, w)
  on_found f zero (suc k) c u m w h e d = omega (arith, m)
  on_found f (suc n) (suc k) c u m w h e d = go (f c) refl h (λ g. on_found f n k (older c) u (le_of_suc-le-suc m) w g e)
    where
      go : (b : Bool) → f c ≡ b → On c u → (On (older c) u → sibling n f recs (older c) ≡ NONE → ⊥) → ⊥
      go true q h rest = let l = on_below h in let r = sym (here_is f n c l q) ∙ d in omega (arith, l, r)
      go false q (here l r) rest = false≢true (sym q ∙ ap f r ∙ e)
      go false q (behind l g) rest = rest g (sym (on_is f n c l q) ∙ d)

  -- THE OLDEST on the list that f holds of; d where there is none
  pub record Oldest (f : ℕ → Bool) (c d w : ℕ) : Type 0 where
    pub which : ((w ≡ d) × ((u : ℕ) → On c u → f u ≡ true → ⊥)) ⊎ (On c w × (f w ≡ true) × ((u : ℕ) → On (older w) u → f u ≡ true → ⊥))

  old_end : (f : ℕ → Bool) (k c d : ℕ) → 128 ≤ c → oldest (suc k) f recs c d ≡ d
  unfolding oldest
  old_end f k c d l = halt _ _ (le-leb 128 c l)

  old_on : (f : ℕ → Bool) (k c d : ℕ) → c < 128 → oldest (suc k) f recs c d ≡ oldest k f recs (older c) (pick (f c) c d)
  unfolding oldest
  old_on f k c d l = pass _ (lt-leb 128 c l) refl

  off_end : {c u : ℕ} → 128 ≤ c → On c u → ⊥
  off_end l h = let m = on_below h in omega (arith, l, m)

  past_end : (f : ℕ → Bool) (n c d : ℕ) → 128 ≤ c → oldest n f recs c d ≡ d
  unfolding oldest
  past_end f zero c d l = refl
  past_end f (suc n) c d l = old_end f n c d l

  pub oldest_is : (f : ℕ → Bool) (n k c d : ℕ) → k ≤ n → walk older k c ≡ NONE → Oldest f c d (oldest n f recs c d)
  unfolding walk
  oldest_is f n zero c d m e =
      let l : 128 ≤ c = omega (arith, e) in
      rw (past_end f n c d l) (record { which = inl (refl, (λ u h. absurd (off_end l h))) })
  oldest_is f zero (suc k) c d m e = let z : ⊥ = omega (arith, m) in absurd z
  oldest_is f (suc n) (suc k) c d m e =
      ⊎_elim
      (λ l. go l (f c) refl (λ x. oldest_is f n k (older c) x (le_of_suc-le-suc m) e))
      (λ l. rw (past_end f (suc n) c d l) (record { which = inl (refl, (λ u h. absurd (off_end l h))) }))
      (below? c 128)
    where
      go : c < 128 → (b : Bool) → f c ≡ b → ((x : ℕ) → Oldest f (older c) x (oldest n f recs (older c) x)) → Oldest f c d (oldest (suc n) f recs c d)
      go l true q rest =
          let w = rest c in
          rw (old_on f n c d l ∙ ap (oldest n f recs (older c)) (halt c d q))
          (record {
            which = inr (⊎_elim
                (λ v. (here l (sym v.0), ap f v.0 ∙ q, (λ u h. v.1 u (subst (λ (x : ℕ). On (older x) u) v.0 h))))
                (λ v. (behind l v.0, v.1, v.2))
                w.which);
          })
      go l false q rest =
          let w = rest d in
          rw (old_on f n c d l ∙ ap (oldest n f recs (older c)) (pass c q refl))
          (record {
            which = ⊎_elim
                (λ v. inl (v.0, (λ u h g. none u h g v.1)))
                (λ v. inr (behind l v.0, v.1, v.2))
                w.which;
          })
        where
          none : (u : ℕ) → On c u → f u ≡ true → ((x : ℕ) → On (older c) x → f x ≡ true → ⊥) → ⊥
          none u (here m p) g v = false≢true (sym q ∙ ap f p ∙ g)
          none u (behind m h) g v = v u h g
