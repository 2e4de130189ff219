-- THE LONGEST CHAIN to an instruction has its ticks more than the longest to any instruction that it needs.
use Rattle.std.specs.Prelude.{◌≡◌, Bool, true, List, [], ◌∷◌, ◌++◌, ◌⊎◌, ℕ, ◌+◌, ◌≤◌, ltb}
use Rattle.std.proofs.Math.Path.{refl}
use Rattle.std.proofs.Common.{sym, subst, ⊎_elim, arith}
use Rattle.std.proofs.Math.Bool.{false}
use Rattle.std.proofs.Math.Logic.{inl, inr}
use Rattle.spec_words.specs.Words.{pick}
use Rattle.spec_line.specs.Later.{later, later_bounds}
use Rattle.spec_span.specs.Needs.{Made, History, Among, needs, ticks_in, Chain, alone, link}

-- one of two times is the later
pub later_one : (a b : ℕ) → (later a b ≡ a) ⊎ (later a b ≡ b)
unfolding later
later_one a b = go (ltb a b)
  where
    go : (c : Bool) → (pick c b a ≡ a) ⊎ (pick c b a ≡ b)
    go true = unfold pick in inr refl
    go false = unfold pick in inl refl

module _ (j table : List ℕ) where
  -- a chain to the latest instruction of s has t ticks, and none has more
  pub record Longest (s : History) (t : ℕ) : Type 0 where
    pub chain : Chain j table s t
    pub most : (c : ℕ) → Chain j table s c → c ≤ t

  -- t is the latest of the instructions ss, 0 where there is none
  pub record Latest (ss : List History) (t : ℕ) : Type 0 where
    pub below : (s : History) → Among s ss → (y : ℕ) × Longest s y × (y ≤ t)
    pub met : (t ≡ 0) ⊎ ((s : History) × Among s ss × Longest s t)

  pub latest_none : Latest [] 0
  latest_none = record { below = λ s a. absurd a; met = inl refl }

  pub latest_one : (s : History) (t : ℕ) → Longest s t → Latest (s ∷ []) t
  latest_one s t h =
      record { below = λ r a. ⊎_elim (λ e. (t, subst (λ (z : History). Longest z t) e h, omega arith)) (λ n. absurd n) a; met = inr (s, inl refl, h) }

  among_left : (xs ys : List History) (s : History) → Among s xs → Among s (xs ++ ys)
  among_left [] ys s a = absurd a
  among_left (x ∷ xs) ys s (inl e) = inl e
  among_left (x ∷ xs) ys s (inr a) = inr (among_left xs ys s a)

  pub among_right : (xs ys : List History) (s : History) → Among s ys → Among s (xs ++ ys)
  among_right [] ys s a = a
  among_right (x ∷ xs) ys s a = inr (among_right xs ys s a)

  among_either : (xs ys : List History) (s : History) → Among s (xs ++ ys) → Among s xs ⊎ Among s ys
  among_either [] ys s a = inr a
  among_either (x ∷ xs) ys s (inl e) = inl (inl e)
  among_either (x ∷ xs) ys s (inr a) = ⊎_elim (λ b. inl (inr b)) inr (among_either xs ys s a)

  pub latest_both : (xs ys : List History) (a b : ℕ) → Latest xs a → Latest ys b → Latest (xs ++ ys) (later a b)
  latest_both xs ys a b h k =
      record {
        below = λ s i.
            ⊎_elim
            (λ l. let w = h.below s l in (w.0, w.1, omega (arith, w.2, (later_bounds a b).0)))
            (λ r. let w = k.below s r in (w.0, w.1, omega (arith, w.2, (later_bounds a b).1)))
            (among_either xs ys s i);
        met = ⊎_elim
            (λ e. subst (λ (z : ℕ). (z ≡ 0) ⊎ ((s : History) × Among s (xs ++ ys) × Longest s z)) (sym e)
            (⊎_elim inl (λ (s, i, l). inr (s, among_left xs ys s i, l)) h.met))
            (λ e. subst (λ (z : ℕ). (z ≡ 0) ⊎ ((s : History) × Among s (xs ++ ys) × Longest s z)) (sym e)
            (⊎_elim inl (λ (s, i, l). inr (s, among_right xs ys s i, l)) k.met))
            (later_one a b);
      }

  -- ONE INSTRUCTION MORE
  pub longest_step : (e : Made) (h : History) (t : ℕ) → Latest (needs j e h) t → Longest (e ∷ h) (t + ticks_in j table e)
  longest_step e h t k = record { chain = chained k.met; most = λ c x. most c x }
    where
      chained : (t ≡ 0) ⊎ ((s : History) × Among s (needs j e h) × Longest s t) → Chain j table (e ∷ h) (t + ticks_in j table e)
      chained (inl z) = let i : ticks_in j table e ≡ t + ticks_in j table e = omega (arith, z) in subst (Chain j table (e ∷ h)) i alone
      chained (inr (s, a, l)) = link a l.chain

      most : (c : ℕ) → Chain j table (e ∷ h) c → c ≤ t + ticks_in j table e
      most _ alone = omega arith
      most _ (link {s = s} {c = b} a x) = let w = k.below s a in let m = w.1.most b x in let n = w.2 in omega (arith, m, n)
