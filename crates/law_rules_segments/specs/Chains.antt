-- The chains of segments from the heads: what stands in them, and how often.
use Rattle.std.specs.Prelude.{◌≡◌, eqb, length}
use Rattle.std.proofs.Math.Path.{refl, ap}
use Rattle.std.proofs.Common.{sym, ◌∙◌, eq-zero-or-pos, eq-eqb, ne_eqb}
use mathlib.Core.List.{List, [], ◌∷◌}
use Rattle.std.proofs.Math.Logic.{⊎_elim}
use Prim.Native.Nat.{ℕ, zero, suc, ◌+◌, ◌<◌, ◌≤◌}
use native.Mathlib.Omega.{arith}
use Rattle.spec_words.specs.Words.{pass, halt}
use Rattle.spec_lists.specs.Counting.{one, occurrences, over, equal?, one_yes, one_no, occurs_nil, occurs_cons, occurs_here, occurs_past, occurs_append, over_append}
use Rattle.spec_lists.specs.Counting.{over_ones}
use Rattle.spec_lists.specs.Sums.{over_zero}
use Rattle.spec_layout.specs.Layout.{NONE}
use Rattle.spec_rules.specs.Contents.{Contents, part}
use Rattle.spec_rules.specs.Rules.{walk}
use Rattle.spec_rules.specs.Test.{chain, chains}

-- a segment opened is not the mark for none
pub not_none : (c : Contents) (s : ℕ) → c.number ≤ 256 → s < c.number → s ≡ NONE → ⊥
not_none c s small l q = omega (arith, small, l, q)

-- 1 where s follows y
abbrev pub follows : Contents → ℕ → ℕ → ℕ
follows c s y = one (eqb (part c y 2) s)

module _ (c : Contents) where
  -- a chain of no segments has not ended
  chain_short : (s : ℕ) → occurrences NONE (chain c zero s) ≡ 0 → ⊥
  unfolding chain
  chain_short s e = let a = occurs_here NONE NONE [] refl in omega (arith, a, e)

  pub chain_last : (k s : ℕ) → part c s 2 ≡ NONE → chain c (suc k) s ≡ s ∷ []
  unfolding chain
  chain_last k s q = ap (λ (r : List ℕ). s ∷ r) (halt _ _ (eq-eqb _ _ q))

  pub chain_more : (k s : ℕ) → (part c s 2 ≡ NONE → ⊥) → chain c (suc k) s ≡ s ∷ chain c k (part c s 2)
  unfolding chain
  chain_more k s q = ap (λ (r : List ℕ). s ∷ r) (pass _ (ne_eqb _ _ q) refl)

  -- the rest of a chain that ends ends
  chain_rest : (k h : ℕ) → (part c h 2 ≡ NONE → ⊥) → occurrences NONE (chain c (suc k) h) ≡ 0 → occurrences NONE (chain c k (part c h 2)) ≡ 0
  chain_rest k h q e = let a = occurs_cons h NONE (chain c k (part c h 2)) in let b = ap (occurrences NONE) (chain_more k h q) in omega (arith, a, b, e)

  -- Each segment of a chain is its first or follows another one of it; what follows its last is NONE.
  chain_names : (k h s : ℕ) → occurrences NONE (chain c k h) ≡ 0
      → occurrences s (chain c k h) + one (eqb NONE s) ≡ one (eqb h s) + over (chain c k h) (follows c s)
  unfolding occurrences over
  chain_names zero h s e = absurd (chain_short h e)
  chain_names (suc k) h s e =
      ⊎_elim
      (λ q. rw (chain_last k h q) (let a = ap (λ (x : ℕ). one (eqb x s)) q in omega (arith, a)))
      (λ q. rw (chain_more k h q) (let a = chain_names k (part c h 2) s (chain_rest k h q e) in omega (arith, a)))
      (equal? (part c h 2) NONE)

  chain_first : (k h : ℕ) → occurrences NONE (chain c k h) ≡ 0 → one (eqb h NONE) ≡ 0
  unfolding occurrences chain
  chain_first zero h e = absurd (chain_short h e)
  chain_first (suc k) h e = omega (arith, e)

  -- the chain from s ends within k steps
  abbrev pub Ends : ℕ → ℕ → Type 0
  Ends k s = (j : ℕ) × (j ≤ k) × (walk (λ x. part c x 2) j s ≡ NONE)

  chain_end : (k h : ℕ) → occurrences NONE (chain c k h) ≡ 0 → Ends k h
  unfolding walk
  chain_end zero h e = absurd (chain_short h e)
  chain_end (suc k) h e =
      ⊎_elim
      (λ q. (1, omega arith, q))
      (λ q. step (chain_end k (part c h 2) (chain_rest k h q e)))
      (equal? (part c h 2) NONE)
    where
      step : Ends k (part c h 2) → Ends (suc k) h
      step w = let l = w.1 in (suc w.0, omega (arith, l), w.2)

  -- what is not the first of a chain is in its rest
  pub chain_behind : (k h s : ℕ) → (h ≡ s → ⊥) → 0 < occurrences s (chain c (suc k) h)
      → (part c h 2 ≡ NONE → ⊥) × (0 < occurrences s (chain c k (part c h 2)))
  chain_behind k h s q p = (more, behind)
    where
      more : part c h 2 ≡ NONE → ⊥
      more z =
          let a = ap (occurrences s) (chain_last k h z) in
          let b = occurs_past h s [] q in
          let d = occurs_nil s in
          omega (arith, a, b, d, p)

      behind : 0 < occurrences s (chain c k (part c h 2))
      behind = let a = ap (occurrences s) (chain_more k h more) in let b = occurs_past h s (chain c k (part c h 2)) q in omega (arith, a, b, p)

  -- from each segment of a chain that ends one comes to the end
  chain_ends : (k h s : ℕ) → occurrences NONE (chain c k h) ≡ 0 → 0 < occurrences s (chain c k h) → Ends k s
  chain_ends zero h s e p = absurd (chain_short h e)
  chain_ends (suc k) h s e p =
      ⊎_elim
      (λ q. rw q at (chain_end (suc k) h e))
      (λ q. let w = chain_behind k h s q p in longer (chain_ends k (part c h 2) s (chain_rest k h w.0 e) w.1))
      (equal? h s)
    where
      longer : Ends k s → Ends (suc k) s
      longer w = let l = w.1 in (w.0, omega (arith, l), w.2)

  pub chains_nil : (s : ℕ) → occurrences s (chains c []) ≡ 0
  unfolding chains
  chains_nil s = occurs_nil s

  pub chains_parts : (h s : ℕ) (hs : List ℕ) → occurrences s (chains c (h ∷ hs)) ≡ occurrences s (chain c c.number h) + occurrences s (chains c hs)
  unfolding chains
  chains_parts h s hs = occurs_append s (chain c c.number h) (chains c hs)

  chains_names : (hs : List ℕ) (s : ℕ) → occurrences NONE (chains c hs) ≡ 0
      → occurrences s (chains c hs) + over hs (λ h. one (eqb NONE s)) ≡ occurrences s hs + over (chains c hs) (follows c s)
  unfolding chains over occurrences
  chains_names [] s e = refl
  chains_names (h ∷ hs) s e =
      let e0 = chains_parts h NONE hs in
      let a = chains_parts h s hs in
      let b = over_append (follows c s) (chain c c.number h) (chains c hs) in
      let d = chain_names c.number h s (omega (arith, e0, e)) in
      let f = chains_names hs s (omega (arith, e0, e)) in
      omega (arith, a, b, d, f)

  -- no head is NONE
  pub chains_first : (hs : List ℕ) → occurrences NONE (chains c hs) ≡ 0 → occurrences NONE hs ≡ 0
  unfolding occurrences
  chains_first [] e = refl
  chains_first (h ∷ hs) e =
      let e0 = chains_parts h NONE hs in
      let a = chain_first c.number h (omega (arith, e0, e)) in
      let b = chains_first hs (omega (arith, e0, e)) in
      omega (arith, a, b)

  -- THE LAW OF CHAINS that end: each segment of theirs is a head or follows another one of theirs,
  pub chains_named : (hs : List ℕ) (s : ℕ) → occurrences NONE (chains c hs) ≡ 0 → (s ≡ NONE → ⊥)
      → occurrences s (chains c hs) ≡ occurrences s hs + over (chains c hs) (follows c s)
  chains_named hs s e q = let a = chains_names hs s e in let b = none in omega (arith, a, b)
    where
      none : over hs (λ h. one (eqb NONE s)) ≡ 0
      none = ap (λ (k : ℕ). over hs (λ h. k)) (one_no NONE s (λ z. q (sym z))) ∙ over_zero hs

  -- and as many are without a next as there are heads.
  pub chains_lasts : (hs : List ℕ) → occurrences NONE (chains c hs) ≡ 0 → over (chains c hs) (follows c NONE) ≡ length hs
  chains_lasts hs e =
      let a = chains_names hs NONE e in
      let b = chains_first hs e in
      let d = ap (λ (k : ℕ). over hs (λ h. k)) (one_yes NONE NONE refl) ∙ over_ones hs in
      omega (arith, a, b, d, e)

  -- each segment of theirs comes to the end
  pub chains_end : (hs : List ℕ) (s : ℕ) → occurrences NONE (chains c hs) ≡ 0 → 0 < occurrences s (chains c hs) → Ends c.number s
  chains_end [] s e p = let a = chains_nil s in let z : ⊥ = omega (arith, a, p) in absurd z
  chains_end (h ∷ hs) s e p =
      let a = chains_parts h NONE hs in
      let b = chains_parts h s hs in
      ⊎_elim
      (λ q. chains_end hs s (omega (arith, a, e)) (omega (arith, b, p, q)))
      (λ q. chain_ends c.number h s (omega (arith, a, e)) q)
      (eq-zero-or-pos (occurrences s (chain c c.number h)))
