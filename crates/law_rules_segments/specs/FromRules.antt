-- The tests of segments from their rules.
use Rattle.std.specs.Prelude.{◌≡◌, refl, List, [], ◌∷◌, ◌++◌, ◌⊎◌}
use Rattle.std.proofs.Common.{ap, sym, ◌∙◌, inl, inr, arith, mul_comm, zero-mul, eq-zero-or-pos, length-append}
use Rattle.std.proofs.Math.Logic.{⊎_elim}
use Prim.Native.Nat.{ℕ, zero, suc, ◌+◌, ◌*◌, ◌<◌, ◌≤◌}
use Rattle.spec_lists.specs.Counting.{occurrences, total, equal?, one_yes, one_no, occurs_cons, occurs_here, occurs_append, total_ext, total_zero, total_at}
use Rattle.spec_lists.specs.Counting.{exchange, length_total, total_ones}
use Rattle.spec_lists.specs.Sums.{total_term, total_some, total_alone}
use Rattle.spec_lists.specs.Distinct.{Distinct, distinct_append}
use Rattle.spec_layout.specs.Layout.{NONE}
use Rattle.spec_rules.specs.Contents.{Contents, part, nexts}
use Rattle.spec_rules.specs.Rules.{SegmentRules, Held, Free, walk}
use Rattle.spec_rules.specs.Test.{chain, chains}
use Rattle.law_rules_segments.specs.Chains.{not_none, follows, chain_behind, chains_nil, chains_parts, chains_named}
use Rattle.law_rules_segments.specs.Nexts.{held, held_times, free_times, nexts_count}
use Rattle.law_rules_segments.specs.Parted.{Parted, parted_lasts}
use Rattle.law_rules_segments.specs.Tested.{Sound, Tested}

module _ (c : Contents) (hs es : List ℕ) (small : c.number ≤ 256) (r : SegmentRules c hs es)
    (heads : (s : ℕ) → 0 < occurrences s hs → s < c.number) (tails : (s : ℕ) → 0 < occurrences s es → s < c.number) where
  -- 1 where y is held and s follows it
  abbrev before : ℕ → ℕ → ℕ
  before s y = held c y * follows c s y

  -- what is named is held
  named_held : (s : ℕ) → s < c.number → 0 < occurrences s hs + occurrences s (nexts c) → Held c s
  named_held s l p =
      ⊎_elim
      (λ q. (l, q))
      (λ f.
      let w = r.free_unnamed s f in
      let a = w.0 in
      let b = w.1.0 in
      let z : ⊥ = omega (arith, a, b, p) in
      absurd z)
      (eq-zero-or-pos (occurrences s c.free))

  head_held : (s : ℕ) → 0 < occurrences s hs → Held c s
  head_held s p = named_held s (heads s p) (omega (arith, p))

  next_held : (s : ℕ) → Held c s → (part c s 2 ≡ NONE → ⊥) → Held c (part c s 2)
  next_held s h q = ⊎_elim (λ l. named_held (part c s 2) l (mine l)) (λ e. absurd (q e)) (r.next_links s h.0)
    where
      mine : part c s 2 < c.number → 0 < occurrences (part c s 2) hs + occurrences (part c s 2) (nexts c)
      mine l =
          let a = nexts_count c (part c s 2) q in
          let b = total_term c.number (before (part c s 2)) s h.0 in
          let d = held_times c s (follows c (part c s 2) s) h.1 in
          let e = one_yes (part c s 2) (part c s 2) refl in
          omega (arith, a, b, d, e)

  -- what stands in the chain of a held segment is held
  chain_held : (k j h : ℕ) → Held c h → j ≤ k → walk (λ x. part c x 2) j h ≡ NONE → (s : ℕ) → 0 < occurrences s (chain c k h) → Held c s
  unfolding walk
  chain_held k zero h w l e s p = absurd (not_none c h small w.0 e)
  chain_held zero (suc j) h w l e s p = let z : ⊥ = omega (arith, l) in absurd z
  chain_held (suc k) (suc j) h w l e s p =
      ⊎_elim
      (λ q. rw q at w)
      (λ q.
      let b = chain_behind c k h s q p in chain_held k j (part c h 2) (next_held h w b.0) (omega (arith, l)) e s b.1)
      (equal? h s)

  chains_held : (gs : List ℕ) → ((s : ℕ) → 0 < occurrences s gs → Held c s) → (s : ℕ) → 0 < occurrences s (chains c gs) → Held c s
  chains_held [] f s p = let a = chains_nil c s in let z : ⊥ = omega (arith, a, p) in absurd z
  chains_held (g ∷ gs) f s p =
      let a = chains_parts c g s gs in
      ⊎_elim
      (λ q. chains_held gs (λ x m. f x (let b = occurs_cons g x gs in omega (arith, b, m))) s (omega (arith, a, p, q)))
      (λ q. let w = r.no_next_ring g mine in chain_held c.number w.0 g mine w.1 w.2 s q)
      (eq-zero-or-pos (occurrences s (chain c c.number g)))
    where
      mine : Held c g
      mine = f g (let a = occurs_here g g gs refl in omega (arith, a))

  in_held : (s : ℕ) → 0 < occurrences s (chains c hs) → Held c s
  in_held = chains_held hs head_held

  -- what is not held stands in no chain
  not_in : (s : ℕ) → (Held c s → ⊥) → occurrences s (chains c hs) ≡ 0
  not_in s q = ⊎_elim (λ e. e) (λ p. absurd (q (in_held s p))) (eq-zero-or-pos (occurrences s (chains c hs)))

  ends : occurrences NONE (chains c hs) ≡ 0
  ends = not_in NONE (λ h. not_none c NONE small h.0 refl)

  -- how often s stands in the chains, by those before it
  counted : (s : ℕ) → s < c.number
      → occurrences s (chains c hs) ≡ occurrences s hs + total c.number (λ y. before s y * occurrences y (chains c hs))
  counted s l =
      chains_named c hs s ends (not_none c s small l)
      ∙ ap (λ (k : ℕ). occurrences s hs + k)
      (exchange c.number (chains c hs) (follows c s) (λ y p. (in_held y p).0) ∙ total_ext c.number _ _ (λ y m. same y))
    where
      same : (y : ℕ) → occurrences y (chains c hs) * follows c s y ≡ before s y * occurrences y (chains c hs)
      same y =
          ⊎_elim
          (λ e. mul_comm (occurrences y (chains c hs)) (follows c s y)
          ∙ ap (λ (k : ℕ). k * occurrences y (chains c hs)) (sym (held_times c y (follows c s y) e)))
          (λ f. ap (λ (k : ℕ). k * follows c s y) (not_in y (λ h. let q = h.1 in omega (arith, q, f)))
          ∙ zero-mul (follows c s y)
          ∙ sym (ap (λ (k : ℕ). k * occurrences y (chains c hs)) (free_times c y (follows c s y) f) ∙ zero-mul (occurrences y (chains c hs))))
          (eq-zero-or-pos (occurrences y c.free))

  names : (s : ℕ) → Held c s → occurrences s hs + total c.number (before s) ≡ 1
  names s h = ap (λ (k : ℕ). occurrences s hs + k) (sym (nexts_count c s (not_none c s small h.0))) ∙ r.named s h

  -- a held segment that s follows and that stands in the chains as often as s
  abbrev Before : ℕ → Type 0
  Before s = (y : ℕ) × Held c y × (part c y 2 ≡ s) × (occurrences s (chains c hs) ≡ occurrences y (chains c hs))

  -- a held segment is a head, or follows another one
  reached : (s : ℕ) → Held c s → (occurrences s (chains c hs) ≡ 1) ⊎ Before s
  reached s h =
      let a = names s h in
      let b = counted s h.0 in
      ⊎_elim
      (λ e. inr (from e (omega (arith, a, e))))
      (λ p. inl (let d = first (omega (arith, a, p)) in omega (arith, a, b, d, p)))
      (eq-zero-or-pos (occurrences s hs))
    where
      first : total c.number (before s) ≡ 0 → total c.number (λ y. before s y * occurrences y (chains c hs)) ≡ 0
      first e =
          total_zero c.number _
          (λ y l.
          let a = total_term c.number (before s) y l in
          ap (λ (k : ℕ). k * occurrences y (chains c hs)) (let z : before s y ≡ 0 = omega (arith, a, e) in z)
          ∙ zero-mul (occurrences y (chains c hs)))

      -- the one before s
      found : (y : ℕ) → y < c.number → 0 < before s y → Held c y × (part c y 2 ≡ s) × (before s y ≡ 1)
      found y l p =
          ⊎_elim
          (λ e.
          ⊎_elim
          (λ q. ((l, e), q, held_times c y (follows c s y) e ∙ one_yes _ _ q))
          (λ q. let a = held_times c y (follows c s y) e ∙ one_no _ _ q in let z : ⊥ = omega (arith, a, p) in absurd z)
          (equal? (part c y 2) s))
          (λ f. let a = free_times c y (follows c s y) f in let z : ⊥ = omega (arith, a, p) in absurd z)
          (eq-zero-or-pos (occurrences y c.free))

      alone : (y : ℕ) → y < c.number → total c.number (before s) ≡ 1 → before s y ≡ 1
          → total c.number (λ z. before s z * occurrences z (chains c hs)) ≡ occurrences y (chains c hs)
      alone y l e m =
          total_ext c.number _ _ (λ z k. ap (λ (x : ℕ). x * occurrences z (chains c hs)) (total_alone c.number y (before s) l e m z k))
          ∙ total_at c.number y (λ z. occurrences z (chains c hs)) l

      from : occurrences s hs ≡ 0 → total c.number (before s) ≡ 1 → Before s
      from e t =
          let w = total_some c.number (before s) (omega (arith, t)) in
          let f = found w.0 w.1 w.2 in
          let a = counted s h.0 in
          let b = alone w.0 w.1 t f.2 in
          (w.0, f.0, f.1, omega (arith, a, b, e))

  -- Going back from a held segment one comes to a head, within c .number steps: further back a segment would be too far
  -- from its end. i counts the steps made, j those left.
  back : (j i s : ℕ) → Held c s → i + j ≡ c.number → ((k : ℕ) → k ≤ i → walk (λ x. part c x 2) k s ≡ NONE → ⊥) → occurrences s (chains c hs) ≡ 1
  unfolding walk
  back zero i s h e far = let w = r.no_next_ring s h in let l = w.1 in absurd (far w.0 (omega (arith, l, e)) w.2)
  back (suc j) i s h e far =
      ⊎_elim
      (λ q. q)
      (λ w. w.3 ∙ back j (suc i) w.0 w.1 (omega (arith, e)) (further w.0 w.1 w.2))
      (reached s h)
    where
      further : (y : ℕ) → Held c y → part c y 2 ≡ s → (k : ℕ) → k ≤ suc i → walk (λ x. part c x 2) k y ≡ NONE → ⊥
      further y g q zero l z = not_none c y small g.0 z
      further y g q (suc k) l z = far k (omega (arith, l)) (rw q at z)

  held_once : (s : ℕ) → Held c s → occurrences s (chains c hs) ≡ 1
  unfolding walk
  held_once s h = back c.number 0 s h (omega arith) start
    where
      start : (k : ℕ) → k ≤ 0 → walk (λ x. part c x 2) k s ≡ NONE → ⊥
      start zero l z = not_none c s small h.0 z
      start (suc k) l z = omega (arith, l)

  parted : Parted c hs
  parted = record { ends = ends; below = λ s p. (in_held s p).0; once = once }
    where
      once : (s : ℕ) → s < c.number → occurrences s c.free + occurrences s (chains c hs) ≡ 1
      once s l =
          ⊎_elim
          (λ e. let a = held_once s (l, e) in omega (arith, a, e))
          (λ f.
          let a = r.free_once s in
          let b = not_in s (λ h. let q = h.1 in omega (arith, q, f)) in
          omega (arith, a, b, f))
          (eq-zero-or-pos (occurrences s c.free))

  -- A tail is a held segment without a next, and each of these is a tail.
  record Tails (s : ℕ) : Type 0 where
    once : occurrences s c.free + occurrences s es ≤ 1
    all : occurrences s es ≡ before NONE s
    last : 0 < occurrences s es → part c s 2 ≡ NONE

  tail_of : (s : ℕ) → s < c.number → Tails s
  tail_of s l = ⊎_elim (λ e. ⊎_elim (λ q. end e q) (λ q. inner e q) (equal? (part c s 2) NONE)) free (eq-zero-or-pos (occurrences s c.free))
    where
      end : occurrences s c.free ≡ 0 → part c s 2 ≡ NONE → Tails s
      end e q =
          let a = r.ended s (l, e) q in
          record { once = omega (arith, a, e); all = a ∙ sym (held_times c s _ e ∙ one_yes _ _ q); last = λ p. q }

      inner : occurrences s c.free ≡ 0 → (part c s 2 ≡ NONE → ⊥) → Tails s
      inner e q =
          let a = r.inner s (l, e) q in
          record {
            once = omega (arith, a, e);
            all = a ∙ sym (held_times c s _ e ∙ one_no _ _ q);
            last = λ p. let z : ⊥ = omega (arith, a, p) in absurd z;
          }

      free : Free c s → Tails s
      free f =
          let a = (r.free_unnamed s f).1.1 in
          let b = r.free_once s in
          record {
            once = omega (arith, a, b);
            all = a ∙ sym (free_times c s _ f);
            last = λ p. let z : ⊥ = omega (arith, a, p) in absurd z;
          }

  pub rules_tested : Tested c hs es
  rules_tested =
      record {
        parts = apart;
        sum =
            sym (length-append c.free (chains c hs))
            ∙ length_total c.number (c.free ++ chains c hs) apart.below
            ∙ total_ones c.number _ (λ s l. occurs_append s c.free (chains c hs) ∙ parted.once s l);
        filled = λ s p q. r.not_empty s (in_held s p) q;
        ends = distinct_append c.number c.free es r.free_below tails (λ s l. (tail_of s l).once);
        many = length_total c.number es tails ∙ total_ext c.number _ _ (λ s l. (tail_of s l).all) ∙ parted_lasts c hs parted;
        lasts = λ s p. (tail_of s (tails s p)).last p;
      }
    where
      apart : Distinct c.number (c.free ++ chains c hs)
      apart = distinct_append c.number c.free (chains c hs) r.free_below parted.below (λ s l. let a = parted.once s l in omega (arith, a))

  pub rules_sound : (s : ℕ) → s < c.number → Sound c s
  rules_sound s l = record { first = r.firsts s l; count = r.counts s l; link = r.next_links s l }
