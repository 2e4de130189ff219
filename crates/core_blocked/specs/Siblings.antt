-- Whether a test holds of some task along the OLDER links, and that a task is blocked by the queues that its older siblings pop.
use Rattle.std.specs.Prelude.{◌≡◌, Bool, List, eqb}
use Rattle.std.proofs.Math.Path.{refl, ap, sym}
use Rattle.std.proofs.Common.{ap₂, ◌∙◌, le_of_suc-le-suc, arith}
use Rattle.std.proofs.Math.Bool.{true, false, not}
use Prim.Native.Nat.{ℕ, zero, suc, ◌/◌, ◌%◌, ◌^◌, ◌<◌, ◌≤◌}
use Rattle.std.specs.Int.Bits.{bit_or}
use Rattle.std.proofs.lemmas.Nat.{or_shr, or_mod}
use Rattle.std.proofs.Math.Dec.{leb}
use borrow.Author.Tests.{lt-leb, le-leb, leb-false, ne_eqb}
use Rattle.spec_words.specs.Words.{load, pick, both, either, pass, halt}
use Rattle.spec_layout.specs.Layout.{NONE, OLDER, task, rights_of, read, record_of}
use Rattle.spec_tree.specs.Rights.{bits, pops, some_queue, shares_pop}
use Rattle.spec_tree.specs.Queues.{by_four}
use Rattle.spec_tree.specs.Tour.{sibling}
use Rattle.spec_rules.specs.Rules.{walk}
use Rattle.spec_outcomes.specs.Waits.{blocked}

-- two tests at one step of a walk, which ends where l says so
turn_either : (l x y u v : Bool) → pick l false (either (either x y) (either u v)) ≡ either (pick l false (either x u)) (pick l false (either y v))
unfolding either pick
turn_either true x y u v = refl
turn_either false true y u v = refl
turn_either false false true true v = refl
turn_either false false true false v = refl
turn_either false false false u v = refl

turn_both : (l x y b : Bool) → pick l false (either (both x b) (both y b)) ≡ both (pick l false (either x y)) b
unfolding both either pick
turn_both true x y b = refl
turn_both false true true true = refl
turn_both false true true false = refl
turn_both false true false true = refl
turn_both false true false false = refl
turn_both false false y b = refl

module _ (recs : ℕ → List ℕ) where
  -- f holds of one of c and its older siblings, at most n of them
  unfoldable pub some_from : ℕ → (ℕ → Bool) → ℕ → Bool
  some_from n f c = not (eqb (sibling n f recs c) NONE)

  some_none : (f : ℕ → Bool) (c : ℕ) → some_from 0 f c ≡ false
  unfolding some_from sibling
  some_none f c = refl

  some_step : (n : ℕ) (f : ℕ → Bool) (c : ℕ) → some_from (suc n) f c ≡ pick (leb 128 c) false (either (f c) (some_from n f (load (recs c) OLDER)))
  unfolding some_from sibling either pick
  some_step n f c = go (leb 128 c) (f c) refl
    where
      go : (l b : Bool) → leb 128 c ≡ l
          → not (eqb (pick l NONE (pick b c (sibling n f recs (load (recs c) OLDER)))) NONE)
          ≡ pick l false (pick b true (not (eqb (sibling n f recs (load (recs c) OLDER)) NONE)))
      go true b e = refl
      go false true e = let h = leb-false 128 c e in ap not (ne_eqb c NONE (λ z. omega (arith, h, z)))
      go false false e = refl

  pub some_past : (n : ℕ) (f : ℕ → Bool) (c : ℕ) → 128 ≤ c → some_from (suc n) f c ≡ false
  some_past n f c h = some_step n f c ∙ halt _ _ (le-leb 128 c h)

  pub some_here : (n : ℕ) (f : ℕ → Bool) (c : ℕ) → c < 128 → some_from (suc n) f c ≡ either (f c) (some_from n f (load (recs c) OLDER))
  some_here n f c h = some_step n f c ∙ pass _ (lt-leb 128 c h) refl

  -- one of two tests holds where the first does or the second
  some_either : (n : ℕ) (f g : ℕ → Bool) (c : ℕ) → some_from n (λ x. either (f x) (g x)) c ≡ either (some_from n f c) (some_from n g c)
  some_either zero f g c = some_none _ c ∙ sym (ap₂ either (some_none f c) (some_none g c) ∙ (unfold either pick in refl))
  some_either (suc n) f g c =
      some_step n _ c
      ∙ ap (λ (b : Bool). pick (leb 128 c) false (either (either (f c) (g c)) b)) (some_either n f g _)
      ∙ turn_either (leb 128 c) (f c) (g c) (some_from n f _) (some_from n g _)
      ∙ sym (ap₂ either (some_step n f c) (some_step n g c))

  -- and with what does not hang on the task
  some_both : (n : ℕ) (f : ℕ → Bool) (b : Bool) (c : ℕ) → some_from n (λ x. both (f x) b) c ≡ both (some_from n f c) b
  some_both zero f b c = some_none _ c ∙ sym (ap (λ (x : Bool). both x b) (some_none f c) ∙ (unfold both pick in refl))
  some_both (suc n) f b c =
      some_step n _ c
      ∙ ap (λ (x : Bool). pick (leb 128 c) false (either (both (f c) b) x)) (some_both n f b _)
      ∙ turn_both (leb 128 c) (f c) (some_from n f _) b
      ∙ sym (ap (λ (x : Bool). both x b) (some_step n f c))

  -- more steps than the list has find no more
  enough : (k n : ℕ) (f : ℕ → Bool) (c : ℕ) → k ≤ n → walk (λ x. load (recs x) OLDER) k c ≡ NONE → sibling n f recs c ≡ sibling k f recs c
  unfolding sibling walk
  enough zero zero f c h e = refl
  enough zero (suc n) f c h e = halt _ _ (le-leb 128 c (omega (arith, e)))
  enough (suc k) zero f c h e = let z : ⊥ = omega (arith, h) in absurd z
  enough (suc k) (suc n) f c h e =
      ap (λ (w : ℕ). pick (leb 128 c) NONE (pick (f c) c w)) (enough k n f (load (recs c) OLDER) (le_of_suc-le-suc h) e)

  pub some_enough : (k n : ℕ) (f : ℕ → Bool) (c : ℕ) → k ≤ n → k ≤ 128 → walk (λ x. load (recs x) OLDER) k c ≡ NONE → some_from n f c ≡ some_from 128 f c
  unfolding some_from
  some_enough k n f c h g e = ap (λ (w : ℕ). not (eqb w NONE)) (enough k n f c h e ∙ sym (enough k 128 f c g e))

-- AN OLDER SIBLING of t may pop q
unfoldable pub older_pops : List ℕ → ℕ → ℕ → Bool
older_pops m t q = some_from (record_of m) 128 (λ c. pops (rights_of m c) q) (read m (task t OLDER))

-- the word w has the pop bits of the queues that an older sibling of t may pop
abbrev pub Tells : List ℕ → ℕ → ℕ → Type 0
Tells m t w = (q : ℕ) → q < 4 → pops w q ≡ older_pops m t q

pub tells_blocked : (m : List ℕ) (t w : ℕ) → Tells m t w → shares_pop w (rights_of m t) ≡ blocked m t
unfolding shares_pop some_queue blocked older_pops some_from
tells_blocked m t w h =
    sym (some_either recs 128 (at 0) (λ c. either (at 1 c) (either (at 2 c) (at 3 c))) o
    ∙ ap₂ either (one 0 (omega arith)) (some_either recs 128 (at 1) (λ c. either (at 2 c) (at 3 c)) o
    ∙ ap₂ either (one 1 (omega arith)) (some_either recs 128 (at 2) (at 3) o
    ∙ ap₂ either (one 2 (omega arith)) (one 3 (omega arith)))))
  where
    recs : ℕ → List ℕ
    recs = record_of m

    o : ℕ
    o = read m (task t OLDER)

    at : ℕ → ℕ → Bool
    at q c = both (pops (rights_of m c) q) (pops (rights_of m t) q)

    one : (q : ℕ) → q < 4 → some_from recs 128 (at q) o ≡ both (pops w q) (pops (rights_of m t) q)
    one q l = some_both recs 128 (λ c. pops (rights_of m c) q) (pops (rights_of m t) q) o ∙ ap (λ (b : Bool). both b (pops (rights_of m t) q)) (sym (h q l))

-- BOTH WORDS' BITS
abbrev pop_pair : ℕ → Bool
pop_pair u = eqb (u / 2) 1

pair_or : (u v : ℕ) → u < 4 → v < 4 → pop_pair (bit_or u v) ≡ either (pop_pair u) (pop_pair v)
unfolding either pick
pair_or u v h g =
    by_four (λ u. (v : ℕ) → v < 4 → pop_pair (bit_or u v) ≡ either (pop_pair u) (pop_pair v))
    (by_four (λ v. pop_pair (bit_or 0 v) ≡ either (pop_pair 0) (pop_pair v)) refl refl refl refl)
    (by_four (λ v. pop_pair (bit_or 1 v) ≡ either (pop_pair 1) (pop_pair v)) refl refl refl refl)
    (by_four (λ v. pop_pair (bit_or 2 v) ≡ either (pop_pair 2) (pop_pair v)) refl refl refl refl)
    (by_four (λ v. pop_pair (bit_or 3 v) ≡ either (pop_pair 3) (pop_pair v)) refl refl refl refl)
    u h v g

or_at : (a b k : ℕ) → pop_pair (bit_or a b / 2 ^ k % 4) ≡ either (pop_pair (a / 2 ^ k % 4)) (pop_pair (b / 2 ^ k % 4))
or_at a b k =
    ap pop_pair (ap (λ (n : ℕ). n % 4) (or_shr a b k) ∙ or_mod (a / 2 ^ k) (b / 2 ^ k) 2)
    ∙ pair_or (a / 2 ^ k % 4) (b / 2 ^ k % 4) (omega arith) (omega arith)

pub pops_or : (a b q : ℕ) → q < 4 → pops (bit_or a b) q ≡ either (pops a q) (pops b q)
unfolding pops bits
pops_or a b q h =
    by_four (λ q. pop_pair (bit_or a b / 4 ^ q % 4) ≡ either (pop_pair (a / 4 ^ q % 4)) (pop_pair (b / 4 ^ q % 4)))
    (or_at a b 0) (or_at a b 2) (or_at a b 4) (or_at a b 6) q h

pub pops_none : (q : ℕ) → q < 4 → pops 0 q ≡ false
unfolding pops bits
pops_none = by_four (λ q. pops 0 q ≡ false) refl refl refl refl
