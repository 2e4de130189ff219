-- THE RIGHTS TO ONE QUEUE: a task that uses it pushes or pops, one that does not does neither; and rights within others.
use Rattle.std.specs.Prelude.{◌≡◌, Bool, true, false}
use Rattle.std.proofs.Math.Path.{refl, sym}
use Rattle.std.proofs.Common.{◌∙◌}
use Rattle.std.proofs.lemmas.Bool.{false≢true}
use Prim.Native.Nat.{ℕ, zero, suc, ◌/◌, ◌%◌, ◌<◌}
use native.Mathlib.Omega.{arith}
use borrow.Author.Tests.{eqb-true, eqb-false, eq-eqb, ne_eqb, not-true, not-false}
use Rattle.spec_words.specs.Words.{halt, both_true}
use Rattle.spec_tree.specs.Rights.{bits, pushes, pops, uses, subset}
use Rattle.spec_tree.specs.Queues.{each_queue_lem}

-- by the two bits of the queue
module _ (r q : ℕ) where
  pub uses_pushes : uses r q ≡ true → pops r q ≡ false → pushes r q ≡ true
  unfolding uses pops pushes
  uses_pushes u p =
      let l : bits r q < 4 = unfold bits in omega arith in
      let n = eqb-false (bits r q) 0 (not-true _ u) in
      let m = eqb-false (bits r q / 2) 1 p in
      eq-eqb (bits r q % 2) 1 (go (bits r q) l n m)
    where
      go : (b : ℕ) → b < 4 → (b ≡ 0 → ⊥) → (b / 2 ≡ 1 → ⊥) → b % 2 ≡ 1
      go zero l n m = absurd (n refl)
      go (suc zero) l n m = refl
      go (suc (suc zero)) l n m = absurd (m refl)
      go (suc (suc (suc zero))) l n m = refl
      go (suc (suc (suc (suc b)))) l n m = let z : ⊥ = omega (arith, l) in absurd z

  pub useless_pushes : uses r q ≡ false → pushes r q ≡ false
  unfolding uses pushes
  useless_pushes u = let e = eqb-true (bits r q) 0 (not-false _ u) in ne_eqb (bits r q % 2) 1 (λ d. omega (arith, d, e))

  pub useless_pops : uses r q ≡ false → pops r q ≡ false
  unfolding uses pops
  useless_pops u = let e = eqb-true (bits r q) 0 (not-false _ u) in ne_eqb (bits r q / 2) 1 (λ d. omega (arith, d, e))

  used : {b : Bool} → (uses r q ≡ false → b ≡ false) → b ≡ true → uses r q ≡ true
  used f p = go (uses r q) refl
    where
      go : (d : Bool) → uses r q ≡ d → uses r q ≡ true
      go true e = e
      go false e = absurd (false≢true (sym (f e) ∙ p))

  pub pops_uses : pops r q ≡ true → uses r q ≡ true
  pops_uses = used useless_pops

  pub pushes_uses : pushes r q ≡ true → uses r q ≡ true
  pushes_uses = used useless_pushes

-- RIGHTS WITHIN OTHERS: what a task may do its spawner may
module _ (a b q : ℕ) (small : q < 4) (e : subset a b ≡ true) where
  pub subset_pops : pops a q ≡ true → pops b q ≡ true
  unfolding subset
  subset_pops p = sym (halt _ _ p) ∙ (both_true _ _ (each_queue_lem _ (both_true _ _ e).1 q small)).1

  pub subset_pushes : pushes a q ≡ true → pushes b q ≡ true
  unfolding subset
  subset_pushes p = sym (halt _ _ p) ∙ (both_true _ _ (each_queue_lem _ (both_true _ _ e).1 q small)).0

  pub subset_uses : uses a q ≡ true → uses b q ≡ true
  subset_uses u = go (pops a q) refl
    where
      go : (d : Bool) → pops a q ≡ d → uses b q ≡ true
      go true p = pops_uses b q (subset_pops p)
      go false p = pushes_uses b q (subset_pushes (uses_pushes a q u p))
