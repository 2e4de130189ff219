-- The smallest end of those that are under way.
use Rattle.std.specs.Prelude.{◌≡◌, Bool, List, [], ◌∷◌, ◌⊎◌, ℕ, ◌<◌, ◌≤◌, eqb, ltb}
use Rattle.std.proofs.Math.Path.{refl}
use Rattle.std.proofs.Common.{sym, ◌∙◌, ⊎_elim, arith}
use Rattle.std.proofs.Math.Bool.{true, false}
use Rattle.std.proofs.Math.Logic.{inl, inr}
use borrow.Author.Tests.{eqb-true, eqb-false, ltb-true, ltb-false}
use Rattle.spec_words.specs.Words.{load, pick, either}
use Rattle.spec_lists.specs.Counting.{occurrences, occurs_first, occurs_later}
use Rattle.spec_lists.specs.Maps.{All}
use Rattle.spec_simulate.specs.Machine.{earlier, soonest}

-- what the earlier of two ends is
record Earlier (d e x : ℕ) : Type 0 where
  zeros : x ≡ 0 → (d ≡ 0) × (e ≡ 0)
  first : 1 ≤ d → x ≤ d
  second : 1 ≤ e → x ≤ e
  either_of : (x ≡ d) ⊎ (x ≡ e)

earlier_is : (d e : ℕ) → Earlier d e (earlier d e)
unfolding earlier
earlier_is d e = go (eqb e 0) (eqb d 0) (ltb e d) refl refl refl
  where
    go : (a b c : Bool) → eqb e 0 ≡ a → eqb d 0 ≡ b → ltb e d ≡ c → Earlier d e (pick a d (pick (either b c) e d))
    go true b c x y z =
        unfold pick in
        let f = eqb-true e 0 x in
        record { zeros = λ h. (h, f); first = λ h. omega arith; second = λ h. absurd (zero_not f h); either_of = inl refl }
      where
        zero_not : e ≡ 0 → 1 ≤ e → ⊥
        zero_not p q = omega (arith, p, q)
    go false true c x y z =
        unfold pick either in
        let f = eqb-false e 0 x in
        let k = eqb-true d 0 y in
        record { zeros = λ h. absurd (f h); first = λ h. absurd (zero_not k h); second = λ h. omega arith; either_of = inr refl }
      where
        zero_not : d ≡ 0 → 1 ≤ d → ⊥
        zero_not p q = omega (arith, p, q)
    go false false true x y z =
        unfold pick either in
        let f = eqb-false e 0 x in
        let k = ltb-true e d z in
        record { zeros = λ h. absurd (f h); first = λ h. omega (arith, k); second = λ h. omega arith; either_of = inr refl }
    go false false false x y z =
        unfold pick either in
        let f = eqb-false d 0 y in
        let k = ltb-false e d z in
        record { zeros = λ h. absurd (f h); first = λ h. omega arith; second = λ h. omega (arith, k); either_of = inl refl }

-- what the smallest of many is, with d beside them
pub record Least (ends ts : List ℕ) (d x : ℕ) : Type 0 where
  pub zeros : x ≡ 0 → (d ≡ 0) × All (λ u. load ends u ≡ 0) ts
  pub bound : 1 ≤ d → x ≤ d
  pub below : All (λ u. 1 ≤ load ends u → x ≤ load ends u) ts
  pub met : (x ≡ d) ⊎ ((u : ℕ) × (0 < occurrences u ts) × (load ends u ≡ x))

pub soonest_is : (ends ts : List ℕ) (d : ℕ) → Least ends ts d (soonest ends ts d)
unfolding soonest
soonest_is ends [] d = record { zeros = λ h. (h, tt); bound = λ h. omega arith; below = tt; met = inl refl }
soonest_is ends (t ∷ ts) d = go (soonest_is ends ts (earlier d (load ends t))) (earlier_is d (load ends t))
  where
    go : Least ends ts (earlier d (load ends t)) (soonest ends ts (earlier d (load ends t))) → Earlier d (load ends t) (earlier d (load ends t))
        → Least ends (t ∷ ts) d (soonest ends ts (earlier d (load ends t)))
    go r f =
        record {
          zeros = λ h. let a = r.zeros h in let b = f.zeros a.0 in (b.0, (b.1, a.1));
          bound = λ h. let a = f.first h in let b = r.bound (some_end (λ z. let c = (f.zeros z).0 in omega (arith, c, h))) in omega (arith, a, b);
          below =
              ((λ h. let a = f.second h in let b = r.bound (some_end (λ z. let c = (f.zeros z).1 in omega (arith, c, h))) in omega (arith, a, b)), r.below);
          met =
              ⊎_elim
              (λ e. ⊎_elim (λ a. inl (e ∙ a)) (λ a. inr (t, occurs_first t ts, sym (e ∙ a))) f.either_of)
              (λ w. inr (w.0, occurs_later t w.0 ts w.1, w.2))
              r.met;
        }
      where
        some_end : ¬ (earlier d (load ends t) ≡ 0) → 1 ≤ earlier d (load ends t)
        some_end n = omega (arith, n)
