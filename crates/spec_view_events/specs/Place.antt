-- Placing the segments of a chain one after the other, as the code does it.
use Rattle.std.specs.Prelude.{◌≡◌, Option, Some as known, None as unknown, Bool, not, ltb, eqb}
use Rattle.std.proofs.Math.Path.{refl, ap, sym}
use Rattle.std.proofs.Common.{◌∙◌, le-ltb}
use Rattle.std.proofs.Math.Bool.{true, false}
use mathlib.Core.List.{List, [], ◌∷◌}
use Prim.Native.Nat.{ℕ, zero, suc, ◌+◌, ◌≤◌}
use native.Mathlib.Omega.{arith}
use Rattle.std.proofs.Math.ListN.{length}
use Rattle.spec_words.specs.Words.{load, store, pick, both, either, both_off, pass}
use Rattle.spec_lists.specs.Tests.{each}
use Rattle.spec_lists.specs.Distinct.{fresh}
use Rattle.spec_lists.specs.Marks.{marking}
use Rattle.spec_layout.specs.Layout.{NONE}
use Rattle.spec_rules.specs.Contents.{Contents, part}
use Rattle.spec_rules.specs.Test.{chain}
use Rattle.spec_view_events.specs.Run.{filled}

-- what placing a chain gives: the number of its segments and the marks with theirs; nothing where the chain is wrong
pub data Placed : Type 0 where
  placed : ℕ → List ℕ → Placed
  wrong : Placed

-- the chain from s, of at most j segments, where k were placed before it
unfoldable pub placing : Contents → ℕ → ℕ → ℕ → List ℕ → Placed
placing c zero s k d = wrong
placing c (suc j) s k d =
    pick (ltb s c.number)
    (pick (eqb (load d s) 0)
    (pick (eqb (part c s 2) NONE) (placed (k + 1) (store d s 1))
    (pick (eqb (part c s 1) 0) wrong (placing c j (part c s 2) (k + 1) (store d s 1))))
    wrong)
    wrong

-- the same as an answer of code: the number of segments, if the chain is right
unfoldable pub answered : Option ℕ → List ℕ → Placed
answered (known k) d = placed k d
answered unknown d = wrong

module _ (c : Contents) (small : c.number ≤ 256) where
  -- the tests of a list of segments, and what placing them gives
  abbrev pub Right : List ℕ → List ℕ → Bool
  Right l d = both (fresh c.number l d) (each (filled c) l)

  abbrev pub Gives : List ℕ → ℕ → List ℕ → Placed
  Gives l k d = pick (Right l d) (placed (k + length l) (marking l d)) wrong

  step : (a b z y : Bool) (k s : ℕ) (d d1 r : List ℕ) (p : Placed) → p ≡ Gives r (k + 1) d1
      → pick a (pick b (pick z (placed (k + 1) d1) (pick y wrong p)) wrong) wrong
      ≡ pick (both (both a (both b (fresh c.number (pick z [] r) d1))) (both (either z (not y)) (each (filled c) (pick z [] r))))
      (placed (k + suc (length (pick z [] r))) (marking (pick z [] r) d1)) wrong
  unfolding pick both either fresh each marking
  step true true true y k s d d1 r p e = ap (λ (i : ℕ). placed i d1) (let z : k + 1 ≡ k + suc 0 = omega arith in z)
  step true true false false k s d d1 r p e = e ∙ go (fresh c.number r d1)
    where
      count : k + 1 + length r ≡ k + suc (length r)
      count = omega arith

      go : (b : Bool) → pick (both b (each (filled c) r)) (placed (k + 1 + length r) (marking r d1)) wrong
          ≡ pick (both b (each (filled c) r)) (placed (k + suc (length r)) (marking r d1)) wrong
      go b = ap (λ (i : ℕ). pick (both b (each (filled c) r)) (placed i (marking r d1)) wrong) count
  step true true false true k s d d1 r p e = go (fresh c.number r d1)
    where
      go : (b : Bool) → wrong ≡ pick (both b false) (placed (k + suc (length r)) (marking r d1)) wrong
      go true = refl
      go false = refl
  step true false z y k s d d1 r p e = refl
  step false b z y k s d d1 r p e = refl

  -- placing a chain tests the list of its segments
  pub placing_chain : (j s k : ℕ) (d : List ℕ) → placing c j s k d ≡ Gives (chain c j s) k d
  unfolding placing chain
  placing_chain zero s k d = sym (pass _ (both_off _ (none d)) refl)
    where
      none : (d : List ℕ) → fresh c.number (NONE ∷ []) d ≡ false
      none d = unfold fresh in both_off _ (le-ltb NONE c.number (omega (arith, small)))
  placing_chain (suc j) s k d =
      step (ltb s c.number) (eqb (load d s) 0) (eqb (part c s 2) NONE) (eqb (part c s 1) 0) k s d (store d s 1) (chain c j (part c s 2))
      (placing c j (part c s 2) (k + 1) (store d s 1)) (placing_chain j (part c s 2) (k + 1) (store d s 1))
      ∙ cons (pick (eqb (part c s 2) NONE) [] (chain c j (part c s 2)))
    where
      cons : (r : List ℕ)
          → pick (both (both (ltb s c.number) (both (eqb (load d s) 0) (fresh c.number r (store d s 1))))
          (both (either (eqb (part c s 2) NONE) (not (eqb (part c s 1) 0))) (each (filled c) r)))
          (placed (k + suc (length r)) (marking r (store d s 1))) wrong
          ≡ Gives (s ∷ r) k d
      cons r = unfold fresh each marking filled in refl
