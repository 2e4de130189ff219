-- AN UNFINISHED TASK'S ANCESTORS ARE UNFINISHED, and no two of them have names of one length: a name is shorter than the unfinished tasks
-- are many.
use Rattle.std.specs.Prelude.{◌≡◌, refl, List, [], ◌∷◌, ℕ, suc, ◌+◌, ◌-◌, ◌<◌, ◌≤◌, length}
use Rattle.std.proofs.Common.{ap, inl, inr, arith}
use Rattle.spec_order.specs.Steps.{Name, Task, Item, step, spot, name_of}
use Rattle.spec_order.specs.Ordered.{spots}
use Rattle.law_order.specs.Items.{In}
use Rattle.law_order_waits.specs.Spots.{same_spot}
use Rattle.law_order_waits.specs.Played.{Played}
use Rattle.law_order_waits.specs.Kinship.{kinship}

-- 1 where the name p is shorter than d, else 0
abbrev below : ℕ → Name → ℕ
below d p = 1 - (length p + 1 - d)

-- how many unfinished tasks have a name shorter than d
unfoldable shorter : ℕ → List Item → ℕ
shorter d [] = 0
shorter d (step p a ∷ xs) = shorter d xs
shorter d (spot s ∷ xs) = shorter d xs + below d (name_of s)

shorter_few : (d : ℕ) (xs : List Item) → shorter d xs ≤ spots xs
unfolding shorter spots
shorter_few d [] = omega arith
shorter_few d (step p a ∷ xs) = shorter_few d xs
shorter_few d (spot s ∷ xs) = let a = shorter_few d xs in omega (arith, a)

shorter_grows : (d : ℕ) (xs : List Item) → shorter d xs ≤ shorter (suc d) xs
unfolding shorter
shorter_grows d [] = omega arith
shorter_grows d (step p a ∷ xs) = shorter_grows d xs
shorter_grows d (spot s ∷ xs) = let a = shorter_grows d xs in omega (arith, a)

-- a name of length d is one more
shorter_more : (d : ℕ) (xs : List Item) (s : Task) → In (spot s) xs → length (name_of s) ≡ d → shorter d xs < shorter (suc d) xs
unfolding shorter
shorter_more d [] s i e = absurd i
shorter_more d (step p a ∷ xs) s (inl f) e = let z : ◌≡◌ {A = ℕ} 0 1 = cc in absurd (omega (arith, z))
shorter_more d (step p a ∷ xs) s (inr i) e = shorter_more d xs s i e
shorter_more d (spot o ∷ xs) s (inl f) e =
    let a = shorter_grows d xs in
    let b = ap (λ (t : Task). length (name_of t)) (same_spot f) in
    omega (arith, a, b, e)
shorter_more d (spot o ∷ xs) s (inr i) e = let a = shorter_more d xs s i e in omega (arith, a)

module _ {xs : List Item} (played : Played xs) where
  -- a task and its ancestors: one name of each length
  line_of : (p : Name) (s : Task) → In (spot s) xs → name_of s ≡ p → length p < shorter (suc (length p)) xs
  line_of [] s i e = let a = shorter_more 0 xs s i (ap (λ (n : Name). length n) e) in omega (arith, a)
  line_of (k ∷ p) s i e =
      let o = (kinship played).parent s k p i e in
      let a = line_of p o.0 o.1 o.2 in
      let b = shorter_more (suc (length p)) xs s i (ap (λ (n : Name). length n) e) in
      omega (arith, a, b)

  pub name_short : (s : Task) → In (spot s) xs → length (name_of s) < spots xs
  name_short s i =
      let a = line_of (name_of s) s i refl in
      let b = shorter_few (suc (length (name_of s))) xs in
      omega (arith, a, b)
