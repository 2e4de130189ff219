-- A task has a spot exactly where it was made and has not finished.
use Rattle.std.specs.Prelude.{◌≡◌, List, ◌<◌}
use Rattle.std.proofs.Math.Path.{subst}
use Rattle.std.proofs.Common.{⊎_elim, arith, eq-zero-or-pos}
use Rattle.spec_order.specs.Steps.{Name, Task, Item, step, spot, finishes, name_of}
use Rattle.law_order.specs.Items.{In, whose, WasMade}
use Rattle.law_order.specs.Count.{count, spot_named, finish_of, count_in, count_some, named_true, named_yes, finish_true, finish_yes}
use Rattle.law_order.specs.Reached.{Reached}
use Rattle.law_order.specs.Closes.{made_closes}
use Rattle.law_order.specs.Known.{whose_made}

module _ (xs : List Item) (h : Reached xs) (p : Name) where
  abbrev Spot : Type 0
  Spot = (s : Task) × In (spot s) xs × (name_of s ≡ p)

  pub spot_made : Spot → WasMade p xs
  unfolding whose
  spot_made w = subst (λ (n : Name). WasMade n xs) w.2 (whose_made xs h (spot w.0) w.1)

  pub spot_open : Spot → In (step p finishes) xs → ⊥
  spot_open w i =
      let a = made_closes xs h p (spot_made w) in
      let b = count_in (spot_named p) (spot w.0) xs w.1 (named_yes p w.0 w.2) in
      let d = count_in (finish_of p) (step p finishes) xs i (finish_yes p) in
      omega (arith, a, b, d)

  pub open_spot : WasMade p xs → (In (step p finishes) xs → ⊥) → Spot
  open_spot m n = ⊎_elim (λ z. absurd (finished z)) found (eq-zero-or-pos (count (spot_named p) xs))
    where
      finished : count (spot_named p) xs ≡ 0 → ⊥
      finished z =
          let a = made_closes xs h p m in
          let w = count_some (finish_of p) xs (omega (arith, a, z)) in
          n (subst (λ (x : Item). In x xs) (finish_true p w.0 w.2) w.1)

      found : 0 < count (spot_named p) xs → Spot
      found l =
          let w = count_some (spot_named p) xs l in
          let s = named_true p w.0 w.2 in
          (s.0, subst (λ (x : Item). In x xs) s.1 w.1, s.2)
