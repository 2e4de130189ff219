-- THE SPOTS AFTER A FINISH of s are those before it, but its own.
use Rattle.std.specs.Prelude.{◌≡◌, refl, List, [], ◌∷◌, ◌++◌, ◌⊎◌, ℕ, ◌+◌, ◌<◌, ◌≤◌}
use Rattle.std.proofs.Common.{ap, inl, inr, ⊎_elim, arith}
use Rattle.spec_order.specs.Steps.{Task, Item, spot, finishes, number_of, made}
use Rattle.law_order.specs.Items.{In, in_parts}
use Rattle.law_order.specs.Count.{count, spot_numbered, count_append, count_in}
use Rattle.law_order.specs.Laws.{one_spot}
use Rattle.law_order_waits.specs.Spots.{numbered, same_spot}
use Rattle.law_order_waits.specs.Played.{Played, played_reached}
use Rattle.law_order_waits.specs.Changes.{in_left, in_right, no_spot}

module _ (ys zs : List Item) (s : Task) (play : Played (ys ++ spot s ∷ zs)) where
  abbrev t : ℕ
  t = number_of s

  abbrev Old : List Item
  Old = ys ++ spot s ∷ zs

  abbrev New : List Item
  New = ys ++ (made s finishes ++ zs)

  parted : (o : Task) → In (spot o) New → In (spot o) ys ⊎ In (spot o) zs
  parted o i =
      ⊎_elim (λ j. inl j) (λ j. ⊎_elim (λ k. absurd (no_spot s o k)) (λ k. inr k) (in_parts (spot o) (made s finishes) zs j))
      (in_parts (spot o) ys (made s finishes ++ zs) i)

  pub was : (o : Task) → In (spot o) New → In (spot o) Old
  was o i = ⊎_elim (in_left (spot o) ys (spot s ∷ zs)) (λ k. in_right (spot o) ys (spot s ∷ zs) (inr k)) (parted o i)

  -- and no spot has its number
  pub gone : (o : Task) → In (spot o) New → number_of o ≡ t → ⊥
  gone o i e =
      ⊎_elim
      (λ k. let a = count_in (spot_numbered t) (spot o) ys k (numbered o t e) in omega (arith, a, total, here))
      (λ k. let a = count_in (spot_numbered t) (spot o) zs k (numbered o t e) in omega (arith, a, total, here))
      (parted o i)
    where
      total : count (spot_numbered t) ys + (count (spot_numbered t) (spot s ∷ []) + count (spot_numbered t) zs) ≤ 1
      total =
          let a = (one_spot Old (played_reached play)).1 t in
          let b = count_append (spot_numbered t) ys (spot s ∷ zs) in
          let d = count_append (spot_numbered t) (spot s ∷ []) zs in
          omega (arith, a, b, d)

      here : 0 < count (spot_numbered t) (spot s ∷ [])
      here = count_in (spot_numbered t) (spot s) (spot s ∷ []) (inl refl) (numbered s t refl)

  -- all others stay
  pub stays : (o : Task) → In (spot o) Old → (number_of o ≡ t → ⊥) → In (spot o) New
  stays o i n = ⊎_elim (in_left (spot o) ys (made s finishes ++ zs)) right (in_parts (spot o) ys (spot s ∷ zs) i)
    where
      right : In (spot o) (spot s ∷ zs) → In (spot o) New
      right (inl e) = absurd (n (ap number_of (same_spot e)))
      right (inr j) = in_right (spot o) ys (made s finishes ++ zs) (in_right (spot o) (made s finishes) zs j)
