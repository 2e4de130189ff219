-- The spots before and after a step.
use Rattle.std.specs.Prelude.{◌≡◌, refl, List, [], ◌∷◌, ◌++◌, ◌⊎◌, ℕ, ◌+◌}
use Rattle.std.proofs.Common.{sym, subst, inl, inr, ⊎_elim, arith}
use Rattle.spec_order.specs.Steps.{Task, Item, spot, task, Act, spawns, pushes, pops, tests, syncs, finishes, name_of, number_of, rights_of, made}
use Rattle.law_order.specs.Items.{In, in_parts}
use Rattle.law_order_waits.specs.Played.{kids_of, Like, like_self, Spawns, made_spots}
use Rattle.law_order_waits.specs.Spots.{same_spot}

pub in_left : (x : Item) (xs ys : List Item) → In x xs → In x (xs ++ ys)
in_left x [] ys i = absurd i
in_left x (z ∷ xs) ys (inl e) = inl e
in_left x (z ∷ xs) ys (inr i) = inr (in_left x xs ys i)

pub in_right : (x : Item) (xs ys : List Item) → In x ys → In x (xs ++ ys)
in_right x [] ys i = i
in_right x (z ∷ xs) ys i = inr (in_right x xs ys i)

-- a finish leaves no spot of the task's own
pub no_spot : (s o : Task) → In (spot o) (made s finishes) → ⊥
unfolding made
no_spot (task p t r k) o (inl e) = let z : ◌≡◌ {A = ℕ} 0 1 = cc in omega (arith, z)
no_spot (task p t r k) o (inr i) = absurd i

-- any other step leaves one
own_spot : (s : Task) (a : Act) → (a ≡ finishes → ⊥) → (o : Task) × In (spot o) (made s a) × Like o s
unfolding made kids_of name_of number_of rights_of
own_spot (task p t r k) (spawns c u) n = (task p t r (k + 1), inr (inr (inl refl)), record { name = refl; number = refl; rights = refl; kids = omega arith })
own_spot (task p t r k) (pushes q v) n = (task p t r k, inr (inl refl), like_self (task p t r k))
own_spot (task p t r k) (pops q) n = (task p t r k, inr (inl refl), like_self (task p t r k))
own_spot (task p t r k) (tests q) n = (task p t r k, inr (inl refl), like_self (task p t r k))
own_spot (task p t r k) syncs n = (task p t r k, inr (inl refl), like_self (task p t r k))
own_spot (task p t r k) finishes n = absurd (n refl)

pub finish? : (a : Act) → (a ≡ finishes) ⊎ (a ≡ finishes → ⊥)
finish? finishes = inl refl
finish? (spawns c u) = inr (λ e. let z : ◌≡◌ {A = ℕ} 0 1 = cc in omega (arith, z))
finish? (pushes q v) = inr (λ e. let z : ◌≡◌ {A = ℕ} 0 1 = cc in omega (arith, z))
finish? (pops q) = inr (λ e. let z : ◌≡◌ {A = ℕ} 0 1 = cc in omega (arith, z))
finish? (tests q) = inr (λ e. let z : ◌≡◌ {A = ℕ} 0 1 = cc in omega (arith, z))
finish? syncs = inr (λ e. let z : ◌≡◌ {A = ℕ} 0 1 = cc in omega (arith, z))

module _ (ys zs : List Item) (s : Task) (a : Act) where
  abbrev Old : List Item
  Old = ys ++ spot s ∷ zs

  abbrev New : List Item
  New = ys ++ (made s a ++ zs)

  -- a spot of after: it was there, or is the child's
  pub back : (o : Task) → In (spot o) New → ((b : Task) × In (spot b) Old × Like o b) ⊎ Spawns s a o
  back o i = ⊎_elim left right (in_parts (spot o) ys (made s a ++ zs) i)
    where
      left : In (spot o) ys → ((b : Task) × In (spot b) Old × Like o b) ⊎ Spawns s a o
      left j = inl (o, in_left (spot o) ys (spot s ∷ zs) j, like_self o)

      right : In (spot o) (made s a ++ zs) → ((b : Task) × In (spot b) Old × Like o b) ⊎ Spawns s a o
      right j =
          ⊎_elim
          (λ k. ⊎_elim (λ l. inl (s, in_right (spot s) ys (spot s ∷ zs) (inl refl), l)) (λ w. inr w) (made_spots s a o k))
          (λ k. inl (o, in_right (spot o) ys (spot s ∷ zs) (inr k), like_self o))
          (in_parts (spot o) (made s a) zs j)

  -- a spot of before stays, but for the task that finishes
  pub forth : (o : Task) → In (spot o) Old → ((b : Task) × In (spot b) New × Like b o) ⊎ ((o ≡ s) × (a ≡ finishes))
  forth o i = ⊎_elim left right (in_parts (spot o) ys (spot s ∷ zs) i)
    where
      left : In (spot o) ys → ((b : Task) × In (spot b) New × Like b o) ⊎ ((o ≡ s) × (a ≡ finishes))
      left j = inl (o, in_left (spot o) ys (made s a ++ zs) j, like_self o)

      own : o ≡ s → ((b : Task) × In (spot b) New × Like b o) ⊎ ((o ≡ s) × (a ≡ finishes))
      own e =
          ⊎_elim
          (λ f. inr (e, f))
          (λ n. let w = own_spot s a n in
          inl (w.0, in_right (spot w.0) ys (made s a ++ zs) (in_left (spot w.0) (made s a) zs w.1), subst (Like w.0) (sym e) w.2))
          (finish? a)

      right : In (spot o) (spot s ∷ zs) → ((b : Task) × In (spot b) New × Like b o) ⊎ ((o ≡ s) × (a ≡ finishes))
      right (inl e) = own (same_spot e)
      right (inr j) = inl (o, in_right (spot o) ys (made s a ++ zs) (in_right (spot o) (made s a) zs j), like_self o)

-- the spawner has made one more child
pub spawner : (ys zs : List Item) (s : Task) (c r : ℕ)
    → (o : Task) × In (spot o) (ys ++ (made s (spawns c r) ++ zs)) × Like o s × (kids_of o ≡ kids_of s + 1)
unfolding made kids_of name_of number_of rights_of
spawner ys zs (task p t r k) c u = (
  task p t r (k + 1),
  in_right _ ys _ (inr (inr (inl refl))),
  record { name = refl; number = refl; rights = refl; kids = omega arith },
  refl,
)
