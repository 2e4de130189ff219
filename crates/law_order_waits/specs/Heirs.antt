-- Who is the first popper after a step: the same task, but for a spawn that hands the pop right on, and for a finish.
use Rattle.std.specs.Prelude.{◌≡◌, refl, Bool, ◌⊎◌, ℕ, ◌<◌, ltb}
use Rattle.std.proofs.Common.{ap, sym, ◌∙◌, subst, inl, inr, ⊎_elim, eq-or-lt_of_le, arith, ltb-true, ltb-false}
use Rattle.std.proofs.Math.Path.{ap₂}
use Rattle.std.proofs.Math.Bool.{true, false}
use Rattle.std.proofs.lemmas.Bool.{false≢true}
use mathlib.Core.List.{List, [], ◌∷◌, ◌++◌, head-eq_of_cons-eq, tail-eq_of_cons-eq}
use Rattle.std.proofs.Math.Option.{Option, none, some}
use Rattle.spec_words.specs.Words.{pick, pass, halt}
use Rattle.spec_tree.specs.Rights.{pops as mayPop}
use Rattle.spec_order.specs.Steps.{Name, Task, Item, spot, task, Act, spawns, finishes, name_of, number_of, rights_of, made}
use Rattle.spec_order.specs.Waits.{is_older, blocked}
use Rattle.law_order.specs.Items.{In, in_split}
use Rattle.law_order.specs.Courses.{plain}
use Rattle.law_order.specs.Reached.{Reached}
use Rattle.law_order.specs.Moves.{made_plain, made_finish}
use Rattle.law_order_waits.specs.Spots.{older_says, says_older}
use Rattle.law_order_waits.specs.Played.{Played, played_reached, Like}
use Rattle.law_order_waits.specs.Changes.{in_right, back}
use Rattle.law_order_waits.specs.Kinship.{kinship, says_blocked}
use Rattle.law_order_waits.specs.Popper.{first_popper, both_share, no_earlier}
use Rattle.law_order_waits.specs.Poppers.{or_else, new_is, kept_when, other_first, popper_none, none_before, first_is}

popper_plain : (q : ℕ) (s : Task) (a : Act) → plain a ≡ true → first_popper q (made s a) ≡ first_popper q (spot s ∷ [])
unfolding first_popper
popper_plain q s a e = ap (first_popper q) (made_plain s a e)

popper_finish : (q : ℕ) (s : Task) → first_popper q (made s finishes) ≡ none
unfolding first_popper
popper_finish q s = ap (first_popper q) (made_finish s)

popper_spawn : (q : ℕ) (s : Task) (c r : ℕ) → first_popper q (made s (spawns c r)) ≡ pick (mayPop r q) (some c) (first_popper q (spot s ∷ []))
unfolding made first_popper number_of rights_of
popper_spawn q (task p t u k) c r = refl

module _ (ys zs : List Item) (s : Task) (q : ℕ) where
  abbrev Old : List Item
  Old = ys ++ spot s ∷ zs

  abbrev New : Act → List Item
  New a = ys ++ (made s a ++ zs)

  pub plain_popper : (a : Act) → plain a ≡ true → first_popper q (New a) ≡ first_popper q Old
  plain_popper a e = kept_when ys zs s q a (popper_plain q s a e)

  -- a child that does not pop changes nothing
  pub spawn_kept : (c r : ℕ) → mayPop r q ≡ false → first_popper q (New (spawns c r)) ≡ first_popper q Old
  spawn_kept c r e = kept_when ys zs s q (spawns c r) (popper_spawn q s c r ∙ pass _ e refl)

  -- "the queue view for each that it pops": the child of the first popper is the first
  pub spawn_first : (c r : ℕ) → Reached Old → mayPop r q ≡ true → first_popper q Old ≡ some (number_of s) → first_popper q (New (spawns c r)) ≡ some c
  unfolding or_else
  spawn_first c r h e f =
      new_is ys zs s q (spawns c r)
      ∙ ap₂ (λ (x y : Option ℕ). or_else x (or_else y (first_popper q zs))) (none_before ys zs s q h f) (popper_spawn q s c r ∙ halt _ _ e)

  pub spawn_other : (c r h : ℕ) → (mayPop r q ≡ true → mayPop (rights_of s) q ≡ true) → first_popper q Old ≡ some h → (h ≡ number_of s → ⊥)
      → first_popper q (New (spawns c r)) ≡ some h
  unfolding first_popper
  spawn_other c r h sub e n = other_first ys zs s q (spawns c r) h e n (λ f. popper_spawn q s c r ∙ pass _ (not_child f (mayPop r q) refl) (pass _ f refl))
    where
      not_child : mayPop (rights_of s) q ≡ false → (b : Bool) → mayPop r q ≡ b → mayPop r q ≡ false
      not_child f true d = absurd (false≢true (sym f ∙ sub d))
      not_child f false d = d

  pub finish_other : (h : ℕ) → first_popper q Old ≡ some h → (h ≡ number_of s → ⊥) → first_popper q (New finishes) ≡ some h
  finish_other h e n = other_first ys zs s q finishes h e n (λ f. popper_finish q s)

  -- "a returned queue view goes to the oldest unfinished sibling with that pop right, else to the parent"
  module _ (small : q < 4) (old : Played Old) (new : Played (New finishes)) (k : ℕ) (p : Name) (mine : name_of s ≡ k ∷ p)
      (may : mayPop (rights_of s) q ≡ true) (free : blocked (number_of s) Old ≡ false) where
    here : In (spot s) Old
    here = in_right (spot s) ys (spot s ∷ zs) (inl refl)

    -- a task of after is one of before, and not s
    was : (o : Task) → In (spot o) (New finishes) → (b : Task) × In (spot b) Old × Like o b
    was o i = ⊎_elim (λ w. w) (λ w. let e = w.2 in let z : ◌≡◌ {A = ℕ} 0 1 = cc in absurd (omega (arith, z))) (back ys zs s finishes o i)

    -- the first popper, by its siblings and children after the finish
    first_after : (h : Task) → In (spot h) (New finishes) → mayPop (rights_of h) q ≡ true
        → ((o : Task) → In (spot o) (New finishes) → is_older (name_of o) (name_of h) ≡ true → mayPop (rights_of o) q ≡ true → ⊥)
        → ((c : Task) (j : ℕ) → In (spot c) (New finishes) → name_of c ≡ j ∷ name_of h → mayPop (rights_of c) q ≡ true → ⊥)
        → first_popper q (New finishes) ≡ some (number_of h)
    first_after h i m older child =
        let w = in_split (spot h) (New finishes) i in
        ap (first_popper q) w.2
        ∙ first_is w.0 w.1 h q m
        (popper_none q w.0 (no_earlier (New finishes) (kinship new) q small w.0 w.1 h (played_reached new) w.2 m older child))

    sib : {j : ℕ} {n : Name} → n ≡ j ∷ p → (o : Name) → is_older o n ≡ true → (i : ℕ) × (o ≡ i ∷ p) × (i < j)
    sib {j} {n} e o l =
        let w = older_says o n l in
        let d = w.4 in
        let f : w.1 ∷ w.2 ≡ j ∷ p = sym d ∙ e in
        let g = head-eq_of_cons-eq f in
        let x = w.5 in
        (w.0, w.3 ∙ ap (λ (y : Name). w.0 ∷ y) (tail-eq_of_cons-eq f), omega (arith, g, x))

    -- a sibling
    pub sibling_next : (h : Task) (j : ℕ) → In (spot h) (New finishes) → name_of h ≡ j ∷ p → (j ≡ k → ⊥) → mayPop (rights_of h) q ≡ true
        → ((o : Task) (i : ℕ) → In (spot o) (New finishes) → name_of o ≡ i ∷ p → i < j → mayPop (rights_of o) q ≡ true → ⊥)
        → first_popper q (New finishes) ≡ some (number_of h)
    sibling_next h j i e n m older =
        first_after h i m
        (λ o u l f. let w = sib e (name_of o) l in older o w.0 u w.1 w.2 f)
        (λ c x u d f.
        let b = was h i in
        let v = was c u in
        let hb : name_of b.0 ≡ j ∷ p = sym b.2.name ∙ e in
        let mb : mayPop (rights_of b.0) q ≡ true = ap (λ (r : ℕ). mayPop r q) (sym b.2.rights) ∙ m in
        ⊎_elim
        (λ l.
        false≢true
        (sym free
        ∙ says_blocked Old (played_reached old) b.0 s (
          b.1,
          subst (λ (y : Name). is_older (name_of b.0) y ≡ true) (sym mine)
              (subst (λ (y : Name). is_older y (k ∷ p) ≡ true) (sym hb) (says_older j k p l)),
          both_share _ _ q small mb may,
        )
        here))
        (λ l.
        (kinship old).idle s b.0 v.0 x (
          here,
          subst (λ (y : Name). is_older (name_of s) y ≡ true) (sym hb) (subst (λ (y : Name). is_older y (j ∷ p) ≡ true) (sym mine) (says_older k j p l)),
          both_share _ _ q small may mb,
        )
        b.1 v.1 (sym v.2.name ∙ d ∙ ap (λ (y : Name). x ∷ y) b.2.name))
        (apart j k n))
      where
        apart : (j k : ℕ) → (j ≡ k → ⊥) → (j < k) ⊎ (k < j)
        apart j k n = go (ltb j k) refl
          where
            go : (b : Bool) → ltb j k ≡ b → (j < k) ⊎ (k < j)
            go true e = inl (ltb-true j k e)
            go false e = let l = ltb-false j k e in ⊎_elim (λ f. absurd (n (sym f))) (λ m. inr m) (eq-or-lt_of_le l)

    -- the parent
    pub parent_next : (h : Task) → In (spot h) (New finishes) → name_of h ≡ p → mayPop (rights_of h) q ≡ true
        → ((o : Task) (i : ℕ) → In (spot o) (New finishes) → name_of o ≡ i ∷ p → mayPop (rights_of o) q ≡ true → ⊥)
        → first_popper q (New finishes) ≡ some (number_of h)
    parent_next h i e m child =
        first_after h i m
        (λ o u l f.
        let b = was h i in
        let v = was o u in
        (kinship old).idle v.0 b.0 s k (
          v.1,
          ap₂ is_older (sym v.2.name) (sym b.2.name) ∙ l,
          both_share _ _ q small (ap (λ (r : ℕ). mayPop r q) (sym v.2.rights) ∙ f)
              (ap (λ (r : ℕ). mayPop r q) (sym b.2.rights) ∙ m),
        )
        b.1 here (mine ∙ ap (λ (y : Name). k ∷ y) (sym e ∙ b.2.name)))
        (λ c x u d f. child c x u (d ∙ ap (λ (y : Name). x ∷ y) e) f)
