-- THE HEIR of a returned queue view, which the words find, is the first popper of the queue after the finish.
use Rattle.std.specs.Prelude.{◌≡◌, refl, true, false, List, [], ◌∷◌, ◌++◌, ℕ, ◌<◌, length}
use Rattle.std.proofs.Common.{ap, sym, ◌∙◌, subst, inl, ⊎_elim, arith}
use Rattle.std.proofs.Math.Option.{some}
use Rattle.spec_tree.specs.Rights.{pops as mayPop}
use Rattle.spec_outcomes.specs.Finish.{heir}
use Rattle.spec_order.specs.Steps.{Name, Task, Item, spot, finishes, name_of, number_of, rights_of, made}
use Rattle.spec_order.specs.Waits.{blocked}
use Rattle.law_order.specs.Items.{In}
use Rattle.law_order_waits.specs.Spots.{same_number, same_name}
use Rattle.law_order_waits.specs.Played.{Played, played_reached}
use Rattle.law_order_waits.specs.Changes.{in_right}
use Rattle.law_order_waits.specs.Kinship.{kinship}
use Rattle.law_order_waits.specs.Popper.{first_popper}
use Rattle.law_order_waits.specs.Poppers.{popper_says}
use Rattle.law_order_waits.specs.Heirs.{sibling_next, parent_next}
use Rattle.law_links.specs.Linked.{Linked}
use Rattle.law_links.specs.Family.{name_top}
use Rattle.law_links.specs.Searches.{ParentHeir, SiblingHeir, heir_is}
use Rattle.spec_tree.specs.Users.{subset_pops}
use Rattle.law_order_waits.specs.Gone.{was, gone, stays}

module _ (ys zs : List Item) (s : Task) (play : Played (ys ++ spot s ∷ zs)) where
  abbrev t : ℕ
  t = number_of s

  abbrev Old : List Item
  Old = ys ++ spot s ∷ zs

  abbrev New : List Item
  New = ys ++ (made s finishes ++ zs)

  mine : In (spot s) Old
  mine = in_right (spot s) ys (spot s ∷ zs) (inl refl)

  -- THE HEIR, in words w with this tree
  module _ (w : List ℕ) (T : List ℕ) (linked : Linked w T Old) (next : Played New) (above : 0 < t) (free : blocked t Old ≡ false) (q : ℕ) (small : q < 4)
      (first : first_popper q Old ≡ some t) where
    may : mayPop (rights_of s) q ≡ true
    may =
        let v = popper_says q Old t first in
        subst (λ (o : Task). mayPop (rights_of o) q ≡ true) (same_number Old (played_reached play) v.0 s v.1 mine v.2) v.3

    abbrev Heir : Type 0
    Heir = (o : Task) × In (spot o) Old × (number_of o ≡ heir w t q) × (number_of o ≡ t → ⊥) × (first_popper q New ≡ some (heir w t q))

    module _ (k : ℕ) (p : Name) (named : name_of s ≡ k ∷ p) where
      by_parent : ParentHeir w T Old play linked q s p (heir w t q) → Heir
      by_parent v =
          let o = v.0 in
          let apart : number_of o ≡ t → ⊥ =
          λ e. let d = ap length (sym named ∙ ap name_of (sym (same_number Old (played_reached play) o s v.1 mine e)) ∙ v.3) in omega (arith, d) in
          let u = (kinship play).parent s k p mine named in
          let same = same_name Old (played_reached play) u.0 o u.1 v.1 (u.2 ∙ sym v.3) in
          let pops : mayPop (rights_of o) q ≡ true = subst (λ (x : Task). mayPop (rights_of x) q ≡ true) same (subset_pops _ _ q small u.3 may) in (
            o,
            v.1,
            v.2,
            apart,
            parent_next ys zs s q small play next k p named may free o (stays ys zs s play o v.1 apart) v.3 pops
                (λ x i j e f. v.4 x i (was ys zs s play x j) e (gone ys zs s play x j) f)
                ∙ ap some v.2,
          )

      by_sibling : SiblingHeir w T Old play linked q s p (heir w t q) → Heir
      by_sibling v =
          let o = v.0 in
          let j = v.1 in
          let other : j ≡ k → ⊥ =
          λ e. v.5 (ap number_of (same_name Old (played_reached play) o s v.2 mine (v.4 ∙ ap (λ (x : ℕ). x ∷ p) e ∙ sym named))) in (
            o,
            v.2,
            v.3,
            v.5,
            sibling_next ys zs s q small play next k p named may free o j (stays ys zs s play o v.2 v.5) v.4 other v.6
                (λ x i y e l f. v.7 x i (was ys zs s play x y) e l (gone ys zs s play x y) f)
                ∙ ap some v.3,
          )

    pub heir_next : Heir
    heir_next = go (name_of s) refl
      where
        go : (x : Name) → name_of s ≡ x → Heir
        go [] e = let d = name_top w T Old play linked s mine e in let z : ⊥ = omega (arith, d, above) in absurd z
        go (k ∷ p) e = ⊎_elim (by_parent k p e) (by_sibling k p e) (heir_is w T Old play linked q s k p mine e)
