-- A LINE WITH ONE OF ITS VALUES AND WITHOUT IT: the same tasks stand on it, and only the value's queue tells the two apart.
use Rattle.std.specs.Prelude.{◌≡◌, Bool, ℕ}
use Rattle.std.proofs.Math.Path.{refl, ap, sym}
use Rattle.std.proofs.Common.{◌∙◌}
use Rattle.std.proofs.Math.Bool.{true, false}
use mathlib.Core.List.{List, ◌∷◌, ◌++◌, append_assoc}
use Rattle.law_order_queue.specs.Points.{Point, value as present}
use Rattle.spec_lists.specs.Maps.{All}
use Rattle.spec_line.specs.Line.{Item, value, leave}
use Rattle.law_job_line.specs.Tasks.{Runner}
use Rattle.law_job_order.specs.Beside.{Numbered, unnumbered, standing, points_of}
use Rattle.law_job_order.specs.Points.{standing_append, unnumbered_append, points_append, value_here, value_past, points_swap}
use Rattle.law_job_order.specs.Searches.{NoPoint, no_points}

module _ (q v : ℕ) (front back : List (Item Numbered)) where
  -- the value is left there (true), or taken
  abbrev pub kept : Bool → List (Item Numbered)
  kept true = front ++ value q v ∷ back
  kept false = front ++ back

  pub standing_kept : (c : Bool) → standing (kept c) ≡ standing (kept true)
  unfolding standing
  standing_kept true = refl
  standing_kept false = standing_append front back ∙ sym (standing_append front (value q v ∷ back))

  pub unnumbered_kept : (c : Bool) (l : List (Item Numbered))
      → unnumbered (kept c ++ l) ≡ unnumbered front ++ leave c (value q v) (unnumbered back ++ unnumbered l)
  unfolding unnumbered
  unnumbered_kept true l =
      ap unnumbered (append_assoc front (value q v ∷ back) l)
      ∙ unnumbered_append front (value q v ∷ (back ++ l))
      ∙ ap (λ (k : List (Item Runner)). unnumbered front ++ value q v ∷ k) (unnumbered_append back l)
  unnumbered_kept false l =
      ap unnumbered (append_assoc front back l)
      ∙ unnumbered_append front (back ++ l)
      ∙ ap (λ (k : List (Item Runner)). unnumbered front ++ k) (unnumbered_append back l)

  module _ (j : List ℕ) (l : List (Item Numbered)) where
    -- it is the first point of its queue
    pub points_taken : All (NoPoint j q) front → points_of j q (kept true ++ l) ≡ present v ∷ points_of j q (kept false ++ l)
    points_taken bare =
        ap (points_of j q) (append_assoc front (value q v ∷ back) l)
        ∙ without (value q v ∷ (back ++ l))
        ∙ value_here j q v (back ++ l)
        ∙ ap (λ (k : List Point). present v ∷ k) (sym (ap (points_of j q) (append_assoc front back l) ∙ without (back ++ l)))
      where
        without : (m : List (Item Numbered)) → points_of j q (front ++ m) ≡ points_of j q m
        without m = points_append j q front m ∙ ap (λ (k : List Point). k ++ points_of j q m) (no_points j q front bare)

    -- and no point of another
    pub points_other : (p : ℕ) → (q ≡ p → ⊥) → points_of j p (kept true ++ l) ≡ points_of j p (kept false ++ l)
    points_other p n =
        ap (points_of j p) (append_assoc front (value q v ∷ back) l)
        ∙ points_swap j p front (value q v ∷ (back ++ l)) (back ++ l) (value_past j p q v (back ++ l) n)
        ∙ ap (points_of j p) (sym (append_assoc front back l))
