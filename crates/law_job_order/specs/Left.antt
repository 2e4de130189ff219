-- WHAT IS LEFT in a queue, by program order and along the line.
use Rattle.std.specs.Prelude.{◌≡◌, refl, Bool, true, false, List, [], ◌∷◌, ℕ, zero, suc, ◌<◌, eqb}
use Rattle.std.proofs.Common.{◌∙◌}
use Rattle.std.proofs.Math.ListN.{get_elem?}
use Rattle.spec_words.specs.Words.{pick}
use Rattle.spec_tree.specs.Rights.{uses}
use Rattle.spec_order.specs.Steps.{Item as Mark}
use Rattle.spec_order.specs.Finding.{left_over}
use Rattle.law_order_queue.specs.Points.{value as present, user}
use Rattle.law_order_queue.specs.Finds.{nth_value, leaves}
use Rattle.spec_plain.specs.Stack.{rights_of}
use Rattle.spec_line.specs.Line.{Item, value, spot, finished, gave}
use Rattle.law_job_line.proofs.Front.{values_of}
use Rattle.law_job_order.specs.Beside.{Numbered, unnumbered, points_of, Beside}

nth_along : (j : List ℕ) (q i : ℕ) (l : List (Item Numbered)) → nth_value i (points_of j q l) ≡ get_elem? (values_of q (unnumbered l)) i
unfolding points_of unnumbered values_of nth_value pick
nth_along j q i [] = refl
nth_along j q i (value p v ∷ l) = go i (eqb p q) (λ k. nth_along j q k l)
  where
    go : (i : ℕ) (c : Bool) → ((k : ℕ) → nth_value k (points_of j q l) ≡ get_elem? (values_of q (unnumbered l)) k)
        → nth_value i (pick c (present v ∷ points_of j q l) (points_of j q l)) ≡ get_elem? (pick c (v ∷ values_of q (unnumbered l)) (values_of q (unnumbered l))) i
    go zero true h = refl
    go (suc i) true h = h i
    go i false h = h i
nth_along j q i (spot n ∷ l) = go (uses (rights_of j n.runner.task) q) (nth_along j q i l)
  where
    go : (c : Bool) → nth_value i (points_of j q l) ≡ get_elem? (values_of q (unnumbered l)) i
        → nth_value i (pick c (user n.number ∷ points_of j q l) (points_of j q l)) ≡ get_elem? (values_of q (unnumbered l)) i
    go true h = h
    go false h = h
nth_along j q i (finished n ∷ l) = nth_along j q i l
nth_along j q i (gave p ∷ l) = nth_along j q i l

pub left_along : (j : List ℕ) {xs : List Mark} {l : List (Item Numbered)} → Beside j xs l → (q i : ℕ) → q < 4
    → left_over q i xs ≡ get_elem? (values_of q (unnumbered l)) i
left_along j {xs} {l} h q i small = leaves q i xs (points_of j q l) (h.queues q small) ∙ nth_along j q i l
