-- A TEST, the step of a take that takes nothing, keeps the invariant: it changes no word.
use Rattle.std.specs.Prelude.{◌≡◌, refl, List, [], ◌∷◌, ◌++◌, ℕ}
use Rattle.spec_order.specs.Steps.{Task, Item, spot, tests, number_of, advance}
use Rattle.law_order.specs.Moves.{plain_test}
use Rattle.law_order_waits.specs.Played.{Played}
use Rattle.law_order_queue.specs.Points.{added, takes}
use Rattle.law_order_queue.specs.Laws.{plain_line}
use Rattle.law_maps.specs.Kept.{kept_all}
use Rattle.law_invariant.specs.Represents.{Represents}
use Rattle.law_invariant.specs.Nexts.{words_nexts}
use Rattle.law_invariant.specs.Parts.{parts_of}
use Rattle.law_invariant.specs.Plain.{plain_represents}
use Rattle.law_invariant.specs.At.{single_spot}

quiet : (q p : ℕ) → (added p (tests q) ≡ []) × (takes p (tests q) ≡ 0)
unfolding added takes
quiet q p = (refl, refl)

pub test_represents : (m : List ℕ) (ys zs : List Item) (s : Task) (r : Represents m (ys ++ spot s ∷ zs)) (q : ℕ)
    → Played (advance (number_of s) (tests q) (ys ++ spot s ∷ zs)) → Represents m (advance (number_of s) (tests q) (ys ++ spot s ∷ zs))
test_represents m ys zs s r q play =
    let old = parts_of m (ys ++ spot s ∷ zs) r in
    plain_represents m ys zs s r (tests q) (plain_test q) m (kept_all m) r.sized play r.line (words_nexts m r.sized r.nexts) old.laids
    old.marked old.fits
    (λ p i. plain_line p ys zs s (single_spot m ys zs s r) (tests q) (plain_test q) (quiet q p).0 (quiet q p).1 (old.time p i)) old.bare
