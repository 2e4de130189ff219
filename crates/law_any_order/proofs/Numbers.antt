-- No two unfinished tasks have one number; and a task that stands among the spots is unfinished.
use Rattle.std.specs.Prelude.{◌≡◌, true, ℕ}
use Rattle.std.proofs.Math.Path.{refl, ap}
use Rattle.std.proofs.Common.{sym, ◌∙◌, inl, arith}
use mathlib.Core.List.{List, [], ◌∷◌, ◌++◌, map, map-append, nil≢cons, head-eq_of_cons-eq, tail-eq_of_cons-eq}
use Rattle.spec_lists.specs.Counting.{one_yes}
use Rattle.spec_lists.specs.Maps.{All}
use Rattle.spec_order.specs.Steps.{Item as Mark, step, spot as place, number_of}
use Rattle.spec_order.specs.Waits.{unfinished}
use Rattle.law_order.specs.Count.{count, spot_numbered, count_append}
use Rattle.law_order.specs.Numbers.{one_number}
use Rattle.law_order_waits.specs.Changes.{in_right}
use Rattle.law_order_waits.specs.Spots.{says_unfinished}
use Rattle.law_order_waits.specs.Played.{Played, played_reached}
use Rattle.spec_line.specs.Line.{Item, spot}
use Rattle.law_job_order.specs.Beside.{Numbered, standing, places, task_of, Beside}
use Rattle.law_job_order.specs.Located.{place_at, located}
use Rattle.law_any_order.proofs.Written.{Other}

module _ (j : List ℕ) where
  -- spots without the number t
  none_numbered : (t : ℕ) (xs : List Mark) (ns : List Numbered) → count (spot_numbered t) xs ≡ 0 → places xs ≡ map (task_of j) ns → All (Other t) ns
  unfolding places count spot_numbered task_of number_of
  none_numbered t [] [] c e = tt
  none_numbered t [] (n ∷ ns) c e = absurd (nil≢cons e)
  none_numbered t (step p a ∷ xs) ns c e = none_numbered t xs ns (omega (arith, c)) e
  none_numbered t (place o ∷ xs) [] c e = absurd (nil≢cons (sym e))
  none_numbered t (place o ∷ xs) (n ∷ ns) c e = (
    (λ d. let i = one_yes (number_of o) t (ap number_of (head-eq_of_cons-eq e) ∙ d) in omega (arith, c, i)),
    none_numbered t xs ns (omega (arith, c)) (tail-eq_of_cons-eq e),
  )

  -- the others on the line have other numbers
  pub others : (xs : List Mark) (a b : List (Item Numbered)) (n : Numbered) → Played xs → Beside j xs (a ++ spot n ∷ b)
      → All (Other n.number) (standing a) × All (Other n.number) (standing b)
  unfolding count spot_numbered task_of number_of
  others xs a b n p h =
      let t = n.number in
      let w = located j a b n h in
      let once = one_number (played_reached p) t in
      let here = ap (count (spot_numbered t)) w.here ∙ count_append (spot_numbered t) w.before (place (task_of j n) ∷ w.behind) in
      let me = one_yes t t refl in (
        none_numbered t w.before (standing a) (omega (arith, once, here, me)) w.first,
        none_numbered t w.behind (standing b) (omega (arith, once, here, me)) w.last,
      )

  pub there : (xs : List Mark) (l : List (Item Numbered)) (a b : List Numbered) (n : Numbered) → Beside j xs l → standing l ≡ a ++ n ∷ b
      → unfinished n.number xs ≡ true
  unfolding task_of number_of
  there xs l a b n h e =
      let w = place_at xs (map (task_of j) a) (map (task_of j) b) (task_of j n) (h.tasks ∙ ap (map (task_of j)) e ∙ map-append (task_of j) a (n ∷ b)) in
      let here = place (task_of j n) in
      ap (unfinished n.number) w.2 ∙ says_unfinished _ (task_of j n) (in_right here w.0 (here ∷ w.1) (inl refl))
