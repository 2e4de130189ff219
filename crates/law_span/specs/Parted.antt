-- THE TASKS OF A LINE OF THE SERIAL RUN are its stack: what is over, then the spots.
use Rattle.std.specs.Prelude.{◌≡◌, refl, true, ℕ}
use Rattle.std.proofs.Common.{ap, ap₂, sym, ltb-true}
use mathlib.Core.List.{List, [], ◌∷◌, ◌++◌, nil≢cons, head-eq_of_cons-eq, tail-eq_of_cons-eq}
use Rattle.spec_words.specs.Words.{both_true, true_both}
use Rattle.spec_tree.specs.Rights.{subset}
use Rattle.spec_tree.specs.Users.{subset_pops}
use Rattle.spec_plain.specs.Stack.{Stack, rights_of}
use Rattle.spec_lists.specs.Maps.{All}
use Rattle.spec_line.specs.Line.{Item, spot, NoSpot}
use Rattle.law_timed_line.specs.Times.{Timed, at, untimed}
use Rattle.law_job_line.specs.Tasks.{can_pop, Runner}
use Rattle.law_job_line.proofs.Plain.{tasks_of, spots_of}
use Rattle.law_serial_times.specs.Dominated.{Frame, frame, spots_of as stackSpots, Pop}
use Rattle.law_serial_times.specs.Returned.{Nested}

abbrev pub runners_of : List Frame → List Runner
runners_of [] = []
runners_of (frame t u ∷ st) = u ∷ runners_of st

pub untimed_stack : (f : List (Timed Runner)) (st : List Frame) → untimed (f ++ stackSpots st) ≡ untimed f ++ spots_of (runners_of st)
untimed_stack [] [] = refl
untimed_stack [] (frame t u ∷ st) = ap (λ (l : List (Item Runner)). spot u ∷ l) (untimed_stack [] st)
untimed_stack (at t x ∷ f) st = ap (λ (l : List (Item Runner)). x ∷ l) (untimed_stack f st)

-- by the items alone
pub same_runners : (vs ws : List (Item Runner)) (us xs : List Runner) → All NoSpot vs → All NoSpot ws → vs ++ spots_of us ≡ ws ++ spots_of xs → us ≡ xs
same_runners [] [] [] [] a b e = refl
same_runners [] [] [] (x ∷ xs) a b e = absurd (nil≢cons e)
same_runners [] [] (u ∷ us) [] a b e = absurd (nil≢cons (sym e))
same_runners [] [] (u ∷ us) (x ∷ xs) a b e =
    let h : u ≡ x = cc (head-eq_of_cons-eq e) in ap₂ (λ (y : Runner) (ys : List Runner). y ∷ ys) h (same_runners [] [] us xs tt tt (tail-eq_of_cons-eq e))
same_runners [] (w ∷ ws) [] xs a b e = absurd (nil≢cons e)
same_runners [] (w ∷ ws) (u ∷ us) xs a b e = absurd (rw (← head-eq_of_cons-eq e) at b.0)
same_runners (v ∷ vs) [] us [] a b e = absurd (nil≢cons (sym e))
same_runners (v ∷ vs) [] us (x ∷ xs) a b e = absurd (rw (head-eq_of_cons-eq e) at a.0)
same_runners (v ∷ vs) (w ∷ ws) us xs a b e = same_runners vs ws us xs a.1 b.1 (tail-eq_of_cons-eq e)

-- each task of the plain machine's stack is the youngest child of the next
fewer : (j : List ℕ) (u w : Runner) → subset (rights_of j u.task) (rights_of j w.task) ≡ true → (q : ℕ) → Pop j u q → Pop j w q
unfolding can_pop
fewer j u w within q p = let b = both_true _ _ p in true_both b.0 (subset_pops _ _ q (ltb-true q 4 b.0) within b.1)

pub nested_of : (j : List ℕ) (t : ℕ) (u : Runner) (st : List Frame) → Stack j (u.task ∷ tasks_of (runners_of st)) → Nested j u st
nested_of j t u [] h = tt
nested_of j t u (frame s w ∷ st) h = (
  record { number = h.1.number; youngest = h.1.youngest; name = h.1.name; pops = fewer j u w h.1.within },
  nested_of j s w st h.2,
)
