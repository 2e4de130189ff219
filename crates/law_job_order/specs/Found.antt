-- WHAT PROGRAM ORDER FINDS, on the line: where a task that looks in a queue need not wait, no task before it pops from the queue, and
-- the first point of the queue is what it finds.
use Rattle.std.specs.Prelude.{◌≡◌, refl, Bool, true, false, List, [], ◌∷◌, ◌++◌, ℕ, ◌<◌}
use Rattle.std.proofs.Common.{ap, sym, ◌∙◌, subst, inl, inr, arith}
use Rattle.spec_words.specs.Words.{halt, pass, either, neither_true}
use Rattle.spec_tree.specs.Rights.{pops as mayPop}
use Rattle.spec_answers.specs.declared.Finding.{Finding}
use Rattle.spec_answers.specs.declared.Finding.TheVariants.{Waits}
use Rattle.spec_order.specs.Steps.{Task, Item as Mark, step, spot as place, number_of, rights_of}
use Rattle.spec_order.specs.Waits.{blocked, child_pops}
use Rattle.spec_order.specs.Finding.{run, runs, before, found, finding}
use Rattle.law_order.specs.Items.{In}
use Rattle.law_order.specs.Count.{spot_numbered, count_append, count_in}
use Rattle.law_order_waits.specs.Spots.{numbered}
use Rattle.law_order_waits.specs.Played.{Played, played_reached}
use Rattle.law_order_waits.specs.Poppers.{free_first, first_says}
use Rattle.law_order_queue.specs.Points.{NoPopper}
use Rattle.law_order_queue.specs.Found.{first_of}
use Rattle.law_order_queue.specs.Finds.{finds}
use Rattle.spec_lists.specs.Maps.{All}
use Rattle.spec_line.specs.Line.{Item, spot}
use Rattle.law_job_order.specs.Beside.{Numbered, task_of, points_of, Beside}
use Rattle.law_job_order.specs.Located.{Located, located}
use Rattle.law_job_order.specs.Steps.{Old, single, time}
use Rattle.law_job_order.specs.Searches.{Spots, on_line, NoPop}

-- what a finding that does not wait says of the waits
unhindered : (t q : ℕ) (xs : List Mark) (f : Finding) → (f ≡ Waits → ⊥) → finding t q xs ≡ f
    → (blocked t xs ≡ false) × (child_pops q t xs ≡ false) × (found (runs q (before t xs) (run false [])) ≡ f)
unfolding finding
unhindered t q xs f n e = go (either (blocked t xs) (child_pops q t xs)) refl
  where
    go : (c : Bool) → either (blocked t xs) (child_pops q t xs) ≡ c
        → (blocked t xs ≡ false) × (child_pops q t xs ≡ false) × (found (runs q (before t xs) (run false [])) ≡ f)
    go true d = absurd (n (sym e ∙ halt _ _ d))
    go false d = let w = neither_true _ _ d in (w.0, w.1, sym (pass _ d refl) ∙ e)

pub no_popper : (q : ℕ) (ys : List Mark) → ((o : Task) → In (place o) ys → mayPop (rights_of o) q ≡ false) → NoPopper q ys
no_popper q [] h = tt
no_popper q (step p a ∷ ys) h = no_popper q ys (λ o i. h o (inr i))
no_popper q (place o ∷ ys) h = (h o (inl refl), no_popper q ys (λ u i. h u (inr i)))

module _ (j : List ℕ) {xs : List Mark} (played : Played xs) (a b : List (Item Numbered)) (n : Numbered) (h : Beside j xs (a ++ spot n ∷ b)) where
  abbrev s : Task
  s = task_of j n

  abbrev at : Located j xs a b n
  at = located j a b n h

  abbrev Steps : List Mark
  Steps = Old j (played_reached played) a b n h

  old_played : Played Steps
  old_played = subst Played at.here played

  -- no task before it has its number
  pub others : All (Spots j (λ o. number_of o ≡ number_of s → ⊥)) a
  others = on_line j (λ o. number_of o ≡ number_of s → ⊥) at.before a at.first other
    where
      other : (o : Task) → In (place o) at.before → number_of o ≡ number_of s → ⊥
      other o i e =
          let t = number_of s in
          let c = count_in (spot_numbered t) (place o) at.before i (numbered o t e) in
          let d = count_in (spot_numbered t) (place s) (place s ∷ at.behind) (inl refl) (numbered s t refl) in
          let f = count_append (spot_numbered t) at.before (place s ∷ at.behind) in
          let g = single j (played_reached played) a b n h in
          omega (arith, c, d, f, g)

  -- what a search in queue q meets, where it finds f
  pub record Meets (q : ℕ) (f : Finding) : Type 0 where
    pub free : NoPopper q at.before
    pub quiet : All (NoPop j q) a
    pub first : first_of (number_of s) (points_of j q (a ++ spot n ∷ b)) ≡ f

  pub meets : (q : ℕ) (f : Finding) → q < 4 → mayPop (rights_of s) q ≡ true → (f ≡ Waits → ⊥) → finding (number_of s) q xs ≡ f → Meets q f
  meets q f small may moves e =
      let w = unhindered (number_of s) q Steps f moves (ap (finding (number_of s) q) (sym at.here) ∙ e) in
      let first = free_first at.before at.behind s q small old_played may w.0 w.1 in
      let none = first_says at.before at.behind s q (played_reached old_played) first in
      let free = no_popper q at.before none in
      record {
        free = free;
        quiet = on_line j (λ o. mayPop (rights_of o) q ≡ false) at.before a at.first none;
        first =
            sym (finds q at.before at.behind s (single j (played_reached played) a b n h) may free (time j (played_reached played) a b n h q small))
            ∙ w.2;
      }
