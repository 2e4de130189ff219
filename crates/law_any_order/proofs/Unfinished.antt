-- WHO IS UNFINISHED in a run under way: once the top has finished nobody; before that exactly the tasks that the tour of the tree enters,
-- which are those of program order from the last spot to the first.
use Rattle.std.specs.Prelude.{◌≡◌, true, false, ℕ}
use Rattle.std.proofs.Common.{ap, sym, ◌∙◌, subst, inl, inr, arith, lt-ltb, eq-eqb}
use Rattle.std.proofs.lemmas.Bool.{false≢true}
use mathlib.Core.List.{List, Memᴰ}
use Rattle.spec_words.specs.Words.{true_both}
use Rattle.spec_lists.specs.Counting.{occurs_member, member_occurs}
use Rattle.spec_layout.specs.Layout.{STATUS, UNFINISHED, task, read, record_of}
use Rattle.spec_tree.specs.Tour.{MARKS, tour, entered}
use Rattle.spec_order.specs.Steps.{Item as Mark}
use Rattle.spec_order.specs.Waits.{unfinished as unfinishedBy}
use Rattle.spec_outcomes.specs.Waits.{unfinished}
use Rattle.spec_line.specs.Line.{Item}
use Rattle.law_order_waits.specs.Spots.{unfinished_says, says_unfinished}
use Rattle.law_order_waits.specs.Played.{played_reached}
use Rattle.law_links.specs.Linked.{numbers_back, back_says, says_back, tour_is}
use Rattle.law_invariant.specs.Represents.{Represents}
use Rattle.law_in_order.proofs.State.{State}
use Rattle.law_in_order.proofs.Left.{gone}
use Rattle.law_job_order.specs.Beside.{Numbered}
use Rattle.law_any_order.specs.Statement.{Stand, AllFinished}
use Rattle.law_any_order.proofs.States.{state_unfinished, still}
use Rattle.law_any_order.proofs.Running.{Running}

-- the top of a core whose words represent the steps is unfinished
top_stands : (m : List ℕ) (xs : List Mark) → Represents m xs → unfinished m 0 ≡ true
unfolding unfinished
top_stands m xs r = true_both (lt-ltb 0 128 (omega arith)) (eq-eqb (read m (task 0 STATUS)) UNFINISHED r.linked.running)

module _ {j : List ℕ} {ticks : ℕ → ℕ} {s : Stand} {l : List (Item Numbered)} (run : Running j ticks s l) where
  -- ONCE THE TOP HAS FINISHED all have
  pub top_last : unfinished s.core 0 ≡ false → AllFinished s
  top_last f = go run.state
    where
      go : State s.core s.order → AllFinished s
      go (inl r) = absurd (false≢true (sym f ∙ top_stands s.core s.order r))
      go (inr e) = gone s.core s.order e

  module _ (top : unfinished s.core 0 ≡ true) where
    represents : Represents s.core s.order
    represents = still s.core s.order run.state 0 (sym (state_unfinished s.core s.order run.state 0) ∙ top)

    -- WHILE THE TOP IS UNFINISHED the tour enters the tasks with spots, in program order from the last
    pub in_program_order_lem : entered (tour MARKS (record_of s.core) 0) ≡ numbers_back s.order
    in_program_order_lem = let r = represents in ap entered (tour_is s.core r.tour s.order r.linked) ∙ r.linked.spots

    -- every unfinished task, and no other
    pub unfinished_toured : (t : ℕ) → unfinished s.core t ≡ true → Memᴰ t (entered (tour MARKS (record_of s.core) 0))
    unfinished_toured t u =
        let w = unfinished_says s.order (played_reached represents.played) t (sym (state_unfinished s.core s.order run.state t) ∙ u) in
        subst (λ (k : List ℕ). Memᴰ t k) (sym in_program_order_lem)
        (subst (λ (x : ℕ). Memᴰ x (numbers_back s.order)) w.2 (occurs_member _ _ (says_back w.0 s.order w.1)))

    pub toured_unfinished : (t : ℕ) → Memᴰ t (entered (tour MARKS (record_of s.core) 0)) → unfinished s.core t ≡ true
    toured_unfinished t i =
        let w = back_says t s.order (member_occurs t _ (subst (Memᴰ t) in_program_order_lem i)) in
        state_unfinished s.core s.order run.state t
        ∙ subst (λ (x : ℕ). unfinishedBy x s.order ≡ true) w.2 (says_unfinished s.order w.0 w.1)
