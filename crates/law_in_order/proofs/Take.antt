-- take: each value, each "empty" and each wait is that of program order.
use Rattle.std.specs.Prelude.{◌≡◌, refl, Bool, not, List, ◌∷◌, ◌++◌, ℕ, ◌<◌, leb}
use Rattle.std.proofs.Common.{ap, sym, ◌∙◌}
use Rattle.std.proofs.Math.Path.{subst}
use Rattle.std.proofs.Math.Bool.{true, false}
use Rattle.spec_words.specs.Words.{pick}
use Rattle.spec_layout.specs.Layout.{rights_of as rights_in}
use Rattle.spec_answers.specs.declared.Answer.TheVariants.{Refused}
use Rattle.spec_answers.specs.declared.Finding.{Finding}
use Rattle.spec_answers.specs.Answers.{outcome, answer_of, words_of}
use Rattle.spec_answers.specs.Calls.{take_call}
use Rattle.spec_tree.specs.Rights.{pops as mayPop}
use Rattle.spec_outcomes.specs.Take.{has_value, finding as findingIn, popped, take_gives, pop_allowed, take_tested}
use Rattle.spec_order.specs.Steps.{Task, Item, spot, pops, tests, number_of, rights_of, advance, counted, found_none, noted}
use Rattle.spec_order.specs.Waits.{unfinished, blocked, child_pops}
use Rattle.spec_order.specs.Finding.{finding}
use Rattle.spec_order.specs.Ordered.{rights_at, for_task, for_queue, take_answer}
use Rattle.law_order.specs.Reached.{Fresh}
use Rattle.law_order_waits.specs.Spots.{says_unfinished}
use Rattle.law_order_waits.specs.Played.{Asked, plays}
use Rattle.law_invariant.specs.Represents.{Represents}
use Rattle.law_invariant.specs.At.{mine_spot}
use Rattle.law_invariant.specs.Pop.{held_value, pop_represents}
use Rattle.law_invariant.specs.Test.{test_represents}
use Rattle.law_in_order.proofs.Yields.{Yields, waits}
use Rattle.law_in_order.proofs.Refusals.{for_task_lem, for_queue_lem, rights_are, rights_same}
use Rattle.law_in_order.proofs.Finding.{finding_same, finding_cases}

module _ (P : List ℕ → List Item → Type 0) (holds_of : (m : List ℕ) (xs : List Item) → Represents m xs → P m xs) where
  module _ (m : List ℕ) (ys zs : List Item) (s : Task) (r : Represents m (ys ++ spot s ∷ zs)) (q : ℕ) (small : q < 4) (may : mayPop (rights_of s) q ≡ true) where
    abbrev t : ℕ
    t = number_of s

    abbrev Old : List Item
    Old = ys ++ spot s ∷ zs

    unfinished_here : unfinished t Old ≡ true
    unfinished_here = says_unfinished Old s (mine_spot m ys zs s r)

    -- a step without effect: the value stays, or there is none
    stays : blocked t Old ≡ false → P m (advance t (tests q) Old)
    stays b =
        unfold Fresh Asked in
        holds_of m (advance t (tests q) Old) (test_represents m ys zs s r q (plays t (tests q) r.played unfinished_here tt b tt))

    taken : (keep : Bool) → blocked t Old ≡ false → child_pops q t Old ≡ false → has_value m t q ≡ true
        → P (pick keep m (popped m t q)) (advance t (pick keep (tests q) (pops q)) Old)
    unfolding pick
    taken true b c h = stays b
    taken false b c h =
        let w = held_value m ys zs s r q small may b c h in
        unfold Fresh Asked in
        holds_of (popped m t q) (advance t (pops q) Old)
        (pop_represents m ys zs s r q small may b c w.0 w.1 w.2 (plays t (pops q) r.played unfinished_here tt b tt))

    takes_well : (keep : Bool) → Yields P Old (take_call t q keep) (take_gives m t q keep (findingIn m t q)) (take_answer (finding t q Old))
    unfolding take_gives take_answer answer_of words_of noted counted found_none
    takes_well keep =
        subst (λ (f : Finding). Yields P Old (take_call t q keep) (take_gives m t q keep (findingIn m t q)) (take_answer f))
        (finding_same m ys zs s r q small may)
        (finding_cases m ys zs s r q small may (λ f. Yields P Old (take_call t q keep) (take_gives m t q keep f) (take_answer f))
        (waits P m Old (take_call t q keep) (holds_of m Old r))
        (λ b c h. record { answer = refl; holds = taken keep b c h })
        (λ b. record { answer = refl; holds = stays b }))

  pub take_does : (m : List ℕ) (xs : List Item) (t q : ℕ) (keep : Bool) → Represents m xs
      → Yields P xs (take_call t q keep) (take_tested m t q keep) (for_task t xs (for_queue q (mayPop (rights_at t xs) q) (take_answer (finding t q xs))))
  unfolding take_tested pop_allowed
  take_does m xs t q keep =
      for_task_lem P holds_of (λ t. take_call t q keep)
      (λ t. pick (leb 4 q) (outcome (Refused 5) m) (pick (not (mayPop (rights_in m t) q)) (outcome (Refused 6) m) (take_gives m t q keep (findingIn m t q))))
      (λ t xs. for_queue q (mayPop (rights_at t xs) q) (take_answer (finding t q xs))) m
      (λ ys zs s r.
      for_queue_lem P holds_of m q (mayPop (rights_in m (number_of s)) q) (mayPop (rights_at (number_of s) (ys ++ spot s ∷ zs)) q)
      (ap (λ (x : ℕ). mayPop x q) (rights_same m ys zs s r)) (holds_of m (ys ++ spot s ∷ zs) r) (λ small may.
      takes_well m ys zs s r q small (ap (λ (x : ℕ). mayPop x q) (sym (rights_are m ys zs s r)) ∙ may) keep))
      xs t
