-- What the words of a state say of a task's number, as program order says it; and what the core's calls give behind their tests.
use Rattle.std.specs.Prelude.{◌≡◌, true, List, ℕ, ◌<◌}
use Rattle.std.proofs.Common.{sym, ◌∙◌, inl, inr}
use Rattle.std.proofs.lemmas.Bool.{false≢true}
use borrow.Author.Tests.{ltb-true}
use Rattle.spec_words.specs.Words.{both_true}
use Rattle.spec_answers.specs.Calls.{Call}
use Rattle.spec_outcomes.specs.Outcomes.{outcome_of}
use Rattle.spec_outcomes.specs.Waits.{unfinished as unfinished_in}
use Rattle.spec_order.specs.Steps.{Item}
use Rattle.spec_order.specs.Waits.{unfinished}
use Rattle.law_links.specs.Waits.{same_unfinished}
use Rattle.law_invariant.specs.Represents.{Represents}
use Rattle.law_in_order.proofs.State.{State, state_size, state_rules}
use Rattle.law_in_order.proofs.Left.{gone}
use Rattle.spec_runner.proofs.Laws.{core_outcome_lem}
use Rattle.spec_runner.specs.Step.{core_outcome}

module _ (m : List ℕ) (xs : List Item) where
  pub state_unfinished : State m xs → (t : ℕ) → unfinished_in m t ≡ unfinished t xs
  state_unfinished (inl r) t = same_unfinished m r.tour xs r.played r.linked t
  state_unfinished (inr e) t = gone m xs e t ∙ sym (e.none_left t)

  -- while a task is unfinished the words represent the steps
  pub still : State m xs → (t : ℕ) → unfinished t xs ≡ true → Represents m xs
  still (inl r) t u = r
  still (inr e) t u = absurd (false≢true (sym (e.none_left t) ∙ u))

  pub few : State m xs → (t : ℕ) → unfinished t xs ≡ true → t < 128
  unfolding unfinished_in
  few st t u = ltb-true t 128 (both_true _ _ (state_unfinished st t ∙ u)).0

  -- the tests of the core's calls pass, so each gives what it gives behind them
  pub behind_test : State m xs → (c : Call) → core_outcome c m ≡ outcome_of c m
  behind_test st = core_outcome_lem m (state_size m xs st) (state_rules m xs st)
