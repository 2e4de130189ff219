-- THE STATE OF A CORE: the words represent the steps made so far, or the top has finished.
use Rattle.std.specs.Prelude.{◌≡◌, true, false, List, ◌⊎◌, ℕ, ◌<◌}
use Rattle.std.proofs.Common.{ap, ◌∙◌, inl, inr}
use Rattle.spec_words.specs.Words.{size}
use Rattle.spec_layout.specs.Layout.{WORDS, NONE, FINISHED, STATUS, YOUNGEST, task, read, write}
use Rattle.spec_layout.proofs.Frame.{size_write}
use Rattle.spec_rules.specs.Test.{rules_hold}
use Rattle.spec_order.specs.Steps.{Item}
use Rattle.spec_order.specs.Waits.{unfinished}
use Rattle.spec_order.specs.Finding.{left_over}
use Rattle.law_invariant.specs.Represents.{Represents}
use Rattle.law_invariant_rules.specs.RulesHold.{rules_hold_lem}
use Rattle.law_invariant_rules.specs.Finished.{finished_rules}

-- The top has finished: the words are those of a core whose top is alone and has synced, with the top's status changed.
pub record Ended (m : List ℕ) (xs : List Item) : Type 0 where
  pub last : List ℕ
  pub steps : List Item
  pub was : Represents last steps
  pub alone : read last (task 0 YOUNGEST) ≡ NONE
  pub words : m ≡ write last (task 0 STATUS) FINISHED
  -- nobody is unfinished, and the same values are left
  pub none_left : (t : ℕ) → unfinished t xs ≡ false
  pub same_left : (q i : ℕ) → q < 4 → left_over q i xs ≡ left_over q i steps

abbrev pub State : List ℕ → List Item → Type 0
State m xs = Represents m xs ⊎ Ended m xs

-- "Memory left by the core's own calls passes" the memory test.
pub state_rules : (m : List ℕ) (xs : List Item) → State m xs → rules_hold m ≡ true
state_rules m xs (inl r) = rules_hold_lem m xs r
state_rules m xs (inr e) = ap rules_hold e.words ∙ finished_rules e.last e.steps e.was e.alone

pub state_size : (m : List ℕ) (xs : List Item) → State m xs → size m ≡ WORDS
state_size m xs (inl r) = r.linked.sized
state_size m xs (inr e) = ap size e.words ∙ size_write e.last (task 0 STATUS) FINISHED ∙ e.was.linked.sized
