-- The words of contracts: what the code's functions do with the state of the test.
use Rattle.std.specs.Prelude.{◌≡◌, Bool, List, ℕ, ◌≤◌, length, get_or}
use Rattle.spec_words.specs.Words.{both}
use Rattle.spec_rules.specs.Contents.{decode}
use Rattle.spec_view_events.specs.Events.{Event}
use Rattle.spec_view_events.specs.Run.{run}

-- a memory of the right size with at most 256 segments
abbrev pub Ready : List ℕ → Type 0
Ready m = (length m ≡ 16384) × (get_or m 1 0 ≤ 256)

-- From the state d f w the events vs were seen: with answer r and the state d' f' w' the test of any events behind them
-- says what it says of all from the start.
pub record Sees (m : List ℕ) (vs : List Event → List Event) (r : Bool) (d f w d' f' w' : List ℕ) : Type 0 where
  pub same : (es : List Event) → both r (run (decode m) es d' f' w') ≡ run (decode m) (vs es) d f w

-- the same of code that leaves f alone, and of code that leaves d alone
abbrev pub SeesHeads : List ℕ → (List Event → List Event) → Bool → List ℕ → List ℕ → List ℕ → List ℕ → Type 0
SeesHeads m vs r d w d' w' = (f : List ℕ) → Sees m vs r d f w d' f w'

abbrev pub SeesTails : List ℕ → (List Event → List Event) → Bool → List ℕ → List ℕ → List ℕ → List ℕ → Type 0
SeesTails m vs r f w f' w' = (d : List ℕ) → Sees m vs r d f w d f' w'
