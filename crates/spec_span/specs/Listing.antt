-- WHAT A SIMULATION LISTS: at the job's end the span of the job beside the ticks used and the work. One slice of words is lent for working:
-- the words for the ends first, and those of the span's pass behind them.
use Rattle.std.specs.Prelude.{not, List, ℕ, ◌+◌, ◌-◌, ◌*◌, ◌/◌, eqb, take, drop}
use Rattle.spec_words.specs.Words.{size, pick}
use Rattle.spec_simulate.specs.declared.Simulated.{Simulated}
use Rattle.spec_simulate.specs.declared.Simulated.TheVariants.{Ended, Spent, Stopped, Refused}
use Rattle.spec_simulate.specs.Machine.{Outcomes, simulation, simulate_outcome}
use Rattle.spec_span.specs.Pass.{span_pass}

-- how many words are lent: 128 for the ends, and as many as the pass has
abbrev pub SIMULATE : ℕ
SIMULATE = 525718

-- What the call gives: its answer, the span, both memories, and the words for the ends. What the pass leaves in its words is not said.
pub data Listing : Type 0 where
  listing : Simulated → ℕ → List ℕ → List ℕ → List ℕ → Listing

-- the span, by an answer; 0 where the job's end is not reached
unfoldable pub span_for : List ℕ → List ℕ → List ℕ → Simulated → ℕ
span_for j table y (Ended c k) = span_pass j table y
span_for j table y Spent = 0
span_for j table y (Stopped k) = 0
span_for j table y (Refused k) = 0

unfoldable pub with_span : List ℕ → List ℕ → List ℕ → Outcomes → Listing
with_span j table y (simulation a m r e) = listing a (span_for j table y a) m r e

-- the ceiling beside the figure: what w workers can need at most, in whole ticks
unfoldable pub ceiling_of : ℕ → ℕ → ℕ → ℕ
ceiling_of w work span = (work + (w - 1) * span) / w

-- THE OUTCOME of a simulation of job j with w workers by a table, on the words m and r and the words x for working.
unfoldable pub listed_outcome : List ℕ → List ℕ → ℕ → List ℕ → List ℕ → List ℕ → Listing
listed_outcome j table w m r x =
    pick (not (eqb (size x) SIMULATE)) (listing (Refused 1) 0 m r (take 128 x))
    (with_span j table (drop 128 x) (simulate_outcome j table w m r (take 128 x)))
