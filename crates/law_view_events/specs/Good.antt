-- What the test over events says, rule by rule: what each rule sees of the events, and what must hold of that.
use Rattle.std.specs.Prelude.{◌≡◌, Bool, true, not, List, [], ◌∷◌, ℕ, ◌+◌, ◌%◌, ◌^◌, ◌<◌, leb, eqb, length}
use Rattle.spec_words.specs.Words.{pick, both, either}
use Rattle.spec_lists.specs.Counting.{one}
use Rattle.spec_lists.specs.Tests.{each}
use Rattle.spec_lists.specs.Distinct.{fresh}
use Rattle.spec_layout.specs.Layout.{NONE, NL}
use Rattle.spec_rules.specs.Contents.{Contents, part}
use Rattle.spec_rules.specs.Test.{passed, chains}
use Rattle.spec_view_events.specs.Events.{Event}
use Rattle.spec_view_events.specs.Events.Event.{entry, owner, order, tail, head}
use Rattle.spec_view_events.specs.Run.{filled}

-- no word stands in a view that the task may not have, and no queue view has a non-local head
unfoldable pub allowed : List Event → Bool
allowed [] = true
allowed (entry u x ∷ es) = both (either (eqb x NONE) u) (allowed es)
allowed (owner q x ∷ es) = both (not (eqb x NL)) (allowed es)
allowed (order u q h e ∷ es) = allowed es
allowed (tail e ∷ es) = allowed es
allowed (head h ∷ es) = allowed es

-- the order of queue q in front of the views, where it is o behind them
abbrev pub turned : ℕ → Bool → ℕ → ℕ → ℕ → ℕ → ℕ
turned q u p h e o = pick (eqb p q) (pick u (passed h e o) o) o

unfoldable pub order_from : ℕ → List Event → ℕ → ℕ
order_from q [] o = o
order_from q (entry u x ∷ es) o = order_from q es o
order_from q (owner p x ∷ es) o = order_from q es o
order_from q (order u p h e ∷ es) o = order_from q es (turned q u p h e o)
order_from q (tail e ∷ es) o = order_from q es o
order_from q (head h ∷ es) o = order_from q es o

-- the number of queue views of queue q with a head
unfoldable pub owners_of : ℕ → List Event → ℕ
owners_of q [] = 0
owners_of q (entry u x ∷ es) = owners_of q es
owners_of q (owner p x ∷ es) = one (both (eqb p q) (not (eqb x NONE))) + owners_of q es
owners_of q (order u p h e ∷ es) = owners_of q es
owners_of q (tail e ∷ es) = owners_of q es
owners_of q (head h ∷ es) = owners_of q es

-- the local tails and the local heads
unfoldable pub tails_of : List Event → List ℕ
tails_of [] = []
tails_of (entry u x ∷ es) = tails_of es
tails_of (owner p x ∷ es) = tails_of es
tails_of (order u p h e ∷ es) = tails_of es
tails_of (tail e ∷ es) = pick (leb NL e) (tails_of es) (e ∷ tails_of es)
tails_of (head h ∷ es) = tails_of es

unfoldable pub heads_of : List Event → List ℕ
heads_of [] = []
heads_of (entry u x ∷ es) = heads_of es
heads_of (owner p x ∷ es) = heads_of es
heads_of (order u p h e ∷ es) = heads_of es
heads_of (tail e ∷ es) = heads_of es
heads_of (head h ∷ es) = pick (leb NL h) (heads_of es) (h ∷ heads_of es)

-- queues are 0 to 3
abbrev pub Queued : List Event → Type 0
Queued [] = Unit
Queued (entry u x ∷ es) = Queued es
Queued (owner p x ∷ es) = (p < 4) × Queued es
Queued (order u p h e ∷ es) = (p < 4) × Queued es
Queued (tail e ∷ es) = Queued es
Queued (head h ∷ es) = Queued es

-- a segment without a next
abbrev pub last : Contents → ℕ → Bool
last c s = eqb (part c s 2) NONE

-- the chains of the heads hs, where a segments were placed before
pub record Chained (c : Contents) (hs d : List ℕ) (a : ℕ) : Type 0 where
  pub placed : fresh c.number (chains c hs) d ≡ true
  pub full : each (filled c) (chains c hs) ≡ true
  pub sum : (a + length (chains c hs)) % 2 ^ 32 ≡ c.number

-- the tails ts
pub record Ended (c : Contents) (ts f : List ℕ) : Type 0 where
  pub new : fresh c.number ts f ≡ true
  pub lasts : each (last c) ts ≡ true

-- The rules of the events es from a state on: marks d and f, order o q and queue views seen p q of each queue q, a segments
-- placed, b heads and e tails seen.
pub record Good (c : Contents) (es : List Event) (d f : List ℕ) (o p : ℕ → ℕ) (a b e : ℕ) : Type 0 where
  pub words : allowed es ≡ true
  pub ordered : (q : ℕ) → q < 4 → order_from q es (o q) ≡ 1
  pub owned : (q : ℕ) → q < 4 → p q + owners_of q es ≡ 1
  pub heads : Chained c (heads_of es) d a
  pub tails : Ended c (tails_of es) f
  pub many : (b + length (heads_of es)) % 2 ^ 32 ≡ (e + length (tails_of es)) % 2 ^ 32
