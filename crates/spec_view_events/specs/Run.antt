-- The test over the events, one after the other, as the code makes it. Its state:
-- d has the marks of the segments placed, f those of the free segments and of the tails seen, w the words below.
use Rattle.std.specs.Prelude.{Bool, not, List, [], ◌∷◌, ℕ, ◌+◌, ◌%◌, ◌^◌, leb, ltb, eqb, length}
use Rattle.spec_words.specs.Words.{load, store, pick, both, either}
use Rattle.spec_lists.specs.Tests.{each}
use Rattle.spec_lists.specs.Distinct.{fresh}
use Rattle.spec_lists.specs.Marks.{marking}
use Rattle.spec_layout.specs.Layout.{NONE, NL}
use Rattle.spec_rules.specs.Contents.{Contents, part}
use Rattle.spec_rules.specs.Test.{passed, chain}
use Rattle.spec_view_events.specs.Events.{Event}
use Rattle.spec_view_events.specs.Events.Event.{entry, owner, order, tail, head}

-- THE WORDS w: the order of each queue; whether its queue view was seen; how many segments were placed, heads seen, tails seen
abbrev pub ORDERS : ℕ
ORDERS = 0

abbrev pub SEEN : ℕ
SEEN = 4

abbrev pub PLACED : ℕ
PLACED = 8

abbrev pub HEADS : ℕ
HEADS = 9

abbrev pub TAILS : ℕ
TAILS = 10

-- word k of the state with v more
unfoldable pub raised : List ℕ → ℕ → ℕ → List ℕ
raised w k v = store w k ((load w k + v) % 2 ^ 32)

-- the four words from a on are 1
unfoldable pub four_ones : List ℕ → ℕ → Bool
four_ones w a = both (eqb (load w a) 1) (both (eqb (load w (a + 1)) 1) (both (eqb (load w (a + 2)) 1) (eqb (load w (a + 3)) 1)))

module _ (c : Contents) where
  -- a segment with a next is not empty
  unfoldable pub filled : ℕ → Bool
  filled s = either (eqb (part c s 2) NONE) (not (eqb (part c s 1) 0))

  -- at the end: the order of each queue is right, each queue view was seen, each segment placed, each chain has its tail
  unfoldable pub whole : List ℕ → Bool
  whole w = both (four_ones w ORDERS) (both (four_ones w SEEN) (both (eqb (load w PLACED) c.number) (eqb (load w HEADS) (load w TAILS))))

  unfoldable pub run : List Event → List ℕ → List ℕ → List ℕ → Bool
  run [] d f w = whole w
  run (entry u x ∷ es) d f w = both (either (eqb x NONE) u) (run es d f w)
  run (owner q x ∷ es) d f w =
      pick (eqb x NONE) (run es d f w)
      (both (not (eqb x NL)) (both (eqb (load w (SEEN + q)) 0) (run es d f (store w (SEEN + q) 1))))
  run (order u q h e ∷ es) d f w =
      pick (both (eqb h NONE) (eqb e NONE)) (run es d f w)
      (run es d f (store w q (pick u (passed h e (load w q)) (load w q))))
  run (tail e ∷ es) d f w =
      pick (leb NL e) (run es d f w)
      (both (ltb e c.number) (both (eqb (load f e) 0) (both (eqb (part c e 2) NONE) (run es d (store f e 1) (raised w TAILS 1)))))
  run (head h ∷ es) d f w =
      pick (leb NL h) (run es d f w)
      (both (fresh c.number (chain c c.number h) d) (both (each filled (chain c c.number h))
      (run es (marking (chain c c.number h) d) f (raised (raised w PLACED (length (chain c c.number h))) HEADS 1))))
