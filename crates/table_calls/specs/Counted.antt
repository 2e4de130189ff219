-- THE HELD SEGMENTS COUNTED, on memory as opened and on memory whose stack of free segments is wrong.
use Rattle.std.specs.Prelude.{◌≡◌, refl, true, List, [], ◌∷◌, ℕ, length}
use Rattle.spec_words.specs.Words.{load, store, pick}
use Rattle.spec_words.specs.Blocks.{store_all}
use Rattle.spec_lists.specs.Counting.{one, occurrences, total}
use Rattle.spec_layout.specs.Layout.{FREE_SEGMENTS, free_segments, address, read, write}
use Rattle.spec_rules.specs.Contents.{decode}
use Rattle.spec_rules.specs.Held.{held_count}
use Rattle.spec_outcomes.specs.Open.{down, stacked, segmented, topped, opened}
use Rattle.spec_outcomes.specs.Table.{right}
use Rattle.table_calls.specs.Foreign.{turned_down}

-- held and free ones
abbrev counted : List ℕ → List ℕ
counted m = held_count (decode m) ∷ length (decode m).free ∷ []

-- as opened each queue holds one
few_opened : counted (opened 4 8) ≡ 4 ∷ 4 ∷ []
unfolding held_count total one occurrences pick read load address opened topped segmented stacked down store_all
few_opened = refl

all_opened : counted (opened 8 256) ≡ 4 ∷ 252 ∷ []
unfolding held_count total one occurrences pick read load address opened topped segmented stacked down store_all
all_opened = refl

-- Segment 5 is neither on the stack nor named: held and free ones are those opened, and yet a rule is broken.
unfoldable lost : List ℕ
lost = write (store_all (opened 4 8) FREE_SEGMENTS (7 ∷ 6 ∷ 4 ∷ [])) free_segments 3

lost_counted : counted lost ≡ 5 ∷ 3 ∷ []
unfolding held_count total one occurrences pick read load address lost write store store_all opened topped segmented stacked down
lost_counted = refl

lost_refused : right lost (turned_down 2) ≡ true
unfolding right lost write address store store_all opened topped segmented stacked down
lost_refused = refl

-- Segment 5 stands on the stack twice, in the place of 4: by the height of the stack four are held, by what stands on it five.
unfoldable twice : List ℕ
twice = store_all (opened 4 8) FREE_SEGMENTS (7 ∷ 6 ∷ 5 ∷ 5 ∷ [])

twice_counted : counted twice ≡ 5 ∷ 4 ∷ []
unfolding held_count total one occurrences pick read load address twice store store_all opened topped segmented stacked down
twice_counted = refl

twice_refused : right twice (turned_down 2) ≡ true
unfolding right twice store store_all opened topped segmented stacked down
twice_refused = refl
