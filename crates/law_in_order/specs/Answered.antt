-- The answer that a call gets by the steps made before it, with what program order leaves open decided by the words: the
-- number of a new task, 9 for a push, and opening.
use Rattle.std.specs.Prelude.{Bool, false, List, [], ◌∷◌, ℕ, ◌-◌}
use Rattle.spec_words.specs.Words.{pick, both, either}
use Rattle.spec_lists.specs.Maps.{last_of}
use Rattle.spec_layout.specs.Layout.{free_tasks, free_task, read}
use Rattle.spec_answers.specs.declared.Answer.{Answer}
use Rattle.spec_answers.specs.declared.Answer.TheVariants.{Moved, Waits, Refused}
use Rattle.spec_answers.specs.Answers.{words_of}
use Rattle.spec_answers.specs.Calls.{Call, open_call, spawn_call, push_call, take_call, sync_call, finish_call, left_call}
use Rattle.spec_rules.specs.Test.{in_range}
use Rattle.spec_outcomes.specs.Segments.{has_none_free}
use Rattle.spec_outcomes.specs.Push.{needs_segment, pushed}
use Rattle.spec_order.specs.Steps.{Item}
use Rattle.spec_order.specs.Ordered.{ordered}

-- "segments run out part way": a value of the run needs a segment and none is free, once the values before it have been pushed singly
unfoldable pub segments_run_out : List ℕ → ℕ → ℕ → List ℕ → Bool
segments_run_out m t q [] = false
segments_run_out m t q (v ∷ vs) = either (both (needs_segment m t q) (has_none_free m q)) (segments_run_out (words_of (pushed m t q v)) t q vs)

-- the free task record that is used next
unfoldable pub next_task : List ℕ → ℕ
next_task m = read m (free_task (read m free_tasks - 1))

-- What program order leaves open: 3 for an opening out of range, the number of a new task, and 9 "push needs a segment,
-- none free", for a run of values if that is so at one of them. The other calls leave nothing open.
unfoldable pub decided : Call → List ℕ → Answer
decided (open_call l n) m = pick (in_range l n) (Moved 0) (Refused 3)
decided (spawn_call t r) m = Moved (next_task m)
decided (push_call t q vs) m = pick (segments_run_out m t q vs) (Refused 9) (Moved (last_of 0 vs))
decided (take_call t q keep) m = Waits
decided (sync_call t) m = Waits
decided (finish_call t) m = Waits
decided (left_call q i) m = Waits

-- THE ANSWER to a call on the words m, where xs are the steps and spots so far
unfoldable pub answered : Call → List ℕ → List Item → Answer
answered c m xs = ordered c xs (decided c m)
