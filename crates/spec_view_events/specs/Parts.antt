-- The words of a segment's record, and of a task's, by their addresses.
use Rattle.std.specs.Prelude.{◌≡◌, refl, List, ℕ, ◌+◌, ◌*◌, get_or}
use Rattle.std.proofs.Common.{ap, sym, ◌∙◌, get_or-drop}
use Rattle.spec_words.specs.Words.{load}
use Rattle.spec_layout.specs.Layout.{SEGMENTS, SEGMENT_WORDS, TASKS, TASK_WORDS, address, read, record_of}
use Rattle.spec_rules.specs.Contents.{decode, segment_of, part, word}

pub part_at : (m : List ℕ) (s k a : ℕ) → a ≡ SEGMENTS + s * SEGMENT_WORDS + k → get_or m a 0 ≡ part (decode m) s k
unfolding part segment_of load
part_at m s k a e = ap (λ (i : ℕ). get_or m i 0) e ∙ sym (get_or-drop (SEGMENTS + s * SEGMENT_WORDS) m k 0)

pub word_at : (m : List ℕ) (t k a : ℕ) → a ≡ TASKS + t * TASK_WORDS + k → get_or m a 0 ≡ word (decode m) t k
unfolding word record_of load
word_at m t k a e = ap (λ (i : ℕ). get_or m i 0) e ∙ sym (get_or-drop (TASKS + t * TASK_WORDS) m k 0)

pub length_at : (m : List ℕ) → get_or m 0 0 ≡ (decode m).length
unfolding read address load
length_at m = refl

pub number_at : (m : List ℕ) → get_or m 1 0 ≡ (decode m).number
unfolding read address load
number_at m = refl
