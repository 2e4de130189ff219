-- Where every word of the core's memory stands (docs/LAYOUT.md has the same as a table).
use Rattle.std.specs.Prelude.{Bool, List, ℕ, ◌+◌, ◌*◌, ◌<◌, ◌≤◌, ltb, take, drop}
use Rattle.spec_words.specs.Words.{load, store}

-- "exactly 16,384 lent words of 32 bits"
abbrev pub WORDS : ℕ
WORDS = 16384

-- the mark for none
abbrev pub NONE : ℕ
NONE = 4294967295

-- the mark for a non-local end of a view
abbrev pub NL : ℕ
NL = 4294967294

-- WHERE THE PARTS BEGIN behind the header, and how many words a record and the value area have
abbrev pub FREE_SEGMENTS : ℕ
FREE_SEGMENTS = 64

abbrev pub FREE_TASKS : ℕ
FREE_TASKS = 320

abbrev pub SEGMENTS : ℕ
SEGMENTS = 448

abbrev pub SEGMENT_WORDS : ℕ
SEGMENT_WORDS = 4

abbrev pub TASKS : ℕ
TASKS = 1472

abbrev pub TASK_WORDS : ℕ
TASK_WORDS = 48

abbrev pub VALUES : ℕ
VALUES = 8192

abbrev pub VALUE_WORDS : ℕ
VALUE_WORDS = 8192

-- A field is one word of the memory.
pub data Field : Type 0 where
  -- word k of the header
  header : ℕ → Field
  -- place i of the stack of free segments
  free_segment : ℕ → Field
  -- place i of the stack of free task records
  free_task : ℕ → Field
  -- word k of the record of segment s
  segment : ℕ → ℕ → Field
  -- word k of the record of task t
  task : ℕ → ℕ → Field
  -- word i of the value area
  value : ℕ → Field

unfoldable pub address : Field → ℕ
address (header k) = k
address (free_segment i) = FREE_SEGMENTS + i
address (free_task i) = FREE_TASKS + i
address (segment s k) = SEGMENTS + s * SEGMENT_WORDS + k
address (task t k) = TASKS + t * TASK_WORDS + k
address (value i) = VALUES + i

unfoldable pub read : List ℕ → Field → ℕ
read m f = load m (address f)

unfoldable pub write : List ℕ → Field → ℕ → List ℕ
write m f v = store m (address f) v

-- THE HEADER: the length L of a segment, the number of segments opened, the heights of the two stacks
abbrev pub length_word : Field
length_word = header 0

abbrev pub number_word : Field
number_word = header 1

abbrev pub free_segments : Field
free_segments = header 2

abbrev pub free_tasks : Field
free_tasks = header 3

-- A SEGMENT: "a first place, a count and a next"
abbrev pub first : ℕ → Field
first s = segment s 0

abbrev pub count : ℕ → Field
count s = segment s 1

abbrev pub next : ℕ → Field
next s = segment s 2

-- how many values segment s holds at most: L for every segment
abbrev pub length_of : List ℕ → ℕ → ℕ
length_of m s = read m length_word

-- the word of place i of segment s
abbrev pub value_word : List ℕ → ℕ → ℕ → Field
value_word m s i = value (s * length_of m s + i)

-- segment s is one of those opened
abbrev pub Opened : List ℕ → ℕ → Type 0
Opened m s = s < read m number_word

abbrev pub is_opened : List ℕ → ℕ → Bool
is_opened m s = ltb s (read m number_word)

-- the values of all segments are inside the value area
abbrev pub ValuesFit : List ℕ → Type 0
ValuesFit m = read m length_word * read m number_word ≤ VALUE_WORDS

-- WHAT QUEUE q HAS: the four queues share the segments and the stack of free ones, so it is the same for each.
-- the number of segments opened
abbrev pub segments_of : List ℕ → ℕ → ℕ
segments_of m q = read m number_word

-- the height of the stack of free segments
abbrev pub free_height : List ℕ → ℕ → ℕ
free_height m q = read m free_segments

-- its entries
abbrev pub free_stack : List ℕ → ℕ → List ℕ
free_stack m q = take (free_height m q) (drop FREE_SEGMENTS m)

-- A TASK: the places of the words of its record
abbrev pub STATUS : ℕ
STATUS = 0

abbrev pub RIGHTS : ℕ
RIGHTS = 1

abbrev pub PARENT : ℕ
PARENT = 2

abbrev pub OLDER : ℕ
OLDER = 3

abbrev pub YOUNGER : ℕ
YOUNGER = 4

abbrev pub YOUNGEST : ℕ
YOUNGEST = 5

-- the rights of task t: for queue q, bit 2q is push and bit 2q + 1 is pop
abbrev pub rights_of : List ℕ → ℕ → ℕ
rights_of m t = read m (task t RIGHTS)

-- the states of a record
abbrev pub FREE : ℕ
FREE = 0

abbrev pub UNFINISHED : ℕ
UNFINISHED = 1

abbrev pub FINISHED : ℕ
FINISHED = 2

-- the places of the view words of a record: the heads of the queue views, the heads and the tails of the other views
abbrev pub QUEUE_HEADS : ℕ
QUEUE_HEADS = 16

abbrev pub HEADS : ℕ
HEADS = 20

abbrev pub TAILS : ℕ
TAILS = 32

-- how many heads a task has, how many tails, and both
abbrev pub HEAD_WORDS : ℕ
HEAD_WORDS = 16

abbrev pub TAIL_WORDS : ℕ
TAIL_WORDS = 12

abbrev pub VIEW_WORDS : ℕ
VIEW_WORDS = 28

-- THE VIEWS of task t of queue q. The queue view is its head alone: its tail is always non-local.
abbrev pub queue_head : ℕ → ℕ → Field
queue_head t q = task t (QUEUE_HEADS + q)

-- the kinds of the other views
abbrev pub CHILDREN : ℕ
CHILDREN = 0

abbrev pub USER : ℕ
USER = 1

abbrev pub RIGHT : ℕ
RIGHT = 2

abbrev pub head : ℕ → ℕ → ℕ → Field
head k t q = task t (HEADS + k * 4 + q)

abbrev pub tail : ℕ → ℕ → ℕ → Field
tail k t q = task t (TAILS + k * 4 + q)

-- the record of task t: the words from its first on
unfoldable pub record_of : List ℕ → ℕ → List ℕ
record_of m t = drop (TASKS + t * TASK_WORDS) m
