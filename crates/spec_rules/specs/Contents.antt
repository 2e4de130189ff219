-- What the memory rules look at: the numbers of the opening, the two stacks of free things, the records of tasks and
-- segments; and the lists that are made from them.
use Rattle.std.specs.Prelude.{◌≡◌, refl, Bool, true, false, not, List, [], ◌∷◌, ◌++◌, ℕ, zero, suc, ◌+◌, ◌*◌, ◌/◌, ◌%◌, ◌<◌, ltb, eqb, get_or, drop, take}
use Rattle.std.proofs.Common.{ap, sym, ◌∙◌, le_of_suc-le-suc, add_comm, add-mul, mul_assoc, zero-mul, suc-mul, arith, drop-drop, get_or-drop, ltb-true}
use Rattle.spec_words.specs.Words.{load, pick, pick_true, pick_false, either}
use Rattle.spec_words.specs.Blocks.{rows, row_at}
use Rattle.spec_lists.specs.Counting.{occurrences}
use Rattle.spec_layout.specs.Layout.{NONE, NL, FREE_SEGMENTS, FREE_TASKS, SEGMENTS, SEGMENT_WORDS, TASKS, TASK_WORDS, STATUS, RIGHTS, UNFINISHED}
use Rattle.spec_layout.specs.Layout.{QUEUE_HEADS, TAILS, HEAD_WORDS, TAIL_WORDS, length_word, number_word, free_segments, free_tasks, segment, address}
use Rattle.spec_layout.specs.Layout.{read, record_of}

pub record Contents : Type 0 where
  -- the length L of a segment, and the number of segments opened
  pub length : ℕ
  pub number : ℕ
  -- the entries of the stacks, the one used last in front
  pub free : List ℕ
  pub idle : List ℕ
  -- the record of segment s, the record of task t: the words from its first on
  pub segs : ℕ → List ℕ
  pub recs : ℕ → List ℕ

-- the record of segment s
unfoldable pub segment_of : List ℕ → ℕ → List ℕ
segment_of m s = drop (SEGMENTS + s * SEGMENT_WORDS) m

-- the contents of words m
abbrev pub decode : List ℕ → Contents
decode m =
    record {
      length = read m length_word;
      number = read m number_word;
      free = take (read m free_segments) (drop FREE_SEGMENTS m);
      idle = take (read m free_tasks) (drop FREE_TASKS m);
      segs = segment_of m;
      recs = record_of m;
    }

-- The same through tables of 16 records each, so that the checker finds a record in few steps.
unfoldable pub tables : ℕ → ℕ → List ℕ → List (List (List ℕ))
tables w zero r = []
tables w (suc n) r = let rest = tables w n (drop (16 * w) r) in let table = rows w 16 r in table ∷ rest

unfoldable pub look : ℕ → List (List (List ℕ)) → (ℕ → List ℕ) → ℕ → List ℕ
look n found f i = pick (ltb i (16 * n)) (get_or (get_or found (i / 16) []) (i % 16) []) (f i)

unfoldable pub scan : List ℕ → Contents
scan m =
    let segments = tables SEGMENT_WORDS 16 (drop SEGMENTS m) in
    let tasks = tables TASK_WORDS 8 (drop TASKS m) in
    record {
      length = read m length_word;
      number = read m number_word;
      free = take (read m free_segments) (drop FREE_SEGMENTS m);
      idle = take (read m free_tasks) (drop FREE_TASKS m);
      segs = look 16 segments (segment_of m);
      recs = look 8 tasks (record_of m);
    }

table_at : (w n : ℕ) (r : List ℕ) (i : ℕ) → i < n → get_or (tables w n r) i [] ≡ rows w 16 (drop (i * (16 * w)) r)
unfolding tables
table_at w zero r i h = let z : ⊥ = omega arith in absurd z
table_at w (suc n) r zero h = ap (λ (k : ℕ). rows w 16 (drop k r)) (sym (zero-mul (16 * w)))
table_at w (suc n) r (suc i) h =
    table_at w n (drop (16 * w) r) i (le_of_suc-le-suc h)
    ∙ ap (rows w 16) (drop-drop (i * (16 * w)) (16 * w) r ∙ ap (λ (k : ℕ). drop k r) (add_comm (16 * w) (i * (16 * w)) ∙ sym (suc-mul i (16 * w))))

look_same : (w n a : ℕ) (m : List ℕ) (i : ℕ) → look n (tables w n (drop a m)) (λ j. drop (a + j * w) m) i ≡ drop (a + i * w) m
unfolding look
look_same w n a m i = go (ltb i (16 * n)) refl
  where
    split : i / 16 * (16 * w) + i % 16 * w ≡ i * w
    split =
        ap (λ (k : ℕ). k + i % 16 * w) (sym (mul_assoc (i / 16) 16 w))
        ∙ sym (add-mul (i / 16 * 16) (i % 16) w)
        ∙ ap (λ (k : ℕ). k * w) (let z : i / 16 * 16 + i % 16 ≡ i = omega arith in z)

    found : i < 16 * n → get_or (get_or (tables w n (drop a m)) (i / 16) []) (i % 16) [] ≡ drop (a + i * w) m
    found h =
        ap (λ (l : List (List ℕ)). get_or l (i % 16) []) (table_at w n (drop a m) (i / 16) (omega arith))
        ∙ row_at w 16 (drop (i / 16 * (16 * w)) (drop a m)) (i % 16) (omega arith)
        ∙ drop-drop (i % 16 * w) (i / 16 * (16 * w)) (drop a m)
        ∙ drop-drop (i / 16 * (16 * w) + i % 16 * w) a m
        ∙ ap (λ (k : ℕ). drop (a + k) m) split

    go : (b : Bool) → ltb i (16 * n) ≡ b → pick b (get_or (get_or (tables w n (drop a m)) (i / 16) []) (i % 16) []) (drop (a + i * w) m) ≡ drop (a + i * w) m
    go true e = pick_true _ _ ∙ found (ltb-true i (16 * n) e)
    go false e = pick_false _ _

pub scan_decodes : (m : List ℕ) → scan m ≡ decode m
unfolding scan segment_of record_of
scan_decodes m = λ i. record {
  length = read m length_word;
  number = read m number_word;
  free = take (read m free_segments) (drop FREE_SEGMENTS m);
  idle = take (read m free_tasks) (drop FREE_TASKS m);
  segs = λ s. look_same SEGMENT_WORDS 16 SEGMENTS m s i;
  recs = λ t. look_same TASK_WORDS 8 TASKS m t i;
}

-- word k of the record of task t, its rights, and word k of the record of segment s
unfoldable pub word : Contents → ℕ → ℕ → ℕ
word c t k = load (c.recs t) k

abbrev pub task_rights : Contents → ℕ → ℕ
task_rights c t = word c t RIGHTS

unfoldable pub part : Contents → ℕ → ℕ → ℕ
part c s k = load (c.segs s) k

pub part_word : (m : List ℕ) (s k : ℕ) → part (decode m) s k ≡ read m (segment s k)
unfolding part segment_of load read address
part_word m s k = get_or-drop (SEGMENTS + s * SEGMENT_WORDS) m k 0

-- the first n words of r that are segments, no mark
unfoldable pub locals : ℕ → List ℕ → List ℕ
locals zero r = []
locals (suc n) r = let rest = locals n (drop 1 r) in pick (ltb (load r 0) NL) (load r 0 ∷ rest) rest

-- the local heads, and the local tails, of all views of the tasks ts
unfoldable pub heads : Contents → List ℕ → List ℕ
heads c [] = []
heads c (t ∷ ts) = locals HEAD_WORDS (drop QUEUE_HEADS (c.recs t)) ++ heads c ts

unfoldable pub tails : Contents → List ℕ → List ℕ
tails c [] = []
tails c (t ∷ ts) = locals TAIL_WORDS (drop TAILS (c.recs t)) ++ tails c ts

-- of the tasks ts those that have the queue view of q
unfoldable pub owners : Contents → ℕ → List ℕ → List ℕ
owners c q [] = []
owners c q (t ∷ ts) = let rest = owners c q ts in pick (eqb (word c t (QUEUE_HEADS + q)) NONE) rest (t ∷ rest)

-- the tasks that have views: the top, finished or not, and the unfinished ones; of the n tasks from t on
unfoldable pub holders_from : Contents → ℕ → ℕ → List ℕ
holders_from c zero t = []
holders_from c (suc n) t =
    let rest = holders_from c n (t + 1) in
    pick (either (eqb t 0) (eqb (word c t STATUS) UNFINISHED)) (t ∷ rest) rest

unfoldable pub holders : Contents → List ℕ
holders c = holders_from c 128 0

-- the nexts of the held segments among the n segments from s on
unfoldable pub nexts_from : Contents → ℕ → ℕ → List ℕ
nexts_from c zero s = []
nexts_from c (suc n) s =
    let rest = nexts_from c n (s + 1) in
    pick (either (not (eqb (occurrences s c.free) 0)) (eqb (part c s 2) NONE)) rest (part c s 2 ∷ rest)

unfoldable pub nexts : Contents → List ℕ
nexts c = nexts_from c c.number 0
