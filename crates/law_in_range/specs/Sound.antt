-- What a memory that passes the test promises to the calls: which words are in range.
use Rattle.std.specs.Prelude.{◌≡◌, true, List, ◌⊎◌, ℕ, zero, suc, ◌+◌, ◌<◌, ◌≤◌, length, get_or, take, drop}
use Rattle.std.proofs.Common.{ap, sym, ◌∙◌, inl, inr, ⊎_elim, arith, drop-cons}
use Rattle.std.proofs.Math.ListN.{length-take, length-drop}
use borrow.Author.Tests.{ltb-true, eqb-true, leb-true}
use Rattle.spec_words.specs.Words.{load, size, both_true}
use Rattle.spec_lists.specs.Counting.{occurrences, occurs_here, occurs_cons}
use Rattle.spec_layout.specs.Layout.{NONE, NL, FREE_SEGMENTS, FREE_TASKS, STATUS, UNFINISHED, QUEUE_HEADS, TAILS, HEAD_WORDS, TAIL_WORDS, number_word}
use Rattle.spec_layout.specs.Layout.{free_segments, free_tasks, free_segment, free_task, task, first, count, next, length_of, Opened, ValuesFit}
use Rattle.spec_layout.specs.Layout.{segments_of, free_height, address, read}
use Rattle.spec_layout.proofs.Frame.{record_word}
use Rattle.spec_tree.specs.Tour.{entered}
use Rattle.spec_rules.specs.Contents.{decode, scan_decodes, word, part_word, heads, tails}
use Rattle.spec_rules.specs.Rules.{Holder, TaskRules}
use Rattle.spec_rules.specs.Test.{test, rules_hold}
use Rattle.law_rules_segments.specs.Segments.{segments_say}
use Rattle.law_rules_segments.specs.Tested.{segments_sound}
use Rattle.law_rules_tasks.specs.Tasks.{tasks_say}
use Rattle.law_rules_views.specs.Ends.{heads_fit, tails_fit}
use Rattle.law_rules_same.specs.Passed.{Passed, test_says, opening_says, toured}
use Rattle.law_rules_same.specs.Same.{whole_tour}
use Rattle.spec_outcomes.specs.Waits.{unfinished}

-- the words of a part of memory stand in it
in_take : (i k a : ℕ) (m : List ℕ) → i < k → a + k ≤ size m → 0 < occurrences (load m (a + i)) (take k (drop a m))
unfolding size load
in_take i zero a m l b = let z : ⊥ = omega (arith, l) in absurd z
in_take zero (suc k) a m l b =
    let e = ap (take (suc k)) (drop-cons m a 0 (omega (arith, b))) in
    let f : get_or m (a + 0) 0 ≡ get_or m a 0 = ap (λ (j : ℕ). get_or m j 0) (let z : a + 0 ≡ a = omega arith in z) in
    let n = occurs_here (get_or m a 0) (get_or m (a + 0) 0) (take k (drop (suc a) m)) (sym f) in
    let o = ap (occurrences (get_or m (a + 0) 0)) e in
    omega (arith, n, o)
in_take (suc i) (suc k) a m l b =
    let e = ap (take (suc k)) (drop-cons m a 0 (omega (arith, b))) in
    let w = get_or m (a + suc i) 0 in
    let f : get_or m (suc a + i) 0 ≡ w = ap (λ (j : ℕ). get_or m j 0) (let z : suc a + i ≡ a + suc i = omega arith in z) in
    let h = in_take i k (suc a) m (omega (arith, l)) (omega (arith, b)) in
    let g = ap (λ (x : ℕ). occurrences x (take k (drop (suc a) m))) f in
    let n = occurs_cons (get_or m a 0) w (take k (drop (suc a) m)) in
    let o = ap (occurrences w) e in
    omega (arith, h, g, n, o)

module _ (m : List ℕ) where
  -- a task that has views: the top, or an unfinished one
  abbrev pub Live : ℕ → Type 0
  Live t = (t ≡ 0) ⊎ ((t < 128) × (read m (task t STATUS) ≡ UNFINISHED))

  pub record Sound : Type 0 where
    pub length_range : (s : ℕ) → (1 ≤ length_of m s) × (length_of m s ≤ 64)
    pub number_range : (4 ≤ read m number_word) × (read m number_word ≤ 256)
    pub product_range : ValuesFit m
    -- segments opened
    pub firsts : (s : ℕ) → Opened m s → read m (first s) < length_of m s
    pub counts : (s : ℕ) → Opened m s → read m (count s) ≤ length_of m s
    pub nexts : (s : ℕ) → Opened m s → (Opened m (read m (next s))) ⊎ (read m (next s) ≡ NONE)
    -- heads and tails that are no marks: of the queue, children, user and right views, 4 words each
    pub heads_open : (t i : ℕ) → Live t → i < HEAD_WORDS → read m (task t (QUEUE_HEADS + i)) < NL → Opened m (read m (task t (QUEUE_HEADS + i)))
    pub tails_open : (t i : ℕ) → Live t → i < TAIL_WORDS → read m (task t (TAILS + i)) < NL → Opened m (read m (task t (TAILS + i)))
    -- the stack of free segments
    pub free_height_lem : (q : ℕ) → free_height m q ≤ segments_of m q
    pub free_open : (q i : ℕ) → i < free_height m q → Opened m (read m (free_segment i))
    -- the stack of free records
    pub idle_height : read m free_tasks ≤ 127
    pub idle_tasks : (i : ℕ) → i < read m free_tasks → read m (free_task i) < 128
    -- the task tree
    pub tasks : TaskRules (decode m)

  task_word : (t k : ℕ) → word (decode m) t k ≡ read m (task t k)
  unfolding word
  task_word t k = record_word m t k

  live_holder : (t : ℕ) → Live t → Holder (decode m) t
  live_holder t h = ⊎_elim inl (λ w. inr (w.0, task_word t STATUS ∙ w.1)) h

  in_stack : (i k a : ℕ) → size m ≡ 16384 → i < k → k ≤ 256 → a ≤ 320 → 0 < occurrences (load m (a + i)) (take k (drop a m))
  in_stack i k a big l b d = in_take i k a m l (omega (arith, big, b, d))

  passed_sound : size m ≡ 16384 → Passed (decode m) → Sound
  unfolding size read address
  passed_sound big p =
      let c = decode m in
      let o = opening_says c p.range in
      let v = whole_tour c p.top p.free p.tree in
      let xs = toured c in
      let g = segments_say c (heads c (entered xs)) (tails c (entered xs)) o.number_range.1 p.room p.seen.segs p.seen.holding in
      let sound = segments_sound c p.seen.segs in
      let tasks = tasks_say c p.top p.free p.tree in
      let high : read m free_segments ≤ read m number_word =
      let a = leb-true (length c.free) c.number p.room in
      let b = length-take (read m free_segments) (drop FREE_SEGMENTS m) in
      let d = length-drop FREE_SEGMENTS m in
      let f = o.number_range.1 in
      omega (arith, a, b, d, f, big) in
      let few : read m free_tasks ≤ 127 =
      let a = tasks.idle_few in
      let b = length-take (read m free_tasks) (drop FREE_TASKS m) in
      let d = length-drop FREE_TASKS m in
      omega (arith, a, b, d, big) in
      record {
        length_range = λ s. o.length_range;
        number_range = o.number_range;
        product_range = o.product_range;
        firsts = λ s l. let a = (sound s l).first in let b = part_word m s 0 in omega (arith, a, b);
        counts = λ s l. let a = (sound s l).count in let b = part_word m s 1 in omega (arith, a, b);
        nexts = λ s l. rw (part_word m s 2) at (sound s l).link;
        heads_open = λ t i h l q.
            let e = task_word t (QUEUE_HEADS + i) in
            let a = heads_fit c xs v g.1 t i (live_holder t h) l (omega (arith, e, q)) in
            omega (arith, e, a);
        tails_open = λ t i h l q.
            let e = task_word t (TAILS + i) in
            let a = tails_fit c xs v g.2 t i (live_holder t h) l (omega (arith, e, q)) in
            omega (arith, e, a);
        free_height_lem = λ q. high;
        free_open = λ q i l.
            let f = o.number_range.1 in
            g.0.free_below (read m (free_segment i)) (in_stack i (read m free_segments) FREE_SEGMENTS big l (omega (arith, high, f)) (omega arith));
        idle_height = few;
        idle_tasks = λ i l. (tasks.idle_below (read m (free_task i)) (in_stack i (read m free_tasks) FREE_TASKS big l (omega (arith, few)) (omega arith))).1;
        tasks = tasks;
      }

  pub rules_sound : size m ≡ 16384 → rules_hold m ≡ true → Sound
  unfolding rules_hold
  rules_sound big e = passed_sound big (test_says (decode m) (ap test (sym (scan_decodes m)) ∙ e))

  -- an unfinished task
  pub unfinished_says : (t : ℕ) → unfinished m t ≡ true → (t < 128) × (read m (task t STATUS) ≡ UNFINISHED)
  unfolding unfinished
  unfinished_says t e = let a = both_true _ _ e in (ltb-true _ _ a.0, eqb-true _ _ a.1)

  pub unfinished_live : (t : ℕ) → unfinished m t ≡ true → Live t
  unfinished_live t e = inr (unfinished_says t e)
