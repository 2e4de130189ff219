-- Operations on tasks, and those on their views: what they leave alone.
use Rattle.std.specs.Prelude.{◌≡◌, List, ℕ, ◌+◌, ◌*◌, ◌<◌, ◌≤◌, length as len}
use Rattle.std.proofs.Common.{◌∙◌, arith}
use Rattle.spec_words.specs.Blocks.{store_all, block_other, size_store_all}
use Rattle.spec_layout.specs.Layout.{TASKS, TASK_WORDS, Field, length_word, number_word, free_segments, free_tasks, header, free_segment, free_task}
use Rattle.spec_layout.specs.Layout.{segment, task, value, first, count, Opened, address, read, write}
use Rattle.law_maps.specs.Meaning.{Meaning, meaning_of, Sized, next_in, contents_in, free_in, heads_in, view_in}
use Rattle.law_maps.specs.Update.{meaning_path}
use Rattle.law_maps.specs.Reads.{next_same, contents_same, free_same}
use Rattle.law_maps.specs.Kept.{Becomes, Means, Only, write_only}

-- THE OPERATIONS ON TASKS leave alone what is no word of a task and not of the stack of free records.
abbrev pub BesideTasks : Field → Type 0
BesideTasks (header k) = (k < 64) × (k ≡ 3 → ⊥)
BesideTasks (free_segment i) = i < 256
BesideTasks (free_task i) = ⊥
BesideTasks (segment s k) = (s < 256) × (k < 4)
BesideTasks (task t k) = ⊥
BesideTasks (value i) = Unit {0}

abbrev pub TasksOnly : List ℕ → List ℕ → Type 0
TasksOnly = Only BesideTasks

beside_tasks : (f : Field) → BesideTasks f
    → (address f ≡ 3 → ⊥) × (320 ≤ address f → address f < 448 → ⊥) × (1472 ≤ address f → address f < 7616 → ⊥)
unfolding address
beside_tasks (header k) h = (h.1, λ a b. omega arith, λ a b. omega arith)
beside_tasks (free_segment i) h = (λ e. omega arith, λ a b. omega arith, λ a b. omega arith)
beside_tasks (free_task i) h = absurd h
beside_tasks (segment s k) h = (λ e. omega arith, λ a b. omega arith, λ a b. omega arith)
beside_tasks (task t k) h = absurd h
beside_tasks (value i) h = (λ e. omega arith, λ a b. omega arith, λ a b. omega arith)

pub word_only : (m : List ℕ) (t k v : ℕ) → t < 128 → k < 48 → TasksOnly m (write m (task t k) v)
unfolding address
word_only m t k v a b =
    write_only m (task t k) v (λ f h e. (beside_tasks f h).2 (omega (arith, e)) (omega (arith, e, a, b)))

pub idle_height_only : (m : List ℕ) (v : ℕ) → TasksOnly m (write m free_tasks v)
unfolding address
idle_height_only m v = write_only m free_tasks v (λ f h. (beside_tasks f h).0)

pub idle_only : (m : List ℕ) (i v : ℕ) → i < 128 → TasksOnly m (write m (free_task i) v)
unfolding address
idle_only m i v l =
    write_only m (free_task i) v (λ f h e. (beside_tasks f h).1 (omega (arith, e)) (omega (arith, e, l)))

-- several words of one record
pub block_only : (m : List ℕ) (t k : ℕ) (ws : List ℕ) → t < 128 → k + len ws ≤ 48 → TasksOnly m (store_all m (address (task t k)) ws)
unfolding address read
block_only m t k ws a b =
    record {
      words = size_store_all m (TASKS + t * TASK_WORDS + k) ws;
      same = λ f h. block_other ws m (TASKS + t * TASK_WORDS + k) (address f) (λ j l e. (beside_tasks f h).2 (omega (arith, e)) (omega (arith, e, a, b, l)));
    }

-- so the segments are kept, and what is left to show is what becomes of heads and views
pub tasks_mean : {m n : List ℕ} {M : Meaning} → TasksOnly m n → Sized m → next_in m ≡ M.next → contents_in m ≡ M.contents → free_in m ≡ M.free
    → heads_in n ≡ M.heads → view_in n ≡ M.views → Means n M
tasks_mean {m} {n} {M} o z a b c d e =
    record {
      sized = record {
        words = o.words ∙ z.words;
        length_range = λ s. (rw length (z.length_range s).0, rw length (z.length_range s).1);
        number_range = (rw number z.number_range.0, rw number z.number_range.1);
        product_range = rw (length, number) z.product_range;
        free_height_lem = rw (height, number) z.free_height_lem;
        firsts = λ s l. let w = rw number at l in rw (length, o.same (first s) (below s w, omega arith)) (z.firsts s w);
        counts = λ s l. let w = rw number at l in rw (length, o.same (count s) (below s w, omega arith)) (z.counts s w);
      };
      means = meaning_path (meaning_of n) M
          (next_same m n (λ s l. o.same (segment s 2) (l, omega arith)) ∙ a)
          (contents_same m n (λ s. length) (λ s l. (o.same (first s) (l, omega arith), o.same (count s) (l, omega arith))) (λ i. o.same (value i) tt) ∙ b)
          (free_same m n height (λ i l. o.same (free_segment i) (let h = z.free_height_lem in let k = z.number_range.1 in omega (arith, l, h, k))) ∙ c)
          d
          e;
    }
  where
    length : read n length_word ≡ read m length_word
    length = o.same length_word (omega arith, λ q. omega (arith, q))

    number : read n number_word ≡ read m number_word
    number = o.same number_word (omega arith, λ q. omega (arith, q))

    height : read n free_segments ≡ read m free_segments
    height = o.same free_segments (omega arith, λ q. omega (arith, q))

    below : (s : ℕ) → Opened m s → s < 256
    below s l = let k = z.number_range.1 in omega (arith, l, k)

-- THE OPERATIONS ON VIEWS leave alone what is no word of a view of the tasks.
abbrev pub BesideViews : Field → Type 0
BesideViews (header k) = k < 64
BesideViews (free_segment i) = i < 256
BesideViews (free_task i) = i < 128
BesideViews (segment s k) = (s < 256) × (k < 4)
BesideViews (task t k) = (t < 128) × (k < 16)
BesideViews (value i) = Unit {0}

abbrev pub ViewsOnly : List ℕ → List ℕ → Type 0
ViewsOnly = Only BesideViews

pub beside_views : (f : Field) → BesideViews f → (t k : ℕ) → t < 128 → 16 ≤ k → k < 48 → address f ≡ TASKS + t * TASK_WORDS + k → ⊥
unfolding address
beside_views (header j) h t k a b c e = omega arith
beside_views (free_segment i) h t k a b c e = omega arith
beside_views (free_task i) h t k a b c e = omega arith
beside_views (segment s j) h t k a b c e = omega arith
beside_views (task u j) h t k a b c e = omega arith
beside_views (value i) h t k a b c e = omega arith

pub view_only : (m : List ℕ) (t k v : ℕ) → t < 128 → 16 ≤ k → k < 48 → ViewsOnly m (write m (task t k) v)
unfolding address
view_only m t k v a b c = write_only m (task t k) v (λ f h. beside_views f h t k a b c)

pub views_tasks : {m n : List ℕ} → ViewsOnly m n → TasksOnly m n
views_tasks {m} {n} o = record { words = o.words; same = same }
  where
    same : (f : Field) → BesideTasks f → read n f ≡ read m f
    same (header k) h = o.same (header k) h.0
    same (free_segment i) h = o.same (free_segment i) h
    same (free_task i) h = absurd h
    same (segment s k) h = o.same (segment s k) h
    same (task t k) h = absurd h
    same (value i) h = o.same (value i) h

-- so the task tree and the segments are kept, and what is left to show is what becomes of heads and views
pub views_become : {m n : List ℕ} {M : Meaning} → ViewsOnly m n → Sized m → next_in m ≡ M.next → contents_in m ≡ M.contents → free_in m ≡ M.free
    → heads_in n ≡ M.heads → view_in n ≡ M.views → Becomes m n M
views_become {m} {n} {M} o z a b c d e =
    let w = tasks_mean (views_tasks o) z a b c d e in
    record {
      kept = record {
        words = o.words;
        length = λ s. o.same length_word (omega arith);
        number = o.same number_word (omega arith);
        links = λ t k h l. o.same (task t k) (h, l);
        idle_height = o.same free_tasks (omega arith);
        idle = λ i l. o.same (free_task i) l;
      };
      sized = w.sized;
      means = w.means;
    }
