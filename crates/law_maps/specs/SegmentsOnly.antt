-- Operations on segments: what they leave alone.
use Rattle.std.specs.Prelude.{◌≡◌, List, ℕ, ◌<◌, ◌≤◌}
use Rattle.std.proofs.Common.{◌∙◌, arith}
use Rattle.spec_layout.specs.Layout.{Field, length_word, number_word, free_segments, free_tasks, header, free_segment, free_task, segment, task, value}
use Rattle.spec_layout.specs.Layout.{first, count, length_of, Opened, address, read, write}
use Rattle.law_maps.specs.Meaning.{Meaning, meaning_of, Sized, next_in, contents_in, free_in, heads_in, view_in}
use Rattle.law_maps.specs.Update.{meaning_path}
use Rattle.law_maps.specs.Reads.{heads_same, views_same}
use Rattle.law_maps.specs.Kept.{Becomes, Only, write_only}

-- THE OPERATIONS ON SEGMENTS leave alone what is no word of a segment, no value, and not of the stack of free segments.
abbrev pub BesideSegments : Field → Type 0
BesideSegments (header k) = (k < 64) × (k ≡ 2 → ⊥)
BesideSegments (free_segment i) = ⊥
BesideSegments (free_task i) = i < 128
BesideSegments (segment s k) = ⊥
BesideSegments (task t k) = (t < 128) × (k < 48)
BesideSegments (value i) = ⊥

abbrev pub SegmentsOnly : List ℕ → List ℕ → Type 0
SegmentsOnly = Only BesideSegments

beside_segments : (f : Field) → BesideSegments f
    → (address f ≡ 2 → ⊥) × (64 ≤ address f → address f < 320 → ⊥) × (448 ≤ address f → address f < 1472 → ⊥) × (address f < 8192)
unfolding address
beside_segments (header k) h = (h.1, λ a b. omega arith, λ a b. omega arith, omega arith)
beside_segments (free_segment i) h = absurd h
beside_segments (free_task i) h = (λ e. omega arith, λ a b. omega arith, λ a b. omega arith, omega arith)
beside_segments (segment s k) h = absurd h
beside_segments (task t k) h = (λ e. omega arith, λ a b. omega arith, λ a b. omega arith, omega arith)
beside_segments (value i) h = absurd h

pub height_only : (m : List ℕ) (v : ℕ) → SegmentsOnly m (write m free_segments v)
unfolding address
height_only m v = write_only m free_segments v (λ f h. (beside_segments f h).0)

pub place_only : (m : List ℕ) (i v : ℕ) → i < 256 → SegmentsOnly m (write m (free_segment i) v)
unfolding address
place_only m i v l =
    write_only m (free_segment i) v (λ f h e. (beside_segments f h).1 (omega (arith, e)) (omega (arith, e, l)))

pub segment_only : (m : List ℕ) (s k v : ℕ) → s < 256 → k < 4 → SegmentsOnly m (write m (segment s k) v)
unfolding address
segment_only m s k v l g =
    write_only m (segment s k) v (λ f h e. (beside_segments f h).2 (omega (arith, e)) (omega (arith, e, l, g)))

pub value_only : (m : List ℕ) (i v : ℕ) → SegmentsOnly m (write m (value i) v)
unfolding address
value_only m i v =
    write_only m (value i) v (λ f h e. let a = (beside_segments f h).3 in omega (arith, a, e))

pub segments_sized : {m n : List ℕ} → SegmentsOnly m n → Sized m → read n free_segments ≤ read m number_word
    → ((s : ℕ) → Opened m s → read n (first s) < length_of m s) → ((s : ℕ) → Opened m s → read n (count s) ≤ length_of m s)
    → Sized n
segments_sized {m} {n} o z a b c =
    record {
      words = o.words ∙ z.words;
      length_range = λ s. (rw length (z.length_range s).0, rw length (z.length_range s).1);
      number_range = (rw number z.number_range.0, rw number z.number_range.1);
      product_range = rw (length, number) z.product_range;
      free_height_lem = rw number a;
      firsts = λ s l. rw length (b s (rw number at l));
      counts = λ s l. rw length (c s (rw number at l));
    }
  where
    length : read n length_word ≡ read m length_word
    length = o.same length_word (omega arith, λ q. omega (arith, q))

    number : read n number_word ≡ read m number_word
    number = o.same number_word (omega arith, λ q. omega (arith, q))

-- so the task tree, heads and views are kept, and what is left to show is what becomes of the segments
pub segments_become : {m n : List ℕ} {M : Meaning} → SegmentsOnly m n → Sized n → next_in n ≡ M.next → contents_in n ≡ M.contents → free_in n ≡ M.free
    → heads_in m ≡ M.heads → view_in m ≡ M.views → Becomes m n M
segments_become {m} {n} {M} o z a b c d e =
    record {
      kept = record {
        words = o.words;
        length = λ s. o.same length_word (omega arith, λ q. omega (arith, q));
        number = o.same number_word (omega arith, λ q. omega (arith, q));
        links = λ t k h l. o.same (task t k) (h, omega (arith, l));
        idle_height = o.same free_tasks (omega arith, λ q. omega (arith, q));
        idle = λ i l. o.same (free_task i) l;
      };
      sized = z;
      means = meaning_path (meaning_of n) M a b c (heads_same m n tasks ∙ d) (views_same m n tasks ∙ e);
    }
  where
    tasks : (t k : ℕ) → t < 128 → 16 ≤ k → k < 48 → read n (task t k) ≡ read m (task t k)
    tasks t k ht g l = o.same (task t k) (ht, l)
