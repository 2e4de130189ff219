-- The words of a new core.
use Rattle.std.specs.Prelude.{◌≡◌, length, replicate}
use Rattle.std.proofs.Math.Path.{refl, ap}
use Rattle.std.proofs.Common.{◌∙◌}
use mathlib.Core.List.{List, [], ◌∷◌}
use Prim.Native.Nat.{ℕ, zero, suc, ◌+◌, ◌-◌, ◌*◌, ◌<◌, ◌≤◌}
use native.Mathlib.Omega.{arith}
use Rattle.std.proofs.Math.ListN.{length-replicate}
use Rattle.spec_words.specs.Words.{load, size}
use Rattle.spec_words.specs.Blocks.{store_all, block_other, size_store_all, block_same}
use Rattle.spec_lists.specs.Marks.{zeros}
use Rattle.spec_layout.specs.Layout.{WORDS, NONE, SEGMENTS, SEGMENT_WORDS, TASKS, TASK_WORDS, QUEUE_HEADS, VIEW_WORDS, length_word, number_word}
use Rattle.spec_layout.specs.Layout.{free_segments, header, free_segment, segment, task, first, count, next, address, read}
use Rattle.spec_tree.specs.Queues.{by_four}
use Rattle.spec_outcomes.specs.Open.{down, empty_segment, top_links, top_views, stacked, segmented, topped, opened}
use Rattle.law_maps.specs.SegmentsOnly.{SegmentsOnly}
use Rattle.law_maps.specs.TasksOnly.{TasksOnly, block_only}
use Rattle.law_maps.specs.Segment.{OnlySegment}
use Rattle.law_maps.specs.Free.{record_set, record_set_lem, set_only, set_first, set_count, set_next}
use Rattle.law_maps.specs.Records.{record_same, record_other}
use Rattle.law_maps.specs.Kept.{only_then}

-- NUMBERS FROM x DOWN
pub down_length : (n x : ℕ) → length (down n x) ≡ n
unfolding down
down_length zero x = refl
down_length (suc n) x = ap suc (down_length n (x - 1))

pub down_at : (n x i : ℕ) → i < n → load (down n x) i ≡ x - i
unfolding down load
down_at zero x i h = let z : ⊥ = omega (arith, h) in absurd z
down_at (suc n) x zero h = let z : x ≡ x - 0 = omega arith in z
down_at (suc n) x (suc i) h = down_at n (x - 1) i (omega (arith, h)) ∙ (let z : x - 1 - i ≡ x - suc i = omega arith in z)

-- A WORD before or behind the words stored
pub before : (m : List ℕ) (a : ℕ) (ws : List ℕ) (b : ℕ) → b < a → load (store_all m a ws) b ≡ load m b
before m a ws b h = block_other ws m a b (λ j l e. omega (arith, e, h))

behind : (m : List ℕ) (a : ℕ) (ws : List ℕ) (b : ℕ) → a + length ws ≤ b → load (store_all m a ws) b ≡ load m b
behind m a ws b h = block_other ws m a b (λ j l e. omega (arith, e, h, l))

-- THE HEADER AND THE STACKS, for l and n in range
module _ (l n : ℕ) (hn : 4 ≤ n) (hn' : n ≤ 256) where
  abbrev headed : List ℕ
  headed = store_all (replicate WORDS 0) 0 (l ∷ n ∷ (n - 4) ∷ 127 ∷ [])

  abbrev stacked1 : List ℕ
  stacked1 = store_all headed (address (free_segment 0)) (down (n - 4) (n - 1))

  abbrev bare : List ℕ
  bare = stacked n headed

  size_headed : size headed ≡ WORDS
  size_headed = size_store_all (replicate WORDS 0) 0 _ ∙ (unfold size in length-replicate {A = ℕ} WORDS 0)

  pub size_stacked : size stacked1 ≡ WORDS
  size_stacked = size_store_all headed _ _ ∙ size_headed

  size_bare : size bare ≡ WORDS
  unfolding stacked
  size_bare = size_store_all stacked1 _ _ ∙ size_stacked

  bare_header : (k : ℕ) → k < 4 → load bare k ≡ load (l ∷ n ∷ (n - 4) ∷ 127 ∷ []) k
  unfolding stacked address
  bare_header k h =
      before stacked1 320 (down 127 127) k (omega (arith, h)) ∙ before headed 64 (down (n - 4) (n - 1)) k (omega (arith, h))
      ∙ ap (load headed) (let e : k ≡ 0 + k = omega arith in e)
      ∙ block_same (l ∷ n ∷ (n - 4) ∷ 127 ∷ []) (replicate WORDS 0) 0 k h (let e = length-replicate {A = ℕ} WORDS 0 in unfold size in omega (arith, e))

  bare_stack : (i : ℕ) → i < n - 4 → read bare (free_segment i) ≡ n - 1 - i
  unfolding stacked read address
  bare_stack i h =
      before stacked1 320 (down 127 127) (64 + i) (omega (arith, h, hn'))
      ∙ block_same (down (n - 4) (n - 1)) headed 64 i
      (let e = down_length (n - 4) (n - 1) in omega (arith, e, h)) (let e = down_length (n - 4) (n - 1) in let s = size_headed in omega (arith, e, s, hn'))
      ∙ down_at (n - 4) (n - 1) i h

  bare_zero : (b : ℕ) → 447 ≤ b → load bare b ≡ 0
  unfolding stacked address
  bare_zero b h =
      behind stacked1 320 (down 127 127) b (let e = down_length 127 127 in omega (arith, e, h))
      ∙ behind headed 64 (down (n - 4) (n - 1)) b (let e = down_length (n - 4) (n - 1) in omega (arith, e, h, hn'))
      ∙ behind (replicate WORDS 0) 0 (l ∷ n ∷ (n - 4) ∷ 127 ∷ []) b (omega (arith, h))
      ∙ zeros WORDS b

  -- FOUR EMPTY SEGMENTS
  abbrev seg1 : List ℕ
  seg1 = record_set bare 0 0 0 NONE

  abbrev seg2 : List ℕ
  seg2 = record_set seg1 1 0 0 NONE

  abbrev seg3 : List ℕ
  seg3 = record_set seg2 2 0 0 NONE

  abbrev seg4 : List ℕ
  seg4 = record_set seg3 3 0 0 NONE

  segments_set : segmented bare ≡ seg4
  unfolding segmented
  segments_set =
      ap (λ (m : List ℕ). store3 (store2 (store1 m))) (record_set_lem bare 0 0 0 NONE)
      ∙ ap (λ (m : List ℕ). store3 (store2 m)) (record_set_lem seg1 1 0 0 NONE)
      ∙ ap store3 (record_set_lem seg2 2 0 0 NONE)
      ∙ record_set_lem seg3 3 0 0 NONE
    where
      store1 : List ℕ → List ℕ
      store1 m = store_all m (address (segment 1 0)) empty_segment

      store2 : List ℕ → List ℕ
      store2 m = store_all m (address (segment 2 0)) empty_segment

      store3 : List ℕ → List ℕ
      store3 m = store_all m (address (segment 3 0)) empty_segment

  only1 : OnlySegment bare seg1 0
  only1 = set_only bare 0 0 0 NONE size_bare (omega arith)

  size_1 : size seg1 ≡ WORDS
  size_1 = only1.only.words ∙ size_bare

  only2 : OnlySegment seg1 seg2 1
  only2 = set_only seg1 1 0 0 NONE size_1 (omega arith)

  size_2 : size seg2 ≡ WORDS
  size_2 = only2.only.words ∙ size_1

  only3 : OnlySegment seg2 seg3 2
  only3 = set_only seg2 2 0 0 NONE size_2 (omega arith)

  size_3 : size seg3 ≡ WORDS
  size_3 = only3.only.words ∙ size_2

  only4 : OnlySegment seg3 seg4 3
  only4 = set_only seg3 3 0 0 NONE size_3 (omega arith)

  -- what they leave alone
  four_only : SegmentsOnly bare seg4
  four_only = only_then (only_then only1.only only2.only) (only_then only3.only only4.only)

  four_height : read seg4 free_segments ≡ read bare free_segments
  four_height = only4.height ∙ only3.height ∙ only2.height ∙ only1.height

  four_stack : (i : ℕ) → i < 256 → read seg4 (free_segment i) ≡ read bare (free_segment i)
  four_stack i h = only4.stack i h ∙ only3.stack i h ∙ only2.stack i h ∙ only1.stack i h

  -- the record of segment s: first place and count are 0; the next is none for the four
  pub record Empty (m : List ℕ) (s x : ℕ) : Type 0 where
    pub start : read m (first s) ≡ 0
    pub number : read m (count s) ≡ 0
    pub link : read m (next s) ≡ x

  carried : {m k : List ℕ} {s t x : ℕ} → OnlySegment m k t → (s ≡ t → ⊥) → s < 256 → Empty m s x → Empty k s x
  carried {s = s} o d h e = record {
    start = o.records s 0 h (omega arith) d ∙ e.start;
    number = o.records s 1 h (omega arith) d ∙ e.number;
    link = o.records s 2 h (omega arith) d ∙ e.link;
  }

  set_empty : (m : List ℕ) (s : ℕ) → size m ≡ WORDS → s < 256 → Empty (record_set m s 0 0 NONE) s NONE
  set_empty m s z h = record { start = set_first m s 0 0 NONE z h; number = set_count m s 0 0 NONE z h; link = set_next m s 0 0 NONE z h }

  bare_empty : (s : ℕ) → Empty bare s 0
  unfolding read address
  bare_empty s = record {
    start = bare_zero (SEGMENTS + s * SEGMENT_WORDS + 0) (omega arith);
    number = bare_zero (SEGMENTS + s * SEGMENT_WORDS + 1) (omega arith);
    link = bare_zero (SEGMENTS + s * SEGMENT_WORDS + 2) (omega arith);
  }

  first_four : (s : ℕ) → s < 4 → Empty seg4 s NONE
  first_four s h =
      by_four (λ s. Empty seg4 s NONE)
      (carried only4 (λ e. omega (arith, e)) (omega arith) (carried only3 (λ e. omega (arith, e)) (omega arith)
      (carried only2 (λ e. omega (arith, e)) (omega arith) (set_empty bare 0 size_bare (omega arith)))))
      (carried only4 (λ e. omega (arith, e)) (omega arith) (carried only3 (λ e. omega (arith, e)) (omega arith) (set_empty seg1 1 size_1 (omega arith))))
      (carried only4 (λ e. omega (arith, e)) (omega arith) (set_empty seg2 2 size_2 (omega arith)))
      (set_empty seg3 3 size_3 (omega arith)) s h

  other_segments : (s : ℕ) → 4 ≤ s → s < 256 → Empty seg4 s 0
  other_segments s h b =
      carried only4 (λ e. omega (arith, e, h)) b (carried only3 (λ e. omega (arith, e, h)) b
      (carried only2 (λ e. omega (arith, e, h)) b (carried only1 (λ e. omega (arith, e, h)) b (bare_empty s))))

  -- THE RECORD OF THE TOP
  abbrev links1 : List ℕ
  links1 = store_all seg4 (address (task 0 0)) top_links

  abbrev pub core : List ℕ
  core = store_all links1 (address (task 0 16)) top_views

  pub opened_core : opened l n ≡ core
  unfolding opened topped
  opened_core = ap (λ (m : List ℕ). store_all (store_all m (address (task 0 0)) top_links) (address (task 0 16)) top_views) segments_set

  size_links : size links1 ≡ WORDS
  size_links = size_store_all seg4 _ _ ∙ only4.only.words ∙ size_3

  pub size_core : size core ≡ WORDS
  size_core = size_store_all links1 _ _ ∙ size_links

  top_only : TasksOnly seg4 core
  top_only = only_then (block_only seg4 0 0 top_links (omega arith) (omega arith)) (block_only links1 0 16 top_views (omega arith) (omega arith))

  -- WHAT IS READ
  header_read : (m : List ℕ) (k : ℕ) → read m (header k) ≡ load m k
  unfolding read address
  header_read m k = refl

  pub core_length : read core length_word ≡ l
  core_length =
      top_only.same length_word (omega arith, λ e. omega (arith, e)) ∙ four_only.same length_word (omega arith, λ e. omega (arith, e))
      ∙ header_read bare 0 ∙ bare_header 0 (omega arith) ∙ (unfold load in refl)

  pub core_number : read core number_word ≡ n
  core_number =
      top_only.same number_word (omega arith, λ e. omega (arith, e)) ∙ four_only.same number_word (omega arith, λ e. omega (arith, e))
      ∙ header_read bare 1 ∙ bare_header 1 (omega arith) ∙ (unfold load in refl)

  pub core_height : read core free_segments ≡ n - 4
  core_height =
      top_only.same free_segments (omega arith, λ e. omega (arith, e)) ∙ four_height
      ∙ header_read bare 2 ∙ bare_header 2 (omega arith) ∙ (unfold load in refl)

  pub core_stack : (i : ℕ) → i < n - 4 → read core (free_segment i) ≡ n - 1 - i
  core_stack i h = let b : i < 256 = omega (arith, h, hn') in top_only.same (free_segment i) b ∙ four_stack i b ∙ bare_stack i h

  topped_empty : (s x : ℕ) → s < 256 → Empty seg4 s x → Empty core s x
  topped_empty s x h e = record {
    start = top_only.same (first s) (h, omega arith) ∙ e.start;
    number = top_only.same (count s) (h, omega arith) ∙ e.number;
    link = top_only.same (next s) (h, omega arith) ∙ e.link;
  }

  pub core_first : (s : ℕ) → s < 4 → Empty core s NONE
  core_first s h = topped_empty s NONE (omega (arith, h)) (first_four s h)

  pub core_other : (s : ℕ) → 4 ≤ s → s < 256 → Empty core s 0
  core_other s h b = topped_empty s 0 b (other_segments s h b)

  pub core_top : (i : ℕ) → i < VIEW_WORDS → read core (task 0 (QUEUE_HEADS + i)) ≡ load top_views i
  core_top i h = record_same links1 0 16 top_views (omega arith) (omega arith) size_links i h

  pub core_free : (u j : ℕ) → (u ≡ 0 → ⊥) → u < 128 → j < 48 → read core (task u j) ≡ 0
  unfolding read address
  core_free u j d hu hj =
      record_other links1 0 16 top_views (omega arith) (omega arith) u j hj (λ e a b. d e)
      ∙ record_other seg4 0 0 top_links (omega arith) (omega arith) u j hj (λ e a b. d e)
      ∙ four_only.same (task u j) (hu, hj)
      ∙ bare_zero (TASKS + u * TASK_WORDS + j) (omega arith)
