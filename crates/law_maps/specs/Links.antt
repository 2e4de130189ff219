-- Linking two segments. An empty segment is freed when it gets a next, and the queue head that named it names its next.
use Rattle.std.specs.Prelude.{◌≡◌, ltb, drop}
use Rattle.std.proofs.Math.Path.{refl, ap, sym, fun_ext}
use Rattle.std.proofs.Common.{◌∙◌, arith, drop-set-lt, eq-eqb, ne_eqb, lt-ltb}
use Rattle.std.proofs.Math.Option.{some}
use mathlib.Core.List.{List, [], ◌∷◌}
use Prim.Native.Nat.{ℕ, suc, ◌+◌, ◌*◌, ◌<◌}
use Rattle.std.proofs.Math.ListN.{length}
use Rattle.spec_words.specs.Words.{store, both, pass, halt}
use Rattle.spec_layout.specs.Layout.{NONE, NL, SEGMENTS, SEGMENT_WORDS, TASKS, TASK_WORDS, QUEUE_HEADS, task, count, next, Opened, segments_of}
use Rattle.spec_layout.specs.Layout.{queue_head, address, read, write, record_of}
use Rattle.spec_tree.specs.Tour.{MARKS, seek}
use Rattle.spec_outcomes.specs.Segments.{index_of, head_index, renamed, released, linked}
use Rattle.law_maps.specs.Meaning.{next_in, contents_in, free_in, heads_in, meaning_of, store_in, Sized}
use Rattle.law_maps.specs.Update.{with_next, with_contents, with_free, with_head, with_store, meaning_path}
use Rattle.law_gaps.specs.Moves.{linked as storeLinked, linked_holding}
use Rattle.law_maps.specs.Maps.{put_self, put_twice}
use Rattle.law_maps.specs.Kept.{Becomes, becomes_then, becomes_as, becomes_at}
use Rattle.law_maps.specs.Views.{head_written}
use Rattle.law_maps.specs.Ring.{count_length}
use Rattle.law_maps.specs.Segment.{number_below, next_written}
use Rattle.law_maps.specs.Free.{optional_some, segment_released}

-- the first task of the tour that has s among its 16 heads
abbrev pub head_task : List ℕ → ℕ → ℕ
head_task m s = seek MARKS (λ x. both (ltb x 128) (ltb (head_index m s x) 16)) (record_of m) 0

-- segment s is named by the head of queue view q of task t
pub record NamedBy (m : List ℕ) (s t q : ℕ) : Type 0 where
  pub task_range : t < 128
  pub queue_range : q < 4
  pub task : head_task m s ≡ t
  pub index : head_index m s t ≡ q

-- that is read from the records of the tasks only
pub named_same : (m n : List ℕ) (s t q : ℕ) → record_of n ≡ record_of m → NamedBy m s t q → NamedBy n s t q
unfolding head_index
named_same m n s t q e d =
    record {
      task_range = d.task_range;
      queue_range = d.queue_range;
      task = ap (λ (r : ℕ → List ℕ). seek MARKS (λ x. both (ltb x 128) (ltb (index_of s 16 (drop 16 (r x))) 16)) r 0) e ∙ d.task;
      index = ap (λ (r : ℕ → List ℕ). index_of s 16 (drop 16 (r t))) e ∙ d.index;
    }

-- a write of a next leaves the records of the tasks
pub next_records : (m : List ℕ) (s h : ℕ) → s < 256 → record_of (write m (next s) h) ≡ record_of m
unfolding record_of write address store
next_records m s h hs = fun_ext λ t. drop-set-lt (TASKS + t * TASK_WORDS) m (SEGMENTS + s * SEGMENT_WORDS + 2) h (omega arith)

-- WHAT NAMES s NAMES h
pub head_renamed : (m : List ℕ) (s h t q : ℕ) → NamedBy m s t q → renamed m q s h ≡ write m (queue_head t q) h
unfolding renamed
head_renamed m s h t q d =
    halt _ _ (lt-ltb (head_task m s) 128 (rw d.task d.task_range))
    ∙ ap (λ (x : ℕ). write m (task x (QUEUE_HEADS + head_index m s x)) h) d.task
    ∙ ap (λ (i : ℕ). write m (task t (QUEUE_HEADS + i)) h) d.index

module _ (m : List ℕ) (q s h : ℕ) (z : Sized m) (hs : Opened m s) (hh : h ≡ NONE → ⊥) where
  next_some : Becomes m (write m (next s) h) (with_next (meaning_of m) s (some h))
  next_some = becomes_as (ap (with_next (meaning_of m) s) (optional_some h hh)) (next_written m s h z (number_below z hs))

  -- A LINK FROM A SEGMENT WITH VALUES
  pub segment_linked : (w : ℕ) (r : List ℕ) → contents_in m s ≡ w ∷ r → Becomes m (linked m q s h) (with_next (meaning_of m) s (some h))
  unfolding linked
  segment_linked w r e =
      let n = count_length m s (number_below z hs) ∙ ap length e in
      becomes_at (sym (pass _ (ne_eqb (read m (count s)) 0 (λ q. let a : 0 ≡ suc (length r) = sym q ∙ n in omega (arith, a))) refl)) next_some

  -- A LINK FROM AN EMPTY SEGMENT, which is freed
  pub segment_freed : (t : ℕ) → NamedBy m s t q → contents_in m s ≡ [] → length (free_in m) < segments_of m q
      → Becomes m (linked m q s h) (with_head (with_free (with_next (meaning_of m) s (some 0)) (s ∷ free_in m)) q t (some h))
  unfolding linked
  segment_freed t d e room =
      let M = meaning_of m in
      let m1 = write m (next s) h in
      let m2 = write m1 (queue_head t q) h in
      let a = next_some in
      let b = becomes_as (ap (with_head (meaning_of m1) q t) (optional_some h hh)) (head_written m1 t q h a.sized d.task_range d.queue_range) in
      let ab = becomes_then (λ N. with_head N q t (some h)) a b in
      let c = segment_released m2 q s ab.sized (rw ab.kept.number hs) (rw (ap (λ N. length N.free) ab.means, ab.kept.number) room) in
      let all = becomes_then (λ N. with_free (with_contents (with_next N s (some 0)) s []) (s ∷ N.free)) ab c in
      let named = named_same m m1 s t q (next_records m s h (number_below z hs)) d in
      becomes_at
      (sym (halt _ _ (eq-eqb _ _ (count_length m s (number_below z hs) ∙ ap length e))
      ∙ ap (λ (l : List ℕ). released l q s) (head_renamed m1 s h t q named)))
      (becomes_as
      (meaning_path _ (with_head (with_free (with_next M s (some 0)) (s ∷ free_in m)) q t (some h))
      (put_twice (next_in m) s (some h) (some 0)) (put_self (contents_in m) s [] e) refl refl refl)
      all)

-- BOTH AT ONCE. What the link from s to h needs: a segment, a segment's number, and, where s is empty, that it is the
-- first segment of the queue view of queue q, which is the holder's, and that the stack of free segments has room.
pub record Linkable (m : List ℕ) (q holder s h : ℕ) : Type 0 where
  pub from : Opened m s
  pub to : h < NL
  pub freed : contents_in m s ≡ [] → NamedBy m s holder q × (length (free_in m) < segments_of m q)

pub link_made : (m : List ℕ) (q holder s h : ℕ) → Sized m → Linkable m q holder s h
    → Becomes m (linked m q s h) (with_store (meaning_of m) q (storeLinked holder s h (store_in m q)))
link_made m q holder s h z l = go (contents_in m s) refl
  where
    hh : h ≡ NONE → ⊥
    hh e = let a = l.to in omega (arith, a, e)

    go : (xs : List ℕ) → contents_in m s ≡ xs → Becomes m (linked m q s h) (with_store (meaning_of m) q (linked_holding xs holder s h (store_in m q)))
    go [] e = let d = l.freed e in segment_freed m q s h z l.from hh holder d.0 e d.1
    go (w ∷ r) e =
        becomes_as
        (meaning_path _ (with_store (meaning_of m) q (linked_holding (w ∷ r) holder s h (store_in m q))) refl refl refl
        (sym (put_self (heads_in m) q (heads_in m q) refl)) refl)
        (segment_linked m q s h z l.from hh w r e)
