-- pop: the first value of a queue is gone, and a segment that it leaves empty and that has a next is freed.
use Rattle.std.specs.Prelude.{◌≡◌, refl, true, not, List, [], ◌∷◌, ℕ, suc, ◌<◌, eqb, length}
use Rattle.std.proofs.Math.Path.{ap}
use Rattle.std.proofs.Common.{sym, ◌∙◌, arith, eq-eqb, ne_eqb}
use Rattle.std.proofs.Math.Option.{Option, none, some}
use Rattle.spec_words.specs.Words.{pick, either, true_left, true_right, pass, halt, neither}
use Rattle.spec_layout.specs.Layout.{NONE, count, next, Opened, segments_of, queue_head, read, write}
use Rattle.spec_outcomes.specs.Segments.{dropped, released}
use Rattle.spec_outcomes.specs.Take.{popped}
use Rattle.spec_lists.specs.Maps.{put, put_same}
use Rattle.law_gaps.specs.Moves.{popped_to, popped as memoryPopped}
use Rattle.law_maps.specs.Meaning.{Meaning, optional, next_in, contents_in, free_in, heads_in, meaning_of, store_of, memory_of, Sized}
use Rattle.law_maps.specs.Maps.{put_self, put_twice}
use Rattle.law_maps.specs.Update.{with_next, with_contents, with_free, with_head, with_store, meaning_path, memory_store}
use Rattle.law_maps.specs.Reads.{next_at, head_at}
use Rattle.law_maps.specs.Kept.{Becomes, becomes_then, becomes_as, becomes_at}
use Rattle.law_maps.specs.Views.{head_written}
use Rattle.law_maps.specs.Ring.{count_length}
use Rattle.law_maps.specs.Segment.{number_below}
use Rattle.law_maps.specs.Values.{value_dropped}
use Rattle.law_maps.specs.Free.{none_word, some_word, link_word, segment_released}

-- the meaning when the first segment s of queue q, which task t names, holds r from now on
abbrev pub popped_in : Meaning → ℕ → ℕ → ℕ → List ℕ → Meaning
popped_in M q t s r = with_store M q (popped_to r (M.next s) t s (store_of M q))

pub memory_popped : (M : Meaning) (q t s : ℕ) (r : List ℕ) → memory_of (popped_in M q t s r) q ≡ memoryPopped t s r (memory_of M q)
unfolding memoryPopped
memory_popped M q t s r = memory_store M q (popped_to r (M.next s) t s (store_of M q))

module _ (m : List ℕ) (t q s w : ℕ) (r : List ℕ) (z : Sized m) (ht : t < 128) (hq : q < 4) (hs : Opened m s)
    (eh : heads_in m q t ≡ some s) (e : contents_in m s ≡ w ∷ r) where
  abbrev M : Meaning
  M = meaning_of m

  abbrev m1 : List ℕ
  m1 = dropped m s

  below : s < 256
  below = number_below z hs

  named : read m (queue_head t q) ≡ s
  named = link_word (read m (queue_head t q)) s (sym (head_at m q t hq ht) ∙ eh)

  gone : Becomes m m1 (with_contents M s r)
  gone = value_dropped m s w r z hs e

  -- how many values are left
  left : read m1 (count s) ≡ length r
  left = count_length m1 s below ∙ ap length (ap (λ (N : Meaning). N.contents s) gone.means ∙ put_same (contents_in m) s r)

  -- the words, by the name of the segment
  abbrev after : ℕ → List ℕ
  after x =
      let m1 = dropped m x in
      pick (either (eqb (read m (next x)) NONE) (not (eqb (read m1 (count x)) 0))) m1
      (released (write m1 (queue_head t q) (read m (next x))) q x)

  words : popped m t q ≡ after s
  unfolding popped
  words = ap after named

  -- no segment is freed
  stays_held : either (eqb (read m (next s)) NONE) (not (eqb (read m1 (count s)) 0)) ≡ true
      → Becomes m (popped m t q) (with_store M q (record { next = M.next; contents = put M.contents s r; heads = M.heads q; free = M.free }))
  stays_held b =
      becomes_at (sym (words ∙ halt _ _ b))
      (becomes_as
      (meaning_path (with_contents M s r) (with_store M q (record { next = M.next; contents = put M.contents s r; heads = M.heads q; free = M.free }))
      refl refl refl (sym (put_self (heads_in m) q (heads_in m q) refl)) refl)
      gone)

  -- the segment is freed, and h is the first
  is_freed : (h : ℕ) → r ≡ [] → next_in m s ≡ some h → length (free_in m) < segments_of m q
      → Becomes m (popped m t q)
      (with_store M q (record { next = put M.next s (some 0); contents = put M.contents s []; heads = put (M.heads q) t (some h); free = s ∷ M.free }))
  is_freed h er en room =
      let m2 = write m1 (queue_head t q) (read m (next s)) in
      let link : optional (read m (next s)) ≡ some h = sym (next_at m s below) ∙ en in
      let a = becomes_as (ap (with_contents M s) er) gone in
      let b = becomes_as (ap (with_head (meaning_of m1) q t) link) (head_written m1 t q (read m (next s)) a.sized ht hq) in
      let ab = becomes_then (λ N. with_head N q t (some h)) a b in
      let c = segment_released m2 q s ab.sized (rw ab.kept.number hs) (rw (ap (λ N. length N.free) ab.means, ab.kept.number) room) in
      let all = becomes_then (λ N. with_free (with_contents (with_next N s (some 0)) s []) (s ∷ N.free)) ab c in
      becomes_at
      (sym (words ∙ pass _ (neither (ne_eqb (read m (next s)) NONE (some_word (read m (next s)) h link)) (ap not (eq-eqb _ _ (left ∙ ap length er)))) refl))
      (becomes_as
      (meaning_path _
      (with_store M q (record { next = put M.next s (some 0); contents = put M.contents s []; heads = put (M.heads q) t (some h); free = s ∷ M.free }))
      refl (put_twice (contents_in m) s [] []) refl refl refl)
      all)

  -- THE FIRST VALUE IS GONE. Where a segment is freed, the stack of free segments has room.
  pub value_popped : (r ≡ [] → (h : ℕ) → next_in m s ≡ some h → length (free_in m) < segments_of m q) → Becomes m (popped m t q) (popped_in M q t s r)
  value_popped room = go r refl (next_in m s) refl
    where
      with_values : (xs : List ℕ) → Meaning
      with_values xs = with_store M q (record { next = M.next; contents = put M.contents s xs; heads = M.heads q; free = M.free })

      go : (xs : List ℕ) → r ≡ xs → (o : Option ℕ) → next_in m s ≡ o → Becomes m (popped m t q) (with_store M q (popped_to xs o t s (store_of M q)))
      go [] er none en =
          becomes_as (ap with_values er) (stays_held (true_left _ (eq-eqb _ _ (none_word (read m (next s)) (sym (next_at m s below) ∙ en)))))
      go [] er (some h) en = is_freed h er en (room er h en)
      go (v ∷ vs) er o en =
          becomes_as (ap with_values er)
          (stays_held (true_right _ (ap not (ne_eqb (read m1 (count s)) 0 (λ d.
          let a : 0 ≡ suc (length vs) = sym d ∙ left ∙ ap length er in
          omega (arith, a))))))
