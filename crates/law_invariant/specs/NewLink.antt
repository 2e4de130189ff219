-- THE LINK TO A NEW SEGMENT from the last segment of the gap before a task's spot.
use Rattle.std.specs.Prelude.{◌≡◌, refl, ℕ, ◌+◌, ◌*◌, ◌<◌, length}
use Rattle.std.proofs.Math.Path.{ap, sym}
use Rattle.std.proofs.Common.{◌∙◌, subst, arith}
use mathlib.Core.List.{List, [], ◌∷◌, ◌++◌}
use Rattle.spec_words.specs.Words.{load, store, load_other}
use Rattle.spec_words.specs.Blocks.{block_other}
use Rattle.spec_lists.specs.Counting.{occurrences, occurs_append, occurs_here}
use Rattle.spec_layout.specs.Layout.{NONE, TASKS, TASK_WORDS, task, Opened, segments_of, address, read, write, record_of}
use Rattle.spec_tree.specs.Tour.{MARKS, tour}
use Rattle.spec_outcomes.specs.Segments.{taken, next_free}
use Rattle.spec_order.specs.Steps.{Task, Item, spot, number_of}
use Rattle.spec_lists.specs.Maps.{put_other, last_of, last_in, all_behind}
use Rattle.law_gaps.specs.Line.{Line, entered, segments, first_chain}
use Rattle.law_gaps.specs.Store.{Chain, Laid}
use Rattle.law_gaps.proofs.Chains.{Gap, count_gap, sole_first}
use Rattle.law_gaps.proofs.Joins.{is_sole}
use Rattle.law_gaps.specs.Lines.{count_segments, first_behind}
use Rattle.law_gaps.proofs.Frames.{no_base}
use Rattle.law_gaps.proofs.Pool.{mine}
use Rattle.law_links.specs.Linked.{tour_is}
use Rattle.law_links.specs.Frame.{keeps_linked}
use Rattle.law_maps.specs.Meaning.{Meaning, meaning_of, contents_in, free_in}
use Rattle.law_maps.specs.Free.{height_length, next_free_lem, segment_taken}
use Rattle.law_maps.specs.Kept.{Becomes}
use Rattle.law_maps.specs.Links.{NamedBy, Linkable}
use Rattle.law_maps.specs.Push.{taken_in}
use Rattle.law_invariant.specs.Represents.{of_tasks, queue_memory, Represents}
use Rattle.law_invariant.specs.Parts.{holders}
use Rattle.law_invariant.specs.Plain.{same_links}
use Rattle.law_invariant.specs.Named.{named_by}
use Rattle.law_invariant.specs.FirstNamed.{first_named, segment_below}
use Rattle.law_invariant.specs.Room.{free_below, held_free}
use Rattle.law_invariant.specs.At.{At, laid_at}

-- taking a segment writes no word of a task
taken_task : (m : List ℕ) (q v x k : ℕ) → next_free m q < 256 → x < 128 → k < 48 → read (taken m q v) (task x k) ≡ read m (task x k)
unfolding taken read write address
taken_task m q v x k s l i =
    load_other _ (8192 + (next_free m q * load m 0 + 0)) (TASKS + x * TASK_WORDS + k) v (λ e. omega (arith, e, l, i))
    ∙ block_other (0 ∷ 1 ∷ NONE ∷ []) _ (448 + next_free m q * 4 + 0) (TASKS + x * TASK_WORDS + k) (λ j b e. omega (arith, e, s, b))
    ∙ load_other m 2 (TASKS + x * TASK_WORDS + k) _ (λ e. omega (arith, e))

module _ (m : List ℕ) (ys zs : List Item) (s : Task) (r : Represents m (ys ++ spot s ∷ zs)) (q : ℕ) (small : q < 4) (here : At m ys zs s r q)
    (v g : ℕ) (rest : List ℕ) (ef : free_in m ≡ g ∷ rest) where
  abbrev t : ℕ
  t = number_of s

  abbrev Old : List Item
  Old = ys ++ spot s ∷ zs

  abbrev a : Line
  a = here.earlier

  laid : Laid (mine (queue_memory m q).store (r.line q)) (queue_memory m q) (holders m Old r q) (here.later ++ (entered t here.chain ∷ a))
  laid = laid_at m ys zs s r q small here

  g_free : 0 < occurrences g (free_in m)
  g_free = let e = ap (occurrences g) ef in let f = occurs_here g g rest refl in omega (arith, e, f)

  pub g_below : Opened m g
  g_below = free_below m Old r g g_free

  -- a segment before the spot is one of the queue's
  held_before : (z : ℕ) → 0 < occurrences z (segments a) → 0 < occurrences z (segments (r.line q))
  held_before z p =
      let e = ap (λ (l : Line). occurrences z (segments l)) here.parts in
      let f = count_segments z here.later (entered t here.chain ∷ a) in
      let k = occurs_append z here.chain (segments a) in
      omega (arith, e, f, k, p)

  abbrev n : List ℕ
  n = taken m q v

  pub low_free : next_free m q < 256
  low_free = let e = next_free_lem m q g rest ef in let l = g_below in let k = r.sized.number_range.1 in omega (arith, e, l, k)

  is_taken : Becomes m n (taken_in (meaning_of m) g rest v)
  is_taken = segment_taken m q v g rest r.sized ef g_below

  -- the tour and the heads of views are as they were
  same_tour : tour MARKS (record_of n) 0 ≡ r.tour
  same_tour = tour_is n r.tour Old (keeps_linked m n (same_links m n r.sized is_taken.kept) r.tour Old Old r.linked refl (λ o i. i))

  named : (z : ℕ) → first_chain (r.line q) ≡ z ∷ [] → NamedBy n z (holders m Old r q) q
  named z e =
      let w = first_named m Old r q small z [] e in
      named_by n r.tour z (holders m Old r q) q same_tour
      (record {
        task_range = w.task_range;
        queue_range = w.queue_range;
        there = w.there;
        names = taken_task m q v (holders m Old r q) (16 + q) low_free w.task_range (omega (arith, small)) ∙ w.names;
        only = λ y i l p j d. w.only y i l p j (sym (taken_task m q v y (16 + i) low_free l (omega (arith, j))) ∙ d);
      })

  less_free : length (free_in n) < segments_of n q
  less_free =
      let a = ap (λ (M : Meaning). length M.free) is_taken.means in
      let b = ap length ef in
      let d = height_length m q in
      let e = r.sized.free_height_lem in
      let f = is_taken.kept.number in
      omega (arith, a, b, d, e, f)

  pub not_free : (z : ℕ) → 0 < occurrences z (segments a) → z ≡ g → ⊥
  not_free z p e =
      let u = held_free m Old r q small z (held_before z p) in
      let w = ap (λ (y : ℕ). occurrences y (free_in m)) e in
      let f = g_free in
      omega (arith, u, w, f)

  -- the last segment of the gap before, where it is empty, is the first of the queue
  alone : (p : ℕ) (c : List ℕ) → Gap a p c → 0 < occurrences (last_of p c) (segments a) → contents_in n (last_of p c) ≡ []
      → first_chain (r.line q) ≡ last_of p c ∷ []
  unfolding queue_memory of_tasks
  alone p c k there e =
      let was : contents_in m (last_of p c) ≡ [] =
      sym (ap (λ (M : Meaning). M.contents (last_of p c)) is_taken.means ∙ put_other (contents_in m) g (v ∷ []) (last_of p c) (not_free (last_of p c) there))
      ∙ e in
      let good = (all_behind (Chain (queue_memory m q).store.next (contents_in m)) here.later (entered t here.chain ∷ a) laid.held.chains.good).1 in
      let w = is_sole (queue_memory m q).store.next (contents_in m) k good was in
      let d : last_of p c ≡ p = ap (last_of p) w.1 in
      ap first_chain here.parts
      ∙ first_behind here.later (entered t here.chain ∷ a) (no_base here.later (entered t here.chain) a laid.views)
      ∙ sole_first w.0
      ∙ ap (λ (y : ℕ). y ∷ []) (sym d)

  -- a link from the last segment of the gap before
  pub linkable : (p : ℕ) (c : List ℕ) → Gap a p c → Linkable n q (holders m Old r q) (last_of p c) g
  linkable p c k =
      let there : 0 < occurrences (last_of p c) (segments a) = let i = last_in p c in let j = count_gap (last_of p c) k in omega (arith, i, j) in
      record {
        from = subst (λ (y : ℕ). last_of p c < y) (sym is_taken.kept.number) (segment_below m Old r q (last_of p c) small (held_before (last_of p c) there));
        to = let l = g_below in let f = r.sized.number_range.1 in omega (arith, l, f);
        freed = λ e. (named (last_of p c) (alone p c k there e), less_free);
      }
