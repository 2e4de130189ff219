-- A PUSH keeps the invariant: into the tail segment, or into a new segment.
use Rattle.std.specs.Prelude.{◌≡◌, List, [], ◌∷◌, ◌++◌, ℕ, ◌<◌, Bool, true, false}
use Rattle.std.proofs.Math.Path.{refl, ap, sym, subst}
use Rattle.std.proofs.Common.{◌∙◌, arith, ne_eqb}
use Rattle.spec_words.specs.Words.{halt, pass as skip}
use Rattle.spec_layout.specs.Layout.{USER, count, next, length_of, Opened, tail, read, write}
use Rattle.spec_tree.specs.Rights.{uses, pushes as mayPush}
use Rattle.spec_outcomes.specs.Segments.{stored, taken, next_free}
use Rattle.spec_order.specs.Steps.{Task, Item, spot, pushes, number_of, rights_of, advance}
use Rattle.law_order.specs.Moves.{plain_push}
use Rattle.law_order_waits.specs.Played.{Played}
use Rattle.law_order_queue.specs.Points.{Point, value, user, added, takes, Timeline}
use Rattle.law_order_queue.specs.Laws.{push_line}
use Rattle.spec_lists.specs.Maps.{put, put_other}
use Rattle.law_gaps.specs.Line.{End, local, Extent, vacant, extent, Line, entered}
use Rattle.law_gaps.specs.Store.{Memory, timeline}
use Rattle.law_gaps.specs.Moves.{pushed_into, taken as taken-store, pushed_behind}
use Rattle.law_gaps.proofs.After.{After}
use Rattle.law_gaps.proofs.PushRows.{into_row, behind_row}
use Rattle.law_gaps.proofs.Pool.{mine}
use Rattle.law_maps.specs.Meaning.{Meaning, meaning_of, memory_of, memory_in, contents_in, free_in, view_in}
use Rattle.law_maps.specs.Update.{with_contents, shared}
use Rattle.law_maps.specs.Kept.{Becomes}
use Rattle.law_maps.specs.Values.{value_stored}
use Rattle.spec_tree.specs.Users.{pushes_uses}
use Rattle.law_invariant.specs.Represents.{alive, of_tasks, queue_memory, uses_in, Represents}
use Rattle.law_invariant.specs.Nexts.{Nexts, nexts_taken, nexts_linked, words_nexts}
use Rattle.law_invariant.specs.Parts.{holders, parts_of, same_alive}
use Rattle.law_invariant.specs.Plain.{queue_represents}
use Rattle.law_invariant.specs.FirstNamed.{one_mine, here, holder_unfinished}
use Rattle.law_invariant.specs.At.{At, at, Behind, laid_at, time_at, single_spot, uses_here, task_alive, task_unfinished}
use Rattle.std.proofs.lemmas.Bool.{false≢true}
use Rattle.spec_lists.specs.Counting.{occurrences, occurs_here}
use Rattle.law_maps.specs.Push.{behind_in, pushed_behind_lem}
use Rattle.law_maps.specs.PushMemory.{memory_behind, behind_elsewhere}
use Rattle.law_invariant.specs.Live.{live_behind}
use Rattle.law_invariant.specs.Room.{free_below}

-- the memory of a queue by what the words have come to mean
pub queue_memory_lem : {m n : List ℕ} {M : Meaning} (q : ℕ) → Becomes m n M → queue_memory n q ≡ of_tasks (alive m) (memory_of M q)
unfolding queue_memory
queue_memory_lem {m} {n} {M} q b =
    ap (λ (a : ℕ → Bool). of_tasks a (memory_in n q)) (same_alive m n b.kept) ∙ ap (λ (w : Meaning). of_tasks (alive m) (memory_of w q)) b.means

-- what others share is the same of all records and of those in use
pub masked_share : (a : ℕ → Bool) (w : Memory) (v : Memory) → of_tasks a (shared w.store v) ≡ shared (of_tasks a w).store (of_tasks a v)
unfolding of_tasks
masked_share a w v = refl

-- a push is of one queue
quiet : (q v p : ℕ) → (p ≡ q → ⊥) → (added p (pushes q v) ≡ []) × (takes p (pushes q v) ≡ 0)
unfolding added takes
quiet q v p n = (skip _ (ne_eqb q p (λ e. n (sym e))) refl, refl)

module _ (m : List ℕ) (ys zs : List Item) (s : Task) (r : Represents m (ys ++ spot s ∷ zs)) (q v : ℕ)
    (small : q < 4) (may : mayPush (rights_of s) q ≡ true) where
  abbrev t : ℕ
  t = number_of s

  abbrev Old : List Item
  Old = ys ++ spot s ∷ zs

  abbrev New : List Item
  New = advance t (pushes q v) Old

  pub has_right : uses (rights_of s) q ≡ true
  has_right = pushes_uses (rights_of s) q may

  pub stands : At m ys zs s r q
  stands = at m ys zs s r q small has_right

  abbrev Pushed : List Point
  Pushed = timeline (contents_in m) stands.earlier ++ value v ∷ user t ∷ Behind m ys zs s r q small stands

  new_time : Timeline q New Pushed
  new_time =
      push_line q ys zs s (single_spot m ys zs s r) (timeline (contents_in m) stands.earlier) (Behind m ys zs s r q small stands) v has_right
      (time_at m ys zs s r q small stands)

  -- from a row of the queue's line, and what the words have come to mean
  pub pushed : (n : List ℕ) (M : Meaning) (W : Memory) → Becomes m n M → Played New → Nexts (Opened m) W.store.next
      → of_tasks (alive m) (memory_of M q) ≡ W
      → ((p : ℕ) → p < 4 → (p ≡ q → ⊥) → of_tasks (alive m) (memory_of M p) ≡ shared W.store (queue_memory m p))
      → ((x : ℕ) → uses_in m q x ≡ false → (W.children x ≡ vacant) × (W.user x ≡ vacant) × (W.right x ≡ vacant))
      → After (mine (queue_memory m q).store (r.line q)) (queue_memory m q).store W (holders m Old r q)
      (stands.later ++ (entered t stands.chain ∷ stands.earlier)) Pushed
      → Represents n New
  unfolding queue_memory of_tasks
  pushed n M W b play f e others bare row =
      queue_represents m ys zs s r (pushes q v) (plain_push q v) n b.kept b.sized play q small Pushed
      (subst (λ (w : Memory). Nexts (Opened m) w.store.next) (sym is) f)
      (subst (λ (w : Memory). After (mine (queue_memory m q).store (r.line q)) (queue_memory m q).store w (holders m Old r q) (r.line q) Pushed) (sym is)
      (subst (λ (l : Line). After (mine (queue_memory m q).store (r.line q)) (queue_memory m q).store W (holders m Old r q) l Pushed) (sym stands.parts)
      row))
      (λ p i k. queue_memory_lem p b ∙ others p i k ∙ ap (λ (w : Memory). shared w.store (queue_memory m p)) (sym is))
      (λ x u. subst (λ (w : Memory). (w.children x ≡ vacant) × (w.user x ≡ vacant) × (w.right x ≡ vacant)) (sym is) (bare x u))
      new_time (λ p i k. quiet q v p k)
    where
      is : queue_memory n q ≡ W
      is = queue_memory_lem q b ∙ e

  pub some_opened : Opened m 0
  some_opened = let l = r.sized.number_range.0 in omega (arith, l)

  pub old_nexts : Nexts (Opened m) (queue_memory m q).store.next
  unfolding queue_memory of_tasks
  old_nexts = words_nexts m r.sized r.nexts

  -- THE TAIL SEGMENT HAS ROOM.
  pub push_into : (h : End) (z : ℕ) → (queue_memory m q).user t ≡ extent h (local z) → Opened m z → read m (count z) < length_of m z → Played New
      → Represents (stored m z v) New
  unfolding queue_memory of_tasks pushed_into
  push_into h z u low room play =
      pushed (stored m z v) (with_contents (meaning_of m) z (contents_in m z ++ v ∷ [])) (pushed_into z v (queue_memory m q))
      (value_stored m z v r.sized low room) play old_nexts refl
      (λ p i k. refl) (λ x e. (parts_of m Old r).bare q small x e)
      (into_row (mine (queue_memory m q).store (r.line q)) (one_mine m Old r q small) (queue_memory m q) (holders m Old r q) stands.later t stands.chain
      stands.earlier v
      (laid_at m ys zs s r q small stands) h z u)

  -- only the task's own user view, and a place before it, are written
  pub other_user : (x : ℕ) (v : Extent) → uses_in m q x ≡ false → put (queue_memory m q).user t v x ≡ (queue_memory m q).user x
  other_user x v e = put_other (queue_memory m q).user t v x (λ f. false≢true (sym e ∙ ap (uses_in m q) f ∙ uses_here m ys zs s r q has_right))

  abbrev holder : ℕ
  holder = holders m Old r q

  pub holder_alive : alive m holder ≡ true
  holder_alive = let w = holder_unfinished m Old r q small in here m Old r holder w.0.0 w.1

  -- the user view by the words
  pub user_word : {v : Extent} → (queue_memory m q).user t ≡ v → view_in m q USER t ≡ v
  unfolding queue_memory of_tasks
  user_word u = sym (halt _ _ (task_alive m ys zs s r)) ∙ u

  -- A NEW SEGMENT BEHIND THE TAIL SEGMENT, which is full.
  pub push_behind : (h : End) (z g : ℕ) (rest : List ℕ) (w : ℕ) (ws : List ℕ) → (queue_memory m q).user t ≡ extent h (local z) → Opened m z
      → free_in m ≡ g ∷ rest → contents_in m z ≡ w ∷ ws → (z ≡ g → ⊥) → Played New
      → Represents (write (write (taken m q v) (next z) (next_free m q)) (tail USER t q) (next_free m q)) New
  unfolding queue_memory of_tasks pushed_behind
  push_behind h z g rest w ws u low ef filled ne play =
      pushed _ (behind_in (meaning_of m) q t h z g rest v) (pushed_behind holder t h z g rest v (queue_memory m q))
      (pushed_behind_lem m t q v g rest r.sized (task_unfinished m ys zs s r).0 small ef g_below z h (local z) low (user_word u)) play
      (nexts_linked (Opened m) some_opened ((taken-store g rest v (queue_memory m q).store).contents z) holder z g
      (taken-store g rest v (queue_memory m q).store) g_below (nexts_taken (Opened m) some_opened g rest v (queue_memory m q).store old_nexts))
      same others bare
      (behind_row (mine (queue_memory m q).store (r.line q)) (one_mine m Old r q small) (queue_memory m q) holder stands.later t stands.chain
      stands.earlier v
      (laid_at m ys zs s r q small stands) g rest free_is h z u)
    where
      g_below : Opened m g
      g_below = free_below m Old r g (let e = ap (occurrences g) ef in let f = occurs_here g g rest refl in omega (arith, e, f))

      free_is : (queue_memory m q).store.free ≡ g ∷ rest
      free_is = unfold queue_memory of_tasks in ef

      live : of_tasks (alive m) (pushed_behind holder t h z g rest v (memory_in m q)) ≡ pushed_behind holder t h z g rest v (queue_memory m q)
      live = unfold queue_memory in live_behind (alive m) holder t h z g rest v (memory_in m q) holder_alive (task_alive m ys zs s r)

      same : of_tasks (alive m) (memory_of (behind_in (meaning_of m) q t h z g rest v) q) ≡ pushed_behind holder t h z g rest v (queue_memory m q)
      same = ap (of_tasks (alive m)) (memory_behind (meaning_of m) q holder t h z g rest v w ws ne filled) ∙ live

      others : (p : ℕ) → p < 4 → (p ≡ q → ⊥) → of_tasks (alive m) (memory_of (behind_in (meaning_of m) q t h z g rest v) p) ≡ shared
          (pushed_behind holder t h z g rest v (queue_memory m q)).store (queue_memory m p)
      others p i k =
          ap (of_tasks (alive m)) (behind_elsewhere (meaning_of m) q holder t h z g rest v w ws ne filled p k)
          ∙ masked_share (alive m) (pushed_behind holder t h z g rest v (memory_in m q)) (memory_in m p)
          ∙ ap (λ (x : Memory). shared x.store (queue_memory m p)) live

      bare : (x : ℕ) → uses_in m q x ≡ false → ((pushed_behind holder t h z g rest v (queue_memory m q)).children x ≡ vacant)
          × ((pushed_behind holder t h z g rest v (queue_memory m q)).user x ≡ vacant) × ((pushed_behind holder t h z g rest v (queue_memory m q)).right x ≡ vacant)
      bare x e = let b = (parts_of m Old r).bare q small x e in unfold pushed_behind in (b.0, other_user x (extent h (local g)) e ∙ b.1, b.2)
