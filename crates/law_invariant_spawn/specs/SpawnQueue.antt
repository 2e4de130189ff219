-- A SPAWN, ON ONE QUEUE: the child's spot comes just before its spawner's, with the spawner's user view; where the child
-- pops and its spawner has the queue view, that goes to the child.
use Rattle.std.specs.Prelude.{◌≡◌, Bool, ℕ, ◌+◌, ◌<◌, ltb}
use Rattle.std.proofs.Math.Path.{refl, ap, subst}
use Rattle.std.proofs.Common.{ap₂, sym, ◌∙◌, ⊎_elim}
use Rattle.std.proofs.Math.Bool.{true, false}
use Rattle.std.proofs.Math.Option.{some}
use mathlib.Core.List.{List, [], ◌∷◌, ◌++◌}
use Rattle.spec_words.specs.Words.{both_right_off}
use Rattle.spec_lists.specs.Counting.{occurrences, equal?}
use Rattle.spec_layout.specs.Layout.{free_tasks, read}
use Rattle.spec_tree.specs.Rights.{pops as mayPop, uses, subset}
use Rattle.spec_order.specs.Steps.{Task, Item, spot, number_of, rights_of}
use Rattle.law_order_waits.specs.Played.{played_reached}
use Rattle.law_order_waits.specs.Popper.{first_popper}
use Rattle.law_order_waits.specs.Heirs.{spawn_first, spawn_kept, spawn_other}
use Rattle.law_order_queue.specs.Points.{Point, user, Timeline}
use Rattle.spec_lists.specs.Maps.{All, put, put_same}
use Rattle.law_gaps.specs.Line.{Mark, exited, entered, pass, Line, marks, segments, Fits}
use Rattle.law_gaps.specs.Store.{Memory, Laid, timeline}
use Rattle.law_gaps.specs.Lines.{marks_append}
use Rattle.law_gaps.specs.Moves.{spawned, queue_passed}
use Rattle.law_gaps.proofs.After.{After, after_marks, after_fits, after_then}
use Rattle.law_gaps.proofs.Absent.{new_unentered}
use Rattle.law_gaps.proofs.Search.{task_at, task_entered, task_exited}
use Rattle.law_gaps.proofs.Splits.{pass_part}
use Rattle.law_gaps.proofs.TaskRows.{spawn_row, spawn_past_row, pass_past_row}
use Rattle.law_gaps.proofs.HolderRows.{queue_row, queue_still_row}
use Rattle.law_gaps.proofs.Pool.{mine}
use Rattle.law_links.specs.Waits.{same_rights}
use Rattle.law_maps.specs.Meaning.{contents_in}
use Rattle.law_invariant.specs.Represents.{of_tasks, queue_memory, uses_in, Represents}
use Rattle.law_invariant.specs.Parts.{holders, parts_of}
use Rattle.law_invariant.specs.FirstNamed.{holder_unfinished}
use Rattle.law_invariant.specs.At.{At, at, mine_spot, Behind, laid_at, time_at, proper, task_unfinished, single_spot, where_it_stands}
use Rattle.spec_tree.specs.Users.{useless_pops, subset_pops, subset_uses}
use Rattle.law_invariant_spawn.specs.Rows.{Row}
use Rattle.law_invariant_spawn.specs.Child.{child, after, New, new_tour, child_small, not_child, child_unmarked, new_is, new_uses}
use Rattle.law_invariant_spawn.specs.NewTask.{fits_new, all_with, child_line, child_past}
use Rattle.law_invariant_spawn.specs.SpawnMemory.{apart, popper_memory, pusher_memory, other_memory, same_free, Bare, bare_was, bare_spawned}

module _ (m : List ℕ) (ys zs : List Item) (s : Task) (r : Represents m (ys ++ spot s ∷ zs)) (u : ℕ) (sub : subset u (rights_of s) ≡ true)
    (some_free : read m free_tasks ≡ 0 → ⊥)
    (q : ℕ) (i : q < 4) where
  abbrev t : ℕ
  t = number_of s

  abbrev Old : List Item
  Old = ys ++ spot s ∷ zs

  abbrev c : ℕ
  c = child m ys zs s r u sub some_free

  abbrev n : List ℕ
  n = after m ys zs s r u sub some_free

  abbrev Next : List Item
  Next = New m ys zs s r u sub some_free

  abbrev Tour : List ℕ
  Tour = new_tour m ys zs s r u sub some_free

  abbrev was : Memory
  was = queue_memory m q

  abbrev own : ℕ → ℕ
  own = mine was.store (r.line q)

  abbrev holder : ℕ
  holder = holders m Old r q

  -- THE LINE with two marks of the child behind the mark z of its spawner
  abbrev later : List ℕ
  later = (where_it_stands m ys zs s r).later

  abbrev earlier : List ℕ
  earlier = (where_it_stands m ys zs s r).earlier

  abbrev uses_then : ℕ → Bool
  uses_then = put (uses_in m q) c (uses u q)

  absent : (l : Line) → r.line q ≡ l → (occurrences c (marks l) ≡ 0) × (occurrences (128 + c) (marks l) ≡ 0)
  absent l e =
      subst (λ (k : List ℕ). (occurrences c k ≡ 0) × (occurrences (128 + c) k ≡ 0)) (sym ((parts_of m Old r).marked q i) ∙ ap marks e)
      (child_unmarked m ys zs s r u sub some_free)

  -- a line with the marks of the new tour, which fits the new rights
  pub record Placed (l : Line) : Type 0 where
    pub marked : marks l ≡ Tour
    pub fits : All (Fits (uses_in n q)) l

  placed : (b : Line) (z x y : Mark) (a : Line) → r.line q ≡ b ++ (z ∷ a) → marks b ≡ later → marks a ≡ earlier
      → marks (z ∷ (x ∷ (y ∷ a))) ≡ t ∷ c ∷ (128 + c) ∷ marks a → Fits uses_then x → Fits uses_then y → Placed (b ++ (z ∷ (x ∷ (y ∷ a))))
  placed b z x y a e eb ea ez fx fy =
      let o = absent (b ++ (z ∷ a)) e in
      record {
        marked = marks_append b (z ∷ (x ∷ (y ∷ a))) ∙ ap₂ (λ (k l : List ℕ). k ++ l) eb (ez ∙ ap (λ (l : List ℕ). t ∷ c ∷ (128 + c) ∷ l) ea);
        fits = subst (λ (f : ℕ → Bool). All (Fits f) (b ++ (z ∷ (x ∷ (y ∷ a))))) (sym (new_uses m ys zs s r u sub some_free q))
            (all_with (Fits uses_then) b z x y a
            (fits_new (uses_in m q) c (uses u q) (b ++ (z ∷ a)) o.0 o.1 (subst (All (Fits (uses_in m q))) e ((parts_of m Old r).fits q i))) fx fy);
      }

  -- ALL OF THE QUEUE, from its row
  abbrev Done : Type 0
  Done = Row n Tour Next q (λ x. occurrences x (segments (r.line q)))

  done : (W : Memory) (h : ℕ) (l : Line) (ps : List Point) → queue_memory n q ≡ W → first_popper q Next ≡ some h → After own was.store W h l ps → Placed l
      → Timeline q Next ps → Bare m ys zs s r u sub some_free q i W → Done
  unfolding queue_memory of_tasks
  done W h l ps e f row p time bare =
      let w : After own was.store (queue_memory n q) h l ps = subst (λ (w : Memory). After own was.store w h l ps) (sym e) row in
      record {
        line = w.line;
        holder = h;
        first = f;
        laid =
            subst (λ (k : List ℕ). Laid (λ x. occurrences x (segments (r.line q)) + occurrences x k) (queue_memory n q) h w.line)
            (sym (same_free m ys zs s r u sub some_free q i)) w.laid;
        marked = after_marks w ∙ p.marked;
        fits = after_fits w (uses_in n q) p.fits;
        time = subst (Timeline q Next) (sym w.points) time;
        bare = subst (Bare m ys zs s r u sub some_free q i) (sym e) bare;
      }

  -- THE FIRST POPPER
  first_same : mayPop u q ≡ false → first_popper q Next ≡ some holder
  first_same p = ap (first_popper q) (new_is m ys zs s r u sub some_free) ∙ spawn_kept ys zs s q c u p ∙ (parts_of m Old r).first q i

  first_child : mayPop u q ≡ true → holder ≡ t → first_popper q Next ≡ some c
  first_child p e =
      ap (first_popper q) (new_is m ys zs s r u sub some_free)
      ∙ spawn_first ys zs s q c u (played_reached r.played) p ((parts_of m Old r).first q i ∙ ap some e)

  first_other : (holder ≡ t → ⊥) → first_popper q Next ≡ some holder
  first_other d =
      ap (first_popper q) (new_is m ys zs s r u sub some_free)
      ∙ spawn_other ys zs s q c u holder (subset_pops u (rights_of s) q i sub) ((parts_of m Old r).first q i) d

  -- THE CHILD HAS A RIGHT to the queue, so its spawner has one.
  module _ (k : uses u q ≡ true) where
    v : uses (rights_of s) q ≡ true
    v = subset_uses u (rights_of s) q i sub k

    w : At m ys zs s r q
    w = at m ys zs s r q i v

    abbrev Grown : Line
    Grown = w.later ++ (entered t w.chain ∷ (entered c [] ∷ (exited c ∷ w.earlier)))

    abbrev Points : List Point
    Points = timeline (contents_in m) w.earlier ++ user c ∷ user t ∷ Behind m ys zs s r q i w

    grown : Placed Grown
    grown =
        placed w.later (entered t w.chain) (entered c []) (exited c) w.earlier w.parts w.later_marks w.earlier_marks refl
        (put_same (uses_in m q) c (uses u q) ∙ k) (put_same (uses_in m q) c (uses u q) ∙ k)

    row : After own was.store (spawned t c was) holder Grown Points
    unfolding queue_memory of_tasks
    row =
        let l = w.later ++ (entered t w.chain ∷ w.earlier) in
        let o = absent l w.parts in
        spawn_row own was holder w.later t w.chain w.earlier c (new_unentered c l o.0 o.1) (laid_at m ys zs s r q i w)

    time : Timeline q Next Points
    time =
        child_line q ys zs c u s (single_spot m ys zs s r) (timeline (contents_in m) w.earlier) (Behind m ys zs s r q i w) k v
        (subset_pops u (rights_of s) q i sub) (time_at m ys zs s r q i w)

    -- the queue view goes to a child that pops, from a spawner that has it
    passed_row : holder ≡ t → After own was.store (queue_passed t c (spawned t c was)) c Grown Points
    passed_row e =
        let p = subst (λ (h : ℕ). After own was.store (spawned t c was) h Grown Points) e row in
        after_then p (queue_row own (spawned t c was) p.line t c (apart m ys zs s r u sub some_free q i) p.laid)

    still_row : (holder ≡ t → ⊥) → After own was.store (queue_passed t c (spawned t c was)) holder Grown Points
    still_row d =
        after_then row
        (queue_still_row own (spawned t c was) row.line t c (apart m ys zs s r u sub some_free q i) holder (λ e. d (sym e))
        (λ e. not_child m ys zs s r u sub some_free holder (holder_unfinished m Old r q i).0 (sym e)) row.laid)

    popper_bare : Bare m ys zs s r u sub some_free q i (queue_passed t c (spawned t c was))
    unfolding queue_passed
    popper_bare = bare_spawned m ys zs s r u sub some_free q i k v

    popper_done : mayPop u q ≡ true → Done
    popper_done p =
        ⊎_elim
        (λ e. done (queue_passed t c (spawned t c was)) c Grown Points (popper_memory m ys zs s r u sub some_free q i k p) (first_child p e) (passed_row e)
        grown time popper_bare)
        (λ d. done (queue_passed t c (spawned t c was)) holder Grown Points (popper_memory m ys zs s r u sub some_free q i k p) (first_other d) (still_row d)
        grown time popper_bare)
        (equal? holder t)

    pub user_done : Done
    user_done = go (mayPop u q) refl
      where
        go : (b : Bool) → mayPop u q ≡ b → Done
        go true p = popper_done p
        go false p =
            done (spawned t c was) holder Grown Points (pusher_memory m ys zs s r u sub some_free q i k p) (first_same p) row grown time
            (bare_spawned m ys zs s r u sub some_free q i k v)

  -- THE CHILD HAS NO RIGHT to the queue: nothing changes but the marks.
  module _ (k : uses u q ≡ false) where
    unused : (y : ℕ) → task_at y ≡ c → uses_then (task_at y) ≡ false
    unused y e = ap uses_then e ∙ put_same (uses_in m q) c (uses u q) ∙ k

    past : (b : Line) (z : Mark) (a : Line) → r.line q ≡ b ++ (z ∷ a) → marks b ≡ later → marks a ≡ earlier
        → marks (z ∷ (pass c ∷ (pass (128 + c) ∷ a))) ≡ t ∷ c ∷ (128 + c) ∷ marks a
        → After own was.store was holder (b ++ (z ∷ (pass c ∷ (pass (128 + c) ∷ a)))) (timeline (contents_in m) (b ++ (z ∷ a))) → Done
    unfolding task_at
    past b z a e eb ea ez row =
        done was holder (b ++ (z ∷ (pass c ∷ (pass (128 + c) ∷ a)))) (timeline (contents_in m) (b ++ (z ∷ a))) (other_memory m ys zs s r u sub some_free q i k)
        (first_same (useless_pops u q k)) row
        (placed b z (pass c) (pass (128 + c)) a e eb ea ez (unused c (task_entered c (child_small m ys zs s r u sub some_free))) (unused (128 + c) (task_exited c)))
        (child_past q ys zs c u s (single_spot m ys zs s r) k (subst (λ (l : Line). Timeline q Old (timeline (contents_in m) l)) e ((parts_of m Old r).time q i)))
        (bare_was m ys zs s r u sub some_free q i k)

    laid_parts : {l : Line} → r.line q ≡ l → Laid own was holder l
    laid_parts e = subst (λ (l : Line). Laid own was holder l) e ((parts_of m Old r).laids.laid q i)

    spawner_unused : uses (rights_of s) q ≡ false → uses_in m q (task_at t) ≡ false
    unfolding uses_in
    spawner_unused v =
        ap (uses_in m q) (task_entered t (task_unfinished m ys zs s r).0)
        ∙ both_right_off (ltb t 128) (ap (λ (x : ℕ). uses x q) (same_rights m r.tour Old r.played r.linked s (mine_spot m ys zs s r)) ∙ v)

    pub past_done : Done
    unfolding queue_memory of_tasks
    past_done = go (uses (rights_of s) q) refl
      where
        go : (b : Bool) → uses (rights_of s) q ≡ b → Done
        go true v =
            let w = at m ys zs s r q i v in
            past w.later (entered t w.chain) w.earlier w.parts w.later_marks w.earlier_marks refl
            (spawn_past_row own was holder w.later t w.chain w.earlier c (laid_at m ys zs s r q i w))
        go false v =
            let p = where_it_stands m ys zs s r in
            let w = pass_part (uses_in m q) (r.line q) (proper m ys zs s r q i) t p.later p.earlier (spawner_unused v)
            ((parts_of m Old r).marked q i ∙ p.here) in
            past w.0 (pass t) w.1 w.2 w.3 w.4 refl (pass_past_row own was holder w.0 t w.1 c (laid_parts w.2))

  pub spawn_queue : Done
  spawn_queue = go (uses u q) refl
    where
      go : (b : Bool) → uses u q ≡ b → Done
      go true k = user_done k
      go false k = past_done k
