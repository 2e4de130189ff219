-- A PUSH OF ONE VALUE moves as program order says, or gets 9 where a segment is needed and none is free.
use Rattle.std.proofs.Math.Path.{◌≡◌, refl, ap, subst}
use Rattle.std.proofs.Common.{sym, ◌∙◌, arith}
use Rattle.std.specs.Prelude.{Bool, List, [], ◌∷◌, ◌++◌, ltb, eqb, length}
use Rattle.std.proofs.Math.Bool.{true, false, not}
use Prim.Native.Nat.{ℕ, zero, suc, ◌<◌}
use borrow.Author.Tests.{eqb-false, lt-leb, ltb-true, ltb-false}
use Rattle.spec_words.specs.Words.{pick, pass as skip, halt, both, either, both_on, true_left}
use Rattle.spec_lists.specs.Counting.{occurrences, occurs_append, occurs_here}
use Rattle.spec_layout.specs.Layout.{NL, USER, free_segment, count, next, length_of, Opened, free_height, head, tail, read, write}
use Rattle.spec_tree.specs.Rights.{pushes as mayPush}
use Rattle.spec_answers.specs.declared.Answer.{Answer}
use Rattle.spec_answers.specs.declared.Answer.TheVariants.{Moved, Refused}
use Rattle.spec_answers.specs.Answers.{outcome, answer_of, words_of}
use Rattle.spec_answers.specs.Calls.{Call, push_call}
use Rattle.spec_rules.specs.Views.{View, view}
use Rattle.spec_outcomes.specs.Segments.{has_none_free, next_free, stored, taken}
use Rattle.spec_outcomes.specs.Views.{view_of, is_empty, tail_of, reducible, just_before, task_at, kind_at}
use Rattle.spec_outcomes.specs.Push.{needs_segment, pushed_apart, pushed_behind, pushed}
use Rattle.spec_order.specs.Steps.{Task, Item, spot, pushes, number_of, rights_of, advance, pushes_all, pushes_run, counted, noted}
use Rattle.spec_order.specs.Waits.{blocked}
use Rattle.law_order.specs.Reached.{Fresh}
use Rattle.law_order_waits.specs.Spots.{says_unfinished}
use Rattle.law_order_waits.specs.Played.{Asked, Played, plays}
use Rattle.spec_lists.specs.Maps.{last_of, last_in}
use Rattle.law_gaps.specs.Line.{End, nonlocal, local, Extent, vacant, extent, Line, entered, segments, Mode, Views}
use Rattle.law_gaps.proofs.Chains.{count_gap}
use Rattle.law_gaps.proofs.Find.{awaited, user_awaits}
use Rattle.law_gaps.proofs.Frames.{split}
use Rattle.law_gaps.specs.Lines.{count_segments}
use Rattle.law_gaps.proofs.Names.{user_local}
use Rattle.law_maps.specs.Meaning.{end_of, extent_of, stack, free_in, contents_in}
use Rattle.law_maps.specs.Reads.{view_at_lem}
use Rattle.law_maps.specs.Ring.{count_length}
use Rattle.law_maps.specs.Extents.{vacant_empty, extent_filled, extent_ends}
use Rattle.law_invariant.specs.Represents.{queue_memory, Represents}
use Rattle.law_invariant.specs.At.{At, laid_at, mine_spot, task_unfinished}
use Rattle.law_invariant.specs.FirstNamed.{segment_below}
use Rattle.law_invariant.specs.Room.{held_free}
use Rattle.law_invariant.specs.Push.{stands, push_into, push_behind, user_word}
use Rattle.law_invariant.specs.PushApart.{apart_reducible, push_apart}
use Rattle.law_in_order.proofs.Yields.{Yields, refuses, chooses, never, does_as}

-- a free segment, where there is one
pub some_free : (m : List ℕ) (q : ℕ) → has_none_free m q ≡ false → (g : ℕ) × (rest : List ℕ) × (free_in m ≡ g ∷ rest)
unfolding has_none_free free_in stack
some_free m q e = go (free_height m q) (eqb-false (free_height m q) 0 e)
  where
    go : (n : ℕ) → (n ≡ 0 → ⊥) → (g : ℕ) × (rest : List ℕ) × (stack (λ i. read m (free_segment i)) n ≡ g ∷ rest)
    go zero k = absurd (k refl)
    go (suc n) k = (read m (free_segment n), stack (λ i. read m (free_segment i)) n, refl)

-- an end that is a segment
pub end_word : (w z : ℕ) → end_of w ≡ local z → w ≡ z
unfolding end_of
end_word w z e = go (eqb w NL) e
  where
    go : (b : Bool) → pick b nonlocal (local w) ≡ local z → w ≡ z
    go true d = unfold pick in let k : ◌≡◌ {A = ℕ} 0 1 = cc in absurd (omega (arith, k))
    go false d = unfold pick in cc

module _ (P : List ℕ → List Item → Type 0) (runs : (m : List ℕ) (xs : List Item) → Represents m xs → P m xs) where
  module _ (m : List ℕ) (ys zs : List Item) (s : Task) (r : Represents m (ys ++ spot s ∷ zs)) (q v : ℕ) (small : q < 4) (may : mayPush (rights_of s) q ≡ true)
      (free : blocked (number_of s) (ys ++ spot s ∷ zs) ≡ false) where
    abbrev t : ℕ
    t = number_of s

    abbrev Old : List Item
    Old = ys ++ spot s ∷ zs

    abbrev New : List Item
    New = advance t (pushes q v) Old

    abbrev c : Call
    c = push_call t q (v ∷ [])

    play : Played New
    unfolding Fresh Asked
    play = plays t (pushes q v) r.played (says_unfinished Old s (mine_spot m ys zs s r)) tt free tt

    moves : (w : List ℕ) → Represents w New → Yields P Old c (outcome (Moved v) w) (Moved v)
    unfolding answer_of words_of noted counted pushes_run pushes_all
    moves w h = record { answer = refl; holds = runs w New h }

    none_left : Yields P Old c (outcome (Refused 9) m) (Refused 9)
    none_left = refuses P m Old c 9 (runs m Old r)

    abbrev u : View
    u = view_of m q t USER

    view_is : {e : Extent} → (queue_memory m q).user t ≡ e → extent_of u ≡ e
    view_is d = sym (view_at_lem m q USER t small (omega arith) (task_unfinished m ys zs s r).0) ∙ user_word m ys zs s r q v small may d

    here : At m ys zs s r q
    here = stands m ys zs s r q v small may

    views : (n : Mode) × Views (queue_memory m q).children (queue_memory m q).user (queue_memory m q).right (entered t here.chain ∷ here.earlier) n
    views = split here.later (entered t here.chain) here.earlier (laid_at m ys zs s r q small here).views

    -- the tail of a user view is a segment of the queue
    tail_held : (h : End) (z : ℕ) → (queue_memory m q).user t ≡ extent h (local z) → 0 < occurrences z (segments (r.line q))
    tail_held h z d =
        let g = awaited (user_awaits t here.chain here.earlier h z d views.1) in
        let i = last_in g.0 g.1 in
        let j = count_gap (last_of g.0 g.1) g.2 in
        let k : occurrences (last_of g.0 g.1) (segments here.earlier) ≡ occurrences z (segments here.earlier) = ap
        (λ (x : ℕ). occurrences x (segments here.earlier)) g.3 in
        let e = ap (λ (l : Line). occurrences z (segments l)) here.parts in
        let f = count_segments z here.later (entered t here.chain ∷ here.earlier) in
        let b = occurs_append z here.chain (segments here.earlier) in
        omega (arith, i, j, k, e, f, b)

    abbrev Answers : Answer
    Answers = pick (both (needs_segment m t q) (has_none_free m q)) (Refused 9) (Moved v)

    -- the user view is empty
    apart : (queue_memory m q).user t ≡ vacant → Yields P Old c (pushed m t q v) Answers
    unfolding pushed pushed_apart
    apart d =
        let e = vacant_empty u (view_is d) in
        does_as P _ _ _ (pick (has_none_free m q) (Refused 9) (Moved v)) (halt _ _ e) (ap (λ (b : Bool). pick b (Refused 9) (Moved v)) (needed e))
        (chooses P (has_none_free m q) (has_none_free m q) refl (λ b. none_left) (λ b.
        let f = some_free m q b in
        never P (outcome (Refused 2) m) (not (reducible (view_of m q (task_at (just_before m q t)) (kind_at (just_before m q t))) (view (next_free m q) NL)))
        (ap not (apart_reducible m ys zs s r q v small may f.0 f.1 f.2 d))
        (moves _ (push_apart m ys zs s r q v small may f.0 f.1 f.2 d play))))
      where
        needed : is_empty u ≡ true → both (needs_segment m t q) (has_none_free m q) ≡ has_none_free m q
        needed e = unfold needs_segment in both_on (true_left _ e)

    -- the tail segment of the user view is z
    behind : (h : End) (z : ℕ) → (queue_memory m q).user t ≡ extent h (local z) → Yields P Old c (pushed m t q v) Answers
    unfolding pushed pushed_behind view_of tail_of
    behind h z d =
        let e = extent_filled u h (local z) (view_is d) in
        does_as P _ _ _ (pick (not (ltb (read m (count e0)) (length_of m e0))) (pick (has_none_free m q) (Refused 9) (Moved v)) (Moved v))
        (skip _ e (skip _ (lt-leb NL e0 (let l = low in let k = r.sized.number_range.1 in omega (arith, l, k, tail_is))) refl)) (needed e)
        (go (ltb (read m (count e0)) (length_of m e0)) refl)
      where
        e0 : ℕ
        e0 = read m (tail USER t q)

        tail_is : e0 ≡ z
        tail_is = end_word e0 z (extent_ends (read m (head USER t q)) (read m (tail USER t q)) h (local z) (view_is d)).1

        low : Opened m z
        low = segment_below m Old r q z small (tail_held h z d)

        needed : is_empty u ≡ false → Answers ≡ pick (not (ltb (read m (count e0)) (length_of m e0))) (pick (has_none_free m q) (Refused 9) (Moved v)) (Moved v)
        needed e =
            unfold needs_segment either view_of tail_of in ap (λ (b : Bool). pick (both b (has_none_free m q)) (Refused 9) (Moved v)) (skip _ e refl)
            ∙ cases (not (ltb (read m (count e0)) (length_of m e0))) (has_none_free m q)
          where
            cases : (x y : Bool) → pick (both x y) (Refused 9) (Moved v) ≡ pick x (pick y (Refused 9) (Moved v)) (Moved v)
            cases true y = unfold both pick in refl
            cases false y = unfold both pick in refl

        count_is : read m (count e0) ≡ read m (count z)
        count_is = ap (λ (x : ℕ). read m (count x)) tail_is

        -- a segment that is not below the length has a value
        filled : (vs : List ℕ) → contents_in m z ≡ vs → (read m (count z) < length_of m z → ⊥) → (w : ℕ) × (ws : List ℕ) × (contents_in m z ≡ w ∷ ws)
        filled [] e n =
            let l = (r.sized.length_range z).0 in
            let k = count_length m z (let i = low in let j = r.sized.number_range.1 in omega (arith, i, j)) ∙ ap length e in
            absurd (n (omega (arith, l, k)))
        filled (w ∷ ws) e n = (w, ws, e)

        apart_from : (g : ℕ) (rest : List ℕ) → free_in m ≡ g ∷ rest → z ≡ g → ⊥
        apart_from g rest e f =
            let a = held_free m Old r q small z (tail_held h z d) in
            let b = ap (occurrences z) e in
            let k = occurs_here g z rest (sym f) in
            omega (arith, a, b, k)

        go : (b : Bool) → ltb (read m (count e0)) (length_of m e0) ≡ b
            → Yields P Old c (pick b (outcome (Moved v) (stored m e0 v)) (pick (has_none_free m q) (outcome (Refused 9) m) (pushed_behind m t q v e0)))
            (pick (not b) (pick (has_none_free m q) (Refused 9) (Moved v)) (Moved v))
        go true f =
            unfold pick in
            subst (λ (x : ℕ). Yields P Old c (outcome (Moved v) (stored m x v)) (Moved v)) (sym tail_is)
            (moves _ (push_into m ys zs s r q v small may h z d low (let l = ltb-true (read m (count e0)) (length_of m e0) f in omega (arith, l, count_is))
            play))
        go false f =
            unfold pick pushed_behind in
            chooses P (has_none_free m q) (has_none_free m q) refl (λ b. none_left) (λ b.
            let k = some_free m q b in
            let w = filled (contents_in m z) refl (λ l. let j = ltb-false (read m (count e0)) (length_of m e0) f in omega (arith, l, j, count_is)) in
            subst (λ (x : ℕ). Yields P Old c (outcome (Moved v) (write (write (taken m q v) (next x) (next_free m q)) (tail USER t q) (next_free m q))) (Moved v))
            (sym tail_is)
            (moves _ (push_behind m ys zs s r q v small may h z k.0 k.1 w.0 w.1 d low k.2 w.2 (apart_from k.0 k.1 k.2) play)))

    pub pushes_well : Yields P Old c (pushed m t q v) Answers
    pushes_well = go ((queue_memory m q).user t) refl
      where
        go : (e : Extent) → (queue_memory m q).user t ≡ e → Yields P Old c (pushed m t q v) Answers
        go vacant d = apart d
        go (extent h x) d =
            let w = (user_local views.1).0 h x d in
            behind h w.0 (d ∙ ap (extent h) w.1)
