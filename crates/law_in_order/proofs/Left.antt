-- left: once the top has finished it gives exactly the values pushed and not popped, in program order; before that it waits.
use Rattle.std.specs.Prelude.{◌≡◌, Bool, true, false, ℕ, ◌+◌, ◌*◌, ◌<◌, ◌≤◌, leb, ltb, eqb, length}
use Rattle.std.proofs.Math.Path.{refl, ap, sym, subst}
use Rattle.std.proofs.Common.{◌∙◌, inl, ⊎_elim, arith}
use Rattle.std.proofs.Math.Bool.{not}
use Rattle.std.proofs.Math.Option.{Option, none, some}
use mathlib.Core.List.{List, [], ◌∷◌, append-nil}
use Rattle.std.proofs.Math.Logic.{inr}
use borrow.Author.Tests.{leb-false, ltb-true, eqb-true, eq-eqb, ne_eqb, lt-ltb}
use Rattle.spec_words.specs.Words.{load, pick, pass as skip, halt, both, both_true, true_both, load_same, load_other}
use Rattle.spec_lists.specs.Counting.{occurrences, occurs_nil, occurs_here, occurs_past, equal?, length_total, total_ones}
use Rattle.spec_lists.specs.Sums.{total_le}
use Rattle.spec_layout.specs.Layout.{TASKS, TASK_WORDS, STATUS, UNFINISHED, FINISHED, task, value, first, count, next, Opened, segments_of, queue_head}
use Rattle.spec_layout.specs.Layout.{address, read, write}
use Rattle.spec_answers.specs.declared.Answer.{Answer}
use Rattle.spec_answers.specs.declared.Answer.TheVariants.{Waits, Refused}
use Rattle.spec_answers.specs.Answers.{Outcome, outcome, answer_of, words_of}
use Rattle.spec_answers.specs.Calls.{Call, left_call}
use Rattle.spec_outcomes.specs.Waits.{unfinished as unfinished_in}
use Rattle.spec_outcomes.specs.Left.{queued, left_tested}
use Rattle.spec_order.specs.Steps.{Item, counted, noted}
use Rattle.spec_order.specs.Waits.{unfinished}
use Rattle.spec_order.specs.Finding.{left_over}
use Rattle.spec_order.specs.Ordered.{for_task, left_answer}
use Rattle.law_order_queue.specs.Finds.{nth_value, leaves}
use Rattle.spec_lists.specs.Maps.{All, put_same}
use Rattle.law_gaps.specs.Line.{Line, base, exited, entered, segments, first_chain}
use Rattle.law_gaps.specs.Store.{Laid, LinkedFrom, Chain, values_in, timeline, head_of}
use Rattle.law_gaps.proofs.Pool.{mine}
use Rattle.spec_rules.specs.Contents.{decode}
use Rattle.spec_rules.specs.Rules.{Unfinished}
use Rattle.law_links.specs.Linked.{word_is}
use Rattle.law_links.specs.Marks.{mark_exited}
use Rattle.law_links.specs.Waits.{same_unfinished}
use Rattle.law_maps.specs.Meaning.{next_in, contents_in, heads_in, store_in}
use Rattle.law_maps.specs.Reads.{head_at}
use Rattle.law_maps.specs.Free.{link_word}
use Rattle.law_invariant.specs.Represents.{queue_memory, of_tasks, Represents, opened}
use Rattle.law_invariant.specs.Parts.{holders, parts_of, opened_single}
use Rattle.law_invariant.specs.Laids.{held_opened}
use Rattle.law_invariant.specs.FirstNamed.{segment_below, holder_unfinished, here}
use Rattle.law_in_order.proofs.Yields.{Yields, refuses, waits, chooses, does_as}
use Rattle.law_in_order.proofs.Alone.{tour_alone, line_alone}
use Rattle.law_in_order.proofs.Chains.{nth_user, queued_chain}
use Rattle.law_in_order.proofs.State.{Ended, State}

-- BEFORE THE END the top is unfinished
pub left_waits : (m : List ℕ) (xs : List Item) (q i : ℕ) → Represents m xs
    → Yields State xs (left_call q i) (left_tested m q i) (pick (leb 4 q) (Refused 5) (pick (unfinished 0 xs) Waits (left_answer (left_over q i xs))))
unfolding left_tested
left_waits m xs q i r =
    chooses State (leb 4 q) (leb 4 q) refl (λ e. refuses State m xs (left_call q i) 5 (inl r)) (λ e.
    does_as State _ _ _ Waits (halt _ _ (ap not (ne_eqb (read m (task 0 STATUS)) FINISHED (λ d. let f = r.linked.running in omega (arith, d, f)))))
    (halt _ _ top_runs) (waits State m xs (left_call q i) (inl r)))
  where
    top_runs : unfinished 0 xs ≡ true
    top_runs =
        sym (same_unfinished m r.tour xs r.played r.linked 0)
        ∙ (unfold unfinished_in in true_both (lt-ltb 0 128 (omega arith)) (eq-eqb (read m (task 0 STATUS)) UNFINISHED r.linked.running))

-- ONCE THE TOP HAS FINISHED
module _ (m : List ℕ) (xs : List Item) (e : Ended m xs) where
  abbrev b : List ℕ
  b = e.last

  abbrev r : Represents b e.steps
  r = e.was

  -- only the word of the top's status has changed
  other : (a : ℕ) → (a ≡ 1472 → ⊥) → load m a ≡ load b a
  unfolding write address
  other a k = ap (λ (l : List ℕ). load l a) e.words ∙ load_other b 1472 a FINISHED k

  finished : read m (task 0 STATUS) ≡ FINISHED
  unfolding read write address
  finished = ap (λ (l : List ℕ). load l 1472) e.words ∙ load_same b 1472 FINISHED (let s = r.linked.sized in omega (arith, s))

  segment_words : (s : ℕ) → s < 256 → (read m (first s) ≡ read b (first s)) × (read m (count s) ≡ read b (count s)) × (read m (next s) ≡ read b (next s))
  unfolding read address
  segment_words s l = (other _ (λ d. omega (arith, d, l)), other _ (λ d. omega (arith, d)), other _ (λ d. omega (arith, d)))

  value_words : (i : ℕ) → read m (value i) ≡ read b (value i)
  unfolding read address
  value_words i = other _ (λ d. omega (arith, d))

  module _ (q : ℕ) (small : q < 4) where
    abbrev g : ℕ
    g = (line_alone b e.steps r e.alone q small).0

    abbrev d : List ℕ
    d = (line_alone b e.steps r e.alone q small).1

    line_is : r.line q ≡ entered 0 [] ∷ exited 0 ∷ base (g ∷ d) ∷ []
    line_is = (line_alone b e.steps r e.alone q small).2

    -- the queue view is the top's
    holder_top : holders b e.steps r q ≡ 0
    holder_top =
        let w = holder_unfinished b e.steps r q small in
        go (holders b e.steps r q) w.0.0
        (subst (λ (l : List ℕ). 0 < occurrences (holders b e.steps r q) l) (tour_alone b e.steps r e.alone) w.1)
      where
        go : (h : ℕ) → h < 128 → 0 < occurrences h (0 ∷ 128 ∷ []) → h ≡ 0
        go h l p =
            ⊎_elim (λ f. sym f)
            (λ f.
            let a = occurs_past 0 h (128 ∷ []) f in
            let c = occurs_past 128 h [] (λ x. omega (arith, x, l)) in
            let z = occurs_nil h in
            let y : ⊥ = omega (arith, a, c, z, p) in
            absurd y)
            (equal? 0 h)

    laid : Laid (mine (queue_memory b q).store (r.line q)) (queue_memory b q) (holders b e.steps r q) (r.line q)
    laid = (parts_of b e.steps r).laids.laid q small

    head_word : read m (queue_head 0 q) ≡ g
    unfolding read address
    head_word =
        other (address (queue_head 0 q)) (λ x. omega (arith, x)) ∙ link_word (read b (queue_head 0 q)) g (sym (head_at b q 0 small (omega arith)) ∙ heads_is)
      where
        heads_is : heads_in b q 0 ≡ some g
        heads_is =
            unfold queue_memory of_tasks in
            sym (halt _ _ (here b e.steps r 0 (omega arith)
            (subst (λ (l : List ℕ). 0 < occurrences 0 l) (sym (tour_alone b e.steps r e.alone)) (let o = occurs_here 0 0 (128 ∷ []) refl in
            omega (arith, o)))))
            ∙ ap (λ (x : ℕ). (queue_memory b q).store.heads x) (sym holder_top)
            ∙ laid.held.head (holders b e.steps r q)
            ∙ put_same (λ y. none) (holders b e.steps r q) (head_of (first_chain (r.line q)))
            ∙ ap (λ (l : Line). head_of (first_chain l)) line_is

    chained : LinkedFrom (next_in b) g d
    unfolding queue_memory of_tasks
    chained = (subst (All (Chain (queue_memory b q).store.next (contents_in b))) line_is laid.held.chains.good).1.1.0.0

    in_line : (x : ℕ) → occurrences x (segments (r.line q)) ≡ occurrences x (g ∷ d)
    in_line x = ap (λ (l : Line). occurrences x (segments l)) line_is ∙ ap (occurrences x) (append-nil (g ∷ d))

    below : (x : ℕ) → 0 < occurrences x (g ∷ d) → Opened b x
    below x p = segment_below b e.steps r q x small (let i = in_line x in omega (arith, i, p))

    -- no segment stands twice in a chain, so it is not longer than there are segments
    short : length (g ∷ d) ≤ 256
    short =
        let n = segments_of b q in
        let a = length_total n (g ∷ d) below in
        let t = total_le n (λ y. occurrences y (g ∷ d)) (λ y. 1) (λ y l. once y) in
        let o = total_ones n (λ y. 1) (λ y l. refl) in
        let k = r.sized.number_range.1 in
        omega (arith, a, t, o, k)
      where
        once : (x : ℕ) → occurrences x (g ∷ d) ≤ 1
        once x =
            let h = held_opened (opened b) (opened_single b) (store_in b 0) r.line (parts_of b e.steps r).laids.pool q small x in
            let o = opened_single b x in
            let i = in_line x in
            omega (arith, h, o, i)

    -- LEFT GIVES WHAT IS LEFT
    pub left_values : (i : ℕ) → queued 256 m (read m (queue_head 0 q)) i ≡ left_answer (left_over q i xs)
    left_values i =
        ap (λ (x : ℕ). queued 256 m x i) head_word
        ∙ queued_chain b m (segments_of b q) r.sized.number_range.1 (λ s. unfold read address in other 0 (λ x. omega (arith, x))) segment_words value_words
        256 g d i chained below short
        ∙ ap left_answer
        (sym (nth_user i 0 (values_in (contents_in b) (g ∷ d)) [] ∙ ap (nth_value i) (append-nil (values_in (contents_in b) (g ∷ d))))
        ∙ ap (λ (l : Line). nth_value i (timeline (contents_in b) l)) (sym line_is)
        ∙ sym (leaves q i e.steps (timeline (contents_in b) (r.line q)) ((parts_of b e.steps r).time q small))
        ∙ sym (e.same_left q i small))

  -- the answer changes nothing
  answers : (q i : ℕ) (o : Option ℕ) → Yields State xs (left_call q i) (outcome (left_answer o) m) (left_answer o)
  unfolding answer_of words_of noted counted left_answer
  answers q i none = record { answer = refl; holds = inr e }
  answers q i (some v) = record { answer = refl; holds = inr e }

  pub left_ended : (q i : ℕ) → Yields State xs (left_call q i) (left_tested m q i)
      (pick (leb 4 q) (Refused 5) (pick (unfinished 0 xs) Waits (left_answer (left_over q i xs))))
  unfolding left_tested
  left_ended q i =
      chooses State (leb 4 q) (leb 4 q) refl (λ d. refuses State m xs (left_call q i) 5 (inr e)) (λ d.
      let l = leb-false 4 q d in
      does_as State _ (outcome (left_answer (left_over q i xs)) m) _ (left_answer (left_over q i xs))
      (skip _ (ap not (eq-eqb (read m (task 0 STATUS)) FINISHED finished)) (ap (λ (a : Answer). outcome a m) (left_values q (omega (arith, l)) i)))
      (skip _ (e.none_left 0) refl)
      (answers q i (left_over q i xs)))

  status_word : (t : ℕ) → (t ≡ 0 → ⊥) → read b (task t STATUS) ≡ read m (task t STATUS)
  unfolding read address
  status_word t n = sym (other (TASKS + t * TASK_WORDS + STATUS) (λ x. n (omega (arith, x))))

  -- NO OTHER CALL MOVES: nobody is unfinished
  pub gone : (t : ℕ) → unfinished_in m t ≡ false
  unfolding unfinished_in
  gone t = go (both (ltb t 128) (eqb (read m (task t STATUS)) UNFINISHED)) refl
    where
      not_top : t < 128 → read m (task t STATUS) ≡ UNFINISHED → (t ≡ 0 → ⊥) → ⊥
      not_top l f n =
          let u : Unfinished (decode b) t = (l, word_is b t STATUS ∙ status_word t n ∙ f) in
          let p = subst (λ (k : List ℕ). 0 < occurrences (128 + t) k) (tour_alone b e.steps r e.alone)
          (mark_exited b r.tour e.steps r.linked t u) in
          let a = occurs_past 0 (128 + t) (128 ∷ []) (λ x. omega (arith, x)) in
          let c = occurs_past 128 (128 + t) [] (λ x. n (omega (arith, x))) in
          let z = occurs_nil (128 + t) in
          omega (arith, p, a, c, z)

      go : (d : Bool) → both (ltb t 128) (eqb (read m (task t STATUS)) UNFINISHED) ≡ d → d ≡ false
      go false f = refl
      go true f =
          let w = both_true _ _ f in
          let l = ltb-true t 128 w.0 in
          let k = eqb-true (read m (task t STATUS)) UNFINISHED w.1 in
          absurd
          (⊎_elim
          (λ z. let a = ap (λ (x : ℕ). read m (task x STATUS)) z ∙ finished in omega (arith, a, k))
          (λ n. not_top l k n)
          (equal? t 0))

  pub ended_refuses : (c : Call) (o : Outcome) (a : Answer) (t : ℕ) → Yields State xs c (pick (not (unfinished_in m t)) (outcome (Refused 4) m) o) (for_task t xs a)
  unfolding for_task
  ended_refuses c o a t = does_as State _ _ _ (Refused 4) (halt _ _ (ap not (gone t))) (skip _ (e.none_left t) refl) (refuses State m xs c 4 (inr e))
