-- OPENING gives the invariant: segment q is the only one of queue q, all others are free, the top has all queue views.
use Rattle.std.specs.Prelude.{◌≡◌, true, false, List, [], ◌∷◌, ℕ, zero, suc, ◌+◌, ◌-◌, ◌<◌, ◌≤◌, ltb, eqb}
use Rattle.std.proofs.Math.Path.{refl, ap, sym, subst}
use Rattle.std.proofs.Common.{◌∙◌, arith}
use Rattle.std.proofs.Math.Bool.{not, false≢true}
use Rattle.std.proofs.Math.Logic.{⊎_elim}
use Rattle.std.proofs.Math.Option.{none, some}
use borrow.Author.Tests.{eq-eqb, lt-ltb, le-ltb}
use Rattle.spec_words.specs.Words.{load, pick, pass as skip, halt, both, true_both, both_off, both_right_off}
use Rattle.spec_lists.specs.Counting.{one, one_no, occurrences, occurs_nil, occurs_here, occurs_past, equal?, below?}
use Rattle.spec_layout.specs.Layout.{STATUS, RIGHTS, CHILDREN, USER, RIGHT, number_word, Opened, read}
use Rattle.spec_tree.specs.Rights.{uses}
use Rattle.spec_tree.specs.Queues.{by_four, all_used, all_popped}
use Rattle.spec_rules.specs.Test.{in_range}
use Rattle.spec_outcomes.specs.Open.{opened as openedWords}
use Rattle.spec_order.specs.Steps.{begin, number_of, rights_of}
use Rattle.law_order_waits.specs.Played.{opens}
use Rattle.law_order_waits.specs.Popper.{first_popper}
use Rattle.law_order_queue.specs.Points.{user, Timeline}
use Rattle.law_order_queue.specs.Laws.{begins}
use Rattle.spec_lists.specs.Maps.{put, put_same, put_other}
use Rattle.law_gaps.specs.Line.{nonlocal, local, Extent, vacant, extent, base, exited, entered, Line}
use Rattle.law_gaps.specs.Store.{Memory}
use Rattle.law_gaps.proofs.After.{After, after_marks, after_fits}
use Rattle.law_gaps.proofs.TaskRows.{Opened as OpenedQueue, open_row}
use Rattle.law_links.specs.Linked.{word_is}
use Rattle.law_maps.specs.Meaning.{Meaning, listed, next_in, free_in, heads_in, view_in}
use Rattle.law_maps.specs.Kept.{Means}
use Rattle.law_maps.specs.Open.{top_view, opened_in, core_opened, opened_number}
use Rattle.law_invariant.specs.Represents.{alive, of_tasks, queue_memory, uses_in, opened, Represents}
use Rattle.law_invariant.specs.Nexts.{Leads, Nexts}
use Rattle.law_invariant.specs.Views.{unfinished_alive}
use Rattle.law_invariant_spawn.specs.OpenLinks.{in_range_lem, top_link, free_status, open_linked}
use Rattle.law_invariant_spawn.specs.Rows.{Row, of_rows}

-- a list of numbers from a on has each of them once
count_listed : (j a : ℕ) (f : ℕ → ℕ) → ((k : ℕ) → f k ≡ a + k) → (x : ℕ)
    → (x < a → occurrences x (listed f j) ≡ 0) × (a ≤ x → x < a + j → occurrences x (listed f j) ≡ 1) × (a + j ≤ x → occurrences x (listed f j) ≡ 0)
unfolding listed
count_listed zero a f e x = let o = occurs_nil x in ((λ h. o), (λ h i. let z : ⊥ = omega (arith, h, i) in absurd z), (λ h. o))
count_listed (suc j) a f e x =
    let w = count_listed j (suc a) (λ k. f (suc k)) (λ k. e (suc k) ∙ (let z : a + suc k ≡ suc a + k = omega arith in z)) x in
    let h = e 0 in
    ⊎_elim
    (λ d.
    let g = occurs_here (f 0) x (listed (λ k. f (suc k)) j) d in
    let b = w.0 (omega (arith, d, h)) in (
      (λ i. let z : ⊥ = omega (arith, d, h, i) in absurd z),
      (λ i k. omega (arith, g, b)),
      (λ i. let z : ⊥ = omega (arith, d, h, i) in absurd z),
    ))
    (λ d.
    let g = occurs_past (f 0) x (listed (λ k. f (suc k)) j) d in (
      (λ i. g ∙ w.0 (omega (arith, i))),
      (λ i k. g ∙ w.1 (lower i d) (omega (arith, k))),
      (λ i. g ∙ w.2 (omega (arith, i))),
    ))
    (equal? (f 0) x)
  where
    lower : a ≤ x → (f 0 ≡ x → ⊥) → suc a ≤ x
    lower i d = ⊎_elim (λ p. let z : ⊥ = absurd (d (let h = e 0 in omega (arith, h, i, p))) in absurd z) (λ p. p) (below? x (suc a))

-- a number below 4 is one of the four
one_of_four : (x : ℕ)
    → (x < 4 → one (eqb 0 x) + one (eqb 1 x) + one (eqb 2 x) + one (eqb 3 x) ≡ 1) × (4 ≤ x → one (eqb 0 x) + one (eqb 1 x) + one (eqb 2 x) + one (eqb 3 x) ≡ 0)
unfolding one pick
one_of_four x = (
  by_four (λ x. one (eqb 0 x) + one (eqb 1 x) + one (eqb 2 x) + one (eqb 3 x) ≡ 1) refl refl refl refl x,
  λ h.
      let a = one_no 0 x (λ e. omega (arith, e, h)) in
      let b = one_no 1 x (λ e. omega (arith, e, h)) in
      let c = one_no 2 x (λ e. omega (arith, e, h)) in
      let d = one_no 3 x (λ e. omega (arith, e, h)) in
      omega (arith, a, b, c, d),
)

module _ (l n : ℕ) (range : in_range l n ≡ true) where
  abbrev m : List ℕ
  m = openedWords l n

  abbrev high : 4 ≤ n
  high = (in_range_lem l n range).2

  abbrev low : n ≤ 256
  low = (in_range_lem l n range).3

  means : Means m (opened_in n)
  means = let h = in_range_lem l n range in core_opened l n h.0 h.1 h.2 h.3 h.4

  number : read m number_word ≡ n
  number = let h = in_range_lem l n range in opened_number l n h.0 h.1 h.2 h.3 h.4

  -- THE TOP is the only task in use.
  alive_top : alive m 0 ≡ true
  alive_top = unfinished_alive m 0 (omega arith, word_is m 0 STATUS ∙ (open_linked l n range).running)

  alive_free : (t : ℕ) → (t ≡ 0 → ⊥) → alive m t ≡ false
  unfolding alive
  alive_free t d =
      ⊎_elim
      (λ h. both_right_off (ltb t 128) (ap not (eq-eqb _ _ (free_status l n high low t d h))))
      (λ h. both_off _ (le-ltb t 128 h))
      (below? t 128)

  -- it has every right
  top_uses : (q : ℕ) → q < 4 → uses_in m q 0 ≡ true
  unfolding uses_in load
  top_uses q i = true_both refl (ap (λ (r : ℕ). uses r q) (top_link l n high low RIGHTS (omega arith)) ∙ all_used q i)

  -- ONE QUEUE
  module _ (q : ℕ) (i : q < 4) where
    abbrev after : Memory
    after = queue_memory m q

    -- a view of the top
    top_view_lem : (k : ℕ) → ltb k 3 ≡ true → view_in m q k 0 ≡ top_view q k
    unfolding both
    top_view_lem k h =
        ap (λ (M : Meaning). M.views q k 0) means.means
        ∙ halt _ _ (true_both (lt-ltb q 4 i) (true_both h refl))
        ∙ halt (top_view q k) _ refl

    no_view : (f : ℕ → Extent) (t : ℕ) → (t ≡ 0 → ⊥) → pick (alive m t) (f t) vacant ≡ vacant
    no_view f t d = skip (f t) (alive_free t d) refl

    own_head : heads_in m q 0 ≡ some q
    unfolding both
    own_head = ap (λ (M : Meaning). M.heads q 0) means.means ∙ halt _ _ (true_both (lt-ltb q 4 i) refl) ∙ halt (some q) (some 0) refl

    only_top : (x : ℕ) → after.store.heads x ≡ put (λ y. none) 0 (some q) x
    unfolding queue_memory of_tasks
    only_top x =
        ⊎_elim
        (λ e.
        subst (λ (y : ℕ). after.store.heads y ≡ put (λ z. none) 0 (some q) y) (sym e) (halt _ _ alive_top ∙ own_head ∙ sym (put_same (λ z. none) 0 (some q))))
        (λ d. skip (heads_in m q x) (alive_free x d) refl ∙ sym (put_other (λ z. none) 0 (some q) x d))
        (equal? x 0)

    is_opened : OpenedQueue (λ x. occurrences x (q ∷ free_in m)) q after
    unfolding queue_memory of_tasks
    is_opened =
        record {
          children_vacant = halt _ _ alive_top ∙ top_view_lem CHILDREN refl ∙ skip (extent nonlocal (local q)) refl refl;
          user_tail = halt _ _ alive_top ∙ top_view_lem USER refl ∙ halt (extent nonlocal (local q)) vacant refl;
          right_vacant = halt _ _ alive_top ∙ top_view_lem RIGHT refl ∙ skip (extent nonlocal (local q)) refl refl;
          no_next = ap (λ (M : Meaning). M.next q) means.means ∙ halt none _ (lt-ltb q 4 i);
          no_values = ap (λ (M : Meaning). M.contents q) means.means;
          top_head = only_top;
          rest_free = λ x. refl;
        }

    abbrev Begun : Line
    Begun = entered 0 [] ∷ (exited 0 ∷ (base (q ∷ []) ∷ []))

    opened_row : After (λ x. occurrences x (q ∷ free_in m)) after.store after 0 Begun (user 0 ∷ [])
    opened_row = open_row (λ x. occurrences x (q ∷ free_in m)) q after is_opened

    top_first : first_popper q begin ≡ some 0
    unfolding first_popper begin number_of rights_of
    top_first = halt (some 0) none (all_popped q i)

    pub open_queue : Row m (0 ∷ 128 ∷ []) begin q (λ x. one (eqb q x))
    unfolding queue_memory of_tasks occurrences
    open_queue =
        record {
          line = opened_row.line;
          holder = 0;
          first = top_first;
          laid = opened_row.laid;
          marked = after_marks opened_row;
          fits = after_fits opened_row (uses_in m q) (top_uses q i, (top_uses q i, (tt, tt)));
          time = subst (Timeline q begin) (sym opened_row.points) (begins q (all_used q i));
          bare = λ t u.
              let d : t ≡ 0 → ⊥ = λ e. false≢true (sym u ∙ ap (uses_in m q) e ∙ top_uses q i) in
              (no_view (view_in m q CHILDREN) t d, no_view (view_in m q USER) t d, no_view (view_in m q RIGHT) t d);
        }

  -- EACH SEGMENT STANDS ONCE: the first four in their queues, the others are free.
  each_once : (x : ℕ) → one (eqb 0 x) + one (eqb 1 x) + one (eqb 2 x) + one (eqb 3 x) + occurrences x (free_in m) ≡ opened m x
  each_once x =
      let h = high in
      let e = ap (λ (M : Meaning). occurrences x M.free) means.means in
      let w = count_listed (n - 4) 4 (λ k. 4 + k) (λ k. refl) x in
      let f = one_of_four x in
      ⊎_elim
      (λ k. let a = w.0 k in let b = f.0 k in let c = below_number (omega (arith, k, h)) in omega (arith, e, a, b, c))
      (λ k.
      let b = f.1 k in
      ⊎_elim
      (λ i. let a = w.1 k (omega (arith, i, h)) in let c = below_number i in omega (arith, e, a, b, c))
      (λ i. let a = w.2 (omega (arith, i, h)) in let c = past_number i in omega (arith, e, a, b, c))
      (below? x n))
      (below? x 4)
    where
      below_number : x < n → opened m x ≡ 1
      below_number i = unfold opened one in halt 1 0 (let d = number in lt-ltb x _ (omega (arith, d, i)))

      past_number : n ≤ x → opened m x ≡ 0
      past_number i = unfold opened one in skip 1 (let d = number in le-ltb x _ (omega (arith, d, i))) refl

  first_nexts : Nexts (Opened m) (next_in m)
  first_nexts s h =
      subst (Leads (Opened m)) (sym (ap (λ (M : Meaning). M.next s) means.means)) (⊎_elim
      (λ k. subst (Leads (Opened m)) (sym (halt none _ (lt-ltb s 4 k))) tt)
      (λ k.
      let d = number in
      let b = low in
      let a = high in
      subst (Leads (Opened m)) (sym (skip none (le-ltb s 4 k) (halt (some 0) none (lt-ltb s 256 (omega (arith, h, d, b))))))
      (let z : Opened m 0 = omega (arith, d, a) in z))
      (below? s 4))

-- OPENING gives the invariant.
pub open_represents : (l n : ℕ) → in_range l n ≡ true → Represents (openedWords l n) begin
open_represents l n e =
    of_rows (openedWords l n) (0 ∷ 128 ∷ []) begin (λ q x. one (eqb q x)) (open_queue l n e) (each_once l n e) (open_linked l n e) opens (means l n e).sized
    (first_nexts l n e)
