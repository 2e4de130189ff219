-- THE NINE RULES AFTER ANY LIST OF CALLS: after an opening that is not refused, on words of any content, and any list of calls
-- with any arguments, the finish of the top included.
--
-- Tasks are those that have views (Holder): the unfinished ones, and the top, which keeps its views when it has finished. While
-- the top is unfinished these are the unfinished tasks (`unfinished_tasks`); once it has finished they are the top alone
-- (`finished_alone`), and the rules speak of its views. Rule 2 then says that the queue view is the top's; nobody is left to
-- consume.
use Rattle.std.specs.Prelude.{◌≡◌, true, List, [], ◌∷◌, ◌⊎◌, ◌↔◌, ℕ, ◌+◌, ◌<◌, ◌≤◌}
use Rattle.std.proofs.Common.{ap, sym, ◌∙◌, subst, inl, inr, ⊎_elim, arith}
use Rattle.std.proofs.Math.Option.{some}
use Rattle.spec_lists.specs.Counting.{occurrences, occurs_nil, occurs_past, equal?}
use Rattle.spec_layout.specs.Layout.{NONE, STATUS, UNFINISHED, FINISHED, rights_of as rights_in}
use Rattle.spec_answers.specs.declared.Answer.TheVariants.{Moved}
use Rattle.spec_answers.specs.Answers.{answer_of, words_of}
use Rattle.spec_answers.specs.Calls.{Call}
use Rattle.spec_tree.specs.Rights.{uses, pops as mayPop}
use Rattle.spec_rules.specs.Contents.{decode, word, part, nexts, scan_decodes}
use Rattle.spec_rules.specs.Rules.{Unfinished, Holder, Held}
use Rattle.spec_rules.specs.Test.{test, rules_hold}
use Rattle.law_rules_same.specs.Passed.{Passed, test_says}
use Rattle.spec_outcomes.specs.Open.{open_outcome}
use Rattle.spec_outcomes.specs.Outcomes.{words_after}
use Rattle.spec_order.specs.Steps.{Item, begin}
use Rattle.law_gaps.specs.Line.{End, nonlocal, local, vacant, extent}
use Rattle.law_gaps.specs.Store.{LinkedFrom}
use Rattle.law_links.specs.Linked.{word_is}
use Rattle.law_links.specs.Marks.{mark_entered}
use Rattle.law_maps.specs.Meaning.{next_in, heads_in}
use Rattle.law_invariant.specs.Represents.{Represents}
use Rattle.law_in_order.proofs.State.{Ended, State, state_rules}
use Rattle.law_in_order.proofs.Alone.{tour_alone}
use Rattle.law_in_order.proofs.Open.{opens}
use Rattle.law_in_order.proofs.InOrder.{calls_do}
use Rattle.law_paper_rules.specs.Order.{ViewName, queue, user, place, Before}
use Rattle.law_paper_rules.specs.Words.{view_at, task_of, NotQueue, Current, LinkedList}
use Rattle.law_paper_rules.proofs.Words.{busy}
use Rattle.law_paper_rules.proofs.Rules123.{OneQueueView, rule_1, rule_2, rule_3}
use Rattle.law_paper_rules.proofs.Rules45.{all_heads, all_tails, passed_4, passed_5}
use Rattle.law_paper_rules.proofs.Rule6.{rule_6_heads, rule_6_tails}
use Rattle.law_paper_rules.proofs.Rules79.{rule_7_amended, rule_9}
use Rattle.law_paper_rules.proofs.Rule8.{rule_8_amended, rule_8_consumer}
use Rattle.law_paper_rules.proofs.Finished.{SameViews, itself, finished_same}

-- THE RULES of the words m; 6, 7 and 8 as amended. Each is under the name of its theorem about an unfinished top, where the
-- paper's sentence stands (Rules123.antt, Rules45.antt, Rule6.antt, Rules79.antt, Rule8.antt).
pub record PaperRules (m : List ℕ) : Type 0 where
  -- 1. a segment that is held and that a queue view names
  pub rule_1 : (q : ℕ) → q < 4 → (s : ℕ) × Held (decode m) s × (t : ℕ) × Holder (decode m) t × (heads_in m q t ≡ some s)
  -- 2. one queue view with a head, and with which task
  pub rule_2 : (q : ℕ) → q < 4 → OneQueueView m q
  -- 3. the queue view's tail and the user view's head are non-local, or the view is empty
  pub rule_3 : (q : ℕ) → q < 4 → (t : ℕ) → Holder (decode m) t
      → ((view_at m q (queue t) ≡ vacant) ⊎ ((s : ℕ) × (view_at m q (queue t) ≡ extent (local s) nonlocal)))
      × ((view_at m q (user t) ≡ vacant) ⊎ ((s : ℕ) × (view_at m q (user t) ≡ extent nonlocal (local s))))
  -- 4. a held segment is named by one next or by one head
  pub rule_4 : (s : ℕ) → Held (decode m) s → occurrences s (all_heads (decode m)) + occurrences s (nexts (decode m)) ≡ 1
  -- 5. at most one tail names it, and one exactly where it has no next
  pub rule_5 : (s : ℕ) → Held (decode m) s
      → (occurrences s (all_tails (decode m)) ≤ 1) × ((part (decode m) s 2 ≡ NONE) ↔ (occurrences s (all_tails (decode m)) ≡ 1))
  -- 6. one view at most has it as its head, and one at most as its tail
  pub rule_6_heads : (q p : ℕ) → q < 4 → p < 4 → (v w : ViewName) (s : ℕ) (x y : End) → Current m v → Current m w → view_at m q v ≡ extent (local s) x
      → view_at m p w ≡ extent (local s) y → (q ≡ p) × (v ≡ w)
  pub rule_6_tails : (q p : ℕ) → q < 4 → p < 4 → (v w : ViewName) (s : ℕ) (x y : End) → Current m v → Current m w → view_at m q v ≡ extent x (local s)
      → view_at m p w ≡ extent y (local s) → (q ≡ p) × (v ≡ w)
  -- 7. the view with a list's head stands before the one with its tail, or is the same
  pub rule_7_amended : (q : ℕ) → q < 4 → (v w : ViewName) → NotQueue v → LinkedList m q v w → (v ≡ w) ⊎ Before m v w
  -- 8. the list from the queue head ends at the consumer's user view at the latest, and so for every task with a right to q
  pub rule_8_amended : (q : ℕ) → q < 4 → (t u : ℕ) (w : ViewName) → LinkedList m q (queue t) w → Holder (decode m) u → uses (rights_in m u) q ≡ true
      → place m w ≤ place m (user u)
  pub rule_8_consumer : (q : ℕ) → q < 4 → (t : ℕ) (w : ViewName) → LinkedList m q (queue t) w → place m w ≤ place m (user t)
  -- 9. between the two every view is empty or has two non-local ends
  pub rule_9 : (q : ℕ) → q < 4 → (v w u : ViewName) → NotQueue v → LinkedList m q v w → NotQueue u → Current m u → Before m v u → Before m u w
      → (view_at m q u ≡ vacant) ⊎ (view_at m q u ≡ extent nonlocal nonlocal)

pub unfinished_tasks : (m : List ℕ) → word (decode m) 0 STATUS ≡ UNFINISHED → (t : ℕ) → Holder (decode m) t → Unfinished (decode m) t
unfinished_tasks m e t (inl i) = (omega (arith, i), ap (λ (x : ℕ). word (decode m) x STATUS) i ∙ e)
unfinished_tasks m e t (inr u) = u

-- RULE 6 IN THE PAPER'S WORDS: "any segment may be shared by at most two tasks", and of two one has it by a head, the other by
-- a tail. A sharer is a view that names segment s.
abbrev pub ByHead : List ℕ → ℕ → ℕ → ViewName → Type 0
ByHead m s q v = (x : End) × (view_at m q v ≡ extent (local s) x)

abbrev pub ByTail : List ℕ → ℕ → ℕ → ViewName → Type 0
ByTail m s q v = (x : End) × (view_at m q v ≡ extent x (local s))

pub record Sharer (m : List ℕ) (s : ℕ) : Type 0 where
  pub of : ℕ
  pub small : of < 4
  pub view : ViewName
  pub current : Current m view
  pub names : ByHead m s of view ⊎ ByTail m s of view

module _ (m : List ℕ) (s : ℕ) (rules : PaperRules m) where
  abbrev sharing : Sharer m s → ℕ
  sharing a = task_of a.view

  heads_one : (a b : Sharer m s) → ByHead m s a.of a.view → ByHead m s b.of b.view → sharing a ≡ sharing b
  heads_one a b h k =
      ap task_of (rules.rule_6_heads a.of b.of a.small b.small a.view b.view s h.0 k.0 a.current b.current h.1 k.1).1

  tails_one : (a b : Sharer m s) → ByTail m s a.of a.view → ByTail m s b.of b.view → sharing a ≡ sharing b
  tails_one a b h k =
      ap task_of (rules.rule_6_tails a.of b.of a.small b.small a.view b.view s h.0 k.0 a.current b.current h.1 k.1).1

  pub head_and_tail : (a b : Sharer m s) → (sharing a ≡ sharing b → ⊥)
      → (ByHead m s a.of a.view × ByTail m s b.of b.view) ⊎ (ByTail m s a.of a.view × ByHead m s b.of b.view)
  head_and_tail a b n =
      ⊎_elim (λ h. ⊎_elim (λ k. absurd (n (heads_one a b h k))) (λ k. inl (h, k)) b.names)
      (λ h. ⊎_elim (λ k. inr (h, k)) (λ k. absurd (n (tails_one a b h k))) b.names) a.names

  pub at_most_two : (a b c : Sharer m s) → (sharing a ≡ sharing b) ⊎ ((sharing b ≡ sharing c) ⊎ (sharing a ≡ sharing c))
  at_most_two a b c = go a.names b.names c.names
    where
      go : ByHead m s a.of a.view ⊎ ByTail m s a.of a.view → ByHead m s b.of b.view ⊎ ByTail m s b.of b.view
          → ByHead m s c.of c.view ⊎ ByTail m s c.of c.view
          → (sharing a ≡ sharing b) ⊎ ((sharing b ≡ sharing c) ⊎ (sharing a ≡ sharing c))
      go (inl h) (inl k) l = inl (heads_one a b h k)
      go (inr h) (inr k) l = inl (tails_one a b h k)
      go (inl h) (inr k) (inl l) = inr (inr (heads_one a c h l))
      go (inl h) (inr k) (inr l) = inr (inl (tails_one b c k l))
      go (inr h) (inl k) (inl l) = inr (inl (heads_one b c k l))
      go (inr h) (inl k) (inr l) = inr (inr (tails_one a c h l))

-- ONE LAW FOR ALL NINE: they hold of words n that pass the memory test and have the views of words m that represent an order.
module _ (m n : List ℕ) (xs : List Item) (r : Represents m xs) (same : SameViews m n) (p : Passed (decode n)) where
  linked_on : (s : ℕ) (d : List ℕ) → LinkedFrom (next_in n) s d → LinkedFrom (next_in m) s d
  linked_on s [] h = sym (same.nexts s) ∙ h
  linked_on s (t ∷ d) h = (sym (same.nexts s) ∙ h.0, linked_on t d h.1)

  list_before : (q : ℕ) (v w : ViewName) → LinkedList n q v w → LinkedList m q v w
  list_before q v w l =
      record {
        start = l.start;
        rest = l.rest;
        linked = linked_on l.start l.rest l.linked;
        head_end = l.head_end;
        tail_end = l.tail_end;
        head_in = sym (same.views q v) ∙ l.head_in;
        tail_in = sym (same.views q w) ∙ l.tail_in;
        head_task = same.held_by _ l.head_task;
        tail_task = same.held_by _ l.tail_task;
      }

  before : (v w : ViewName) → Before n v w → Before m v w
  before v w l = let a = same.places v in let b = same.places w in omega (arith, a, b, l)

  after : (v w : ViewName) → Before m v w → Before n v w
  after v w l = let a = same.places v in let b = same.places w in omega (arith, a, b, l)

  ends : (v w : ViewName) → place m v ≤ place m w → place n v ≤ place n w
  ends v w l = let a = same.places v in let b = same.places w in omega (arith, a, b, l)

  queue_view : (q : ℕ) → q < 4 → OneQueueView n q
  queue_view q i =
      let o = rule_2 m xs r q i in
      record {
        task = o.task;
        segment = o.segment;
        current = same.holding o.task o.current;
        head = same.heads q o.task ∙ o.head;
        alone = λ t h k. same.heads q t ∙ o.alone t (same.held_by t h) k;
        may = ap (λ (x : ℕ). mayPop x q) (same.rights o.task) ∙ o.may;
        consumer = λ t h a b c. o.consumer t (same.held_by t h) (ap (λ (x : ℕ). mayPop x q) (sym (same.rights t)) ∙ a) (sym (same.block t) ∙ b)
            (sym (same.child t q) ∙ c);
      }

  pub rules_of : PaperRules n
  rules_of =
      record {
        rule_1 = λ q i. let w = rule_1 m xs r q i in (w.0, same.held w.0 w.1, w.2, same.holding w.2 w.3, same.heads q w.2 ∙ w.4);
        rule_2 = queue_view;
        rule_3 = λ q i t h.
            let w = rule_3 m xs r q i t (same.held_by t h) in (
              ⊎_elim (λ e. inl (same.views q (queue t) ∙ e)) (λ e. inr (e.0, same.views q (queue t) ∙ e.1)) w.0,
              ⊎_elim (λ e. inl (same.views q (user t) ∙ e)) (λ e. inr (e.0, same.views q (user t) ∙ e.1)) w.1,
            );
        rule_4 = passed_4 (decode n) p;
        rule_5 = passed_5 (decode n) p;
        rule_6_heads = λ q o i j v w s x y c d e f.
            rule_6_heads m xs r q o i j v w s x y (same.held_by _ c) (same.held_by _ d) (sym (same.views q v) ∙ e) (sym (same.views o w) ∙ f);
        rule_6_tails = λ q o i j v w s x y c d e f.
            rule_6_tails m xs r q o i j v w s x y (same.held_by _ c) (same.held_by _ d) (sym (same.views q v) ∙ e) (sym (same.views o w) ∙ f);
        rule_7_amended = λ q i v w k l. ⊎_elim (λ e. inl e) (λ b. inr (after v w b)) (rule_7_amended m xs r q i v w k (list_before q v w l));
        rule_8_amended = λ q i t u w l h b.
            ends w (user u)
            (rule_8_amended m xs r q i t u w (list_before q (queue t) w l) (same.held_by u h) (ap (λ (x : ℕ). uses x q) (sym (same.rights u)) ∙ b));
        rule_8_consumer = λ q i t w l. ends w (user t) (rule_8_consumer m xs r q i t w (list_before q (queue t) w l));
        rule_9 = λ q i v w u k l ku cu a b.
            ⊎_elim (λ e. inl (same.views q u ∙ e)) (λ e. inr (same.views q u ∙ e))
            (rule_9 m xs r q i v w u k (list_before q v w l) ku (same.held_by _ cu) (before v u a) (before u w b));
      }

-- the words of a finished top have the views of words that represent an order
ended_same : (m : List ℕ) (xs : List Item) (e : Ended m xs) → SameViews e.last m
ended_same m xs e = subst (SameViews e.last) (sym e.words) (finished_same e.last e.steps e.was)

-- in every state of a core
pub state_keeps : (m : List ℕ) (xs : List Item) → State m xs → PaperRules m
unfolding rules_hold
state_keeps m xs st = by st
  where
    test_passed : Passed (decode m)
    test_passed = test_says (decode m) (ap test (sym (scan_decodes m)) ∙ state_rules m xs st)

    by : State m xs → PaperRules m
    by (inl r) = rules_of m m xs r (itself m) test_passed
    by (inr e) = rules_of e.last m e.steps e.was (ended_same m xs e) test_passed

-- once the top has finished it is alone
pub finished_alone : (m : List ℕ) (xs : List Item) → State m xs → word (decode m) 0 STATUS ≡ FINISHED → (t : ℕ) → Holder (decode m) t → t ≡ 0
finished_alone m xs (inl r) f t h = let a = word_is m 0 STATUS in let b = r.linked.running in let z : ⊥ = omega (arith, a, b, f) in absurd z
finished_alone m xs (inr e) f t h = ⊎_elim (λ i. i) (λ k. absurd (other k)) (equal? t 0)
  where
    u : Unfinished (decode e.last) t
    u = busy e.last e.steps e.was t ((ended_same m xs e).held_by t h)

    other : (t ≡ 0 → ⊥) → ⊥
    other k =
        let a = mark_entered e.last e.was.tour e.steps e.was.linked t u in
        let b = ap (occurrences t) (tour_alone e.last e.steps e.was e.alone) in
        let c = occurs_past 0 t (128 ∷ []) (λ i. k (sym i)) in
        let d = occurs_past 128 t [] (λ i. let l = u.0 in omega (arith, i, l)) in
        let g = occurs_nil t in
        omega (arith, a, b, c, d, g)

-- THE THEOREM
pub rules_always : (w : List ℕ) (l n : ℕ) → answer_of (open_outcome w l n) ≡ Moved 0 → (cs : List Call)
    → PaperRules (words_after cs (words_of (open_outcome w l n)))
rules_always w l n e cs = state_keeps _ _ (calls_do cs (words_of (open_outcome w l n)) begin (opens w l n e))
