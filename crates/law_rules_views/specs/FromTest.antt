-- The rules of views from their tests.
use Rattle.std.specs.Prelude.{◌≡◌, true, false, ◌⊎◌, ℕ, ◌+◌, ◌-◌, ◌*◌, ◌%◌, ◌<◌, ◌≤◌, length}
use Rattle.std.proofs.Math.Path.{refl, ap, sym}
use Rattle.std.proofs.Common.{◌∙◌, inl, inr, ⊎_elim, arith, eq-or-lt_of_le}
use mathlib.Core.List.{List, []}
use Rattle.std.proofs.Math.Dec.{eqb}
use borrow.Author.Tests.{eqb-true, lt-ltb, le-ltb}
use Rattle.spec_lists.specs.Counting.{occurrences, below?}
use Rattle.spec_lists.specs.Tests.{each}
use Rattle.spec_layout.specs.Layout.{NONE, NL, QUEUE_HEADS, HEADS, TAILS, TAIL_WORDS, VIEW_WORDS, CHILDREN, USER, RIGHT}
use Rattle.spec_tree.specs.Rights.{uses}
use Rattle.spec_tree.specs.Tour.{MARKS, tour, entered}
use Rattle.spec_tree.specs.Queues.{each_queue_lem}
use Rattle.spec_rules.specs.Contents.{Contents, word, heads, tails, owners, holders, task_rights}
use Rattle.spec_rules.specs.Views.{views, views_of, Joined}
use Rattle.spec_rules.specs.Rules.{Holder, Link, Edge, ViewRules}
use Rattle.spec_rules.specs.Test.{views_test, order_of, order_test, owners_test}
use Rattle.spec_rules.specs.Passed.{marked_yes}
use Rattle.law_rules_views.specs.Members.{entered_mark}
use Rattle.law_rules_tasks.specs.Holders.{holder_below}
use Rattle.law_rules_views.specs.Toured.{Toured, same_owners, holder_entered}
use Rattle.law_rules_views.specs.Order.{Pair, state, state_nil, state_joined}
use Rattle.law_rules_views.specs.Marks.{yes_no, PairAt, Fine, order_fine, order_state}
use Rattle.law_rules_views.specs.Ends.{AllOpened, heads_fit, tails_fit}
use Rattle.law_rules_views.specs.Tested.{word_none, word_head, words_say}

-- a word is a segment, NL or NONE
cases : (w : ℕ) → w ≤ NONE → (w < NL) ⊎ ((w ≡ NL) ⊎ (w ≡ NONE))
cases w l =
    ⊎_elim
    (λ e. inr (inr e))
    (λ a. ⊎_elim (λ e. inr (inl e)) (λ b. inl b) (eq-or-lt_of_le (let z : w ≤ NL = omega (arith, a) in z)))
    (eq-or-lt_of_le l)

pub same_pair : {h e h' e' : ℕ} → h ≡ h' → e ≡ e' → Pair h e → Pair h' e'
same_pair a b w =
    ⊎_elim (λ n. inl (sym a ∙ n.0, sym b ∙ n.1)) (λ n. inr ((λ z. n.0 (a ∙ z)), (λ z. n.1 (b ∙ z)))) w

module _ (c : Contents) (small : (t i : ℕ) → word c t i ≤ NONE) (xs : List ℕ) (v : Toured c xs)
    (words : each (views_test c) (entered xs) ≡ true) (order : order_test c xs ≡ true) (owned : owners_test c (entered xs) ≡ true)
    (opened-heads : AllOpened c (heads c (entered xs))) (opened-tails : AllOpened c (tails c (entered xs))) where
  state_one : (q : ℕ) → q < 4 → order_of c q xs 0 ≡ 1
  unfolding order_test
  state_one q l = eqb-true _ _ (each_queue_lem (λ p. eqb (order_of c p xs 0) 1) order q l)

  fine : (q : ℕ) → q < 4 → (x : ℕ) → 0 < occurrences x xs → Fine c q x
  fine q l x p = order_fine c q xs 0 (λ e. let a = state_one q l in omega (arith, a, e)) x p

  ordered : (q : ℕ) → q < 4 → Joined NL (views c q)
  unfolding views
  ordered q l = state_joined NL (views_of c q (tour MARKS c.recs 0) []) (marked_yes NL refl ∙ sym (here ∙ state_one q l))
    where
      here : state (views_of c q (tour MARKS c.recs 0) []) ≡ order_of c q xs 0
      here =
          ap (λ (l : List ℕ). state (views_of c q l [])) v.whole
          ∙ sym (order_state c q xs [] (fine q l))
          ∙ ap (order_of c q xs) state_nil

  one_owner : (q : ℕ) → q < 4 → length (owners c q (holders c)) ≡ 1
  unfolding owners_test
  one_owner q l = sym (same_owners c xs v q) ∙ eqb-true _ _ (each_queue_lem (λ p. eqb (length (owners c p (entered xs))) 1) owned q l)

  no_views : (t i : ℕ) → Holder c t → i < VIEW_WORDS → uses (task_rights c t) (i % 4) ≡ false → word c t (QUEUE_HEADS + i) ≡ NONE
  no_views t i h l u = word_none (task_rights c t) i (word c t (QUEUE_HEADS + i)) (words_say c xs v words t i h l) u

  queue_links : (t q : ℕ) → Holder c t → q < 4 → Link c.number (word c t (QUEUE_HEADS + q))
  queue_links t q h l =
      ⊎_elim
      (λ a. inl (heads_fit c xs v opened-heads t q h (omega arith) a))
      (λ a. ⊎_elim (λ e. absurd (word_head (task_rights c t) q (word c t (QUEUE_HEADS + q)) (words_say c xs v words t q h (omega arith)) l e)) inr a)
      (cases (word c t (QUEUE_HEADS + q)) (small t (QUEUE_HEADS + q)))

  -- the ends of the views at the two marks of a holder
  pair_entered : (t q : ℕ) → Holder c t → q < 4 → uses (task_rights c t) q ≡ true → PairAt c q t USER × PairAt c q t RIGHT
  pair_entered t q h l u = (fine q l t (entered_mark xs t (holder_entered c xs v t h))).entered (lt-ltb t 128 (holder_below c t h)) u

  pair_exited : (t q : ℕ) → Holder c t → q < 4 → uses (task_rights c t) q ≡ true → PairAt c q t CHILDREN
  pair_exited t q h l u =
      rw e at ((fine q l (128 + t) (v.exited t h)).exited (le-ltb (128 + t) 128 (omega arith)) (ap (λ (k : ℕ). uses (task_rights c k) q) e ∙ u))
    where
      e : 128 + t - 128 ≡ t
      e = omega arith

  pair : (t i : ℕ) → Holder c t → i < TAIL_WORDS → uses (task_rights c t) (i % 4) ≡ true → Pair (word c t (HEADS + i)) (word c t (TAILS + i))
  pair t i h l u =
      ⊎_elim
      (λ a. here CHILDREN (omega arith) (pair_exited t (i % 4) h (omega arith) u))
      (λ a.
      ⊎_elim
      (λ b. here USER (omega arith) (pair_entered t (i % 4) h (omega arith) u).0)
      (λ b. here RIGHT (omega arith) (pair_entered t (i % 4) h (omega arith) u).1)
      (below? i 8))
      (below? i 4)
    where
      here : (k : ℕ) → k * 4 + i % 4 ≡ i → PairAt c (i % 4) t k → Pair (word c t (HEADS + i)) (word c t (TAILS + i))
      here k e w = same_pair (ap (word c t) (omega (arith, e))) (ap (word c t) (omega (arith, e))) w

  -- an end that is not NONE
  edge : (w : ℕ) → w ≤ NONE → (w ≡ NONE → ⊥) → (w < NL → w < c.number) → Edge c.number w
  edge w s n f = ⊎_elim (λ a. inl (f a)) (λ a. ⊎_elim inr (λ e. absurd (n e)) a) (cases w s)

  -- word i of the heads behind the queue's, and of the tails, among all view words
  head_at : (t i : ℕ) → word c t (QUEUE_HEADS + (4 + i)) ≡ word c t (HEADS + i)
  head_at t i = ap (word c t) (omega arith)

  tail_at : (t i : ℕ) → word c t (QUEUE_HEADS + (16 + i)) ≡ word c t (TAILS + i)
  tail_at t i = ap (word c t) (omega arith)

  view_links : (t i : ℕ) → Holder c t → i < TAIL_WORDS
      → ((word c t (HEADS + i) ≡ NONE) × (word c t (TAILS + i) ≡ NONE)) ⊎ (Edge c.number (word c t (HEADS + i)) × Edge c.number (word c t (TAILS + i)))
  view_links t i h l =
      ⊎_elim
      (λ u.
      ⊎_elim
      inl
      (λ n. inr (edge _ (small t (HEADS + i)) n.0 head_fit, edge _ (small t (TAILS + i)) n.1 (tails_fit c xs v opened-tails t i h l)))
      (pair t i h l u))
      (λ u. inl (
        sym (head_at t i) ∙ no_views t (4 + i) h (omega arith) (ap (uses (task_rights c t)) (let z : (4 + i) % 4 ≡ i % 4 = omega arith in z) ∙ u),
        sym (tail_at t i) ∙ no_views t (16 + i) h (omega arith) (ap (uses (task_rights c t)) (let z : (16 + i) % 4 ≡ i % 4 = omega arith in z) ∙ u),
      ))
      (yes_no (uses (task_rights c t) (i % 4)))
    where
      head_fit : word c t (HEADS + i) < NL → word c t (HEADS + i) < c.number
      head_fit p =
          let e = head_at t i in
          let a = heads_fit c xs v opened-heads t (4 + i) h (omega arith) (omega (arith, e, p)) in
          omega (arith, e, a)

  pub tested_views : ViewRules c
  tested_views =
      record {
        queue_links = queue_links;
        view_links = view_links;
        no_views = no_views;
        one_owner = one_owner;
        ordered = ordered;
      }
