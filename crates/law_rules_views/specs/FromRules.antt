-- The tests of views from their rules.
use Rattle.std.specs.Prelude.{◌≡◌, true, ℕ, ◌+◌, ◌-◌, ◌*◌, ◌<◌, ◌≤◌, length}
use Rattle.std.proofs.Math.Path.{refl, ap, sym}
use Rattle.std.proofs.Common.{◌∙◌, inl, inr, ⊎_elim, arith}
use Rattle.std.proofs.lemmas.Bool.{false≢true}
use mathlib.Core.List.{List, []}
use Rattle.std.proofs.Math.Dec.{eqb}
use borrow.Author.Tests.{eq-eqb, lt-ltb, le-ltb}
use Rattle.spec_lists.specs.Counting.{occurrences, below?}
use Rattle.spec_lists.specs.Tests.{each}
use Rattle.spec_layout.specs.Layout.{NONE, NL, QUEUE_HEADS, HEADS, TAILS, HEAD_WORDS, TAIL_WORDS, CHILDREN, USER, RIGHT}
use Rattle.spec_tree.specs.Tour.{MARKS, tour, entered}
use Rattle.spec_tree.specs.Queues.{queue_each}
use Rattle.spec_rules.specs.Contents.{Contents, word, heads, tails, owners, task_rights}
use Rattle.spec_rules.specs.Views.{views, views_of}
use Rattle.spec_rules.specs.Rules.{Holder, Edge, ViewRules}
use Rattle.spec_rules.specs.Test.{views_test, order_of, order_test, owners_test}
use Rattle.spec_rules.specs.Passed.{marked_yes}
use Rattle.law_rules_views.specs.Toured.{Toured, same_owners}
use Rattle.law_rules_views.specs.Order.{Pair, state, state_nil, joined_state}
use Rattle.law_rules_views.specs.Marks.{PairAt, Fine, order_state}
use Rattle.law_rules_views.specs.Ends.{AllOpened, Fit, fit_heads, fit_tails}
use Rattle.law_rules_views.specs.Tested.{word_right, says_words}
use Rattle.law_rules_views.specs.FromTest.{same_pair}

module _ (c : Contents) (few : c.number ≤ 256) (xs : List ℕ) (v : Toured c xs) (r : ViewRules c) where
  words : each (views_test c) (entered xs) ≡ true
  words =
      says_words c xs v
      (λ t i h l. word_right (task_rights c t) i (word c t (QUEUE_HEADS + i)) (r.no_views t i h l)
      (λ m e. ⊎_elim (λ a. omega (arith, a, e, few)) (λ a. omega (arith, a, e)) (r.queue_links t i h m)))

  owned : owners_test c (entered xs) ≡ true
  unfolding owners_test
  owned = queue_each (λ q. eqb (length (owners c q (entered xs))) 1) (λ q l. eq-eqb _ _ (same_owners c xs v q ∙ r.one_owner q l))

  -- the ends of a view, where i is 4 times its kind plus its queue
  pair : (t i : ℕ) → Holder c t → i < TAIL_WORDS → Pair (word c t (HEADS + i)) (word c t (TAILS + i))
  pair t i h l = ⊎_elim inl (λ w. inr (some w.0, some w.1)) (r.view_links t i h l)
    where
      some : {w : ℕ} → Edge c.number w → w ≡ NONE → ⊥
      some w e = ⊎_elim (λ a. omega (arith, a, e, few)) (λ a. omega (arith, a, e)) w

  pair_at : (t q k : ℕ) → Holder c t → q < 4 → k < 3 → PairAt c q t k
  pair_at t q k h l m =
      same_pair (ap (word c t) (let z : HEADS + (k * 4 + q) ≡ HEADS + k * 4 + q = omega arith in z))
      (ap (word c t) (let z : TAILS + (k * 4 + q) ≡ TAILS + k * 4 + q = omega arith in z)) (pair t (k * 4 + q) h (omega arith))

  fine : (q : ℕ) → q < 4 → (x : ℕ) → 0 < occurrences x xs → Fine c q x
  fine q l x p =
      ⊎_elim
      (λ w.
      record {
        entered = λ a u. (pair_at x q USER w.1 l (omega arith), pair_at x q RIGHT w.1 l (omega arith));
        exited = λ a u. absurd (false≢true (sym a ∙ lt-ltb x 128 w.0));
      })
      (λ w.
      record {
        entered = λ a u. absurd (false≢true (sym (le-ltb x 128 w.0) ∙ a));
        exited = λ a u. pair_at (x - 128) q CHILDREN w.2 l (omega arith);
      })
      (v.held x p)

  order : order_test c xs ≡ true
  unfolding order_test views
  order = queue_each (λ q. eqb (order_of c q xs 0) 1) (λ q l. eq-eqb _ _ (one q l))
    where
      one : (q : ℕ) → q < 4 → order_of c q xs 0 ≡ 1
      one q l =
          ap (order_of c q xs) (sym state_nil)
          ∙ order_state c q xs [] (fine q l)
          ∙ ap (λ (k : List ℕ). state (views_of c q k [])) (sym v.whole)
          ∙ sym (joined_state NL (views_of c q (tour MARKS c.recs 0) []) (r.ordered q l))
          ∙ marked_yes NL refl

  local_edge : {w : ℕ} → Edge c.number w → w < NL → w < c.number
  local_edge w p = ⊎_elim (λ a. a) (λ a. let z : ⊥ = omega (arith, a, p) in absurd z) w

  -- a local word of a view
  local_head : (t i : ℕ) → Holder c t → i < TAIL_WORDS → word c t (HEADS + i) < NL → word c t (HEADS + i) < c.number
  local_head t i h l p = ⊎_elim (λ n. let a = n.0 in let z : ⊥ = omega (arith, a, p) in absurd z) (λ w. local_edge w.0 p) (r.view_links t i h l)

  local_tail : Fit c TAILS TAIL_WORDS
  local_tail t i h l p = ⊎_elim (λ n. let a = n.1 in let z : ⊥ = omega (arith, a, p) in absurd z) (λ w. local_edge w.1 p) (r.view_links t i h l)

  local_heads : Fit c QUEUE_HEADS HEAD_WORDS
  local_heads t i h l p =
      ⊎_elim
      (λ m. ⊎_elim (λ a. a) (λ a. let z : ⊥ = omega (arith, a, p) in absurd z) (r.queue_links t i h m))
      (λ m.
      let e = ap (word c t) (let z : HEADS + (i - 4) ≡ QUEUE_HEADS + i = omega (arith, m) in z) in
      let a = local_head t (i - 4) h (omega (arith, l, m)) (omega (arith, e, p)) in
      omega (arith, e, a))
      (below? i 4)

  pub views_tested : (each (views_test c) (entered xs) ≡ true) × (order_test c xs ≡ true) × (owners_test c (entered xs) ≡ true)
      × AllOpened c (heads c (entered xs)) × AllOpened c (tails c (entered xs))
  views_tested = (words, order, owned, fit_heads c xs v local_heads, fit_tails c xs v local_tail)
