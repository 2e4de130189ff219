-- The memory test part by part, both ways; and the rules of the opening.
use Rattle.std.specs.Prelude.{◌≡◌, true, List, ℕ, ◌-◌, ◌*◌, leb, length}
use borrow.Author.Tests.{leb-true, le-leb}
use Rattle.spec_words.specs.Words.{both_true, true_both}
use Rattle.spec_lists.specs.Tests.{each, upto}
use Rattle.spec_tree.specs.Tour.{tour, entered}
use Rattle.spec_rules.specs.Contents.{Contents, heads, tails}
use Rattle.spec_rules.specs.Rules.{OpeningRules}
use Rattle.spec_rules.specs.Test.{within, in_range, top_test, idle_test, tree_test, views_test, order_test, owners_test, segment_test, held_test, view_tests, test}

module _ (c : Contents) where
  pub opening_says : in_range c.length c.number ≡ true → OpeningRules c
  unfolding in_range within
  opening_says e =
      let a = both_true _ _ e in
      let l = both_true _ _ a.0 in
      let b = both_true _ _ a.1 in
      let n = both_true _ _ b.0 in
      record {
        length_range = (leb-true _ _ l.0, leb-true _ _ l.1);
        number_range = (leb-true _ _ n.0, leb-true _ _ n.1);
        product_range = leb-true _ _ b.1;
      }

  pub says_opening : OpeningRules c → in_range c.length c.number ≡ true
  unfolding in_range within
  says_opening r =
      true_both (true_both (le-leb _ _ r.length_range.0) (le-leb _ _ r.length_range.1))
      (true_both (true_both (le-leb _ _ r.number_range.0) (le-leb _ _ r.number_range.1)) (le-leb _ _ r.product_range))

  -- as many marks as the tour of all tasks that are not free has
  abbrev pub marks : ℕ
  marks = 2 * (128 - length c.idle)

  abbrev pub toured : List ℕ
  toured = tour marks c.recs 0

  -- what is left to test where xs are the marks
  pub record Seen (xs : List ℕ) : Type 0 where
    pub words : each (views_test c) (entered xs) ≡ true
    pub order : order_test c xs ≡ true
    pub owned : owners_test c (entered xs) ≡ true
    pub segs : upto (segment_test c) c.number 0 ≡ true
    pub holding : held_test c (heads c (entered xs)) (tails c (entered xs)) ≡ true

  seen_says : (xs : List ℕ) → view_tests c xs ≡ true → Seen xs
  unfolding view_tests
  seen_says xs e =
      let a = both_true _ _ e in
      let b = both_true _ _ a.1 in
      let d = both_true _ _ b.1 in
      let f = both_true _ _ d.1 in
      record { words = a.0; order = b.0; owned = d.0; segs = f.0; holding = f.1 }

  pub says_seen : (xs : List ℕ) → Seen xs → view_tests c xs ≡ true
  unfolding view_tests
  says_seen xs s = true_both s.words (true_both s.order (true_both s.owned (true_both s.segs s.holding)))

  -- the whole test
  pub record Passed : Type 0 where
    pub range : in_range c.length c.number ≡ true
    pub room : leb (length c.free) c.number ≡ true
    pub top : top_test c ≡ true
    pub free : idle_test c ≡ true
    pub tree : tree_test c marks 0 ≡ true
    pub seen : Seen toured

  pub test_says : test c ≡ true → Passed
  unfolding test
  test_says e =
      let a = both_true _ _ e in
      let b = both_true _ _ a.1 in
      let d = both_true _ _ b.1 in
      let f = both_true _ _ d.1 in
      let g = both_true _ _ f.1 in
      record { range = a.0; room = b.0; top = d.0; free = f.0; tree = g.0; seen = seen_says toured g.1 }

  pub says_test : Passed → test c ≡ true
  unfolding test
  says_test p =
      true_both p.range (true_both p.room (true_both p.top (true_both p.free (true_both p.tree (says_seen toured p.seen)))))
