-- The memory test, stage by stage, as the code goes through it: where one test fails the whole does, whatever the others say.
use Rattle.std.specs.Prelude.{Option, Some as known, None as unknown, ◌≡◌, Bool, true, false, not, List, ℕ, ◌+◌, ◌-◌, ◌*◌, ◌≤◌, length, get_or, take, drop}
use Rattle.std.proofs.Math.Path.{ap}
use Rattle.std.proofs.Common.{ap₂, sym, ◌∙◌, arith, length-take, length-drop}
use Rattle.std.proofs.lemmas.Bool.{false≢true}
use borrow.Author.Tests.{leb-true, not-false, not-true}
use Rattle.spec_words.specs.Words.{load, size, both_true, true_both, refuted}
use Rattle.spec_layout.specs.Layout.{length_word, number_word, free_tasks, address, read, record_of}
use Rattle.spec_tree.specs.Tour.{tour}
use Rattle.spec_rules.specs.Contents.{Contents, decode, scan_decodes}
use Rattle.spec_rules.specs.Test.{within, in_range, top_test, idle_test, tree_test, view_tests, test, rules_hold}
use Rattle.spec_rules.specs.Held.{stack_test, held_count}
use Rattle.spec_view_events.specs.Parts.{number_at}
use Rattle.spec_view_events.specs.Sees.{Ready}
use Rattle.law_rules_same.specs.Passed.{marks, toured, Passed, test_says, says_seen}
use Rattle.law_rules_same.specs.Held.{stack_passed, held_and_free}
use Rattle.law_view_events.specs.Begun.{Begun, few}
use Rattle.segment_test.specs.Count.{Counts, wrong_counts, right_counts}

-- a test that has not failed
pub so : {b x : Bool} → b ≡ x → not b ≡ false → x ≡ true
so e f = sym e ∙ not-false _ f

module _ (m : List ℕ) where
  abbrev C : Contents
  C = decode m

  -- the test of the decoded memory
  decoded : rules_hold m ≡ test C
  unfolding rules_hold
  decoded = ap test (scan_decodes m)

  -- a test that every memory that passes would pass has failed
  pub wrong : {b x : Bool} → (Passed C → x ≡ true) → b ≡ x → not b ≡ true → Counts C (rules_hold m) unknown
  wrong f e n = wrong_counts C (refuted _ (λ p. false≢true (sym (not-true _ n) ∙ e ∙ f (test_says C (sym decoded ∙ p)))))

  pub stack_wrong : {r : Option ℕ} → r ≡ unknown → stack_test C ≡ false → Counts C (rules_hold m) r
  stack_wrong q e = rw q (wrong_counts C (refuted _ (λ p. false≢true (sym e ∙ stack_passed m p))))

  pub tree_wrong : {b : Bool} {k : ℕ} → k ≡ marks C → b ≡ tree_test C k 0 → not b ≡ true → Counts C (rules_hold m) unknown
  tree_wrong number e f = wrong (λ p. p.tree) (e ∙ ap (λ (j : ℕ). tree_test C j 0) number) f

  -- the count is no more than the number opened, and what is left of it is where the walk starts
  pub held_few : {n h : ℕ} → n ≡ read m number_word → h + length C.free ≡ C.number → h ≤ n
  held_few e t = omega (arith, e, t)

  pub started : {n h : ℕ} → n ≡ read m number_word → h ≡ held_count C → n - h ≡ get_or m 1 0 - held_count C
  started e q = ap₂ (λ (x y : ℕ). x - y) (e ∙ sym (number_at m)) q

  module _ (range : in_range (read m length_word) (read m number_word) ≡ true) where
    number_small : read m number_word ≤ 256
    unfolding in_range within
    number_small =
        let a = both_true _ _ range in
        let b = both_true _ _ a.1 in
        leb-true _ _ (both_true _ _ b.0).1

    pub ready : length m ≡ 16384 → Ready m
    unfolding read address load
    ready big = (big, number_small)

    -- all tests before that of the views have passed
    module _ {xs : List ℕ} {k : ℕ} (big : length m ≡ 16384) (stack : stack_test C ≡ true) (top : top_test C ≡ true) (idle : idle_test C ≡ true)
        (number : k ≡ marks C) (tree : tree_test C k 0 ≡ true) (tours : xs ≡ tour k (record_of m) 0) where
      begins : xs ≡ toured C
      begins = tours ∙ ap (λ (j : ℕ). tour j (record_of m) 0) number

      whole : tree_test C (marks C) 0 ≡ true
      whole = ap (λ (j : ℕ). tree_test C j 0) (sym number) ∙ tree

      pub begun : Begun m xs
      unfolding size
      begun = record { words = big; range = range; stack = stack; top = top; idle = idle; tree = whole; toured = begins }

      pub views_wrong : {b : Bool} → b ≡ view_tests C xs → not b ≡ true → Counts C (rules_hold m) unknown
      views_wrong e f = wrong (λ p. says_seen C (toured C) p.seen) (e ∙ ap (view_tests C) begins) f

      -- the count is that of a memory that passes
      pub all_right : {b : Bool} {h : ℕ} → b ≡ view_tests C xs → not b ≡ false → h ≡ held_count C → Counts C (rules_hold m) (known h)
      all_right e f q = right_counts C rules q (ap (λ (k : ℕ). k + length C.free) q ∙ held_and_free m rules)
        where
          rules : rules_hold m ≡ true
          rules = unfold test in
              decoded
              ∙ true_both range (true_both (few m xs begun)
              (true_both top (true_both idle (true_both whole (ap (view_tests C) (sym begins) ∙ so e f)))))

-- the number of marks
pub marks_number : (m : List ℕ) {h : ℕ} → length m ≡ 16384 → idle_test (decode m) ≡ true → h ≡ read m free_tasks
    → (h ≤ 127) × (256 - 2 * h ≡ marks (decode m))
unfolding idle_test
marks_number m big e eh =
    let a = leb-true (length (decode m).idle) 127 (both_true _ _ e).0 in
    let b = length-take (read m free_tasks) (drop 320 m) in
    let d = length-drop 320 m in
    (omega (arith, a, b, d, eh, big), omega (arith, a, b, d, eh, big))

pub in_range_at : (m : List ℕ) {b : Bool} {l n : ℕ} → b ≡ in_range l n → l ≡ read m length_word → n ≡ read m number_word
    → b ≡ in_range (read m length_word) (read m number_word)
in_range_at m e el en = rw (← el, ← en) e

-- a part that begins at 0
pub from_zero : (k : ℕ) (l : List ℕ) → take (k - 0) l ≡ take k l
from_zero k l = ap (λ (j : ℕ). take j l) (let z : k - 0 ≡ k = omega arith in z)
