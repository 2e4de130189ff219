-- What the tests of segments say, both ways.
use Rattle.std.specs.Prelude.{◌≡◌, List, ◌++◌, ℕ, ◌+◌, ◌<◌, ◌≤◌, ltb, eqb, length}
use Rattle.std.proofs.Common.{ap, arith}
use Rattle.std.proofs.Math.Bool.{true, not}
use Rattle.std.proofs.Math.Logic.{inl, inr, ⊎_elim}
use borrow.Author.Tests.{ltb-true, lt-ltb, leb-true, le-leb, eqb-true, eq-eqb, ne_eqb, eqb-false, not-true}
use Rattle.spec_words.specs.Words.{both_true, true_both, either, either_true, true_left, true_right}
use Rattle.spec_lists.specs.Counting.{occurrences, equal?}
use Rattle.spec_lists.specs.Tests.{each_says, says_each, upto, upto_says, says_upto}
use Rattle.spec_lists.specs.Distinct.{Distinct, distinct_says, says_distinct}
use Rattle.spec_layout.specs.Layout.{NONE}
use Rattle.spec_rules.specs.Contents.{Contents, part}
use Rattle.spec_rules.specs.Rules.{Link}
use Rattle.spec_rules.specs.Test.{segment_test, held_test, chains}

module _ (c : Contents) where
  -- the record of a segment
  pub record Sound (s : ℕ) : Type 0 where
    pub first : part c s 0 < c.length
    pub count : part c s 1 ≤ c.length
    pub link : Link c.number (part c s 2)

  pub segments_sound : upto (segment_test c) c.number 0 ≡ true → (s : ℕ) → s < c.number → Sound s
  unfolding segment_test
  segments_sound e s l =
      let a = both_true _ _ (upto_says (segment_test c) c.number 0 e s (omega arith) (omega arith)) in
      let b = both_true _ _ a.1 in
      record {
        first = ltb-true _ _ a.0;
        count = leb-true _ _ b.0;
        link = ⊎_elim (λ q. inl (ltb-true _ _ q)) (λ q. inr (eqb-true _ _ q)) (either_true _ _ b.1);
      }

  pub sound_segments : ((s : ℕ) → s < c.number → Sound s) → upto (segment_test c) c.number 0 ≡ true
  unfolding segment_test
  sound_segments h = says_upto (segment_test c) c.number 0 (λ s a b. mine s (h s (omega arith)))
    where
      linked : (s : ℕ) → Link c.number (part c s 2) → either (ltb (part c s 2) c.number) (eqb (part c s 2) NONE) ≡ true
      linked s w = ⊎_elim (λ q. true_left _ (lt-ltb _ _ q)) (λ q. true_right _ (eq-eqb _ _ q)) w

      mine : (s : ℕ) → Sound s → segment_test c s ≡ true
      mine s w = true_both (lt-ltb _ _ w.first) (true_both (le-leb _ _ w.count) (linked s w.link))

  module _ (hs es : List ℕ) where
    -- held segments
    pub record Tested : Type 0 where
      pub parts : Distinct c.number (c.free ++ chains c hs)
      pub sum : length c.free + length (chains c hs) ≡ c.number
      pub filled : (s : ℕ) → 0 < occurrences s (chains c hs) → (part c s 2 ≡ NONE → ⊥) → part c s 1 ≡ 0 → ⊥
      pub ends : Distinct c.number (c.free ++ es)
      pub many : length es ≡ length hs
      pub lasts : (s : ℕ) → 0 < occurrences s es → part c s 2 ≡ NONE

    pub held_tested : c.number ≤ 256 → held_test c hs es ≡ true → Tested
    unfolding held_test
    held_tested small t =
        let a = both_true _ _ t in
        let b = both_true _ _ a.1 in
        let d = both_true _ _ b.1 in
        let e = both_true _ _ d.1 in
        let f = both_true _ _ e.1 in
        record {
          parts = distinct_says _ _ small a.0;
          sum = eqb-true _ _ b.0;
          filled = λ s p q z. full s (each_says _ _ d.0 s p) q z;
          ends = distinct_says _ _ small e.0;
          many = eqb-true _ _ f.0;
          lasts = λ s p. eqb-true _ _ (each_says _ _ f.1 s p);
        }
      where
        full : (s : ℕ) → either (eqb (part c s 2) NONE) (not (eqb (part c s 1) 0)) ≡ true → (part c s 2 ≡ NONE → ⊥) → part c s 1 ≡ 0 → ⊥
        full s e q z =
            ⊎_elim (λ w. q (eqb-true _ _ w)) (λ w. eqb-false _ _ (not-true _ w) z) (either_true _ _ e)

    pub tested_held : c.number ≤ 256 → Tested → held_test c hs es ≡ true
    unfolding held_test
    tested_held small w =
        true_both (says_distinct _ _ small w.parts)
        (true_both (eq-eqb _ _ w.sum)
        (true_both (says_each _ _ (λ s p. full s (w.filled s p)))
        (true_both (says_distinct _ _ small w.ends)
        (true_both (eq-eqb _ _ w.many) (says_each _ _ (λ s p. eq-eqb _ _ (w.lasts s p)))))))
      where
        full : (s : ℕ) → ((part c s 2 ≡ NONE → ⊥) → part c s 1 ≡ 0 → ⊥) → either (eqb (part c s 2) NONE) (not (eqb (part c s 1) 0)) ≡ true
        full s f =
            ⊎_elim
            (λ q. true_left _ (eq-eqb _ _ q))
            (λ q. true_right _ (ap not (ne_eqb _ _ (f q))))
            (equal? (part c s 2) NONE)
