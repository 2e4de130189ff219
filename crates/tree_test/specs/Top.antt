-- The opening numbers and the top, test by test, as the code makes them.
use Rattle.std.specs.Prelude.{◌≡◌, Bool, false, List, ℕ, ◌≤◌, ◌*◌, eqb}
use Rattle.std.proofs.Math.Path.{refl, sym}
use Rattle.std.proofs.Common.{◌∙◌, mul-le-mul}
use borrow.Author.Tests.{ne_eqb, eq-eqb}
use Rattle.spec_words.specs.Words.{both, both_on, both_off, both_right_off, true_left, true_right, neither}
use Rattle.spec_layout.specs.Layout.{NONE, STATUS, RIGHTS, PARENT, OLDER, YOUNGER, YOUNGEST, UNFINISHED, FINISHED, task, rights_of, read}
use Rattle.spec_layout.proofs.Frame.{record_word}
use Rattle.spec_rules.specs.Contents.{decode, word, task_rights}
use Rattle.spec_rules.specs.Test.{top_test}

-- the product of the opening numbers is a word
pub fits : (l n : ℕ) → l ≤ 64 → n ≤ 256 → l * n ≤ 16384
fits l n a b = mul-le-mul a b

-- the top has all rights, no parent and no siblings
unfoldable pub top_alone : List ℕ → Bool
top_alone m =
    both (eqb (rights_of m 0) 255)
    (both (eqb (read m (task 0 PARENT)) NONE) (both (eqb (read m (task 0 OLDER)) NONE) (eqb (read m (task 0 YOUNGER)) NONE)))

module _ (m : List ℕ) where
  alone : top_alone m
      ≡ both (eqb (task_rights (decode m) 0) 255)
      (both (eqb (word (decode m) 0 PARENT) NONE) (both (eqb (word (decode m) 0 OLDER) NONE) (eqb (word (decode m) 0 YOUNGER) NONE)))
  unfolding top_alone word
  alone = rw (record_word m 0 RIGHTS, record_word m 0 PARENT, record_word m 0 OLDER, record_word m 0 YOUNGER) refl

  state : (k : ℕ) → word (decode m) 0 k ≡ read m (task 0 k)
  unfolding word
  state k = record_word m 0 k

  pub top_open : read m (task 0 STATUS) ≡ UNFINISHED → top_alone m ≡ top_test (decode m)
  unfolding top_test
  top_open e = alone ∙ sym (both_on (true_left _ (eq-eqb _ _ (state STATUS ∙ e))))

  pub top_closed : read m (task 0 STATUS) ≡ FINISHED → read m (task 0 YOUNGEST) ≡ NONE → top_alone m ≡ top_test (decode m)
  unfolding top_test
  top_closed e f = alone ∙ sym (both_on (true_right _ (both_on (eq-eqb _ _ (state STATUS ∙ e)) ∙ eq-eqb _ _ (state YOUNGEST ∙ f))))

  pub top_other : (read m (task 0 STATUS) ≡ UNFINISHED → ⊥) → (read m (task 0 STATUS) ≡ FINISHED → ⊥) → false ≡ top_test (decode m)
  unfolding top_test
  top_other n o = sym (both_off _ (neither (ne_eqb _ _ (λ e. n (sym (state STATUS) ∙ e))) (both_off _ (ne_eqb _ _ (λ e. o (sym (state STATUS) ∙ e))))))

  pub top_parent : (read m (task 0 STATUS) ≡ UNFINISHED → ⊥) → (read m (task 0 YOUNGEST) ≡ NONE → ⊥) → false ≡ top_test (decode m)
  unfolding top_test
  top_parent n o = sym (both_off _ (neither (ne_eqb _ _ (λ e. n (sym (state STATUS) ∙ e))) (both_right_off _ (ne_eqb _ _ (λ e. o (sym (state YOUNGEST) ∙ e))))))
