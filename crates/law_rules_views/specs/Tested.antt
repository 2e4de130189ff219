-- What the tests of view words and of queues say, both ways.
use Rattle.std.specs.Prelude.{◌≡◌, refl, true, false, List, ℕ, ◌+◌, ◌%◌, ◌<◌, leb, eqb, drop}
use Rattle.std.proofs.Math.Path.{ap}
use Rattle.std.proofs.Common.{sym, ◌∙◌}
use Rattle.std.proofs.Math.Bool.{not}
use Rattle.std.proofs.Math.Logic.{⊎_elim}
use native.Mathlib.Omega.{arith}
use borrow.Author.Tests.{leb-true, le-leb, eqb-true, eq-eqb, ne_eqb, eqb-false, not-true}
use Rattle.spec_words.specs.Words.{load, pass, halt, either, either_true, true_left, true_right}
use Rattle.spec_lists.specs.Tests.{each, each_says, says_each, each_word_says, says_each_word}
use Rattle.spec_lists.specs.Counting.{below?}
use Rattle.spec_layout.specs.Layout.{NONE, NL, QUEUE_HEADS, VIEW_WORDS}
use Rattle.spec_tree.specs.Rights.{uses}
use Rattle.spec_tree.specs.Tour.{entered}
use Rattle.spec_rules.specs.Contents.{Contents, word, task_rights}
use Rattle.spec_rules.specs.Rules.{Holder}
use Rattle.spec_rules.specs.Test.{view_word, views_test}
use Rattle.law_rules_views.specs.Members.{load_drop}
use Rattle.law_rules_views.specs.Toured.{Toured, holder_entered, entered_holder}
use Rattle.law_rules_views.specs.Marks.{yes_no}

-- one word
module _ (r i w : ℕ) where
  pub word_none : view_word r i w ≡ true → uses r (i % 4) ≡ false → w ≡ NONE
  unfolding view_word
  word_none e u = eqb-true w NONE (sym (pass (either (leb 4 i) (not (eqb w NL))) u refl) ∙ e)

  pub word_head : view_word r i w ≡ true → i < 4 → w ≡ NL → ⊥
  unfolding view_word
  word_head e l q =
      ⊎_elim
      (λ u.
      ⊎_elim
      (λ a. let b = leb-true 4 i a in omega (arith, b, l))
      (λ a. eqb-false w NL (not-true _ a) q)
      (either_true _ _ (sym (halt (either (leb 4 i) (not (eqb w NL))) (eqb w NONE) u) ∙ e)))
      (λ u. let a = word_none e u in omega (arith, a, q))
      (yes_no (uses r (i % 4)))

  pub word_right : (uses r (i % 4) ≡ false → w ≡ NONE) → (i < 4 → w ≡ NL → ⊥) → view_word r i w ≡ true
  unfolding view_word
  word_right f g =
      ⊎_elim
      (λ u. halt _ _ u ∙ ⊎_elim (λ l. true_right _ (ap not (ne_eqb w NL (g l)))) (λ l. true_left _ (le-leb 4 i l)) (below? i 4))
      (λ u. pass _ u (eq-eqb w NONE (f u)))
      (yes_no (uses r (i % 4)))

-- all view words of all holders
module _ (c : Contents) (xs : List ℕ) (v : Toured c xs) where
  pub words_say : each (views_test c) (entered xs) ≡ true → (t i : ℕ) → Holder c t → i < VIEW_WORDS
      → view_word (task_rights c t) i (word c t (QUEUE_HEADS + i)) ≡ true
  unfolding views_test word
  words_say e t i h l =
      ap (view_word (task_rights c t) i) (sym (load_drop (c.recs t) QUEUE_HEADS i))
      ∙ ap (λ (k : ℕ). view_word (task_rights c t) k (load (drop QUEUE_HEADS (c.recs t)) i)) (let z : i ≡ 0 + i = omega arith in z)
      ∙ each_word_says (view_word (task_rights c t)) VIEW_WORDS 0 (drop QUEUE_HEADS (c.recs t))
      (each_says (views_test c) (entered xs) e t (holder_entered c xs v t h)) i l

  pub says_words : ((t i : ℕ) → Holder c t → i < VIEW_WORDS → view_word (task_rights c t) i (word c t (QUEUE_HEADS + i)) ≡ true)
      → each (views_test c) (entered xs) ≡ true
  unfolding views_test word
  says_words f =
      says_each (views_test c) (entered xs)
      (λ t p.
      says_each_word (view_word (task_rights c t)) VIEW_WORDS 0 (drop QUEUE_HEADS (c.recs t))
      (λ i l.
      ap (λ (k : ℕ). view_word (task_rights c t) k (load (drop QUEUE_HEADS (c.recs t)) i)) (let z : 0 + i ≡ i = omega arith in z)
      ∙ ap (view_word (task_rights c t) i) (load_drop (c.recs t) QUEUE_HEADS i)
      ∙ f t i (entered_holder c xs v t p) l))
