-- A task without views finishes.
use mathlib.Core.Path.{◌≡◌, ap, sym, ◌∙◌}
use mathlib.Core.Bool.{true}
use mathlib.Core.List.{List}
use Prim.Native.Nat.{ℕ, ◌+◌, ◌*◌, ◌<◌}
use native.Mathlib.Omega.{arith}
use lib.ListN.{get_or}
use borrow.Author.Tests.{eq-eqb}
use Rattle.spec_words.specs.Words.{load, true_both}
use Rattle.spec_layout.specs.Layout.{NONE, CHILDREN, USER, RIGHT, task, address, read}
use Rattle.spec_tree.specs.Rights.{each_queue}
use Rattle.spec_tree.specs.Queues.{by_four, queue_each}
use Rattle.spec_view_events.specs.Groups.{Blank}
use Rattle.spec_outcomes.specs.Views.{view_of, is_empty}
use Rattle.spec_outcomes.specs.Finish.{finishes}
use Rattle.core_return.specs.Returning.{no_views}
use Rattle.core_return.proofs.Deciding.{nothing_finishes}

-- A TASK WITHOUT VIEWS
module _ (m : List ℕ) (t : ℕ) where
  word_none : (i a : ℕ) → a ≡ 1472 + t * 48 + i → get_or m a 0 ≡ NONE → read m (task t i) ≡ NONE
  unfolding read load address
  word_none i a e f = ap (λ (a : ℕ). get_or m a 0) (sym e) ∙ f

  view_none : (k q a b : ℕ) → a ≡ 1472 + t * 48 + (20 + k * 4 + q) → b ≡ 1472 + t * 48 + (32 + k * 4 + q) → get_or m a 0 ≡ NONE → get_or m b 0 ≡ NONE
      → is_empty (view_of m q t k) ≡ true
  unfolding view_of is_empty
  view_none k q a b ea eb h e = true_both (eq-eqb _ _ (word_none _ a ea h)) (eq-eqb _ _ (word_none _ b eb e))

  abbrev pub Blanks : ℕ → Type 0
  Blanks k = Blank m (1492 + t * 48 + k * 4) × Blank m (1504 + t * 48 + k * 4)

  blank_empty : (k : ℕ) → Blanks k → (q : ℕ) → q < 4 → is_empty (view_of m q t k) ≡ true
  blank_empty k w =
      by_four (λ q. is_empty (view_of m q t k) ≡ true)
      (view_none k 0 _ _ (omega arith) (omega arith) w.0.0 w.1.0)
      (view_none k 1 _ _ (omega arith) (omega arith) w.0.1 w.1.1)
      (view_none k 2 _ _ (omega arith) (omega arith) w.0.2 w.1.2)
      (view_none k 3 _ _ (omega arith) (omega arith) w.0.3 w.1.3)

  pub blanks_finish : Blanks CHILDREN → Blanks USER → Blanks RIGHT → true ≡ each_queue (finishes m t)
  unfolding no_views
  blanks_finish c u r =
      sym (queue_each (finishes m t) (λ q l.
      nothing_finishes m t q (true_both (blank_empty USER u q l) (true_both (blank_empty CHILDREN c q l) (blank_empty RIGHT r q l)))))
