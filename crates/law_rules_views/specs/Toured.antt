-- The tasks that the tour meets are the holders, so lists made from either have each number equally often.
use Rattle.std.specs.Prelude.{◌≡◌, Bool, true, false, ◌⊎◌, ℕ, ◌+◌, ◌-◌, ◌<◌, ◌≤◌, eqb, length, drop}
use Rattle.std.proofs.Math.Path.{refl}
use Rattle.std.proofs.Common.{sym, ◌∙◌, arith}
use mathlib.Core.List.{List, [], ◌∷◌}
use Rattle.spec_words.specs.Words.{pick}
use Rattle.spec_lists.specs.Counting.{occurrences, over, occurs_nil, occurs_append, over_same}
use Rattle.spec_layout.specs.Layout.{NONE, QUEUE_HEADS, TAILS, HEAD_WORDS, TAIL_WORDS}
use Rattle.spec_tree.specs.Tour.{MARKS, tour, entered}
use Rattle.spec_rules.specs.Contents.{Contents, word, locals, heads, tails, owners, holders}
use Rattle.spec_rules.specs.Rules.{Holder}
use Rattle.law_rules_tasks.specs.Holders.{holder_once, holders_hold}

counted : (b : Bool) (t : ℕ) (r : List ℕ) → length (pick b r (t ∷ r)) ≡ pick b 0 1 + length r
unfolding pick
counted true t r = omega arith
counted false t r = omega arith

module _ (c : Contents) where
  -- xs are the marks of a tour that meets and leaves each holder, and no other task
  pub record Toured (xs : List ℕ) : Type 0 where
    pub whole : tour MARKS c.recs 0 ≡ xs
    pub same : (t : ℕ) → occurrences t (entered xs) ≡ occurrences t (holders c)
    pub held : (x : ℕ) → 0 < occurrences x xs → ((x < 128) × Holder c x) ⊎ ((128 ≤ x) × (x < 256) × Holder c (x - 128))
    pub exited : (t : ℕ) → Holder c t → 0 < occurrences (128 + t) xs

  pub over_heads : (s : ℕ) (ts : List ℕ) → occurrences s (heads c ts) ≡ over ts (λ t. occurrences s (locals HEAD_WORDS (drop QUEUE_HEADS (c.recs t))))
  unfolding heads over
  over_heads s [] = occurs_nil s
  over_heads s (t ∷ ts) =
      let a = occurs_append s (locals HEAD_WORDS (drop QUEUE_HEADS (c.recs t))) (heads c ts) in let b = over_heads s ts in omega (arith, a, b)

  pub over_tails : (s : ℕ) (ts : List ℕ) → occurrences s (tails c ts) ≡ over ts (λ t. occurrences s (locals TAIL_WORDS (drop TAILS (c.recs t))))
  unfolding tails over
  over_tails s [] = occurs_nil s
  over_tails s (t ∷ ts) =
      let a = occurs_append s (locals TAIL_WORDS (drop TAILS (c.recs t))) (tails c ts) in let b = over_tails s ts in omega (arith, a, b)

  pub over_owners : (q : ℕ) (ts : List ℕ) → length (owners c q ts) ≡ over ts (λ t. pick (eqb (word c t (QUEUE_HEADS + q)) NONE) 0 1)
  unfolding owners over
  over_owners q [] = refl
  over_owners q (t ∷ ts) = let a = over_owners q ts in let b = counted (eqb (word c t (QUEUE_HEADS + q)) NONE) t (owners c q ts) in omega (arith, a, b)

  module _ (xs : List ℕ) (w : Toured xs) where
    same_over : (g : ℕ → ℕ) → over (entered xs) g ≡ over (holders c) g
    same_over g = over_same 128 (entered xs) (holders c) g w.same (λ t p. (holders_hold c t p).0)

    pub same_heads : (s : ℕ) → occurrences s (heads c (entered xs)) ≡ occurrences s (heads c (holders c))
    same_heads s = over_heads s (entered xs) ∙ same_over _ ∙ sym (over_heads s (holders c))

    pub same_tails : (s : ℕ) → occurrences s (tails c (entered xs)) ≡ occurrences s (tails c (holders c))
    same_tails s = over_tails s (entered xs) ∙ same_over _ ∙ sym (over_tails s (holders c))

    pub same_owners : (q : ℕ) → length (owners c q (entered xs)) ≡ length (owners c q (holders c))
    same_owners q = over_owners q (entered xs) ∙ same_over _ ∙ sym (over_owners q (holders c))

    pub holder_entered : (t : ℕ) → Holder c t → 0 < occurrences t (entered xs)
    holder_entered t h = let a = holder_once c t h in let b = w.same t in omega (arith, a, b)

    pub entered_holder : (t : ℕ) → 0 < occurrences t (entered xs) → Holder c t
    entered_holder t p = (holders_hold c t (let b = w.same t in omega (arith, b, p))).1
