-- The words of a new child, as the code writes and keeps them.
use Rattle.std.proofs.Common.{◌≡◌, ℕ, ◌+◌, ◌<◌, ◌≤◌, List, [], ◌∷◌, length, sym, refl, ap, ◌∙◌, ap₂, arith}
use Rattle.spec_words.specs.Words.{load, size}
use Rattle.spec_words.specs.Blocks.{store_all, block_same}
use Rattle.spec_span.specs.Pass.{task_at, SPAN, older_for, with_child}
use Rattle.span_words.specs.Words.{task_words, Holds}

module _ (w : List ℕ) (d p r x t : ℕ) {o : ℕ} {w1 : List ℕ} (few : d < 128) (full : length w ≡ SPAN) (eo : o ≡ older_for w d r)
    (e : w1 ≡ task_words w (d + 1) p x t o) where
  made : w1 ≡ with_child w d p r x t
  unfolding with_child task_words
  made = e ∙ ap (λ (n : ℕ). store_all w (task_at (d + 1) 0) (p ∷ 0 ∷ x ∷ t ∷ 0 ∷ n ∷ 0 ∷ 0 ∷ 0 ∷ 0 ∷ [])) eo

  abbrev ten : List ℕ
  ten = p ∷ 0 ∷ x ∷ t ∷ 0 ∷ o ∷ 0 ∷ 0 ∷ 0 ∷ 0 ∷ []

  word : (k : ℕ) → k < 10 → load ten k ≡ load w1 (task_at (d + 1) k)
  word k h = sym (ap₂ load all place ∙ block_same ten w (task_at (d + 1) 0) k h room)
    where
      all : w1 ≡ store_all w (task_at (d + 1) 0) ten
      all = unfold task_words in e

      place : task_at (d + 1) k ≡ task_at (d + 1) 0 + k
      place = omega arith

      room : task_at (d + 1) 0 + 10 ≤ size w
      room = unfold size in omega (arith, few, full)

  pub child_made_lem : length w1 ≡ length w
      → (w1 ≡ with_child w d p r x t)
      × Holds w1 (record { depth = d + 1; procedure = p; position = 0; register = x; own = t; older = o; time = t })
      × (d + 1 ≡ d + 1)
      × (t ≡ t)
  child_made_lem long = (
    made,
    record {
      procedure = unfold load in word 0 (omega arith);
      position = unfold load in word 1 (omega arith);
      register = unfold load in word 2 (omega arith);
      own = unfold load in word 3 (omega arith);
      older = unfold load in word 5 (omega arith);
      bounded = omega (arith, few);
      sized = long ∙ full;
    },
    refl,
    refl,
  )
