-- A block of words stored into one task's record: what is read there, and elsewhere.
use Rattle.std.specs.Prelude.{◌≡◌, List, ◌⊎◌, ℕ, ◌+◌, ◌*◌, ◌<◌, ◌≤◌, length, get_or}
use Rattle.std.proofs.Math.Path.{ap}
use Rattle.std.proofs.Common.{◌∙◌, arith}
use Rattle.std.proofs.Math.Logic.{⊎_elim}
use Rattle.spec_words.specs.Words.{load, size}
use Rattle.spec_words.specs.Blocks.{store_all, block_other, block_same}
use Rattle.spec_layout.specs.Layout.{WORDS, TASKS, TASK_WORDS, Field, task, address, read}

module _ (m : List ℕ) (sized : size m ≡ WORDS) (c k0 : ℕ) (ws : List ℕ) (small : c < 128) (fits : k0 + length ws ≤ 48) where
  abbrev Stored : List ℕ
  Stored = store_all m (address (task c k0)) ws

  pub block_in : (k j : ℕ) → k ≡ k0 + j → j < length ws → read Stored (task c k) ≡ get_or ws j 0
  unfolding read address load
  block_in k j e l =
      ap (load Stored) (let z : TASKS + c * TASK_WORDS + k ≡ TASKS + c * TASK_WORDS + k0 + j = omega (arith, e) in z)
      ∙ block_same ws m (TASKS + c * TASK_WORDS + k0) j l (let s = sized in omega (arith, s, small, fits))

  pub block_task : (t k : ℕ) → k < 48 → (t ≡ c → ⊥) → read Stored (task t k) ≡ read m (task t k)
  unfolding read address
  block_task t k l n = block_other ws m (TASKS + c * TASK_WORDS + k0) (TASKS + t * TASK_WORDS + k) (λ j i e. n (omega (arith, l, fits, i, e)))

  pub block_word : (k : ℕ) → (k < k0) ⊎ (k0 + length ws ≤ k) → read Stored (task c k) ≡ read m (task c k)
  unfolding read address
  block_word k h =
      block_other ws m (TASKS + c * TASK_WORDS + k0) (TASKS + c * TASK_WORDS + k)
      (λ j i e. ⊎_elim (λ g. omega (arith, g, i, e)) (λ g. omega (arith, g, i, e)) h)

  -- a field in front of the task records
  pub block_front : (f : Field) → address f < 1472 → read Stored f ≡ read m f
  unfolding read address
  block_front f l = block_other ws m (TASKS + c * TASK_WORDS + k0) (address f) (λ j i e. omega (arith, l, e))
