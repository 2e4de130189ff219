-- Several words of a task's record stored at once.
use Rattle.std.specs.Prelude.{◌≡◌, List, ℕ, ◌+◌, ◌*◌, ◌<◌, ◌≤◌, length}
use Rattle.std.proofs.Math.Path.{ap}
use Rattle.std.proofs.Common.{◌∙◌}
use native.Mathlib.Omega.{arith}
use Rattle.spec_words.specs.Words.{load, size}
use Rattle.spec_words.specs.Blocks.{store_all, block_other, block_same}
use Rattle.spec_layout.specs.Layout.{WORDS, TASKS, TASK_WORDS, task, address, read}

module _ (m : List ℕ) (t k : ℕ) (ws : List ℕ) (ht : t < 128) (hk : k + length ws ≤ 48) where
  -- the words from k on of task t
  pub record_same : size m ≡ WORDS → (j : ℕ) → j < length ws → read (store_all m (address (task t k)) ws) (task t (k + j)) ≡ load ws j
  unfolding read address
  record_same z j h =
      ap (load (store_all m (TASKS + t * TASK_WORDS + k) ws)) (let e : TASKS + t * TASK_WORDS + (k + j) ≡ TASKS + t * TASK_WORDS + k + j = omega arith in e)
      ∙ block_same ws m (TASKS + t * TASK_WORDS + k) j h (omega (arith, z, ht, hk))

  -- and another word of the records
  pub record_other : (u j : ℕ) → j < 48 → (u ≡ t → k ≤ j → j < k + length ws → ⊥)
      → read (store_all m (address (task t k)) ws) (task u j) ≡ read m (task u j)
  unfolding read address
  record_other u j h n =
      block_other ws m (TASKS + t * TASK_WORDS + k) (TASKS + u * TASK_WORDS + j) (λ i l e.
      let s : u ≡ t = omega (arith, e, h, hk, l) in
      let p : j ≡ k + i = omega (arith, e, h, hk, l) in
      n s (omega (arith, p)) (omega (arith, p, l)))
