-- THE RUNNER'S WORDS of a line: each unfinished task has its procedure, instruction and register; all others have zeros.
use Rattle.std.specs.Prelude.{◌≡◌, List, [], ◌∷◌, ℕ, ◌+◌, ◌*◌, ◌<◌}
use Rattle.std.proofs.Math.Path.{ap}
use Rattle.std.proofs.Common.{◌∙◌}
use native.Mathlib.Omega.{arith}
use Rattle.spec_words.specs.Words.{load, size}
use Rattle.spec_words.specs.Blocks.{block_other, size_store_all, block_same}
use Rattle.spec_lists.specs.Maps.{All}
use Rattle.law_job_order.specs.Beside.{Numbered}
use Rattle.spec_runner.specs.Words.{RUNNER, procedure_of, position_of, register_of, put}

-- the three words of task t
pub record Words (r : List ℕ) (t p i x : ℕ) : Type 0 where
  pub procedure : procedure_of r t ≡ p
  pub position : position_of r t ≡ i
  pub register : register_of r t ≡ x

-- those of an unfinished task
pub record Holds (r : List ℕ) (n : Numbered) : Type 0 where
  pub small : n.number < 128
  pub words : Words r n.number n.runner.task.procedure n.runner.task.position n.runner.task.register

-- a task with another number
abbrev pub Other : ℕ → Numbered → Type 0
Other t n = n.number ≡ t → ⊥

pub record Written (r : List ℕ) (ns : List Numbered) : Type 0 where
  pub sized : size r ≡ RUNNER
  pub held : All (Holds r) ns
  pub free : (t : ℕ) → All (Other t) ns → Words r t 0 0 0

module _ (r : List ℕ) (sized : size r ≡ RUNNER) (t p i x : ℕ) where
  pub size_put : size (put r t p i x) ≡ RUNNER
  unfolding put
  size_put = size_store_all r (t * 3) (p ∷ i ∷ x ∷ []) ∙ sized

  put_at : (k : ℕ) → t < 128 → k < 3 → load (put r t p i x) (t * 3 + k) ≡ load (p ∷ i ∷ x ∷ []) k
  unfolding put
  put_at k small l = block_same (p ∷ i ∷ x ∷ []) r (t * 3) k l (let s = sized in omega (arith, s, small))

  put_past : (u k : ℕ) → (u ≡ t → ⊥) → k < 3 → load (put r t p i x) (u * 3 + k) ≡ load r (u * 3 + k)
  unfolding put
  put_past u k n l = block_other (p ∷ i ∷ x ∷ []) r (t * 3) (u * 3 + k) (λ d h e. omega (arith, n, l, h, e))

  pub put_same : t < 128 → Words (put r t p i x) t p i x
  unfolding procedure_of position_of register_of load
  put_same small =
      record {
        procedure = ap (load (put r t p i x)) (let z : t * 3 ≡ t * 3 + 0 = omega arith in z) ∙ put_at 0 small (omega arith);
        position = put_at 1 small (omega arith);
        register = put_at 2 small (omega arith);
      }

  pub put_other : (u a b c : ℕ) → (u ≡ t → ⊥) → Words r u a b c → Words (put r t p i x) u a b c
  unfolding procedure_of position_of register_of
  put_other u a b c n h =
      record {
        procedure =
            ap (load (put r t p i x)) (let z : u * 3 ≡ u * 3 + 0 = omega arith in z)
            ∙ put_past u 0 n (omega arith)
            ∙ ap (load r) (let z : u * 3 + 0 ≡ u * 3 = omega arith in z)
            ∙ h.procedure;
        position = put_past u 1 n (omega arith) ∙ h.position;
        register = put_past u 2 n (omega arith) ∙ h.register;
      }

  -- tasks with other numbers keep their words
  pub put_others : (ns : List Numbered) → All (Other t) ns → All (Holds r) ns → All (Holds (put r t p i x)) ns
  put_others [] o h = tt
  put_others (n ∷ ns) o h = (record { small = h.0.small; words = put_other n.number _ _ _ o.0 h.0.words }, put_others ns o.1 h.1)
