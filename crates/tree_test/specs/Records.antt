-- The words of a task's record, by their addresses.
use Rattle.std.specs.Prelude.{◌≡◌, List, ℕ, ◌+◌, ◌*◌, get_or}
use Rattle.std.proofs.Common.{ap, ◌∙◌, arith, get_or-drop}
use Rattle.std.proofs.Math.Path.{sym}
use Rattle.spec_words.specs.Words.{load}
use Rattle.spec_layout.specs.Layout.{record_of}
use Rattle.spec_rules.specs.Contents.{decode, word}

module _ (m : List ℕ) (t : ℕ) where
  pub word_at : (k : ℕ) → get_or m (1472 + t * 48 + k) 0 ≡ word (decode m) t k
  unfolding word record_of load
  word_at k = sym (get_or-drop (1472 + t * 48) m k 0)

  pub status_at : get_or m (1472 + t * 48) 0 ≡ word (decode m) t 0
  status_at = ap (λ (a : ℕ). get_or m a 0) (let z : 1472 + t * 48 ≡ 1472 + t * 48 + 0 = omega arith in z) ∙ word_at 0
