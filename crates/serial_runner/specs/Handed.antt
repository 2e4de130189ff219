-- What the serial runner hands to a host: why it stopped and the steps made as one number, the lists, and the answers.
use Rattle.std.specs.Prelude.{◌≡◌, ℕ, ◌+◌, ◌*◌, List}
use Rattle.std.proofs.Common.{ap, ◌∙◌}
use Rattle.spec_serial.specs.Answers.{status_of}
use Rattle.spec_serial.specs.Outcome.{Outcome, outcome}
use Rattle.spec_serial.specs.declared.End.{End}

-- one number of 64 bits: the status in the high half, the steps in the low half
unfoldable pub packed : Outcome → ℕ
packed (outcome e n qs a) = status_of e * 4294967296 + n

unfoldable pub lists_of : Outcome → List (List ℕ)
lists_of (outcome e n qs a) = qs

unfoldable pub answers_of : Outcome → List ℕ
answers_of (outcome e n qs a) = a

-- a host is handed the number r, the lists qs and the answers a of an outcome
pub record Handed (r : ℕ) (qs : List (List ℕ)) (a : List ℕ) (o : Outcome) : Type 0 where
  pub number : r ≡ packed o
  pub lists : qs ≡ lists_of o
  pub answers : a ≡ answers_of o

pub handed : {e : End} {n : ℕ} {qs : List (List ℕ)} {a : List ℕ} {o : Outcome} {s r : ℕ} → outcome e n qs a ≡ o → s ≡ status_of e
    → r ≡ s * 4294967296 + n → Handed r qs a o
unfolding packed lists_of answers_of
handed {n = n} p es er =
    record {
      number = er ∙ ap (λ (s : ℕ). s * 4294967296 + n) es ∙ ap packed p;
      lists = ap lists_of p;
      answers = ap answers_of p;
    }
