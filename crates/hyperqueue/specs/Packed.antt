-- What the core hands to a host, and the first two refusals.
use Rattle.std.specs.Prelude.{Option, MatchOption, ◌≡◌, refl, Bool, List, ℕ, ◌+◌, ◌*◌}
use Rattle.std.proofs.Math.Path.{ap, sym}
use Rattle.std.proofs.Common.{◌∙◌, arith, eq-eqb, ne_eqb}
use Rattle.std.proofs.Math.Bool.{true, false, not}
use Rattle.spec_words.specs.Words.{size, halt, pass}
use Rattle.spec_answers.specs.declared.Answer.{Answer}
use Rattle.spec_answers.specs.declared.Answer.TheVariants.{Moved, Empty, Waits, Refused}
use Rattle.spec_answers.specs.Answers.{Outcome, outcome, answer_of, words_of, status_of, value_of}
use Rattle.spec_rules.specs.Test.{rules_hold}
use Rattle.spec_outcomes.specs.Waits.{tested, test_passes}

-- an answer as one number of 64 bits: the status in the high half, the value in the low half
abbrev pub packed : Answer → ℕ
packed (Moved v) = v
packed Empty = 33 * 4294967296
packed Waits = 32 * 4294967296
packed (Refused k) = k * 4294967296

pub packed_halves : (a : Answer) → packed a ≡ status_of a * 4294967296 + value_of a
unfolding status_of value_of
packed_halves (Moved v) = let z : v ≡ 0 * 4294967296 + v = omega arith in z
packed_halves Empty = refl
packed_halves Waits = refl
packed_halves (Refused k) = let z : k * 4294967296 ≡ k * 4294967296 + 0 = omega arith in z

-- the answer of a call that is turned down on these words, or that it is not
abbrev pub Tested : List ℕ → Option Answer → Type 0
Tested m a = MatchOption a ((size m ≡ 16384) × (rules_hold m ≡ true)) (λ a. (o : Outcome) → outcome a m ≡ tested m o)

pub other_length : (m : List ℕ) → (size m ≡ 16384 → ⊥) → (o : Outcome) → outcome (Refused 1) m ≡ tested m o
unfolding tested
other_length m n o = sym (halt _ _ (ap not (ne_eqb _ _ n)))

pub rules_fail : (m : List ℕ) {b : Bool} → size m ≡ 16384 → b ≡ rules_hold m → b ≡ false → (o : Outcome) → outcome (Refused 2) m ≡ tested m o
unfolding tested
rules_fail m e eb f o = sym (pass _ (ap not (eq-eqb _ _ e)) (halt _ _ (ap not (sym eb ∙ f))))

-- what a call gives which is not
pub goes_on : (m : List ℕ) (o : Outcome) → (size m ≡ 16384) × (rules_hold m ≡ true) → o ≡ tested m o
goes_on m o p = sym (test_passes m p.0 p.1 o)

-- a host is handed the packed answer r and the words m of an outcome
abbrev pub Handed : ℕ → List ℕ → Outcome → Type 0
Handed r m o = (r ≡ packed (answer_of o)) × (m ≡ words_of o)

pub handed : {a : Answer} {r : ℕ} {m : List ℕ} {o : Outcome} → outcome a m ≡ o → r ≡ packed a → Handed r m o
unfolding answer_of words_of
handed e f = (f ∙ ap (λ (x : Outcome). packed (answer_of x)) e, ap words_of e)
