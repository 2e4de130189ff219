-- A refusal has a number other than 0.
use Rattle.std.proofs.Common.{◌≡◌, refl, ap, sym, ◌∙◌, true, not, List, ℕ}
use Rattle.std.specs.Prelude.{eqb}
use Rattle.spec_words.specs.Words.{halt}
use Rattle.refusals.specs.declared.Refusal.{Refusal}
use Rattle.refusals.specs.declared.Refusal.TheVariants as R
use Rattle.refusals.specs.Numbers.{number_of}
use Rattle.runner_words.specs.Refusals.{job_refusal}
use Rattle.runner_words.specs.Tested.{map_refusal}

some_number : (e : Refusal) → not (eqb (number_of e) 0) ≡ true
some_number R.LengthWrong = refl
some_number R.RulesFail = refl
some_number R.NumbersWrong = refl
some_number R.NoSuchTask = refl
some_number R.NoSuchQueue = refl
some_number R.NoRight = refl
some_number R.PastTheEnd = refl
some_number R.NoRecord = refl
some_number R.NoSegment = refl
some_number R.JobHead = refl
some_number R.JobContents = refl
some_number R.JobBody = refl
some_number R.TraceForm = refl
some_number R.WorkersWrong = refl

pub number_some : (e : Refusal) → number_of e ≡ 0 → ⊥
number_some e h = let a : not (eqb (number_of e) 0) ≡ true = some_number e in let b : not (eqb 0 0) ≡ true = rw h at a in cc

pub refused_first : (j m r : List ℕ) (e : Refusal) → number_of e ≡ job_refusal j m r → number_of e ≡ map_refusal j m r
unfolding map_refusal
refused_first j m r e h = h ∙ sym (halt _ _ (ap (λ (k : ℕ). not (eqb k 0)) (sym h) ∙ some_number e))
