-- Laws of a list of steps in one call: refused, it changes nothing; otherwise it makes the steps from what the job alone opens.
use Rattle.std.specs.Prelude.{◌≡◌, Bool, List, map, ℕ, eqb}
use Rattle.std.proofs.Math.Path.{refl}
use Rattle.std.proofs.Common.{ap, sym, eq-eqb}
use Rattle.std.proofs.Math.Bool.{true, false, not}
use Rattle.std.proofs.lemmas.Bool.{false≢true}
use Rattle.spec_words.specs.Words.{size, pick, pass}
use Rattle.spec_runner.specs.declared.StepAnswer.TheVariants.{Moved, Refused}
use Rattle.spec_runner.specs.Answers.{has_moved, answer_of, core_of, runner_of}
use Rattle.spec_runner.specs.Packed.{packed_step}
use Rattle.spec_runner.specs.Open.{job_opened, open_outcome}
use Rattle.spec_runner.proofs.Opens.{open_forgets}
use Rattle.spec_runner.specs.Run.{steps_from, Listed, listed, run_from, run_outcome}
use Rattle.spec_runner.proofs.Laws.{open_keeps}

module _ (j m r ts a : List ℕ) where
  -- a call that has moved, or has left all that was lent as it was
  abbrev Fair : Listed → Type 0
  Fair (listed x n s b) = has_moved x ≡ false → (n ≡ m) × (s ≡ r) × (b ≡ a)

  opened_fair : Fair (run_from j ts a (open_outcome j m r))
  unfolding run_from
  opened_fair = go (has_moved (answer_of (open_outcome j m r))) refl
    where
      go : (b : Bool) → has_moved (answer_of (open_outcome j m r)) ≡ b → (let o = open_outcome j m r in let s = steps_from j ts (core_of o) (runner_of o) in
          Fair (pick b (listed Moved s.core s.runner (map packed_step s.answers)) (listed (answer_of o) (core_of o) (runner_of o) a)))
      go true e = unfold pick has_moved in λ f. absurd (false≢true (sym f))
      go false e = unfold pick in λ f. let k = open_keeps m r j f in (k.0, k.1, refl)

  -- "no refused or waiting call changes a word"
  pub run_keeps : Fair (run_outcome j m r ts a)
  unfolding run_outcome
  run_keeps = go (not (eqb (size a) (size ts)))
    where
      go : (b : Bool) → Fair (pick b (listed (Refused 1) m r a) (run_from j ts a (open_outcome j m r)))
      go true = unfold pick in λ f. (refl, refl, refl)
      go false = unfold pick in opened_fair

  -- a fresh opening: what the lent words held has no part in it
  pub run_fresh : size a ≡ size ts → answer_of (open_outcome j m r) ≡ Moved
      → (let s = steps_from j ts (core_of (job_opened j)) (runner_of (job_opened j)) in
      run_outcome j m r ts a ≡ listed Moved s.core s.runner (map packed_step s.answers))
  unfolding run_outcome run_from job_opened has_moved answer_of pick
  run_fresh l e = pass _ (ap not (eq-eqb _ _ l)) (ap (run_from j ts a) (open_forgets j m r e))
