-- What the runner hands to a host: the packed answer and the words that were lent.
use Rattle.std.specs.Prelude.{◌≡◌, refl, List, ℕ}
use Rattle.std.proofs.Common.{ap, subst}
use Rattle.spec_runner.specs.declared.StepAnswer.{StepAnswer}
use Rattle.spec_runner.specs.Ready.{Mapped, mapped}
use Rattle.spec_runner.specs.Run.{Listed, listed}
use Rattle.spec_runner.specs.Answers.{Outcome, outcome, answer_of, core_of, runner_of}
use Rattle.spec_runner.specs.Packed.{Packs}

-- a host is handed the packed answer p, the core's words m and the runner's words r of an outcome
abbrev pub StepHanded : ℕ → List ℕ → List ℕ → Outcome → Type 0
StepHanded p m r o = Packs (answer_of o) p × (m ≡ core_of o) × (r ≡ runner_of o)

pub step_handed : {a : StepAnswer} {p : ℕ} {m r : List ℕ} {o : Outcome} → outcome a m r ≡ o → Packs a p → StepHanded p m r o
unfolding answer_of core_of runner_of
step_handed {a} {p} e f = (subst (λ (x : Outcome). Packs (answer_of x) p) e f, ap core_of e, ap runner_of e)

-- a host is handed the packed answer p and the words w of the ready map
abbrev pub MapHanded : ℕ → List ℕ → Mapped → Type 0
MapHanded p w (mapped a ws) = Packs a p × (w ≡ ws)

pub map_handed : {a : StepAnswer} {p : ℕ} {w : List ℕ} {o : Mapped} → mapped a w ≡ o → Packs a p → MapHanded p w o
map_handed {a} {p} {w} e f = subst (MapHanded p w) e (f, refl)

-- a host is handed the packed answer p, both memories m and r, and the packed answers xs of a list of steps
abbrev pub ListHanded : ℕ → List ℕ → List ℕ → List ℕ → Listed → Type 0
ListHanded p m r xs (listed a m' r' ys) = Packs a p × (m ≡ m') × (r ≡ r') × (xs ≡ ys)

pub list_handed : {a : StepAnswer} {p : ℕ} {m r xs : List ℕ} {o : Listed} → listed a m r xs ≡ o → Packs a p → ListHanded p m r xs o
list_handed {a} {p} {m} {r} {xs} e f = subst (ListHanded p m r xs) e (f, refl, refl, refl)
