-- A REPLAY: refused as an opening is, refused for its form, or judged.
use Rattle.std.specs.Prelude.{◌≡◌, Bool, true, List}
use Rattle.std.proofs.Math.Path.{refl, ap, sym}
use Rattle.std.proofs.Common.{◌∙◌, true≢false}
use Rattle.std.proofs.Math.Bool.{false}
use Rattle.std.proofs.Math.Option.{Option, none, some}
use Prim.Native.Nat.{ℕ, zero, suc}
use Rattle.spec_words.specs.Words.{pick}
use Rattle.spec_runner.specs.declared.StepAnswer.TheVariants as Step
use Rattle.spec_runner.specs.Answers.{has_moved, status_of, Outcome, outcome, answer_of, core_of, runner_of}
use Rattle.spec_runner.specs.Rules.{refused}
use Rattle.spec_runner.specs.Open.{job_opened, open_outcome}
use Rattle.runner_words.specs.Refusals.{job_refusal, turned_down, goes_on}
use Rattle.runner_open.specs.Opens.{Opens}
use Rattle.spec_trace.specs.declared.Line.{Line}
use Rattle.spec_trace.specs.Form.{trace_lines, there}
use Rattle.spec_replay.specs.declared.Replayed.{Replayed}
use Rattle.spec_replay.specs.declared.Replayed.TheVariants.{Agrees, Differs, Refused}
use Rattle.spec_replay.specs.Replay.{judgement, judged, replay_answer}
use Rattle.replay.specs.At.{starts}
use Rattle.replay.specs.Judged.{difference, Replays}

unfoldable is_refused : Replayed → Bool
is_refused Agrees = false
is_refused (Differs n) = false
is_refused (Refused k) = true

not_refused : {j bs m r m' r' : List ℕ} {a : Replayed} → is_refused a ≡ false → a ≡ replay_answer j bs m r → Replays j bs m r a m' r'
not_refused f e = record { answer = e; refused = λ k z. absurd (true≢false (sym (said k) ∙ ap is_refused (sym z) ∙ f)) }
  where
    said : (k : ℕ) → is_refused (Refused k) ≡ true
    said k = unfold is_refused in refl

-- behind an opening with outcome o
abbrev answer_from : List ℕ → List ℕ → Outcome → Replayed
answer_from j bs o = pick (has_moved (answer_of o)) (judged j (trace_lines bs) o) (Refused (status_of (answer_of o)))

module _ (j bs m r : List ℕ) {k : ℕ} (e : k ≡ job_refusal j m r) where
  pub stays_shut : (k ≡ 0 → ⊥) → Replays j bs m r (Refused k) m r
  unfolding replay_answer open_outcome refused answer_of has_moved status_of pick
  stays_shut n = record { answer = ap (answer_from j bs) (turned_down j m r e (job_opened j) n); refused = λ _ _. (refl, refl) }

  pub other_form : k ≡ 0 → there (trace_lines bs) ≡ false → Replays j bs m r (Refused 13) m r
  unfolding replay_answer open_outcome job_opened answer_of has_moved pick there judged
  other_form z f =
      record { answer = sym (ap (answer_from j bs) (sym (goes_on j m r e (job_opened j) z)) ∙ go (trace_lines bs) f); refused = λ _ _. (refl, refl) }
    where
      go : (x : Option (List Line)) → there x ≡ false → judged j x (job_opened j) ≡ Refused 13
      go none t = refl
      go (some ls) t = absurd (true≢false t)

-- judged on the words that an opening leaves
module _ (j bs m r : List ℕ) {n : ℕ} {m₁ r₁ : List ℕ} (o : Opens j m r 0 m₁ r₁) (h : there (trace_lines bs) ≡ true) (e : n ≡ difference j bs m₁ r₁) where
  judged_so : judgement n ≡ replay_answer j bs m r
  unfolding replay_answer answer_of core_of runner_of has_moved pick judged difference
  judged_so =
      ap judgement e ∙ ap (λ (x : Option (List Line)). judged j x (outcome Step.Moved m₁ r₁)) (sym (starts bs h).0)
      ∙ ap (answer_from j bs) (o.moved refl)

  pub agrees : {m' r' : List ℕ} → n ≡ 0 → Replays j bs m r Agrees m' r'
  unfolding judgement is_refused
  agrees z = not_refused refl (ap judgement (sym z) ∙ judged_so)

  pub differs : {m' r' : List ℕ} → (n ≡ 0 → ⊥) → Replays j bs m r (Differs n) m' r'
  unfolding is_refused
  differs z = not_refused refl (by_number n z ∙ judged_so)
    where
      by_number : (k : ℕ) → (k ≡ 0 → ⊥) → Differs k ≡ judgement k
      by_number zero f = absurd (f refl)
      by_number (suc k) f = unfold judgement in refl
