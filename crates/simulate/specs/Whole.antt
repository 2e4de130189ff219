-- A SIMULATION: refused as an opening is, refused for its number of workers, or run.
use Rattle.std.specs.Prelude.{◌≡◌, true, ◌⊎◌, ℕ, zero, suc, ◌<◌, ◌≤◌, leb, length}
use Rattle.std.proofs.Math.Path.{refl, ap, sym, subst}
use Rattle.std.proofs.Common.{◌∙◌, arith, eq-eqb, ne_eqb, le-leb}
use Rattle.std.proofs.Math.Bool.{false, not}
use mathlib.Core.List.{List, [], ◌∷◌}
use Rattle.std.proofs.Math.Logic.{⊎_elim}
use Rattle.std.proofs.lemmas.Bool.{lt-leb}
use Rattle.spec_words.specs.Words.{load, size, pick, both, both_off, both_right_off, true_both, halt, pass}
use Rattle.spec_lists.specs.Maps.{All}
use Rattle.spec_outcomes.specs.Waits.{unfinished}
use Rattle.spec_runner.specs.Answers.{has_moved, status_of, answer_of, core_of, runner_of}
use Rattle.spec_runner.specs.Rules.{refused}
use Rattle.spec_runner.specs.Open.{job_opened, open_outcome}
use Rattle.runner_words.specs.Refusals.{job_refusal, turned_down, goes_on, fits}
use Rattle.runner_open.specs.Opens.{Opens}
use Rattle.law_any_order.specs.Statement.{fresh}
use Rattle.law_simulate.proofs.Calls.{facts}
use Rattle.spec_simulate.specs.declared.Simulated.{Simulated}
use Rattle.spec_simulate.specs.declared.Simulated.TheVariants.{Refused}
use Rattle.spec_simulate.specs.Machine.{simulation, workers_right, simulated, simulate_outcome}
use Rattle.simulate.specs.Parts.{Table, RoundsAll}

-- 1: another number of words for the ends
pub other_length : (j table : List ℕ) (w : ℕ) (m r e : List ℕ) → ¬ (length e ≡ 128) → simulation (Refused 1) m r e ≡ simulate_outcome j table w m r e
unfolding simulate_outcome size
other_length j table w m r e other = sym (halt _ _ (ap not (ne_eqb _ 128 other)))

module _ (j table : List ℕ) (w : ℕ) (m r e : List ℕ) (long : length e ≡ 128) {k : ℕ} (number : k ≡ job_refusal j m r) where
  simulated_is : simulated j table w m r e (open_outcome j m r) ≡ simulate_outcome j table w m r e
  unfolding simulate_outcome size
  simulated_is = sym (pass _ (ap not (eq-eqb _ 128 long)) refl)

  -- 1, 10, 11, 12
  pub stays_shut : ¬ (k ≡ 0) → simulation (Refused k) m r e ≡ simulate_outcome j table w m r e
  unfolding simulated open_outcome refused answer_of has_moved status_of pick
  stays_shut n = ap (simulated j table w m r e) (turned_down j m r number (job_opened j) n) ∙ simulated_is

  -- 14
  pub wrong_workers : k ≡ 0 → (w < 1) ⊎ (16 < w) → simulation (Refused 14) m r e ≡ simulate_outcome j table w m r e
  unfolding simulated open_outcome job_opened answer_of has_moved workers_right
  wrong_workers z wrong =
      sym (halt _ _ refl ∙ pass _ off refl) ∙ ap (simulated j table w m r e) (goes_on j m r number (job_opened j) z) ∙ simulated_is
    where
      off : both (leb 1 w) (leb w 16) ≡ false
      off = ⊎_elim (λ few. both_off _ (lt-leb 1 w few)) (λ many. both_right_off _ (lt-leb w 16 many)) wrong

  -- run, on the words that an opening leaves
  pub runs : {m₁ r₁ m₂ r₂ e₂ : List ℕ} {a : Simulated} → k ≡ 0 → 1 ≤ w → w ≤ 16 → Opens j m r 0 m₁ r₁ → RoundsAll j table w m₁ r₁ a m₂ r₂ e₂
      → simulation a m₂ r₂ e₂ ≡ simulate_outcome j table w m r e
  unfolding simulated answer_of has_moved workers_right
  runs {m₁ = m₁} {r₁ = r₁} z some few o done =
      done ∙ sym (halt _ _ refl ∙ halt _ _ (true_both (le-leb 1 w some) (le-leb w 16 few)))
      ∙ ap (simulated j table w m r e) (o.moved refl) ∙ simulated_is

-- the words that an opening leaves are where a run begins, and the top is unfinished
module _ (j m r : List ℕ) {k : ℕ} {m₁ r₁ : List ℕ} (number : k ≡ job_refusal j m r) (z : k ≡ 0) (o : Opens j m r 0 m₁ r₁) where
  core_is : core_of (open_outcome j m r) ≡ m₁
  unfolding core_of
  core_is = ap core_of (sym (o.moved refl))

  runner_is : runner_of (open_outcome j m r) ≡ r₁
  unfolding runner_of
  runner_is = ap runner_of (sym (o.moved refl))

  pub top_unfinished : unfinished m₁ 0 ≡ true
  unfolding fresh
  top_unfinished =
      let f = fits j m r number z in
      subst (λ (l : List ℕ). unfinished l 0 ≡ true) core_is (facts j f.job m r f.core f.runner).opens

-- OUR TABLE has no large number
pub few_numbers : (l : List ℕ) → All (λ x. x ≤ 1000) l → Table l
unfolding load
few_numbers [] h k = omega arith
few_numbers (x ∷ l) h zero = h.0
few_numbers (x ∷ l) h (suc k) = few_numbers l h.1 k
