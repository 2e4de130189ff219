-- What making a list of steps leaves: both memories, and each answer in its place.
use Rattle.std.specs.Prelude.{◌≡◌, refl, ℕ, ◌+◌, ◌<◌, ◌≤◌, length, take, get_or, set}
use Rattle.std.proofs.Math.Path.{ap, sym}
use Rattle.std.proofs.Common.{ap₂, ◌∙◌, subst₂, add-one, arith, take-suc, take-suc-set, take_all, eq-eqb, ne_eqb}
use Rattle.std.proofs.Math.Bool.{not}
use mathlib.Core.List.{List, [], ◌∷◌, ◌++◌, map, map-append}
use Rattle.spec_words.specs.Words.{size, pick, halt, pass}
use Rattle.spec_lists.specs.Maps.{All, all_append}
use Rattle.spec_runner.specs.declared.StepAnswer.{StepAnswer}
use Rattle.spec_runner.specs.declared.StepAnswer.TheVariants.{Moved, Refused}
use Rattle.spec_runner.specs.Answers.{Outcome, outcome, answer_of, core_of, runner_of, has_moved}
use Rattle.spec_runner.specs.Packed.{packed_step, ValueFits, Packs}
use Rattle.spec_runner.specs.Open.{open_outcome}
use Rattle.spec_runner.specs.Step.{step_tested, step_outcome}
use Rattle.spec_runner.specs.Run.{Steps, behind, steps_from, steps_append, Listed, listed, run_from, run_outcome}
use Rattle.law_any_two.specs.Reached.{Reached, reached_open, reached_tested, reached_step}
use Rattle.runner_open.specs.Opens.{Opens}
use Rattle.runner_words.specs.Refusals.{fits}

-- a step of task t is answered x, which stands packed in place i
pub record Step (j : List ℕ) (t i : ℕ) (m r a m' r' a' : List ℕ) : Type 0 where
  pub answer : StepAnswer
  pub stepped : outcome answer m' r' ≡ step_outcome j m r t
  pub written : a' ≡ set a i (packed_step answer)
  pub value : ValueFits answer
  pub reached : Reached j m' r'

-- the tests of a step pass where a run has come, so what is left of it is the step
pub step_made : (j m r a : List ℕ) (t i : ℕ) {x : StepAnswer} {p : ℕ} {m' r' a' : List ℕ} → Reached j m r → outcome x m' r' ≡ step_tested j m r t
    → Packs x p → a' ≡ set a i p → Step j t i m r a m' r' a'
step_made j m r a t i {x} {p} {m'} {r'} h e w f =
    let o = e ∙ sym (reached_tested h t) in
    record { answer = x; stepped = o; written = f ∙ ap (set a i) w.whole; value = w.value; reached = reached_step h t x m' r' o }

-- THE STEPS of tasks ts on the words m and r have left m' and r', with their answers a
pub record Made (j ts m r m' r' a : List ℕ) : Type 0 where
  pub core : m' ≡ (steps_from j ts m r).core
  pub runner : r' ≡ (steps_from j ts m r).runner
  pub answers : a ≡ map packed_step (steps_from j ts m r).answers
  pub values : All ValueFits (steps_from j ts m r).answers
  pub reached : Reached j m' r'

pub none_made : (j m r : List ℕ) → Reached j m r → Made j [] m r m r []
unfolding steps_from
none_made j m r h = record { core = refl; runner = refl; answers = refl; values = tt; reached = h }

-- one step more
one_step : (j m r : List ℕ) (t : ℕ) (x : StepAnswer) {m2 r2 : List ℕ} → step_outcome j m r t ≡ outcome x m2 r2
    → steps_from j (t ∷ []) m r ≡ record { answers = x ∷ []; core = m2; runner = r2 }
unfolding steps_from answer_of core_of runner_of
one_step j m r t x e = ap (λ (o : Outcome). behind (answer_of o ∷ []) (record { answers = []; core = core_of o; runner = runner_of o })) e

module _ (j ts m r : List ℕ) (t : ℕ) {i : ℕ} {m1 r1 a1 a m2 r2 a2 : List ℕ} (p : Made j ts m r m1 r1 a1) (s : Step j t i m1 r1 a m2 r2 a2) where
  before : Steps
  before = steps_from j ts m r

  whole : steps_from j (ts ++ t ∷ []) m r ≡ record { answers = before.answers ++ s.answer ∷ []; core = m2; runner = r2 }
  unfolding before
  whole =
      steps_append j ts (t ∷ []) m r
      ∙ ap
      (behind before.answers)
      (one_step j before.core before.runner t s.answer (ap₂ (λ (u v : List ℕ). step_outcome j u v t) (sym p.core) (sym p.runner) ∙ sym s.stepped))

  one_more : Made j (ts ++ t ∷ []) m r m2 r2 (a1 ++ packed_step s.answer ∷ [])
  unfolding before
  one_more =
      record {
        core = sym (ap (λ (s : Steps). s.core) whole);
        runner = sym (ap (λ (s : Steps). s.runner) whole);
        answers =
            ap (λ (l : List ℕ). l ++ packed_step s.answer ∷ []) p.answers
            ∙ sym (map-append packed_step before.answers (s.answer ∷ []))
            ∙ ap (λ (s : Steps). map packed_step s.answers) (sym whole);
        values = rw (whole) (all_append ValueFits before.answers (s.answer ∷ []) p.values (s.value, tt));
        reached = s.reached;
      }

-- the same for the first i tasks of a list
pub next_made : (j ts m r : List ℕ) (i t : ℕ) {m1 r1 a1 m2 r2 a2 : List ℕ} → i < length ts → i < length a1 → t ≡ get_or ts i 0
    → Made j (take i ts) m r m1 r1 (take i a1) → Step j t i m1 r1 a1 m2 r2 a2 → Made j (take (i + 1) ts) m r m2 r2 (take (i + 1) a2)
next_made j ts m r i t {m1} {r1} {a1} h l g p s =
    rw (s.written, add-one i, take-suc-set a1 i (packed_step s.answer) l, take-suc ts i 0 h, ← g) (one_more j (take i ts) m r t p s)

-- all steps are made
pub all_made : (j ts m r : List ℕ) {i : ℕ} {m1 r1 a : List ℕ} → length ts ≤ i → length a ≡ length ts → Made j (take i ts) m r m1 r1 (take i a)
    → Made j ts m r m1 r1 a
all_made j ts m r {i} {m1} {r1} {a} h e p = rw (← take_all i ts h, ← take_all i a (omega (arith, e, h))) p

-- a run begins at the words that an opening leaves
pub opened_reached : (j m r : List ℕ) {k : ℕ} {m1 r1 : List ℕ} → Opens j m r k m1 r1 → k ≡ 0 → Reached j m1 r1
unfolding core_of runner_of
opened_reached j m r o z =
    let f = fits j m r o.number z in
    subst₂ (Reached j) (ap core_of (sym (o.moved z))) (ap runner_of (sym (o.moved z))) (reached_open j m r f.job f.core f.runner)

-- A CALL: wrong lengths, an opening that is refused, all steps
module _ (j m r ts a : List ℕ) where
  pub other_length : (length a ≡ length ts → ⊥) → listed (Refused 1) m r a ≡ run_outcome j m r ts a
  unfolding run_outcome size
  other_length n = sym (halt _ _ (ap not (ne_eqb _ _ n)))

  module _ (e : length a ≡ length ts) {k : ℕ} {m1 r1 : List ℕ} (o : Opens j m r k m1 r1) where
    goes_on : {x : Listed} → x ≡ run_from j ts a (open_outcome j m r) → x ≡ run_outcome j m r ts a
    unfolding run_outcome size
    goes_on f = f ∙ sym (pass _ (ap not (eq-eqb _ _ e)) refl)

    pub stays_shut : (k ≡ 0 → ⊥) → listed (Refused k) m1 r1 a ≡ run_outcome j m r ts a
    unfolding run_from answer_of core_of runner_of has_moved pick
    stays_shut n = goes_on (ap (run_from j ts a) (o.refused n))

    pub runs : k ≡ 0 → {m2 r2 a2 : List ℕ} → Made j ts m1 r1 m2 r2 a2 → listed Moved m2 r2 a2 ≡ run_outcome j m r ts a
    unfolding run_from answer_of core_of runner_of has_moved pick
    runs z p = goes_on (rw (p.core, p.runner, p.answers) (ap (run_from j ts a) (o.moved z)))
