-- What the parts of a replay say.
use Rattle.std.specs.Prelude.{◌≡◌, refl, Bool, true, false, ℕ, ◌+◌, ◌/◌, ◌%◌, ◌<◌, Result as Checked, MatchResult}
use Rattle.std.proofs.Math.Path.{ap, ap₂}
use Rattle.std.proofs.Common.{sym, ◌∙◌, subst, true≢false, arith}
use mathlib.Core.Option.{none}
use mathlib.Core.List.{List, ◌∷◌, ◌++◌}
use Rattle.spec_words.specs.Words.{pick, halt, pass}
use Rattle.spec_runner.specs.declared.StepAnswer.{StepAnswer}
use Rattle.spec_runner.specs.Answers.{status_of, value_of, Outcome, outcome, answer_of, core_of, runner_of}
use Rattle.spec_runner.specs.Packed.{Packs}
use Rattle.spec_runner.proofs.Packed.{status_half, value_half}
use Rattle.spec_runner.specs.Step.{step_tested, step_outcome}
use Rattle.run_text.specs.Lines.{line}
use Rattle.spec_trace.specs.declared.Line.{Line}
use Rattle.spec_trace.specs.declared.Line.TheVariants.{Call, Left, Open}
use Rattle.spec_trace.specs.Line.{render}
use Rattle.spec_trace.specs.Form.{is_call}
use Rattle.spec_replay.specs.declared.Replayed.{Replayed}
use Rattle.spec_replay.specs.declared.Replayed.TheVariants.{Refused}
use Rattle.spec_replay.specs.Expected.{call_text, end_texts, printed_from}
use Rattle.spec_replay.specs.Replay.{tasks_of, is_same_text, first_difference, replay_answer}
use Rattle.law_any_two.specs.Reached.{Reached, reached_tested, reached_step}
use Rattle.spec_trace.specs.Read.{line_at}
use Rattle.replay.specs.declared.Place.{Place}
use Rattle.replay.specs.At.{lines_of, Room, none_left, Next}

unfoldable pub task_of : Line → ℕ
task_of (Call n t k v) = t
task_of (Left q v) = 0
task_of (Open n) = 0

-- the task of a call line l behind c lines has moved, and b says whether the line is the one that is printed
pub record Stepped (j : List ℕ) (c : ℕ) (l : Line) (b : Bool) (m r m' r' : List ℕ) : Type 0 where
  pub same : b ≡ is_same_text (render l) (call_text c (task_of l) (step_outcome j m r (task_of l)))
  pub core : m' ≡ core_of (step_outcome j m r (task_of l))
  pub runner : r' ≡ runner_of (step_outcome j m r (task_of l))
  pub reached : Reached j m' r'

-- the first line of a trace that differs from what is printed from the words m and r on
unfoldable pub difference : List ℕ → List ℕ → List ℕ → List ℕ → ℕ
difference j bs m r = first_difference 0 (lines_of bs) (printed_from j 0 (tasks_of (lines_of bs)) m r)

-- the number of the line that differs, 0 where none does
abbrev pub DiffersAt : Checked (Unit {0}) ℕ → ℕ → Type 0
DiffersAt o a = MatchResult o (λ _. a ≡ 0) (λ n. (a ≡ n) × (0 < n))

pub differs_as : (o : Checked (Unit {0}) ℕ) {a b : ℕ} → a ≡ b → DiffersAt o b → DiffersAt o a
differs_as o e d = subst (DiffersAt o) (sym e) d

-- Lines were compared. The first difference is a: that of the last of them, or it is found by comparing the lines that are left with es.
abbrev pub Compared : Checked Place ℕ → ℕ → List (List ℕ) → Type 0
Compared o a es =
    MatchResult o (λ p. (a ≡ first_difference p.lines (lines_of p.rest.now) es) × Room p.rest.now p.lines) (λ n. (a ≡ n) × (0 < n))

-- the same where the lines ts are expected first, and then any others
abbrev pub Passed : Checked Place ℕ → List ℕ → ℕ → List (List ℕ) → Type 0
Passed o bs n ts = (es : List (List ℕ)) → Compared o (first_difference n (lines_of bs) (ts ++ es)) es

-- THE WHOLE: no refused replay changes a word
pub record Replays (j bs m r : List ℕ) (a : Replayed) (m' r' : List ℕ) : Type 0 where
  pub answer : a ≡ replay_answer j bs m r
  pub refused : (k : ℕ) → a ≡ Refused k → (m' ≡ m) × (r' ≡ r)

-- A CALL: its step behind the tests is the step, since a run has come there
pub call_stepped : (j m r : List ℕ) (c n t k v : ℕ) {x : StepAnswer} {b : Bool} {a s y : ℕ} {m' r' : List ℕ} → Reached j m r
    → outcome x m' r' ≡ step_tested j m r t → Packs x a → s ≡ a / 4294967296 → y ≡ a % 4294967296
    → b ≡ is_same_text (render (Call n t k v)) (line (c + 1) t s y) → Stepped j c (Call n t k v) b m r m' r'
unfolding task_of call_text answer_of core_of runner_of
call_stepped j m r c n t k v {x} {b} {a} {s} {y} {m'} {r'} h e p es ey eb =
    let o : outcome x m' r' ≡ step_outcome j m r t = e ∙ sym (reached_tested h t) in
    let hs : s ≡ status_of x = es ∙ ap (λ (z : ℕ). z / 4294967296) p.whole ∙ status_half x p.value in
    let hy : y ≡ value_of x = ey ∙ ap (λ (z : ℕ). z % 4294967296) p.whole ∙ value_half x p.value in
    record {
      same =
          eb
          ∙ ap₂ (λ (s y : ℕ). is_same_text (render (Call n t k v)) (line (c + 1) t s y)) hs hy
          ∙ ap (λ (z : Outcome). is_same_text (render (Call n t k v)) (call_text c t z)) o;
      core = ap core_of o;
      runner = ap runner_of o;
      reached = reached_step h t x m' r' o;
    }

-- THE CALLS: n lines are compared, the bytes ds are left, and their tasks have moved
pub record Going (j bs m₀ r₀ ds : List ℕ) (n : ℕ) (m r : List ℕ) : Type 0 where
  pub room : Room ds n
  pub reached : Reached j m r
  pub same : difference j bs m₀ r₀ ≡ first_difference n (lines_of ds) (printed_from j n (tasks_of (lines_of ds)) m r)

tasks_call : (l : Line) (ls : List Line) → is_call l ≡ true → tasks_of (l ∷ ls) ≡ task_of l ∷ tasks_of ls
unfolding is_call tasks_of task_of
tasks_call (Call n t k v) ls e = refl
tasks_call (Left q v) ls e = absurd (true≢false (sym e))
tasks_call (Open n) ls e = absurd (true≢false (sym e))

no_call_line : (l : Line) → ((n t k v : ℕ) → l ≡ Call n t k v → ⊥) → is_call l ≡ false
unfolding is_call
no_call_line (Call n t k v) f = absurd (f n t k v refl)
no_call_line (Left q v) f = refl
no_call_line (Open n) f = refl

pub begun : (j bs m r : List ℕ) → Reached j m r → Room bs 0 → Going j bs m r bs 0 m r
unfolding difference
begun j bs m r h g = record { room = g; reached = h; same = refl }

module _ {j bs m₀ r₀ ds : List ℕ} {n : ℕ} {m r : List ℕ} (g : Going j bs m₀ r₀ ds n m r) where
  -- nothing is left
  pub all_compared : (line_at ds).rest ≡ none → (difference j bs m₀ r₀ ≡ first_difference n (lines_of ds) (end_texts m)) × Room ds n
  unfolding first_difference
  all_compared h =
      let z = none_left g.room h in (
        g.same
            ∙ ap (λ (ls : List Line). first_difference n ls (printed_from j n (tasks_of ls) m r)) z
            ∙ ap (λ (ls : List Line). first_difference n ls (end_texts m)) (sym z),
        g.room,
      )

  module _ {l : Line} {rs : List ℕ} (x : Next ds n l rs) where
    -- a line of the end
    pub calls_over : ((n t k v : ℕ) → l ≡ Call n t k v → ⊥) → (difference j bs m₀ r₀ ≡ first_difference n (lines_of ds) (end_texts m)) × Room ds n
    unfolding printed_from
    calls_over e =
        (g.same ∙ ap (λ (ts : List ℕ). first_difference n (lines_of ds) (printed_from j n ts m r)) (x.ended (no_call_line l e)), g.room)

    module _ {i t k v : ℕ} (e : l ≡ Call i t k v) {b : Bool} {m' r' : List ℕ} (s : Stepped j n (Call i t k v) b m r m' r') where
      rest : ℕ
      rest = first_difference (n + 1) (lines_of rs) (printed_from j (n + 1) (tasks_of (lines_of rs)) m' r')

      one_line : difference j bs m₀ r₀ ≡ pick b rest (n + 1)
      unfolding rest first_difference printed_from
      one_line =
          g.same
          ∙ ap (λ (ls : List Line). first_difference n ls (printed_from j n (tasks_of ls) m r)) (x.lines ∙ ap (λ (l : Line). l ∷ lines_of rs) e)
          ∙ ap (λ (ts : List ℕ). first_difference n (c ∷ lines_of rs) (printed_from j n ts m r)) (tasks_call c (lines_of rs) said)
          ∙ ap₂ (λ (u v : List ℕ). pick (is_same_text (render c) (call_text n (task_of c) (step_outcome j m r (task_of c))))
          (first_difference (n + 1) (lines_of rs) (printed_from j (n + 1) (tasks_of (lines_of rs)) u v)) (n + 1)) (sym s.core) (sym s.runner)
          ∙ ap (λ (c : Bool). pick c rest (n + 1)) (sym s.same)
        where
          c : Line
          c = Call i t k v

          said : is_call c ≡ true
          said = unfold is_call in refl

      pub call_differs : b ≡ false → (difference j bs m₀ r₀ ≡ n + 1) × (0 < n + 1)
      call_differs f = (one_line ∙ pass _ f refl, omega arith)

      pub call_same : b ≡ true → Going j bs m₀ r₀ rs (n + 1) m' r'
      unfolding rest
      call_same f = record { room = x.room; reached = s.reached; same = one_line ∙ halt _ _ f }
