-- WHERE AN ANSWER COMES FROM, and what the first difference is.
use Rattle.std.specs.Prelude.{◌≡◌, refl, Bool, true, false, ℕ, zero, suc, ◌+◌, ◌<◌}
use Rattle.std.proofs.Common.{ap, ap₂, sym, ◌∙◌, subst, arith}
use Rattle.std.proofs.lemmas.Bool.{false≢true}
use mathlib.Core.List.{List, [], ◌∷◌, ◌++◌, append-nil, append_assoc, flatten}
use Rattle.std.proofs.Math.Option.{Option, none, some, none-ne-some}
use Rattle.spec_words.specs.Words.{pick, halt}
use Rattle.spec_lists.specs.Maps.{All, last_append}
use Rattle.spec_runner.specs.Answers.{has_moved, answer_of, core_of, runner_of}
use Rattle.spec_runner.specs.Open.{open_outcome}
use Rattle.spec_trace.specs.declared.Line.{Line}
use Rattle.spec_trace.specs.declared.Line.TheVariants.{Call, Left, Open}
use Rattle.spec_trace.specs.Line.{render, render_all, Valid}
use Rattle.spec_trace.specs.Form.{trace_lines, Trace}
use Rattle.law_trace.specs.Feeds.{IsLine, EndsLine, feed_ends}
use Rattle.law_trace.specs.Digits.{either_way}
use Rattle.law_trace.specs.Rendered.{rendered_line}
use Rattle.law_trace.specs.Whole.{reads, read}
use Rattle.spec_replay.specs.declared.Replayed.{Replayed}
use Rattle.spec_replay.specs.declared.Replayed.TheVariants.{Agrees, Differs, Refused}
use Rattle.spec_replay.specs.Expected.{printed_from}
use Rattle.spec_replay.specs.Replay.{tasks_of, is_same_text, first_difference, judgement, judged, replay_answer}
use Rattle.spec_replay.specs.Same.{text_same}
use Rattle.runner_words.specs.Refusals.{Fits}
use Rattle.law_replay.specs.Opened.{opening, has_opened}

-- the texts with which the lines ls are compared, and the number of the first that differs
unfoldable pub expected : List ℕ → List ℕ → List ℕ → List Line → List (List ℕ)
expected j m r ls = let o = open_outcome j m r in printed_from j 0 (tasks_of ls) (core_of o) (runner_of o)

abbrev pub difference : List ℕ → List ℕ → List ℕ → List Line → ℕ
difference j m r ls = first_difference 0 ls (expected j m r ls)

pub replays : {j m r xs : List ℕ} {ls : List Line} → Fits j m r → Trace xs ls → replay_answer j xs m r ≡ judgement (difference j m r ls)
unfolding replay_answer expected judged
replays {j} {m} {r} o t = halt _ _ (has_opened o) ∙ ap (λ (x : Option (List Line)). judged j x (open_outcome j m r)) (reads t)

-- THE THREE WAYS: a trace is compared, has no form, or the opening is refused
pub by_answer : (j xs m r : List ℕ) (P : Replayed → Type 0)
    → (Fits j m r → (ls : List Line) → Trace xs ls → P (judgement (difference j m r ls)))
    → (Fits j m r → ((ls : List Line) → Trace xs ls → ⊥) → P (Refused 13))
    → ((k : ℕ) → (k ≡ 13 → ⊥) → (Fits j m r → ⊥) → P (Refused k)) → P (replay_answer j xs m r)
unfolding replay_answer expected judged
by_answer j xs m r P compared formless refused =
    either_way P (has_moved (answer_of (open_outcome j m r)))
    (λ h. go ((opening j m r).0 h) (trace_lines xs) refl)
    (λ h. refused _ (opening j m r).1 (λ o. false≢true (sym h ∙ has_opened o)))
  where
    go : Fits j m r → (x : Option (List Line)) → trace_lines xs ≡ x → P (judged j x (open_outcome j m r))
    go o none e = formless o (λ ls t. none-ne-some ls (sym e ∙ reads t))
    go o (some ls) e = compared o ls (read e)

pub agrees_zero : (d : ℕ) → judgement d ≡ Agrees → d ≡ 0
unfolding judgement
agrees_zero zero e = refl
agrees_zero (suc d) e = let z : ◌≡◌ {A = ℕ} 0 1 = cc in absurd (omega (arith, z))

pub differs_at : (d n : ℕ) → judgement d ≡ Differs n → (d ≡ n) × (0 < d)
unfolding judgement
differs_at zero n e = let z : ◌≡◌ {A = ℕ} 0 1 = cc in absurd (omega (arith, z))
differs_at (suc d) n e = ((cc), omega arith)

pub never_refused : (d k : ℕ) → judgement d ≡ Refused k → ⊥
unfolding judgement
never_refused zero k e = let z : ◌≡◌ {A = ℕ} 0 1 = cc in omega (arith, z)
never_refused (suc d) k e = let z : ◌≡◌ {A = ℕ} 0 1 = cc in omega (arith, z)

-- WHERE NO LINE DIFFERS, the lines are the first of those expected
agreed : (b : Bool) (x n : ℕ) → pick b x (n + 1) ≡ 0 → (b ≡ true) × (x ≡ 0)
unfolding pick
agreed true x n e = (refl, e)
agreed false x n e = let z : ⊥ = omega (arith, e) in absurd z

pub same_text : (n : ℕ) (ls : List Line) (es : List (List ℕ)) → first_difference n ls es ≡ 0 → (rest : List ℕ) × (render_all ls ++ rest ≡ flatten es)
unfolding first_difference render_all flatten
same_text n [] es e = (flatten es, refl)
same_text n (l ∷ ls) [] e = let z : ⊥ = omega (arith, e) in absurd z
same_text n (l ∷ ls) (t ∷ ts) e =
    let a = agreed (is_same_text (render l) t) _ n e in
    let more = same_text (n + 1) ls ts a.1 in (
      more.0,
      append_assoc (render l) (render_all ls) more.0 ∙ ap₂ (λ (u v : List ℕ). u ++ v) (text_same (render l) t a.0) more.1,
    )

-- LINES END WITH A LINE
ends_append : (t ys : List ℕ) → EndsLine t → EndsLine ys → EndsLine (t ++ ys)
ends_append t [] h k = subst EndsLine (sym (append-nil t)) h
ends_append [] (y ∷ ys) h k = k
ends_append (x ∷ t) (y ∷ ys) h k = last_append x t y ys ∙ k

line_ends : {t : List ℕ} → IsLine t → EndsLine t
line_ends l = subst EndsLine (sym l.whole) (feed_ends l.body)

pub lines_end : (ls : List Line) → EndsLine (render_all ls)
unfolding render_all
lines_end [] = tt
lines_end (l ∷ ls) = ends_append (render l) (render_all ls) (line_ends (rendered_line l)) (lines_end ls)

-- THE TASKS of lines are bytes
pub task_bytes : (ls : List Line) → All Valid ls → All (λ t. t < 256) (tasks_of ls)
unfolding tasks_of
task_bytes [] v = tt
task_bytes (Call n t k x ∷ ls) v = (v.0.task, task_bytes ls v.1)
task_bytes (Left q x ∷ ls) v = task_bytes ls v.1
task_bytes (Open n ∷ ls) v = task_bytes ls v.1
