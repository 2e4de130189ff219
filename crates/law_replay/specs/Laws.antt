-- A REPLAY SAYS WHETHER A TRACE IS THAT OF A RUN.
use Rattle.std.specs.Prelude.{◌≡◌, refl, false, ℕ, ◌<◌, ◌≤◌, take, drop}
use Rattle.std.proofs.Math.Path.{ap, sym, subst}
use Rattle.std.proofs.Common.{◌∙◌, arith, take-append-drop, length-take-le}
use mathlib.Core.List.{List, [], ◌∷◌, ◌++◌, append_assoc, append-nil, flatten}
use Rattle.std.proofs.Math.ListN.{length, length-append}
use Rattle.std.proofs.Math.Seq.{append_snoc}
use Rattle.spec_lists.specs.Maps.{All, all_front}
use Rattle.spec_runner.specs.Answers.{core_of, runner_of}
use Rattle.spec_runner.specs.Open.{open_outcome}
use Rattle.spec_trace.specs.declared.Line.{Line}
use Rattle.spec_trace.specs.Line.{render, render_all, Valid}
use Rattle.spec_trace.specs.Form.{CallsFirst, Trace}
use Rattle.law_trace.specs.Feeds.{feeds, EndsLine}
use Rattle.law_trace.specs.Rendered.{rendered_line, feeds_rendered, whole_rendered}
use Rattle.spec_replay.specs.declared.Replayed.{Replayed}
use Rattle.spec_replay.specs.declared.Replayed.TheVariants.{Agrees, Differs, Refused}
use Rattle.spec_replay.specs.Expected.{printed_from}
use Rattle.spec_replay.specs.Replay.{tasks_of, first_difference, judgement, replay_answer}
use Rattle.law_values_fit.specs.Fit.{answers_fit, left_fits}
use Rattle.runner_words.specs.Refusals.{Fits}
use Rattle.law_replay.specs.Statement.{Beginning, Differing}
use Rattle.law_replay.specs.Opened.{program_text}
use Rattle.law_replay.specs.Answered.{expected, difference, by_answer, agrees_zero, differs_at, never_refused, same_text, lines_end, task_bytes}
use Rattle.law_replay.specs.Fronts.{front_replays, own_texts, flat_texts, render_append, find}
use Rattle.law_replay.specs.Lines.{printed_lines}

-- WHAT A RUN PRINTED AGREES: an accepted job of bytes, and a beginning of what is printed for it
pub printed_agrees : (j xs m r : List ℕ) → Fits j m r → All (λ b. b < 256) j → Beginning j xs → replay_answer j xs m r ≡ Agrees
unfolding expected judgement
printed_agrees j xs m r o bytes b =
    let e = o.job in
    let x = open_outcome j m r in
    let ts = b.tasks in
    let p =
    printed_lines j ts 0 (core_of x) (runner_of x) b.bytes (answers_fit j bytes e m r o.core o.runner ts)
    (left_fits j bytes e m r o.core o.runner ts)
    in
    let ls = p.lines in
    let w = whole_rendered ls xs b.rest (b.printed ∙ sym (flat_texts ls ∙ ap flatten p.text ∙ program_text o ts)) b.whole in
    let k = w.count in
    let long = length-take-le k ls w.few in
    let back = take-append-drop k ls in
    let few : k ≤ 65535 = let f = b.few in let g = ap feeds w.front ∙ feeds_rendered (take k ls) in omega (arith, f, g, long) in
    ap (λ (us : List ℕ). replay_answer j us m r) w.front
    ∙ front_replays o (take k ls) (drop k ls) (p.valid k (omega (arith, few))) (omega (arith, few, long)) (subst (CallsFirst false) (sym back) p.order)
    ∙ ap (λ (ts : List ℕ). judgement (first_difference 0 (take k ls) (printed_from j 0 ts (core_of x) (runner_of x)))) (ap tasks_of back ∙ p.tasks)
    ∙ ap (λ (es : List (List ℕ)). judgement (first_difference 0 (take k ls) es)) (sym p.text)
    ∙ ap judgement (own_texts k 0 ls)

-- an answer that is another
wrong : {A : Type 0} {a b : Replayed} → a ≡ b → (a ≡ b → ◌≡◌ {A = ℕ} 0 1) → A
wrong e f = let z = f e in absurd (omega (arith, z))

module _ (j xs m r : List ℕ) where
  -- WHAT AGREES WAS PRINTED by a run of an accepted job
  pub agrees_printed : replay_answer j xs m r ≡ Agrees → Fits j m r × Beginning j xs
  unfolding expected
  agrees_printed =
      by_answer j xs m r (λ a. a ≡ Agrees → Fits j m r × Beginning j xs)
      (λ o ls t e.
      let s = same_text 0 ls _ (agrees_zero _ e) in (
        o,
        record {
          tasks = tasks_of ls;
          bytes = task_bytes ls t.valid;
          rest = s.0;
          printed = ap (λ (u : List ℕ). u ++ s.0) (sym t.text) ∙ s.1 ∙ program_text o (tasks_of ls);
          whole = subst EndsLine t.text (lines_end ls);
          few = let f = t.few in let g = ap feeds (sym t.text) ∙ feeds_rendered ls in omega (arith, f, g);
        },
      ))
      (λ o n e. wrong e (λ q. cc))
      (λ k n o e. wrong e (λ q. cc))

  -- "THE NUMBER OF THE FIRST LINE THAT DIFFERS"
  first_different : (n : ℕ) → Fits j m r → (ls : List Line) → Trace xs ls → judgement (difference j m r ls) ≡ Differs n → Differing j xs m r n
  unfolding render_all judgement
  first_different n o ls t e =
      let at = differs_at _ n e in
      let f = find 0 ls (expected j m r ls) at.1 in
      let p = f.before in
      let l = f.line in
      let q = f.behind in
      let more = append_snoc p l q ∙ f.parts in
      let text = render_append p (l ∷ []) ∙ ap (λ (u : List ℕ). render_all p ++ u) (append-nil (render l)) in
      let differ = ap (λ (u : List ℕ). replay_answer j u m r) (sym text) ∙ first (p ++ (l ∷ [])) q more ∙ ap judgement f.differ ∙ e in
      record {
        before = render_all p;
        line = render l;
        behind = render_all q;
        parts =
            sym t.text ∙ ap render_all (sym f.parts) ∙ render_append p (l ∷ q)
            ∙ sym (append_assoc (render_all p) (render l) (render_all q));
        number = let a = feeds_rendered p in let b = f.number in let c = at.0 in omega (arith, a, b, c);
        ends = lines_end p;
        one = rendered_line l;
        agree = first p (l ∷ q) f.parts ∙ ap judgement f.agree;
        differ = differ;
        unprinted = λ bytes b. wrong (sym differ ∙ printed_agrees j (render_all p ++ render l) m r o bytes b) (λ z. cc);
      }
    where
      first : (p q : List Line) → p ++ q ≡ ls → replay_answer j (render_all p) m r ≡ judgement (first_difference 0 p (expected j m r ls))
      first p q s =
          front_replays o p q (all_front Valid p q (subst (All Valid) (sym s) t.valid))
          (let a = ap length s in let b = t.few in omega (arith, a, b, length-append p q))
          (subst (CallsFirst false) (sym s) t.order)
          ∙ ap (λ (us : List Line). judgement (first_difference 0 p (expected j m r us))) s

  pub differs_first : (n : ℕ) → replay_answer j xs m r ≡ Differs n → Differing j xs m r n
  differs_first n =
      by_answer j xs m r (λ a. a ≡ Differs n → Differing j xs m r n) (first_different n) (λ o n e. wrong e (λ q. cc)) (λ k n o e. wrong e (λ q. cc))

  -- WHAT IS REFUSED WITH 13 HAS NO FORM: it is the text of no lines, calls first, of which there are at most 65,535
  pub refused_form : replay_answer j xs m r ≡ Refused 13 → (ls : List Line) → Trace xs ls → ⊥
  refused_form =
      by_answer j xs m r (λ a. a ≡ Refused 13 → (ls : List Line) → Trace xs ls → ⊥)
      (λ o ls t e. absurd (never_refused _ 13 e))
      (λ o n e. n)
      (λ k n o e. absurd (n (cc)))

  -- and without a form the answer is 13, where the opening is not refused
  pub form_refused : Fits j m r → ((ls : List Line) → Trace xs ls → ⊥) → replay_answer j xs m r ≡ Refused 13
  form_refused opens f =
      by_answer j xs m r (λ a. a ≡ Refused 13) (λ o ls t. absurd (f ls t)) (λ o n. refl) (λ k n o. absurd (o opens))
