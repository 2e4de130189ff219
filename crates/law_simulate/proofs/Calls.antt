-- THE FACTS HOLD, for every accepted job, of every list of calls from a fresh opening.
use Rattle.std.specs.Prelude.{◌≡◌, Bool, true, false, ℕ, ◌+◌, ◌<◌}
use Rattle.std.proofs.Math.Path.{refl, ap}
use Rattle.std.proofs.Common.{sym, ◌∙◌, subst, true≢false, arith}
use Rattle.std.proofs.Math.Bool.{not}
use mathlib.Core.List.{List, [], ◌∷◌, ◌++◌, append-nil}
use Rattle.spec_words.specs.Words.{size, pick, either, halt}
use Rattle.spec_lists.specs.Counting.{occurrences, occurs_nil, occurs_cons, member_occurs, occurs_member}
use Rattle.spec_layout.specs.Layout.{WORDS, record_of}
use Rattle.spec_answers.specs.declared.Answer.TheVariants.{Moved}
use Rattle.spec_order.specs.Steps.{Item, step, spot, number_of, begin}
use Rattle.spec_order.specs.Waits.{some_spot, unfinished as unfinishedBy}
use Rattle.spec_line.specs.Line.{Item as LineItem}
use Rattle.law_job_order.specs.Beside.{Numbered, Beside}
use Rattle.law_job_order.specs.Located.{stands_unfinished}
use Rattle.spec_tree.specs.Tour.{MARKS, tour, entered}
use Rattle.spec_outcomes.specs.Waits.{unfinished}
use Rattle.spec_job.specs.Test.{job_answer}
use Rattle.spec_runner.specs.Words.{RUNNER}
use Rattle.spec_runner.specs.declared.StepAnswer.TheVariants.{Refused}
use Rattle.spec_runner.specs.Answers.{has_moved, status_of, answer_of}
use Rattle.spec_runner.specs.Step.{step_tested}
use Rattle.law_links.specs.Linked.{numbers_back}
use Rattle.law_any_order.specs.Statement.{Stand, after_calls, fresh, step_answer, Wants, a_record, a_segment}
use Rattle.law_any_order.proofs.States.{state_unfinished}
use Rattle.law_any_order.proofs.Running.{Running}
use Rattle.law_any_order.proofs.Called.{Mover}
use Rattle.law_any_order.proofs.AnyOrder.{no_ticks, under_way, some_ready, only, mover}
use Rattle.law_any_order.proofs.Unfinished.{top_last, in_program_order_lem, unfinished_toured, toured_unfinished}
use Rattle.law_any_two.specs.Statement.{Still}
use Rattle.law_any_two.proofs.Stable.{stability}
use Rattle.law_any_two.specs.Reached.{Reached, reached_tested}
use Rattle.spec_simulate.specs.Machine.{back_onto, in_program_order}
use Rattle.law_simulate.specs.Schedule.{numbers}
use Rattle.law_simulate.proofs.Facts.{Facts}
use Rattle.law_simulate.proofs.Keeps.{calls_append}

-- the last first, and back again
back_append : (xs ys zs : List ℕ) → back_onto (xs ++ ys) zs ≡ back_onto ys (back_onto xs zs)
unfolding back_onto
back_append [] ys zs = refl
back_append (x ∷ xs) ys zs = back_append xs ys (x ∷ zs)

back_twice : (xs : List Item) (ys : List ℕ) → back_onto (numbers_back xs) ys ≡ numbers xs ++ ys
unfolding numbers_back numbers back_onto
back_twice [] ys = refl
back_twice (step p a ∷ xs) ys = back_twice xs ys
back_twice (spot s ∷ xs) ys =
    back_append (numbers_back xs) (number_of s ∷ []) ys ∙ ap (λ (l : List ℕ). number_of s ∷ l) (back_twice xs ys)

-- a number occurs as often
back_occurs : (t : ℕ) (xs ys : List ℕ) → occurrences t (back_onto xs ys) ≡ occurrences t xs + occurrences t ys
unfolding back_onto
back_occurs t [] ys = let a = occurs_nil t in omega (arith, a)
back_occurs t (x ∷ xs) ys =
    let a = back_occurs t xs (x ∷ ys) in
    let b = occurs_cons x t xs in
    let c = occurs_cons x t ys in
    omega (arith, a, b, c)

pub order_occurs : (t : ℕ) (m : List ℕ) → occurrences t (in_program_order m) ≡ occurrences t (entered (tour MARKS (record_of m) 0))
unfolding in_program_order
order_occurs t m = let a = back_occurs t (entered (tour MARKS (record_of m) 0)) [] in let b = occurs_nil t in omega (arith, a, b)

module _ (j : List ℕ) (accept : job_answer j ≡ Moved 0) (m r : List ℕ) (sm : size m ≡ WORDS) (sr : size r ≡ RUNNER) where
  abbrev at : List ℕ → Stand
  at ts = after_calls j ts (fresh j m r)

  run : (ts : List ℕ) → Running j no_ticks (at ts) (under_way j accept no_ticks m r sm sr ts).0
  run ts = (under_way j accept no_ticks m r sm sr ts).1

  in_order : (ts : List ℕ) → unfinished (at ts).core 0 ≡ true → in_program_order (at ts).core ≡ numbers (at ts).order
  unfolding in_program_order
  in_order ts top =
      ap (λ (l : List ℕ). back_onto l []) (in_program_order_lem (run ts) top) ∙ back_twice (at ts).order [] ∙ append-nil (numbers (at ts).order)

  -- only an unfinished task moves
  moves_unfinished : (ts : List ℕ) (t : ℕ) → has_moved (step_answer j (at ts) t) ≡ true → unfinished (at ts).core t ≡ true
  moves_unfinished ts t moved = go (run ts) (mover j no_ticks accept (at ts) _ (run ts) t moved)
    where
      go : {l : List (LineItem Numbered)} → Running j no_ticks (at ts) l → Mover j no_ticks accept (at ts) l t → unfinished (at ts).core t ≡ true
      go q w =
          state_unfinished (at ts).core (at ts).order q.state t
          ∙ subst (λ (i : ℕ). unfinishedBy i (at ts).order ≡ true) w.number
          (stands_unfinished j w.before w.behind w.who (subst (Beside j (at ts).order) w.here q.beside))

  -- a task that is not gets 4
  finished_four : (ts : List ℕ) (t : ℕ) → unfinished (at ts).core t ≡ false → step_answer j (at ts) t ≡ Refused 4
  unfolding step_answer step_tested answer_of
  finished_four ts t f =
      let h : Reached j (at ts).core (at ts).runner =
      record { accept = accept; stand = at ts; line = (under_way j accept no_ticks m r sm sr ts).0; run = run ts; core = refl; runner = refl } in
      ap answer_of (reached_tested h t ∙ halt _ _ (ap not f))

  -- so one that wants a record or a segment is unfinished
  wants_unfinished : (ts : List ℕ) (t : ℕ) → Wants j (at ts) t → unfinished (at ts).core t ≡ true
  unfolding status_of
  wants_unfinished ts t want = go (unfinished (at ts).core t) refl
    where
      status_of_lem : Wants j (at ts) t → ¬ (status_of (step_answer j (at ts) t) ≡ 4)
      status_of_lem (a_record k e c n) four = let b = ap status_of e in omega (arith, b, four)
      status_of_lem (a_segment q v e c n f) four = let b = ap status_of e in omega (arith, b, four)

      four : unfinished (at ts).core t ≡ false → ⊥
      four f = status_of_lem want (ap status_of (finished_four ts t f))

      go : (b : Bool) → unfinished (at ts).core t ≡ b → b ≡ true
      go true e = refl
      go false e = absurd (four e)

  top_at_first : unfinished (fresh j m r).core 0 ≡ true
  unfolding after_calls
  top_at_first =
      state_unfinished (fresh j m r).core (fresh j m r).order (run []).state 0 ∙ (unfold fresh unfinishedBy some_spot begin number_of either pick in refl)

  -- while any task is unfinished the top is
  alive : (ts : List ℕ) (t : ℕ) → unfinished (at ts).core t ≡ true → unfinished (at ts).core 0 ≡ true
  alive ts t there = go (unfinished (at ts).core 0) refl
    where
      go : (b : Bool) → unfinished (at ts).core 0 ≡ b → b ≡ true
      go true e = refl
      go false e = absurd (true≢false (sym there ∙ top_last (run ts) e t))

  pub facts : Facts j m r
  facts =
      record {
        opens = top_at_first;
        still = λ ts us t differ moved.
            subst (λ (s : Stand). Still j (at ts) s t) (sym (calls_append j ts us (fresh j m r))) (stability j accept m r sm sr ts us t differ moved);
        others = λ ts t no_move. only j no_ticks accept (at ts) _ (run ts) t no_move;
        ready = λ ts t there. some_ready j no_ticks accept (at ts) _ (run ts) t there;
        last = λ ts f. top_last (run ts) f;
        order = in_order;
        among = λ ts t there.
            subst (λ (n : ℕ). 0 < n) (sym (order_occurs t (at ts).core)) (member_occurs t _ (unfinished_toured (run ts) (alive ts t there) t there));
        unfinished_among = λ ts t occurs top.
            toured_unfinished (run ts) top t (occurs_member t _ (subst (λ (n : ℕ). 0 < n) (order_occurs t (at ts).core) occurs));
        mover = moves_unfinished;
        wanter = wants_unfinished;
      }
