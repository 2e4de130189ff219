-- What a step does, operation by operation: those that look in no queue.
use Rattle.std.specs.Prelude.{◌≡◌, true, false, ℕ, ◌<◌}
use Rattle.std.proofs.Math.Path.{refl, ap, subst}
use Rattle.std.proofs.Common.{sym, ◌∙◌, ltb-true}
use Rattle.std.proofs.lemmas.Bool.{false≢true}
use mathlib.Core.List.{List, [], ◌∷◌, ◌++◌}
use Rattle.std.proofs.Math.Logic.{⊎_elim}
use Rattle.std.proofs.Math.Option.{Option, none, some}
use Rattle.spec_words.specs.Words.{pick, both_true}
use Rattle.spec_lists.specs.Maps.{All}
use Rattle.spec_tree.specs.Rights.{pushes as mayPush, subset}
use Rattle.spec_answers.specs.declared.Answer.{Answer}
use Rattle.spec_answers.specs.declared.Answer.TheVariants.{Moved, Waits, Refused}
use Rattle.spec_answers.specs.Answers.{words_of}
use Rattle.spec_answers.specs.Calls.{Call, spawn_call, push_call, sync_call, finish_call}
use Rattle.spec_outcomes.specs.Outcomes.{outcome_of}
use Rattle.spec_order.specs.Steps.{Item as Mark, noted, counted, pushes_all, pushes_run, advance, spawns, pushes, finishes}
use Rattle.spec_order.specs.Waits.{blocked, has_child}
use Rattle.spec_order.specs.Finding.{finding}
use Rattle.spec_answers.specs.declared.Finding.TheVariants as Finding
use Rattle.law_job_times.specs.Kin.{awaits}
use Rattle.law_job_waits.specs.Able.{Able, searches, looks_only}
use Rattle.law_order_waits.specs.Played.{Played}
use Rattle.law_in_order.specs.Answered.{next_task, answered}
use Rattle.law_in_order.proofs.State.{State}
use Rattle.law_in_order.proofs.InOrder.{fresh}
use Rattle.spec_job.specs.declared.Instruction.{Instruction}
use Rattle.spec_job.specs.Fields.{rights}
use Rattle.spec_job.specs.Operations.{Operation, row_of, operation_of, operation_at}
use Rattle.spec_job.specs.Effects.{sum, effect}
use Rattle.spec_job.specs.Test.{which_holds}
use Rattle.spec_job.specs.Accepted.{Accepted, accepted}
use Rattle.spec_plain.specs.Machine.{advanced, parent, child}
use Rattle.spec_plain.specs.Stack.{Stands, rights_of}
use Rattle.spec_line.specs.Line.{Item, spot}
use Rattle.law_job_line.specs.Tasks.{Runner, does, going_on, after_spawn, new_task, instruction_of}
use Rattle.law_job_order.specs.Beside.{Numbered, standing}
use Rattle.law_job_order.specs.Points.{standing_append}
use Rattle.law_job_order.specs.After.{After}
use Rattle.law_job_order.specs.Instructions.{instruction, which_holds_lem}
use Rattle.law_job_order.specs.Puts.{on, go_after, zero_after, add_after, sync_after, push_after, sum_after, finish_after, spawn_after}
use Rattle.spec_runner.specs.declared.StepAnswer.{StepAnswer}
use Rattle.spec_runner.specs.declared.StepAnswer.TheVariants as Step
use Rattle.spec_runner.specs.Words.{procedure_of, register_of, put}
use Rattle.spec_runner.specs.Answers.{answer_with, outcome}
use Rattle.spec_runner.specs.Step.{call_of, reply_of, runner_after, done, replied, makes, step_outcome}
use Rattle.law_any_order.specs.Statement.{core_call, noted_by}
use Rattle.law_any_order.proofs.States.{few}
use Rattle.law_any_order.proofs.Numbers.{others, there}
use Rattle.law_any_order.proofs.Written.{Written, Other}
use Rattle.law_any_order.proofs.Rewritten as words
use Rattle.law_any_order.proofs.Tested.{nobody}
use Rattle.law_any_order.proofs.Answered.{push_answer, spawn_answer, sync_answer, finish_answer}
use Rattle.law_any_order.proofs.Goes.{Place, Stays, waits, eight, nine, StaysOrGoes, stays, goes}
use Rattle.law_any_order.proofs.Goes as common

module _ {j m r : List ℕ} {xs : List Mark} {a b : List (Item Numbered)} {n : Numbered} (p : Place j m r xs a b n) (free : blocked n.number xs ≡ false) where
  abbrev t : ℕ
  t = n.number

  abbrev u : Runner
  u = n.runner

  acc : Accepted j
  acc = accepted j p.accepted

  played : Played xs
  played = (common.represents p).played

  stands : Stands j u.task
  stands = common.stands p

  apart : All (Other t) (standing a) × All (Other t) (standing b)
  apart = others j xs a b n played p.beside

  written : Written r (standing a ++ n ∷ standing b)
  unfolding standing
  written = subst (Written r) (standing_append a (spot n ∷ b)) p.written

  abbrev Result : Type 0
  Result = StaysOrGoes j m r xs a b n

  -- AN INSTRUCTION of the task
  module _ (i : Instruction) (is : instruction_of j u ≡ i) where
    abbrev o : Operation
    o = operation_at i.operation

    -- the task need not wait
    pub able_with : (awaits o ≡ true → has_child t xs ≡ false) → (searches o ≡ true → finding t i.which xs ≡ Finding.Waits → ⊥) → Able j xs n
    able_with lone f =
        record {
          free = free;
          childless = λ w. lone (ap (λ (s : Instruction). awaits (operation_at s.operation)) (sym is) ∙ w);
          finds = λ q l d. let w = looks_only j u i q is l in f w.0 (ap (λ (k : ℕ). finding t k xs) w.1 ∙ d);
        }

    -- an operation that waits for older siblings only
    pub able_plainly : awaits o ≡ false → searches o ≡ false → Able j xs n
    able_plainly d e = able_with (λ w. absurd (false≢true (sym d ∙ w))) (λ w. absurd (false≢true (sym e ∙ w)))

    -- a child makes it wait
    for_child : awaits o ≡ true → has_child t xs ≡ true → ¬ Able j xs n
    for_child w d able = false≢true (sym (able.childless (ap (λ (s : Instruction). awaits (operation_at s.operation)) is ∙ w)) ∙ d)

    -- the runner's words of a task that goes on
    pub on_written : (f : Option ℕ)
        → Written (put r t (procedure_of r t) (does u i f).next (does u i f).register) (standing a ++ on n (going_on u i f) ∷ standing b)
    unfolding advanced
    on_written f =
        subst (λ (k : ℕ). Written (put r t k (does u i f).next (does u i f).register) (standing a ++ on n (going_on u i f) ∷ standing b))
        (sym (common.words p).procedure)
        (words.goes_on r (standing a) (standing b) n written apart.0 apart.1 (on n (going_on u i f)) refl)

    -- the step goes on
    goes_with : Able j xs n → (f : Option ℕ) (c : ℕ) (core : List ℕ) (order : List Mark) (ns : List Numbered) → step_outcome j m r t ≡ done t i f c core r
        → noted_by (core_call j r t) m xs ≡ order
        → State core order → After j order a b n ns f
        → Written (runner_after (operation_at i.operation) t c i (does u i f) r) (standing a ++ (ns ++ standing b)) → Result
    goes_with able f c core order ns z d s x y =
        goes
        (record {
          found = f;
          new = c;
          core = core;
          runner = runner_after (operation_at i.operation) t c i (does u i f) r;
          order = order;
          tasks = ns;
          able = able;
          outcome_is =
              z
              ∙ common.done_is p free i is f c core
              ∙ ap (λ (s : Instruction). outcome (answer_with (does u s f).word (does u s f).value c) core
              (runner_after (operation_at i.operation) t c i (does u i f) r))
              (sym is);
          noted_is = d;
          state = s;
          after = x;
          written = y;
        })

    -- without a core call
    alone : Able j xs n → call_of (operation_at i.operation) j t u.task.register i ≡ none → (ns : List Numbered) → After j xs a b n ns none
        → Written (runner_after (operation_at i.operation) t 0 i (does u i none) r) (standing a ++ (ns ++ standing b)) → Result
    unfolding makes noted_by
    alone able which ns x y =
        goes_with able none 0 m xs ns
        (common.makes_it p free i is ∙ ap (λ (o : Option Call). makes t i o m r) which)
        (ap (λ (o : Option Call). noted_by o m xs) (common.call_is p free i is ∙ which))
        p.state x y

    -- with a core call that does not move
    pub held : (c : Call) → call_of (operation_at i.operation) j t u.task.register i ≡ some c → (x : Answer) → answered c m xs ≡ x → (y : StepAnswer)
        → Stays j m r xs n y → replied t i (reply_of x) (words_of (outcome_of c m)) m r ≡ outcome y m r → Result
    held c which x answer y why o = stays y why (common.call_replied p free i is c which x answer ∙ o)

    -- with a core call that moves
    pub called : Able j xs n → (c : Call) → call_of (operation_at i.operation) j t u.task.register i ≡ some c → (x : Answer) → answered c m xs ≡ x
        → (f : Option ℕ) (v : ℕ) (ns : List Numbered) → replied t i (reply_of x) (words_of (outcome_of c m)) m r ≡ done t i f v (words_of (outcome_of c m)) r
        → After j (noted c x xs) a b n ns f → Written (runner_after (operation_at i.operation) t v i (does u i f) r) (standing a ++ (ns ++ standing b))
        → Result
    called able c which x answer f v ns z after y =
        goes_with able f v (words_of (outcome_of c m)) (noted c x xs) ns
        (common.call_replied p free i is c which x answer ∙ z)
        (common.call_noted p free i is c which x answer)
        (common.call_state p free i is c which x answer)
        after y

  -- BY THE OPERATION'S NUMBER
  abbrev pub Case : ℕ → Type 0
  Case k = (q x : ℕ) → instruction_of j u ≡ instruction k q x → Result

  pub go_case : Case 5
  unfolding row_of operation_of operation_at call_of runner_after awaits searches
  go_case q x is =
      let i = instruction 5 q x in
      alone i is (able_plainly i is refl refl) refl _ (go_after j acc played a b n stands p.beside q x is) (on_written i is none)

  pub zero_case : Case 6
  unfolding row_of operation_of operation_at call_of runner_after awaits searches
  zero_case q x is =
      let i = instruction 6 q x in
      alone i is (able_plainly i is refl refl) refl _ (zero_after j acc played a b n stands p.beside q x is) (on_written i is none)

  pub add_case : Case 7
  unfolding row_of operation_of operation_at call_of runner_after awaits searches
  add_case q x is =
      let i = instruction 7 q x in
      alone i is (able_plainly i is refl refl) refl _ (add_after j acc played a b n stands p.beside q x is) (on_written i is none)

  -- a push moves, or is refused with 9
  push_with : (i : Instruction) → instruction_of j u ≡ i → Able j xs n → (v : ℕ)
      → call_of (operation_at i.operation) j t u.task.register i ≡ some (push_call t i.which (v ∷ []))
      → i.which < 4 → mayPush (rights_of j u.task) i.which ≡ true
      → done t i (some v) v (words_of (outcome_of (push_call t i.which (v ∷ [])) m)) r
      ≡ done t i none v (words_of (outcome_of (push_call t i.which (v ∷ [])) m)) r
      → After j (advance t (pushes i.which v) xs) a b n (on n (going_on u i none) ∷ []) none
      → runner_after (operation_at i.operation) t v i (does u i none) r ≡ put r t (procedure_of r t) (does u i none).next (does u i none).register → Result
  unfolding reply_of replied noted counted pushes_run pushes_all pick
  push_with i is able v which small may same after words =
      ⊎_elim
      (λ d. called i is able (push_call t i.which (v ∷ [])) which (Moved v) d none v _ same after
      (subst (λ (k : List ℕ). Written k (standing a ++ on n (going_on u i none) ∷ standing b)) (sym words) (on_written i is none)))
      (λ d. held i is (push_call t i.which (v ∷ [])) which (Refused 9) d.0 (Step.Refused 9)
      (nine i.which v (common.call_is p free i is ∙ which) d.1 d.2) refl)
      (push_answer m xs t (common.is_unfinished p) free i.which v small
      (subst (λ (k : ℕ). mayPush k i.which ≡ true) (sym (common.rights_is p)) may))

  pub push_case : Case 1
  unfolding row_of operation_of operation_at call_of runner_after which_holds done effect does awaits searches
  push_case q x is =
      let i = instruction 1 q x in
      let holds = both_true _ _ (which_holds_lem j u i is acc stands) in
      push_with i is (able_plainly i is refl refl) x refl (ltb-true q 4 holds.0) holds.1 refl
      (push_after j acc played a b n stands p.beside q x is) refl

  pub sum_case : Case 2
  unfolding row_of operation_of operation_at call_of runner_after which_holds done effect does awaits searches
  sum_case q x is =
      let i = instruction 2 q x in
      let holds = both_true _ _ (which_holds_lem j u i is acc stands) in
      push_with i is (able_plainly i is refl refl) (sum u.task.register x) refl (ltb-true q 4 holds.0) holds.1 refl
      (sum_after j acc played a b n stands p.beside q x is) refl

  pub sync_case : Case 9
  unfolding row_of operation_of operation_at call_of runner_after reply_of replied noted counted done effect awaits searches
  sync_case q x is =
      let i = instruction 9 q x in
      ⊎_elim
      (λ d. called i is (able_with i is (λ e. d.0) (λ e. absurd (false≢true e))) (sync_call t) refl (Moved 0) d.1 none 0 _ refl
      (sync_after j acc played a b n stands p.beside q x is) (on_written i is none))
      (λ d. held i is (sync_call t) refl Waits d.1 Step.Waits (waits (for_child i is refl d.0)) refl)
      (sync_answer m xs t (common.is_unfinished p) free)

  pub finish_case : Case 0
  unfolding row_of operation_of operation_at call_of runner_after reply_of replied noted counted done effect awaits searches
  finish_case q x is =
      let i = instruction 0 q x in
      ⊎_elim
      (λ d. called i is (able_with i is (λ e. d.0) (λ e. absurd (false≢true e))) (finish_call t) refl (Moved 0) d.1 none 0 [] refl
      (finish_after j acc played a b n stands p.beside q x is) (words.finishes r (standing a) (standing b) n written apart.0 apart.1))
      (λ d. held i is (finish_call t) refl Waits d.1 Step.Waits (waits (for_child i is refl d.0)) refl)
      (finish_answer m xs t (common.is_unfinished p) free)

  -- A SPAWN moves, or is refused with 8.
  module _ (q x : ℕ) (is : instruction_of j u ≡ instruction 8 q x) where
    abbrev i : Instruction
    i = instruction 8 q x

    abbrev c : ℕ
    c = next_task m

    abbrev new : Numbered
    new = record { number = c; runner = new_task u i }

    abbrev call : Call
    call = spawn_call t (rights j q)

    abbrev old : Numbered
    old = on n (after_spawn u i)

    -- the spawner's words with procedure k, then the child's with register y
    abbrev words_with : ℕ → ℕ → List ℕ
    words_with k y = put (put r t k (does u i none).next (does u i none).register) c q 0 y

    spawn_written : answered call m xs ≡ Moved c → State (words_of (outcome_of call m)) (advance t (spawns c (rights j q)) xs)
        → Written (words_with (procedure_of r t) (sum (register_of r t) x)) (standing a ++ new ∷ old ∷ standing b)
    unfolding advanced parent child standing
    spawn_written d s =
        let after = spawn_after j acc played a b n stands p.beside q x c is in
        let here = there j _ after.line (standing a) (old ∷ standing b) new after.beside after.stand in
        let v = common.words p in
        subst (λ (k : ℕ). Written (words_with k (sum (register_of r t) x)) (standing a ++ new ∷ old ∷ standing b)) (sym v.procedure)
        (subst (λ (k : ℕ). Written (words_with u.task.procedure (sum k x)) (standing a ++ new ∷ old ∷ standing b)) (sym v.register)
        (words.spawns r (standing a) (standing b) n written apart.0 apart.1 old new refl (few _ _ s c here)
        (subst (All (Other c)) (standing_append a (spot n ∷ b)) (nobody j xs (a ++ spot n ∷ b) c p.beside (fresh m xs p.state t (rights j q) c d)))))

    pub spawn_does : Result
    unfolding row_of operation_of operation_at call_of runner_after reply_of replied noted counted done effect which_holds pick awaits searches
    spawn_does =
        let holds = both_true _ _ (which_holds_lem j u i is acc stands) in
        ⊎_elim
        (λ d.
        called i is (able_plainly i is refl refl) call refl (Moved c) d none c _ refl (spawn_after j acc played a b n stands p.beside q x c is)
        (spawn_written d (common.call_state p free i is call refl (Moved c) d)))
        (λ d. held i is call refl (Refused 8) d.0 (Step.Refused 8) (eight (rights j q) (common.call_is p free i is) d.1) refl)
        (spawn_answer m xs t (common.is_unfinished p) free (rights j q)
        (subst (λ (k : ℕ). subset (rights j q) k ≡ true) (sym (common.rights_is p)) holds.1))

  pub spawn_case : Case 8
  spawn_case q x is = spawn_does q x is
