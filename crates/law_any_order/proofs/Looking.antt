-- What a step does that looks in a queue; and with that the step of any operation.
use Rattle.std.specs.Prelude.{◌≡◌, Bool, List, [], ◌∷◌, ◌++◌, ℕ, ◌≤◌, ◌<◌}
use Rattle.std.proofs.Math.Path.{refl, ap}
use Rattle.std.proofs.Common.{sym, ◌∙◌, subst, arith, ltb-true}
use Rattle.std.proofs.Math.Bool.{true, false}
use Rattle.std.proofs.lemmas.Bool.{false≢true}
use Rattle.std.proofs.Math.Option.{Option, none, some}
use Rattle.spec_words.specs.Words.{pick, halt, both_true}
use Rattle.spec_tree.specs.Rights.{pops as mayPop}
use Rattle.spec_answers.specs.declared.Answer.TheVariants.{Moved, Empty, Waits}
use Rattle.spec_answers.specs.declared.Finding.{Finding}
use Rattle.spec_answers.specs.declared.Finding.TheVariants as Finding
use Rattle.spec_answers.specs.Calls.{take_call}
use Rattle.spec_order.specs.Steps.{Item as Mark, noted, counted, found_none}
use Rattle.spec_order.specs.Waits.{blocked}
use Rattle.spec_order.specs.Finding.{finding}
use Rattle.spec_order.specs.Ordered.{rights_at, take_answer}
use Rattle.law_order_waits.specs.Played.{Played}
use Rattle.spec_job.specs.Operations.{Row, row_of, operation_of, operation_at}
use Rattle.spec_job.specs.Effects.{Effect}
use Rattle.spec_job.specs.Rows.{from, row_past}
use Rattle.spec_job.specs.Test.{which_holds}
use Rattle.spec_job.specs.Accepted.{Accepted, accepted}
use Rattle.spec_plain.specs.Stack.{Stands, rights_of}
use Rattle.law_in_order.specs.Answered.{answered}
use Rattle.spec_line.specs.Line.{Item, spot, puts, looks}
use Rattle.law_job_line.specs.Tasks.{can_pop, Runner, does, going_on, action_by, action, instruction_of}
use Rattle.law_job_order.specs.Beside.{Numbered, standing}
use Rattle.law_job_times.specs.Kin.{awaits}
use Rattle.law_job_order.specs.Searches.{value_waits, empty_waits}
use Rattle.law_job_order.specs.Instructions.{instruction, action_by_lem, which_holds_lem}
use Rattle.law_job_waits.specs.Able.{LooksIn, Able}
use Rattle.law_job_order.specs.Puts.{on}
use Rattle.law_job_order.specs.Finds.{value_found_after, none_found_after}
use Rattle.spec_runner.specs.declared.StepAnswer.TheVariants as Step
use Rattle.spec_runner.specs.Step.{call_of, reply_of, runner_after, replied}
use Rattle.spec_runner.specs.Words.{procedure_of, put}
use Rattle.spec_job.specs.declared.Instruction.{Instruction}
use Rattle.law_any_order.proofs.Answered.{take_answer_lem}
use Rattle.law_any_order.proofs.Goes.{Place, waits, StaysOrGoes}
use Rattle.law_any_order.proofs.Goes as common
use Rattle.law_any_order.proofs.Written.{Written}
use Rattle.law_any_order.proofs.Operations as other

module _ {j m r : List ℕ} {xs : List Mark} {a b : List (Item Numbered)} {n : Numbered} (p : Place j m r xs a b n) (free : blocked n.number xs ≡ false) where
  abbrev t : ℕ
  t = n.number

  abbrev u : Runner
  u = n.runner

  acc : Accepted j
  acc = accepted j p.accepted

  played : Played xs
  played = (common.represents p).played

  stands : Stands j u.task
  stands = common.stands p

  abbrev Result : Type 0
  Result = StaysOrGoes j m r xs a b n

  -- program order has the pop right too
  held_right : (q : ℕ) → mayPop (rights_of j u.task) q ≡ true → mayPop (rights_at t xs) q ≡ true
  held_right q may = subst (λ (k : ℕ). mayPop k q ≡ true) (sym (common.rights_is p)) may

  -- AN INSTRUCTION that looks in its queue and leaves the value queued or takes it: what its number has to say
  pub record Looks (k : ℕ) (keep : Bool) (q x : ℕ) : Type 0 where
    pub row : which_holds j (rights_of j u.task) (row_of k) q ≡ can_pop (rights_of j u.task) q
    pub quick : awaits (operation_at k) ≡ false
    pub act : action_by (operation_at k) j u (instruction k q x)
        ≡ pick (can_pop (rights_of j u.task) q) (looks keep q (λ f. spot (going_on u (instruction k q x) f) ∷ [])) (puts (spot u ∷ []))
    pub call : call_of (operation_at k) j t u.task.register (instruction k q x) ≡ some (take_call t q keep)
    pub after : (v : ℕ) (e : Effect) → runner_after (operation_at k) t v (instruction k q x) e r ≡ put r t (procedure_of r t) e.next e.register

  module _ (k : ℕ) (keep : Bool) (q x : ℕ) (is : instruction_of j u ≡ instruction k q x) (l : Looks k keep q x) where
    abbrev i : Instruction
    i = instruction k q x

    held : can_pop (rights_of j u.task) q ≡ true
    held = sym l.row ∙ which_holds_lem j u i is acc stands

    right : (q < 4) × (mayPop (rights_of j u.task) q ≡ true)
    unfolding can_pop
    right = let w = both_true _ _ held in (ltb-true q 4 w.0, w.1)

    looking : action j u ≡ looks keep q (λ f. spot (going_on u i f) ∷ [])
    looking = action_by_lem j u i is ∙ l.act ∙ halt _ _ held

    answer : (f : Finding) → finding t q xs ≡ f → answered (take_call t q keep) m xs ≡ take_answer f
    answer f d = take_answer_lem m xs t (common.is_unfinished p) free q keep right.0 (held_right q right.1) ∙ ap take_answer d

    -- it need not wait where something is found there, or nothing
    able : (f : Finding) → finding t q xs ≡ f → ¬ (f ≡ Finding.Waits) → Able j xs n
    able f d known = other.able_with p free i is (λ w. absurd (false≢true (sym l.quick ∙ w))) (λ w o. known (sym d ∙ o))

    -- and waits where that is not known yet
    unknown : finding t q xs ≡ Finding.Waits → ¬ Able j xs n
    unknown d y = y.finds q (subst (LooksIn q) (sym looking) refl) d

    -- the runner's words once it has found f
    words : (f : Option ℕ) (v : ℕ) → Written (runner_after (operation_at k) t v i (does u i f) r) (standing a ++ on n (going_on u i f) ∷ standing b)
    words f v = subst (λ (y : List ℕ). Written y (standing a ++ on n (going_on u i f) ∷ standing b)) (sym (l.after v (does u i f))) (other.on_written p free i is f)

    look_case : Result
    unfolding reply_of replied noted counted found_none take_answer
    look_case = go (finding t q xs) refl
      where
        go : (f : Finding) → finding t q xs ≡ f → Result
        go (Finding.Value v) d =
            other.called p free i is (able (Finding.Value v) d value_waits) (take_call t q keep) l.call (Moved v) (answer (Finding.Value v) d)
            (some v) v _ refl (value_found_after j played a b n p.beside q x k keep held looking v d) (words (some v) v)
        go Finding.Empty d =
            other.called p free i is (able Finding.Empty d empty_waits) (take_call t q keep) l.call Empty (answer Finding.Empty d)
            none 0 _ refl (none_found_after j played a b n p.beside q x k keep held looking d) (words none 0)
        go Finding.Waits d =
            other.held p free i is (take_call t q keep) l.call Waits (answer Finding.Waits d) Step.Waits (waits (unknown d)) refl

  pop_case : (q x : ℕ) → instruction_of j u ≡ instruction 3 q x → Result
  unfolding row_of operation_of operation_at call_of runner_after which_holds awaits can_pop
  pop_case q x is = look_case 3 false q x is (record { row = refl; quick = refl; act = refl; call = refl; after = λ v e. refl })

  test_case : (q x : ℕ) → instruction_of j u ≡ instruction 4 q x → Result
  unfolding row_of operation_of operation_at call_of runner_after which_holds awaits can_pop
  test_case q x is = look_case 4 true q x is (record { row = refl; quick = refl; act = refl; call = refl; after = λ v e. refl })

  take_or_go_case : (q x : ℕ) → instruction_of j u ≡ instruction 10 q x → Result
  unfolding row_of operation_of operation_at call_of runner_after which_holds awaits can_pop
  take_or_go_case q x is = look_case 10 false q x is (record { row = refl; quick = refl; act = refl; call = refl; after = λ v e. refl })

  -- THE STEP OF ANY OPERATION, where no older sibling blocks it
  abbrev Case : ℕ → Type 0
  Case k = (q x : ℕ) → instruction_of j u ≡ instruction k q x → Result

  by_number : (k : ℕ) → 0 ≤ k → Case k
  by_number =
      from Case 0 (other.finish_case p free) (from Case 1 (other.push_case p free)
      (from Case 2 (other.sum_case p free) (from Case 3 pop_case (from Case 4 test_case
      (from Case 5 (other.go_case p free) (from Case 6 (other.zero_case p free)
      (from Case 7 (other.add_case p free) (from Case 8 (other.spawn_case p free)
      (from Case 9 (other.sync_case p free) (from Case 10 take_or_go_case (λ k past q x is. none_past k past q x is)))))))))))
    where
      none_past : (k : ℕ) → 11 ≤ k → (q x : ℕ) → instruction_of j u ≡ instruction k q x → Result
      none_past k past q x is =
          absurd (false≢true (unfold which_holds in
          ap (λ (y : Row). which_holds j (rights_of j u.task) y q) (sym (row_past k past)) ∙ which_holds_lem j u (instruction k q x) is acc stands))

  pub unblocked : Result
  unblocked = let s = instruction_of j u in by_number s.operation (omega arith) s.which s.operand refl

-- THE STEP OF A TASK THAT STANDS
pub step_does : {j m r : List ℕ} {xs : List Mark} {a b : List (Item Numbered)} {n : Numbered} → Place j m r xs a b n → StaysOrGoes j m r xs a b n
step_does {j} {m} {r} {xs} {a} {b} {n} p = go (blocked n.number xs) refl
  where
    go : (d : Bool) → blocked n.number xs ≡ d → StaysOrGoes j m r xs a b n
    go true d = common.blocked_waits p d
    go false d = unblocked p d
