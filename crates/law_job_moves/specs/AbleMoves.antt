-- A TASK THAT NEED NOT WAIT by program order can move on the timed line; the line knows no 8 and 9.
use Rattle.std.specs.Prelude.{◌≡◌, Bool, true, ℕ, ◌<◌}
use Rattle.std.proofs.Math.Path.{refl, ap, sym}
use Rattle.std.proofs.Common.{◌∙◌, subst}
use mathlib.Core.List.{List, ◌∷◌, ◌++◌, append_assoc}
use Rattle.std.proofs.Math.Option.{Option, none, some}
use Rattle.spec_tree.specs.Rights.{pops as mayPop, uses}
use Rattle.spec_tree.specs.Users.{pops_uses}
use Rattle.spec_answers.specs.declared.Finding.{Finding}
use Rattle.spec_answers.specs.declared.Finding.TheVariants as Finding
use Rattle.spec_order.specs.Steps.{Item as Mark, number_of, rights_of}
use Rattle.spec_order.specs.Finding.{finding}
use Rattle.law_order_waits.specs.Played.{Played}
use Rattle.law_order_queue.specs.Finds.{finds}
use Rattle.spec_job.specs.Operations.{operation_at, Operation, return, push, push_sum, pop, go_if_empty, go, go_if_zero, add, spawn, sync, take_or_go}
use Rattle.spec_plain.specs.Stack.{rights_of as jobRights}
use Rattle.spec_line.specs.Line.{Item, value, spot, Action, puts, looks, returns}
use Rattle.law_timed_line.specs.Times.{Timed, untimed}
use Rattle.spec_job.specs.declared.Instruction.{Instruction}
use Rattle.law_job_line.specs.Tasks.{Runner, action_by, action, instruction_of, by_test}
use Rattle.law_job_times.specs.Times.{job_waits}
use Rattle.law_job_order.specs.Beside.{Numbered, unnumbered, task_of, Beside}
use Rattle.law_job_order.specs.Points.{unnumbered_append}
use Rattle.law_job_order.specs.Searches.{value_waits, empty_waits, FirstValue, first_value, first_nothing}
use Rattle.law_job_order.specs.Found.{others, meets}
use Rattle.law_job_order.specs.After.{Moved}
use Rattle.law_job_order.specs.Walks.{walk_puts, walk_nothing, walk_finds, walked_move}
use Rattle.law_job_order.specs.Looks.{past_bare, past_quiet}
use Rattle.law_job_times.specs.Kin.{Unhalted}
use Rattle.law_job_waits.specs.Able.{LooksIn, Able, looks_right}
use Rattle.law_job_waits.specs.Halted.{nobody_halts}

-- no operation of a job puts back yet
abbrev pub NoReturn : Action Runner → Type 0
NoReturn (puts xs) = Unit {0}
NoReturn (looks b q f) = Unit {0}
NoReturn (returns q v xs) = ⊥

none_returns : (o : Operation) (j : List ℕ) (u : Runner) (s : Instruction) → NoReturn (action_by o j u s)
none_returns return j u s = tt
none_returns push j u s = by_test NoReturn _ _ _ (λ e. tt) tt
none_returns push_sum j u s = by_test NoReturn _ _ _ (λ e. tt) tt
none_returns pop j u s = by_test NoReturn _ _ _ (λ e. tt) tt
none_returns go_if_empty j u s = by_test NoReturn _ _ _ (λ e. tt) tt
none_returns take_or_go j u s = by_test NoReturn _ _ _ (λ e. tt) tt
none_returns go j u s = tt
none_returns go_if_zero j u s = tt
none_returns add j u s = tt
none_returns spawn j u s = by_test NoReturn _ _ _ (λ e. tt) tt
none_returns sync j u s = tt

pub no_return : (j : List ℕ) (u : Runner) → NoReturn (action j u)
unfolding action
no_return j u = none_returns (operation_at (instruction_of j u).operation) j u (instruction_of j u)

module _ (j : List ℕ) (ticks : ℕ → ℕ) {xs : List Mark} (played : Played xs) (a b : List (Item Numbered)) (n : Numbered)
    (h : Beside j xs (a ++ spot n ∷ b)) where
  abbrev u : Runner
  u = n.runner

  -- the line at the task
  abbrev pub Whole : List (Item Runner)
  Whole = unnumbered (a ++ spot n ∷ b)

  abbrev pub At : List (Item Runner)
  At = unnumbered a ++ spot u ∷ unnumbered b

  pub at_task : Whole ≡ At
  unfolding unnumbered
  at_task = unnumbered_append a (spot n ∷ b)

  -- some move
  abbrev pub Moving : List (Timed Runner) → Type 0
  Moving l = (o : Option ℕ) × (k : List (Item Runner)) × Moved j (job_waits j ticks) u o l k

  -- IT NEED NOT WAIT: SO IT MOVES
  module _ (l : List (Timed Runner)) (e : untimed l ≡ Whole) (c : Unhalted j u (unnumbered a)) where
    finding_it : (k : Bool) (q v : ℕ) (g : Option ℕ → List (Item Runner)) → action j u ≡ looks k q g → FirstValue j q v a → Moving l
    unfolding unnumbered
    finding_it k q v g is f =
        let before = unnumbered f.front in
        let behind = unnumbered f.back in
        let front : before ++ value q v ∷ behind ≡ unnumbered a =
        sym (unnumbered_append f.front (value q v ∷ f.back)) ∙ ap unnumbered (sym f.parts) in (
          some v,
          _,
          walked_move j u (looks k q g) (before ++ value q v ∷ behind) (before ++ value q v ∷ (behind ++ spot u ∷ unnumbered b)) _ (some v) is refl
              (walk_finds j u k q g is (unnumbered b) v before behind (past_bare j k q f.front f.bare) (past_quiet j k q v f.back f.quiet))
              ticks (subst (Unhalted j u) (sym front) c) l
              (e ∙ at_task ∙ ap (λ (i : List (Item Runner)). i ++ spot u ∷ unnumbered b) (sym front)
              ∙ append_assoc before (value q v ∷ behind) (spot u ∷ unnumbered b)),
        )

    -- by the action
    moves_by : (i : Action Runner) → action j u ≡ i → NoReturn i → ((q : ℕ) → LooksIn q i → finding n.number q xs ≡ Finding.Waits → ⊥) → Moving l
    moves_by (returns q v ys) is p f = absurd p
    moves_by (puts ys) is p f =
        (none, _, walked_move j u (puts ys) (unnumbered a) At _ none is refl (walk_puts j u ys is (unnumbered a) (unnumbered b)) ticks c l (e ∙ at_task))
    moves_by (looks k q g) is p f = go (finding n.number q xs) refl
      where
        right : (q < 4) × (mayPop (jobRights j u.task) q ≡ true)
        right = looks_right j u q (subst (LooksIn q) (sym is) refl)

        used : uses (jobRights j u.task) q ≡ true
        used = pops_uses (jobRights j u.task) q right.1

        go : (o : Finding) → finding n.number q xs ≡ o → Moving l
        go (Finding.Value v) d =
            unfold task_of number_of rights_of in
            let m = meets j played a b n h q (Finding.Value v) right.0 right.1 value_waits d in
            finding_it k q v g is (first_value j q b n used v a m.quiet m.first)
        go Finding.Empty d =
            unfold task_of number_of rights_of in
            let m = meets j played a b n h q Finding.Empty right.0 right.1 empty_waits d in (
              none,
              _,
              walked_move j u (looks k q g) (unnumbered a) At _ none is refl
                  (walk_nothing j u k q g is (unnumbered b) (unnumbered a)
                  (past_bare j k q a (first_nothing j q b n used a (others j played a b n h) m.first)))
                  ticks c l (e ∙ at_task),
            )
        go Finding.Waits d = absurd (f q refl d)

  pub able_moves : Able j xs n → (l : List (Timed Runner)) → untimed l ≡ Whole → Moving l
  able_moves able l e = moves_by l e (nobody_halts j played a b n h able) (action j u) refl (no_return j u) able.finds
