-- DOCUMENT 01'S JOB ON THE TIMED LINE: its run in full, steps 1 to 4, and then 6 and 7, with document 02's ticks. docs/PROOFS.md draws it.
use Rattle.std.specs.Prelude.{◌≡◌, refl, false, List, [], ◌∷◌, ℕ, get_or}
use Rattle.std.proofs.lemmas.Bool.{false≢true}
use Rattle.std.proofs.Math.Option.{Option, none, some}
use Rattle.spec_job.specs.Examples.{full_run}
use Rattle.spec_words.specs.Words.{load, both, either, pick}
use Rattle.spec_order.specs.Waits.{same_name, is_child, is_older}
use Rattle.law_named_waits.specs.Names.{above}
use Rattle.law_named_waits.specs.Named.{halts}
use Rattle.spec_job.specs.Effects.{effect}
use Rattle.law_job_times.specs.Kin.{awaits}
use Rattle.spec_tree.specs.Rights.{bits, pushes, pops, each_queue, some_queue, shares_pop, subset}
use Rattle.spec_job.specs.Fields.{bytes2, bytes4, offset, rights, instruction_from, instruction_at}
use Rattle.spec_job.specs.Operations.{operation_at, operation_of, row_of}
use Rattle.spec_plain.specs.Stack.{rights_of}
use Rattle.spec_plain.specs.Machine.{advanced, parent, child}
use Rattle.spec_line.specs.Line.{value, spot, Search, free, found}
use Rattle.law_timed_line.specs.Times.{Timed, at, later}
use Rattle.law_timed_line.specs.Walks.{Walk}
use Rattle.law_timed_line.proofs.Starts.{start_at, fronts_of}
use Rattle.law_timed_line.proofs.Agreement.{Move, Moves, no_move, moves}
use Rattle.law_job_line.specs.Tasks.{can_push, can_pop, Runner, does, action, instruction_of, going_on, after_spawn, new_task}
use Rattle.law_job_line.proofs.Within.{job_tasks}
use Rattle.law_job_line.proofs.Agree.{start, none_back, top}
use Rattle.law_job_times.specs.Times.{job_waits}

-- "Ticks per operation 0 to 10: 2, 3, 3, 3, 2, 1, 1, 1, 5, 1, 3."
abbrev pub ticks : ℕ → ℕ
ticks k = get_or (2 ∷ 3 ∷ 3 ∷ 3 ∷ 2 ∷ 1 ∷ 1 ∷ 1 ∷ 5 ∷ 1 ∷ 3 ∷ []) k 0

-- the task u after its next step, where it found o; its child, where it spawns
abbrev on : Runner → Option ℕ → Runner
on u o = going_on u (instruction_of full_run u) o

abbrev up : Runner → Runner
up u = after_spawn u (instruction_of full_run u)

abbrev kid : Runner → Runner
kid u = new_task u (instruction_of full_run u)

abbrev one : Runner
one = kid top

abbrev two : Runner
two = kid (up top)

abbrev three : Runner
three = kid (up (up top))

-- THE LINE after steps 1, 2, 3 and 4: the top has spawned 1, 2 and 3, and 3 has pushed 20
abbrev line1 : List (Timed Runner)
line1 = at 5 (spot one) ∷ at 5 (spot (up top)) ∷ []

abbrev line2 : List (Timed Runner)
line2 = at 5 (spot one) ∷ at 10 (spot two) ∷ at 10 (spot (up (up top))) ∷ []

abbrev line3 : List (Timed Runner)
line3 = at 5 (spot one) ∷ at 10 (spot two) ∷ at 15 (spot three) ∷ at 15 (spot (up (up (up top)))) ∷ []

abbrev pub line4 : List (Timed Runner)
line4 = at 5 (spot one) ∷ at 10 (spot two) ∷ at 18 (value 0 20) ∷ at 18 (spot (on three none)) ∷ at 15 (spot (up (up (up top)))) ∷ []

-- after 6 and 7 too: 1 has pushed 10, and 2 has taken it
abbrev line6 : List (Timed Runner)
line6 =
    at 8 (value 0 10) ∷ at 8 (spot (on one none)) ∷ at 10 (spot two) ∷ at 18 (value 0 20) ∷ at 18 (spot (on three none))
    ∷ at 15 (spot (up (up (up top)))) ∷ []

abbrev pub line7 : List (Timed Runner)
line7 =
    at 8 (spot (on one none)) ∷ at 13 (spot (on two (some 10))) ∷ at 18 (value 0 20) ∷ at 18 (spot (on three none))
    ∷ at 15 (spot (up (up (up top)))) ∷ []

-- a move, by its walk
abbrev Go : List (Timed Runner) → List (Timed Runner) → Type 0
Go l k = Move (job_tasks full_run) (job_waits full_run ticks) none_back l none_back k

abbrev goes : {l k : List (Timed Runner)} (u : Runner) (e : Search) (d : ℕ) → fronts_of (job_tasks full_run) u none_back ≡ none_back
    → Walk (job_tasks full_run) (job_waits full_run ticks) u (start_at (job_tasks full_run) u none_back) e 0 d l k → Go l k
goes u e d f w = record { task = u; end = e; done = d; move = record { fronts = f; walk = w } }

pub picture : Moves (job_tasks full_run) (job_waits full_run ticks) 6 none_back start none_back line7
unfolding action instruction_of instruction_at instruction_from offset bytes2 bytes4 load operation_at operation_of row_of rights_of rights subset each_queue
    both either pushes pops bits pick later does effect advanced parent child above same_name halts is_older is_child awaits can_push can_pop shares_pop some_queue
picture = moves step1 (moves step2 (moves step3 (moves step4 (moves step6 (moves step7 no_move)))))
  where
    step1 : Go start line1
    step1 = goes top free 5 refl (Walk.here _ refl refl)

    step2 : Go line1 line2
    step2 = goes (up top) free 10 refl (Walk.past (tt, (false≢true, false≢true)) (Walk.here _ refl refl))

    step3 : Go line2 line3
    step3 =
        goes (up (up top)) free 15 refl
        (Walk.past (tt, (false≢true, false≢true)) (Walk.past (tt, (false≢true, false≢true)) (Walk.here _ refl refl)))

    step4 : Go line3 line4
    step4 = goes three free 18 refl (Walk.past (tt, (false≢true, false≢true)) (Walk.past (tt, (false≢true, false≢true)) (Walk.here _ refl refl)))

    step6 : Go line4 line6
    step6 = goes one free 8 refl (Walk.here _ refl refl)

    step7 : Go line6 line7
    step7 =
        goes two (found false 0 10) 13 refl (Walk.finds (Walk.past (false≢true, (false≢true, false≢true)) (Walk.here _ (refl, refl, refl) refl)))
