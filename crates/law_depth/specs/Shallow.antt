-- THE SERIAL STACK IS SHALLOW where some order of the runner's calls brings an accepted job to its end on the core: the plain machine has at
-- most 128 tasks on its stack, as many as the core has records.
use Rattle.std.specs.Prelude.{◌≡◌, List, ℕ, ◌≤◌, length}
use Rattle.std.proofs.Common.{sym, ◌∙◌}
use Rattle.spec_words.specs.Words.{size}
use Rattle.spec_layout.specs.Layout.{WORDS}
use Rattle.spec_answers.specs.declared.Answer.TheVariants.{Moved}
use Rattle.spec_job.specs.Test.{job_answer}
use Rattle.spec_job.specs.Accepted.{accepted}
use Rattle.spec_plain.specs.Machine.{begin}
use Rattle.spec_plain.specs.Run.{stack_of, run, events}
use Rattle.spec_plain.proofs.Kept.{begin_stands}
use Rattle.spec_runner.specs.Words.{RUNNER}
use Rattle.law_any_order.specs.Statement.{after_calls, fresh, AllFinished}
use Rattle.law_any_two.proofs.Sums.{run_sum}
use Rattle.law_depth.specs.Named.{excess, named}
use Rattle.law_depth.specs.Stacked.{stack_few}

pub shallow : (j : List ℕ) → job_answer j ≡ Moved 0 → (m r : List ℕ) → size m ≡ WORDS → size r ≡ RUNNER → (ts : List ℕ)
    → (let s = after_calls j ts (fresh j m r) in AllFinished s → (i : ℕ) → length (stack_of (run i j)) ≤ 128)
unfolding run events
shallow j accept m r sm sr ts f i =
    let acc = accepted j accept in
    let w = run_sum j accept m r sm sr ts f in
    stack_few j acc (length (after_calls j ts (fresh j m r)).events) i begin (begin_stands j acc) w.0
    (sym (w.1 excess) ∙ named j accept m r sm sr ts)
