-- WHAT A SCHEDULE CARRIES ALONG: the timed line of the run that its effects make, by the ticks of the table, and the count of the timed
-- line's bound, with the tasks under way as its slots.
use Rattle.std.specs.Prelude.{◌≡◌, refl, ℕ, suc, ◌+◌, ◌*◌, ◌≤◌, length}
use Rattle.std.proofs.Math.Path.{sym}
use mathlib.Core.List.{List, [], ◌∷◌}
use Rattle.std.proofs.Math.Option.{some}
use Rattle.std.proofs.Math.Nat.{mul-zero}
use native.Mathlib.Omega.{arith}
use Rattle.spec_words.specs.Words.{size, pick}
use Rattle.spec_layout.specs.Layout.{WORDS}
use Rattle.spec_lists.specs.Counting.{one, over, occurrences, occurs_nil}
use Rattle.spec_lists.specs.Maps.{All}
use Rattle.spec_answers.specs.declared.Answer.TheVariants.{Moved}
use Rattle.spec_job.specs.Test.{job_answer}
use Rattle.spec_line.specs.Line.{Item, spot, Search}
use Rattle.spec_line.specs.Fronts.{Fronts}
use Rattle.law_timed_line.specs.Times.{Timed, untimed, last_time}
use Rattle.law_timed_line.proofs.Agreement.{MoveOf, Moves, Bare}
use Rattle.law_timed_line.proofs.Bound.{Kept, total, begins}
use Rattle.law_job_line.specs.Tasks.{Runner}
use Rattle.law_job_line.proofs.Within.{job_tasks}
use Rattle.law_job_line.proofs.Agree.{start, none_back}
use Rattle.law_job_order.specs.Beside.{Numbered, unnumbered}
use Rattle.law_job_order.specs.Located.{top_numbered}
use Rattle.spec_runner.specs.Words.{RUNNER}
use Rattle.law_any_order.specs.Statement.{Stand, after_calls, fresh}
use Rattle.law_any_order.proofs.Running.{Running}
use Rattle.law_any_order.proofs.Fresh.{fresh_runs}
use Rattle.law_any_two.proofs.Stands.{At}
use Rattle.spec_simulate.specs.Ticks.{ticks_for}
use Rattle.spec_simulate.specs.Machine.{Event}
use Rattle.law_simulate.specs.Schedule.{calls_of, Hold, held_by, is_some, busy, ticks_together, stand_at}
use Rattle.law_simulate.proofs.Holds.{nobody_busy}
use Rattle.law_span.specs.Ticks.{ticks_by, waits_by}
use Rattle.law_simulated_time.specs.Latest.{By}
use Rattle.law_simulated_time.specs.Top.{TopLast, start_top}
use Rattle.law_simulated_time.specs.Holders.{Holder, slots, numbers_of}

-- Job j by a table of ticks with 1 + v workers, opened on the words m and r.
module _ (j table : List ℕ) (v : ℕ) (m r : List ℕ) where
  abbrev pub Now : List Event → Stand
  Now h = stand_at j table (suc v) m r h

  abbrev pub work_at : List Event → ℕ
  work_at h = ticks_together table (Now h).events

  -- A TASK UNDER WAY stands on the line and can move there, and its step would be done by the end of its last tick.
  pub record Under (h : List Event) (clock : ℕ) (line : List (Item Numbered)) (times : List (Timed Runner)) (o : Holder) : Type 0 where
    pub hold : Hold
    pub held : held_by o.who.number h ≡ some hold
    pub since : hold.start + o.age ≡ clock
    pub stands : At o.who line
    pub long : (waits_by j table).ticks o.who.runner ≡ ticks_for table hold.operation
    pub end : Search
    pub done : ℕ
    pub fronts : Fronts
    pub then : List (Timed Runner)
    pub move : MoveOf (job_tasks j) (waits_by j table) o.who.runner end done none_back times fronts then
    pub early : done ≤ hold.start + (waits_by j table).ticks o.who.runner

  pub record Carried (h : List Event) (clock : ℕ) : Type 0 where
    pub line : List (Item Numbered)
    pub run : Running j (ticks_by table) (Now h) line
    pub count : ℕ
    pub times : List (Timed Runner)
    pub same : untimed times ≡ unnumbered line
    pub moves : Moves (job_tasks j) (waits_by j table) count none_back start none_back times
    -- the tasks under way, each once
    pub holders : List Holder
    pub under : All (Under h clock line times) holders
    pub each : (t : ℕ) → occurrences t (numbers_of holders) ≡ one (is_some (held_by t h))
    pub many : length (slots holders) ≡ busy h
    -- the count
    pub idle : ℕ
    pub kept : Kept (job_tasks j) (waits_by j table) v none_back times (slots holders) clock idle (work_at h)
    pub shared : work_at h + total (slots holders) ≤ suc v * clock
    -- the times
    pub by : By clock times
    pub top : TopLast times
    pub last : Bare times → idle ≤ last_time times

  -- AT FIRST
  pub carried_first : job_answer j ≡ Moved 0 → size m ≡ WORDS → size r ≡ RUNNER → Carried [] 0
  unfolding calls_of after_calls held_by is_some one pick unnumbered slots over fresh
  carried_first accept sm sr =
      record {
        line = spot top_numbered ∷ [];
        run = unfold calls_of after_calls in fresh_runs j accept m r sm sr (ticks_by table);
        count = 0;
        times = start;
        same = refl;
        moves = Moves.no_move;
        holders = [];
        under = tt;
        each = λ t. unfold numbers_of in occurs_nil t;
        many = sym (nobody_busy [] (λ u. refl));
        idle = 0;
        kept = begins (job_tasks j) (waits_by j table) v none_back start;
        shared = let a = mul-zero (suc v) in omega (arith, a);
        by = (omega arith, tt);
        top = start_top;
        last = λ b. absurd b.0;
      }
