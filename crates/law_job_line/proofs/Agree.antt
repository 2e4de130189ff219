-- ANY ORDER OF MOVES of an accepted job's tasks agrees with its plain run, where that ends: it makes no more moves, and once all
-- tasks have finished as many, with the same values left in the queues.
use Rattle.std.specs.Prelude.{◌≡◌, refl, ℕ, ◌+◌, ◌<◌, get_or}
use Rattle.std.proofs.Common.{ap, ap₂, sym, ◌∙◌, arith}
use mathlib.Core.List.{List, [], ◌∷◌, ◌++◌, append-nil}
use Rattle.spec_lists.specs.Maps.{All}
use Rattle.spec_tree.specs.Queues.{by_four}
use Rattle.spec_job.specs.Accepted.{Accepted}
use Rattle.spec_plain.specs.Machine.{begin, queue}
use Rattle.spec_plain.specs.Run.{queues_of, stack_of, steps_of, run, events}
use Rattle.spec_plain.proofs.Kept.{begin_stands}
use Rattle.spec_line.specs.Line.{Item, spot, NoSpot}
use Rattle.spec_line.specs.Fronts.{Fronts}
use Rattle.law_timed_line.specs.Times.{Timed, at, untimed}
use Rattle.law_timed_line.specs.Walks.{Waits}
use Rattle.law_timed_line.proofs.Agreement.{Moves, agree, all_finished}
use Rattle.law_job_line.specs.Tasks.{Runner}
use Rattle.law_job_line.proofs.Within.{job_tasks}
use Rattle.law_job_line.proofs.Front.{values_of}
use Rattle.law_job_line.proofs.Plain.{Serially}
use Rattle.law_job_line.proofs.Serial.{Ran, plain_runs}

-- the top before its first step
abbrev pub top : Runner
top = record { task = record { name = []; procedure = 0; position = 0; register = 0; children = 0 }; answers = [] }

abbrev pub start : List (Timed Runner)
start = at 0 (spot top) ∷ []

abbrev pub none_back : Fronts
none_back q = []

no_value : (q : ℕ) → q < 4 → [] ≡ get_or {A = List ℕ} ([] ∷ [] ∷ [] ∷ [] ∷ []) q []
no_value = by_four (λ q. [] ≡ get_or {A = List ℕ} ([] ∷ [] ∷ [] ∷ [] ∷ []) q []) refl refl refl refl

pub begins : Serially none_back ([] ∷ [] ∷ [] ∷ [] ∷ []) (top ∷ []) start
unfolding values_of queue
begins = record { before = []; line = refl; bare = tt; lists = record { four = refl; same = no_value } }

-- the line l with r in front after k moves, where the plain run makes n steps in all and leaves the lists qs
pub record Agrees (k n : ℕ) (qs : List (List ℕ)) (r : Fronts) (l : List (Item Runner)) : Type 0 where
  pub rest : ℕ
  pub count : n ≡ k + rest
  -- once all have finished
  pub all_moved : All NoSpot l → k ≡ n
  pub left : All NoSpot l → (q : ℕ) → q < 4 → r q ++ values_of q l ≡ queue qs q

module _ (j : List ℕ) (W : Waits (job_tasks j)) (acc : Accepted j) (m : ℕ) (end : stack_of (run m j) ≡ []) where
  pub ran : Ran j W none_back start 0 (run m j) (events m j)
  unfolding run events begin
  ran = plain_runs j W acc m 0 none_back ([] ∷ [] ∷ [] ∷ [] ∷ []) (top ∷ []) start begins (unfold stack_of begin in begin_stands j acc) (unfold run begin in end)

  pub moves_agree : {k : ℕ} {r : Fronts} {l : List (Timed Runner)} → Moves (job_tasks j) W k none_back start r l
      → Agrees k (steps_of (run m j)) (queues_of (run m j)) r (untimed l)
  moves_agree {k} {r} {l} ms =
      let a = agree (job_tasks j) W ran.bare ran.run ms in
      record {
        rest = a.left;
        count = omega (arith, ran.count, a.count);
        all_moved = λ b. omega (arith, ran.count, (all_finished (job_tasks j) W ran.bare ran.run b ms).0);
        left = λ b q i.
            let e = all_finished (job_tasks j) W ran.bare ran.run b ms in
            ap₂ (λ (x : Fronts) (y : List (Item Runner)). x q ++ values_of q y) (sym e.1)
            (ap untimed (sym e.2) ∙ ran.serially.line ∙ append-nil ran.serially.before) ∙ ran.serially.lists.same q i;
      }
