-- A FRESH OPENING of an accepted job: the core is opened, the top stands alone at its first instruction.
use Rattle.std.specs.Prelude.{◌≡◌, refl, List, [], ◌∷◌, ℕ, ◌+◌, ◌*◌, ◌≤◌, replicate}
use Rattle.std.proofs.Common.{sym, ⊎_elim, arith}
use Rattle.std.proofs.Math.Path.{subst}
use Rattle.std.proofs.Math.Logic.{inl}
use Rattle.std.proofs.lemmas.List.{get_or-replicate}
use Rattle.std.proofs.Math.ListN.{length-replicate, get_or-eq_default}
use Rattle.spec_words.specs.Words.{load, size}
use Rattle.spec_layout.specs.Layout.{WORDS}
use Rattle.spec_lists.specs.Counting.{below?}
use Rattle.spec_answers.specs.declared.Answer.TheVariants.{Moved}
use Rattle.spec_order.specs.Steps.{begin}
use Rattle.law_invariant_spawn.specs.Open.{open_represents}
use Rattle.spec_job.specs.Fields.{segment_length}
use Rattle.spec_job.specs.Test.{job_answer}
use Rattle.spec_job.specs.Accepted.{Accepted, accepted}
use Rattle.spec_line.specs.Line.{spot}
use Rattle.law_timed_line.proofs.Agreement.{Moves}
use Rattle.law_job_line.proofs.Agree.{start}
use Rattle.law_job_order.specs.Beside.{unnumbered, standing}
use Rattle.law_job_order.specs.Located.{top_numbered, begins}
use Rattle.spec_runner.specs.Words.{RUNNER, procedure_of, position_of, register_of}
use Rattle.spec_runner.specs.Answers.{Outcome, core_of, runner_of}
use Rattle.spec_runner.specs.Open.{segments_for, job_opened, open_outcome}
use Rattle.spec_runner.proofs.Opens.{in_range_lem}
use Rattle.spec_runner.proofs.Laws.{job_passes}
use Rattle.law_any_order.specs.Statement.{Stand, fresh}
use Rattle.law_any_order.proofs.Written.{Words}
use Rattle.law_any_order.proofs.Running.{Running}

pub no_word : (n a : ℕ) → load (replicate n 0) a ≡ 0
unfolding load
no_word n a =
    ⊎_elim
    (λ l. get_or-replicate n a 0 0 l)
    (λ l. get_or-eq_default (replicate n 0) 0 (subst (λ (k : ℕ). k ≤ a) (sym (length-replicate {A = ℕ} n 0)) l))
    (below? a n)

zeros : (t : ℕ) → Words (replicate RUNNER 0) t 0 0 0
unfolding procedure_of position_of register_of
zeros t = record { procedure = no_word RUNNER (t * 3); position = no_word RUNNER (t * 3 + 1); register = no_word RUNNER (t * 3 + 2) }

module _ (j : List ℕ) (e : job_answer j ≡ Moved 0) (w v : List ℕ) (sw : size w ≡ WORDS) (sv : size v ≡ RUNNER) where
  pub opened_is : open_outcome j w v ≡ job_opened j
  unfolding open_outcome
  opened_is = job_passes j w v e sw sv (job_opened j)

  -- the run as it begins
  abbrev after : Outcome → Stand
  after o = record { core = core_of o; runner = runner_of o; order = begin; events = [] }

  pub fresh_runs : (ticks : ℕ → ℕ) → Running j ticks (fresh j w v) (spot top_numbered ∷ [])
  unfolding fresh
  fresh_runs ticks = subst (λ (o : Outcome). Running j ticks (after o) (spot top_numbered ∷ [])) (sym opened_is) begun
    where
      acc : Accepted j
      acc = accepted j e

      begun : Running j ticks (after (job_opened j)) (spot top_numbered ∷ [])
      begun =
          unfold job_opened core_of runner_of standing unnumbered size in
          record {
            state = inl (open_represents (segment_length j) (segments_for (segment_length j)) (in_range_lem j e));
            beside = begins j acc;
            written = record { sized = length-replicate {A = ℕ} RUNNER 0; held = (record { small = omega arith; words = zeros 0 }, tt); free = λ t o. zeros t };
            count = 0;
            times = start;
            same = refl;
            moves = Moves.no_move;
            log = refl;
          }
