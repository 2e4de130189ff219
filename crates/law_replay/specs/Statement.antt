-- WHAT A REPLAY IS FOR: a trace agrees if a run of the job printed it, and only then. `printed_agrees`, `agrees_printed`, `differs_first`,
-- `refused_form` and `form_refused` of Laws.antt say it in these words.
use Rattle.std.specs.Prelude.{◌≡◌, List, ◌++◌, ℕ, ◌+◌, ◌<◌, ◌≤◌}
use Rattle.spec_lists.specs.Maps.{All}
use Rattle.overlap_text.specs.Whole.{overlap_text}
use Rattle.law_trace.specs.Feeds.{IsLine, feeds, EndsLine}
use Rattle.spec_replay.specs.declared.Replayed.TheVariants.{Agrees, Differs}
use Rattle.spec_replay.specs.Replay.{replay_answer}

-- "a trace of at most 65,535 lines printed by `overlap` for any accepted job and any task bytes .. and each beginning of it that ends
-- with a line": xs, of what is printed for job j
pub record Beginning (j xs : List ℕ) : Type 0 where
  pub tasks : List ℕ
  pub bytes : All (λ t. t < 256) tasks
  pub rest : List ℕ
  pub printed : xs ++ rest ≡ overlap_text j tasks
  pub whole : EndsLine xs
  pub few : feeds xs ≤ 65535

-- "the number of the first line that differs": line n of xs. The n - 1 lines before it agree; with it they do not, and no run prints them.
pub record Differing (j xs m r : List ℕ) (n : ℕ) : Type 0 where
  pub before : List ℕ
  pub line : List ℕ
  pub behind : List ℕ
  pub parts : xs ≡ before ++ line ++ behind
  pub number : feeds before + 1 ≡ n
  pub ends : EndsLine before
  pub one : IsLine line
  pub agree : replay_answer j before m r ≡ Agrees
  pub differ : replay_answer j (before ++ line) m r ≡ Differs n
  pub unprinted : All (λ b. b < 256) j → Beginning j (before ++ line) → ⊥
