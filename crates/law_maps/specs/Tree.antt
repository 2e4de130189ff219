-- Operations on the task tree and on the stack of free records: no view, no queue head and no segment changes.
use Rattle.std.specs.Prelude.{◌≡◌, Bool, true, List, ℕ, ◌<◌, ◌≤◌, eqb}
use Rattle.std.proofs.Math.Path.{refl}
use Rattle.std.proofs.Common.{◌∙◌, arith}
use Rattle.std.proofs.Math.Bool.{false}
use Rattle.std.proofs.lemmas.Bool.{eqb-false}
use Rattle.spec_words.specs.Words.{pick}
use Rattle.spec_layout.specs.Layout.{NONE, PARENT, OLDER, YOUNGER, YOUNGEST, free_tasks, task, address, read, write}
use Rattle.spec_outcomes.specs.Finish.{unlinked}
use Rattle.law_maps.specs.Meaning.{meaning_of, Sized}
use Rattle.law_maps.specs.Reads.{heads_same, views_same}
use Rattle.law_maps.specs.Kept.{Means, read_away, only_then}
use Rattle.law_maps.specs.TasksOnly.{TasksOnly, word_only, idle_height_only, tasks_mean}
use Rattle.law_maps.specs.Views.{task_other}

-- n is m but for links of tasks and the stack of free records
pub record LinksOnly (m n : List ℕ) : Type 0 where
  pub only : TasksOnly m n
  pub views : (t k : ℕ) → t < 128 → 16 ≤ k → k < 48 → read n (task t k) ≡ read m (task t k)

pub links_then : {m n p : List ℕ} → LinksOnly m n → LinksOnly n p → LinksOnly m p
links_then a b = record { only = only_then a.only b.only; views = λ t k h g l. b.views t k h g l ∙ a.views t k h g l }

-- so it means the same
pub links_mean : {m n : List ℕ} → Sized m → LinksOnly m n → Means n (meaning_of m)
links_mean {m} {n} z o = tasks_mean o.only z refl refl refl (heads_same m n o.views) (views_same m n o.views)

-- A LINK WRITTEN
pub link_written : (m : List ℕ) (t k v : ℕ) → t < 128 → k < 16 → LinksOnly m (write m (task t k) v)
link_written m t k v ht hk =
    record {
      only = word_only m t k v ht (omega (arith, hk));
      views = λ u j a b l. task_other m t k u j v (omega (arith, hk)) l (λ e f. omega (arith, f, b, hk));
    }

-- the height of the stack of free records written
pub idle_height_written : (m : List ℕ) (v : ℕ) → LinksOnly m (write m free_tasks v)
unfolding address
idle_height_written m v = record { only = idle_height_only m v; views = λ u j a b l. read_away m free_tasks (task u j) v (λ e. omega (arith, e)) }

-- TASK t LEAVES THE LIST OF ITS SIBLINGS. Its neighbours and its parent are tasks, where it has them.
pub task_unlinked : (m : List ℕ) (t : ℕ) → ((read m (task t OLDER) ≡ NONE → ⊥) → read m (task t OLDER) < 128)
    → ((read m (task t YOUNGER) ≡ NONE → ⊥) → read m (task t YOUNGER) < 128) → read m (task t PARENT) < 128 → LinksOnly m (unlinked m t)
unfolding unlinked
task_unlinked m t ho hy hp = second (eqb (read m (task t YOUNGER)) NONE) refl
  where
    o : ℕ
    o = read m (task t OLDER)

    y : ℕ
    y = read m (task t YOUNGER)

    m1 : List ℕ
    m1 = pick (eqb o NONE) m (write m (task o YOUNGER) y)

    first : (b : Bool) → eqb o NONE ≡ b → LinksOnly m (pick b m (write m (task o YOUNGER) y))
    first true e = unfold pick in record { only = record { words = refl; same = λ f h. refl }; views = λ u j a b l. refl }
    first false e = unfold pick in link_written m o YOUNGER y (ho (eqb-false o NONE e)) (omega arith)

    second : (b : Bool) → eqb y NONE ≡ b → LinksOnly m (pick b (write m1 (task (read m (task t PARENT)) YOUNGEST) o) (write m1 (task y OLDER) o))
    second true e = unfold pick in links_then (first (eqb o NONE) refl) (link_written m1 (read m (task t PARENT)) YOUNGEST o hp (omega arith))
    second false e = unfold pick in links_then (first (eqb o NONE) refl) (link_written m1 y OLDER o (hy (eqb-false y NONE e)) (omega arith))
