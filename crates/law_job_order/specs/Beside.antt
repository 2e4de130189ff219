-- THE LINE OF A JOB BESIDE PROGRAM ORDER: the line on which the tasks of a job move has the same unfinished tasks in the same
-- order as the steps and spots of the core's calls, and for each queue the same values at the same places.
use Rattle.std.specs.Prelude.{◌≡◌, List, [], ◌∷◌, map, ℕ, ◌<◌, eqb}
use Rattle.spec_words.specs.Words.{pick}
use Rattle.spec_tree.specs.Rights.{uses}
use Rattle.spec_order.specs.Steps.{Task, task, Item as Mark, step, spot as place}
use Rattle.law_order_queue.specs.Points.{Point, value as present, user, Timeline}
use Rattle.spec_plain.specs.Stack.{rights_of}
use Rattle.spec_line.specs.Line.{Item, value, spot, finished, gave}
use Rattle.law_job_line.specs.Tasks.{Runner}

-- a task of a job and the number of its record in the core
pub record Numbered : Type 0 where
  pub number : ℕ
  pub runner : Runner

-- the line without numbers, on which tasks move
unfoldable pub unnumbered : List (Item Numbered) → List (Item Runner)
unnumbered [] = []
unnumbered (value q v ∷ l) = value q v ∷ unnumbered l
unnumbered (spot n ∷ l) = spot n.runner ∷ unnumbered l
unnumbered (finished n ∷ l) = finished n.runner ∷ unnumbered l
unnumbered (gave q ∷ l) = gave q ∷ unnumbered l

-- the unfinished tasks of a line, in order
unfoldable pub standing : List (Item Numbered) → List Numbered
standing [] = []
standing (value q v ∷ l) = standing l
standing (spot n ∷ l) = n ∷ standing l
standing (finished n ∷ l) = standing l
standing (gave q ∷ l) = standing l

-- the unfinished tasks of program order, in order
unfoldable pub places : List Mark → List Task
places [] = []
places (step p a ∷ xs) = places xs
places (place s ∷ xs) = s ∷ places xs

-- a task of a job as program order knows it: its rights are those of its procedure
unfoldable pub task_of : List ℕ → Numbered → Task
task_of j n = task n.runner.task.name n.number (rights_of j n.runner.task) n.runner.task.children

-- queue q along the line: its values, and the spots of the tasks with a right to it
unfoldable pub points_of : List ℕ → ℕ → List (Item Numbered) → List Point
points_of j q [] = []
points_of j q (value p v ∷ l) = let rest = points_of j q l in pick (eqb p q) (present v ∷ rest) rest
points_of j q (spot n ∷ l) = let rest = points_of j q l in pick (uses (rights_of j n.runner.task) q) (user n.number ∷ rest) rest
points_of j q (finished n ∷ l) = points_of j q l
points_of j q (gave p ∷ l) = points_of j q l

pub record Beside (j : List ℕ) (xs : List Mark) (l : List (Item Numbered)) : Type 0 where
  pub tasks : places xs ≡ map (task_of j) (standing l)
  pub queues : (q : ℕ) → q < 4 → Timeline q xs (points_of j q l)
