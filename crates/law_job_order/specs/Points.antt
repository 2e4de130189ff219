-- What is read off a line, part by part: its unfinished tasks, the points of a queue, the line without numbers.
use Rattle.std.specs.Prelude.{◌≡◌, Bool, true, false, ℕ, eqb}
use Rattle.std.proofs.Math.Path.{refl}
use Rattle.std.proofs.Common.{ap, sym, ◌∙◌, eq-eqb, ne_eqb}
use mathlib.Core.List.{List, [], ◌∷◌, ◌++◌}
use Rattle.spec_words.specs.Words.{pick, halt, pass}
use Rattle.spec_tree.specs.Rights.{uses}
use Rattle.spec_order.specs.Steps.{Task, Item as Mark, step, spot as place, number_of, rights_of}
use Rattle.law_order_queue.specs.Points.{Point, value as present, user}
use Rattle.spec_plain.specs.Stack.{rights_of as jobRights}
use Rattle.spec_line.specs.Line.{Item, value, spot, finished, gave}
use Rattle.law_job_line.specs.Tasks.{Runner}
use Rattle.law_job_order.specs.Beside.{Numbered, unnumbered, standing, places, task_of, points_of}

pub places_append : (xs ys : List Mark) → places (xs ++ ys) ≡ places xs ++ places ys
unfolding places
places_append [] ys = refl
places_append (step p a ∷ xs) ys = places_append xs ys
places_append (place s ∷ xs) ys = ap (λ (l : List Task). s ∷ l) (places_append xs ys)

pub standing_append : (a b : List (Item Numbered)) → standing (a ++ b) ≡ standing a ++ standing b
unfolding standing
standing_append [] b = refl
standing_append (value q v ∷ a) b = standing_append a b
standing_append (spot n ∷ a) b = ap (λ (l : List Numbered). n ∷ l) (standing_append a b)
standing_append (finished n ∷ a) b = standing_append a b
standing_append (gave q ∷ a) b = standing_append a b

pub unnumbered_append : (a b : List (Item Numbered)) → unnumbered (a ++ b) ≡ unnumbered a ++ unnumbered b
unfolding unnumbered
unnumbered_append [] b = refl
unnumbered_append (value q v ∷ a) b = ap (λ (l : List (Item Runner)). value q v ∷ l) (unnumbered_append a b)
unnumbered_append (spot n ∷ a) b = ap (λ (l : List (Item Runner)). spot n.runner ∷ l) (unnumbered_append a b)
unnumbered_append (finished n ∷ a) b = ap (λ (l : List (Item Runner)). finished n.runner ∷ l) (unnumbered_append a b)
unnumbered_append (gave q ∷ a) b = ap (λ (l : List (Item Runner)). gave q ∷ l) (unnumbered_append a b)

-- what the head of a line adds, where a test says so
chosen_append : (c : Bool) (p : Point) (k l r : List Point) → k ≡ l ++ r → pick c (p ∷ k) k ≡ pick c (p ∷ l) l ++ r
unfolding pick
chosen_append true p k l r e = ap (λ (x : List Point). p ∷ x) e
chosen_append false p k l r e = e

module _ (j : List ℕ) (q : ℕ) where
  pub points_append : (a b : List (Item Numbered)) → points_of j q (a ++ b) ≡ points_of j q a ++ points_of j q b
  unfolding points_of
  points_append [] b = refl
  points_append (value p v ∷ a) b = chosen_append (eqb p q) (present v) _ _ _ (points_append a b)
  points_append (spot n ∷ a) b = chosen_append (uses (jobRights j n.runner.task) q) (user n.number) _ _ _ (points_append a b)
  points_append (finished n ∷ a) b = points_append a b
  points_append (gave p ∷ a) b = points_append a b

  -- the point of a spot hangs on its task only
  pub point_is : (n : Numbered) (l : List (Item Numbered))
      → points_of j q (spot n ∷ l) ≡ pick (uses (rights_of (task_of j n)) q) (user (number_of (task_of j n)) ∷ points_of j q l) (points_of j q l)
  unfolding points_of task_of rights_of number_of
  point_is n l = refl

  -- a value of the queue, and one of another
  pub value_here : (v : ℕ) (l : List (Item Numbered)) → points_of j q (value q v ∷ l) ≡ present v ∷ points_of j q l
  unfolding points_of
  value_here v l = halt _ _ (eq-eqb q q refl)

  pub value_past : (p v : ℕ) (l : List (Item Numbered)) → (p ≡ q → ⊥) → points_of j q (value p v ∷ l) ≡ points_of j q l
  unfolding points_of
  value_past p v l d = pass _ (ne_eqb p q d) refl

  pub finished_past : (n : Numbered) (l : List (Item Numbered)) → points_of j q (finished n ∷ l) ≡ points_of j q l
  unfolding points_of
  finished_past n l = refl

  pub gave_past : (p : ℕ) (l : List (Item Numbered)) → points_of j q (gave p ∷ l) ≡ points_of j q l
  unfolding points_of
  gave_past p l = refl

  -- the points of a line, where some items of it are put in place of others
  pub points_swap : (a b c : List (Item Numbered)) → points_of j q b ≡ points_of j q c → points_of j q (a ++ b) ≡ points_of j q (a ++ c)
  points_swap a b c e = points_append a b ∙ ap (λ (l : List Point). points_of j q a ++ l) e ∙ sym (points_append a c)
