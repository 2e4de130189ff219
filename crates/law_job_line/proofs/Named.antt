-- THE NAMES ON THE LINE: no two tasks have the same, and the next child of an unfinished task has a new one. Moves keep this. So the
-- events of one name are those of one task.
use Rattle.std.specs.Prelude.{◌≡◌, ℕ, ◌<◌}
use Rattle.std.proofs.Math.Path.{refl, sym}
use Rattle.std.proofs.Common.{◌∙◌, arith}
use mathlib.Core.List.{List, [], ◌∷◌, ◌++◌, tail-eq_of_cons-eq}
use Rattle.spec_lists.specs.Maps.{All, all_append, all_map}
use Rattle.spec_order.specs.Steps.{Name}
use Rattle.law_order.specs.Names.{Under, under_self, under_parent, not_under_child, one_branch}
use Rattle.spec_job.specs.Effects.{Effect}
use Rattle.spec_plain.specs.Machine.{Event, advanced, parent, child}
use Rattle.spec_line.specs.Line.{Item, value, spot, finished, gave}
use Rattle.law_job_line.specs.Tasks.{Runner}
use Rattle.law_job_line.proofs.Put.{Put, goes, pushes, finishes, spawns, answered}
use Rattle.law_job_line.proofs.Stood.{Replaces, here, past, takes}

abbrev pub Named : Name → Item Runner → Type 0
Named p (value q v) = ⊥
Named p (spot u) = u.task.name ≡ p
Named p (finished u) = u.task.name ≡ p
Named p (gave q) = ⊥

abbrev pub Unnamed : Name → Item Runner → Type 0
Unnamed p x = Named p x → ⊥

-- an unfinished task of name p with n children
abbrev Open : Name → ℕ → Item Runner → Type 0
Open p n (value q v) = ⊥
Open p n (spot u) = (u.task.name ≡ p) × (u.task.children ≡ n)
Open p n (finished u) = ⊥
Open p n (gave q) = ⊥

open_named : (p : Name) (n : ℕ) (x : Item Runner) → Open p n x → Named p x
open_named p n (value q v) o = absurd o
open_named p n (spot u) o = o.0
open_named p n (finished u) o = absurd o
open_named p n (gave q) o = absurd o

-- the name of its next child
abbrev pub next_name : Runner → Name
next_name u = u.task.children ∷ u.task.name

-- where y descends from a child of x, that child was made
abbrev Made : Item Runner → Item Runner → Type 0
Made x y = (p q : Name) (k n : ℕ) → Open p n x → Named q y → Under (k ∷ p) q → k < n

pub record Apart (x y : Item Runner) : Type 0 where
  pub differ : (p : Name) → Named p x → Named p y → ⊥
  pub left : Made x y
  pub right : Made y x

abbrev pub Pairs : List (Item Runner) → Type 0
Pairs [] = Unit {0}
Pairs (x ∷ l) = All (Apart x) l × Pairs l

pub turned : {x y : Item Runner} → Apart x y → Apart y x
turned h = record { differ = λ p a b. h.differ p b a; left = h.right; right = h.left }

apart_value : (q v : ℕ) (x : Item Runner) → Apart (value q v) x
apart_value q v x = record { differ = λ p a b. a; left = λ p r k n o. absurd o; right = λ p r k n o b. absurd b }

-- WHAT THE TASK u PUTS is apart from what u was apart from
module _ (u : Runner) where
  -- no name on the line is that of the next child, or descends from it
  next_unused : (y : Item Runner) → Apart (spot u) y → (q : Name) → Named q y → Under (next_name u) q → ⊥
  next_unused y h q b d = omega (arith, h.left u.task.name q u.task.children u.task.children (refl, refl) b d)

  next_unnamed : (y : Item Runner) → Apart (spot u) y → Unnamed (next_name u) y
  next_unnamed y h e = next_unused y h (next_name u) e (under_self _)

  pub not_own : Unnamed (next_name u) (spot u)
  not_own e = not_under_child (under_self u.task.name) ([], e)

  module _ (w x : ℕ) where
    abbrev new : Item Runner
    new = spot (record { task = child u.task w x; answers = [] })

    child_apart : (y : Item Runner) → Apart (spot u) y → Apart new y
    unfolding child
    child_apart y h =
        record {
          differ = λ p e b. next_unnamed y h (rw e b);
          left = λ p q k n o b d. absurd (next_unused y h q b (under_parent (rw (← o.0) at d)));
          right = λ p q k n o b d. old p k n o d.0 (b ∙ d.1);
        }
      where
        old : (p : Name) (k n : ℕ) → Open p n y → (path : List ℕ) → next_name u ≡ path ++ (k ∷ p) → k < n
        old p k n o [] e = absurd (h.differ p (tail-eq_of_cons-eq e) (open_named p n y o))
        old p k n o (i ∷ path) e = h.right p u.task.name k n o refl (path, tail-eq_of_cons-eq e)

  over_apart : (a : Event) (y : Item Runner) → Apart (spot u) y → Apart (finished (answered u a u.task)) y
  over_apart a y h = record { differ = h.differ; left = λ p q k n o. absurd o; right = h.right }

  module _ (a : Event) (e : Effect) where
    abbrev onward : Item Runner
    onward = spot (answered u a (advanced u.task e))

    abbrev spawner : Item Runner
    spawner = spot (answered u a (parent (advanced u.task e)))

    onward_apart : (y : Item Runner) → Apart (spot u) y → Apart onward y
    unfolding advanced
    onward_apart y h = record { differ = h.differ; left = h.left; right = h.right }

    spawner_apart : (y : Item Runner) → Apart (spot u) y → Apart spawner y
    unfolding advanced parent
    spawner_apart y h =
        record {
          differ = h.differ;
          left = λ p q k n o b d. omega (arith, h.left p q k u.task.children (o.0, refl) b d, o.1);
          right = h.right;
        }

    both_apart : (w x : ℕ) → Apart (new w x) spawner
    unfolding advanced parent child
    both_apart w x =
        record {
          differ = λ p c d. not_own (d ∙ sym c);
          left = λ p q k n o d r. absurd (not_under_child (under_self u.task.name) (rw (← d) at (rw (← o.0) at (under_parent r))));
          right = λ p q k n o d r. omega (arith, one_branch (rw (← o.0) at (rw (← d) at r)) (under_self (next_name u)), o.1);
        }

module _ (j : List ℕ) where
  put_apart : {u : Runner} {a : Event} {xs : List (Item Runner)} (y : Item Runner) → Put j u a xs → Apart y (spot u) → All (Apart y) xs
  put_apart {u} {a} y (goes e st) h = (turned (onward_apart u a e y (turned h)), tt)
  put_apart {u} {a} y (pushes q v e st) h = (turned (apart_value q v y), (turned (onward_apart u a e y (turned h)), tt))
  put_apart {u} {a} y finishes h = (turned (over_apart u a y (turned h)), tt)
  put_apart {u} {a} y (spawns w x e st more) h = (turned (child_apart u w x y (turned h)), (turned (spawner_apart u a e y (turned h)), tt))

  put_pairs : {u : Runner} {a : Event} {xs : List (Item Runner)} (l : List (Item Runner)) → Put j u a xs → Pairs (spot u ∷ l) → Pairs (xs ++ l)
  put_pairs {u} {a} l (goes e st) h = (all_map (Apart (spot u)) _ l (onward_apart u a e) h.0, h.1)
  put_pairs {u} {a} l (pushes q v e st) h = (
    (apart_value q v _, all_map (Apart (spot u)) _ l (λ y k. apart_value q v y) h.0),
    (all_map (Apart (spot u)) _ l (onward_apart u a e) h.0, h.1),
  )
  put_pairs {u} {a} l finishes h = (all_map (Apart (spot u)) _ l (over_apart u a) h.0, h.1)
  put_pairs {u} {a} l (spawns w x e st more) h = (
    (both_apart u a e w x, all_map (Apart (spot u)) _ l (child_apart u w x) h.0),
    (all_map (Apart (spot u)) _ l (spawner_apart u a e) h.0, h.1),
  )

  put_unnamed : {u : Runner} {a : Event} {xs : List (Item Runner)} (p : Name) (l : List (Item Runner)) → Put j u a xs → All (Unnamed p) (xs ++ l)
      → All (Unnamed p) (spot u ∷ l)
  unfolding advanced parent
  put_unnamed p l (goes e st) h = h
  put_unnamed p l (pushes q v e st) h = h.1
  put_unnamed p l finishes h = h
  put_unnamed p l (spawns w x e st more) h = h.1

  module _ {u : Runner} {a : Event} where
    -- what holds of all holds of the task that moves
    pub of_mover : (P : Item Runner → Type 0) {l k : List (Item Runner)} → Replaces j u a l k → All P l → P (spot u)
    of_mover P (here p) h = h.0
    of_mover P (past r) h = of_mover P r h.1
    of_mover P (takes r) h = of_mover P r h.1

    apart_kept : (y : Item Runner) {l k : List (Item Runner)} → Replaces j u a l k → All (Apart y) l → All (Apart y) k
    apart_kept y (here {xs = xs} {l = l} p) h = all_append (Apart y) xs l (put_apart y p h.0) h.1
    apart_kept y (past r) h = (h.0, apart_kept y r h.1)
    apart_kept y (takes r) h = apart_kept y r h.1

    pub pairs_kept : {l k : List (Item Runner)} → Replaces j u a l k → Pairs l → Pairs k
    pairs_kept (here {l = l} p) h = put_pairs l p h
    pairs_kept (past {x = x} r) h = (apart_kept x r h.0, pairs_kept r h.1)
    pairs_kept (takes r) h = pairs_kept r h.1

    -- the next child's name is new
    pub next_new : {l k : List (Item Runner)} → Replaces j u a l k → Pairs l → All (Unnamed (next_name u)) l
    next_new (here {l = l} p) h = (not_own u, all_map (Apart (spot u)) _ l (next_unnamed u) h.0)
    next_new (past {x = x} r) h = (next_unnamed u x (turned (of_mover (Apart x) r h.0)), next_new r h.1)
    next_new (takes r) h = (λ e. e, next_new r h.1)

    -- names stay on the line
    pub unnamed_before : (p : Name) {l k : List (Item Runner)} → Replaces j u a l k → All (Unnamed p) k → All (Unnamed p) l
    unnamed_before p (here {l = l} c) h = put_unnamed p l c h
    unnamed_before p (past r) h = (h.0, unnamed_before p r h.1)
    unnamed_before p (takes r) h = (λ e. e, unnamed_before p r h)
