-- RIGHTS ALONG THE LINE: what a search may go past, and what a task may put. Where a search may go past a task, it may go past all
-- that the task puts; so what one task does there changes nothing for the other.
use Rattle.std.proofs.Common.{subst}
use Rattle.std.specs.Prelude.{◌≢◌, List, ℕ}
use Rattle.std.proofs.Math.Option.{Option}
use Rattle.spec_lists.specs.Maps.{All}
use Rattle.spec_line.specs.Line.{Item, value, spot, finished, gave, Action, puts, looks, returns, Search, free, seeking, found, putting, About, Apart, Acts}
use Rattle.spec_line.specs.Line

module _ {S : Type 0} (Pushes Pops : S → ℕ → Type 0) where
  -- no task that pops queue q
  abbrev pub NoPop : ℕ → Item S → Type 0
  NoPop q (value p v) = Unit {0}
  NoPop q (spot s) = ¬ Pops s q
  NoPop q (finished s) = Unit {0}
  NoPop q (gave p) = Unit {0}

  -- neither that, nor a task that pushes to q, nor a value of q
  abbrev pub NoUse : ℕ → Item S → Type 0
  NoUse q (value p v) = p ≢ q
  NoUse q (spot s) = (¬ Pops s q) × (¬ Pushes s q)
  NoUse q (finished s) = Unit {0}
  NoUse q (gave p) = Unit {0}

  -- What a search may go past: while it looks, no value of its queue and no task that pushes there or pops; then no task
  -- that pops.
  abbrev pub Passes : Search → Item S → Type 0
  Passes free x = Unit {0}
  Passes (seeking b q) x = NoUse q x
  Passes (found b q w) x = NoPop q x
  Passes (putting q w) x = NoPop q x

  -- what a task with the rights of s may put: values it may push, tasks with no right that it lacks
  abbrev pub Under : S → Item S → Type 0
  Under s (value q v) = Pushes s q
  Under s (spot t) = ((q : ℕ) → Pushes t q → Pushes s q) × ((q : ℕ) → Pops t q → Pops s q)
  Under s (finished t) = Unit {0}
  Under s (gave q) = Pushes s q

  abbrev pub Within : S → Action S → Type 0
  Within s (puts xs) = All (Under s) xs
  Within s (looks b q f) = Pops s q × ((a : Option ℕ) → All (Under s) (f a))
  Within s (returns q v xs) = Pops s q × All (Under s) xs

  -- where a search may go past a task, it may go past what the task puts
  no_pop : (q : ℕ) (s : S) (x : Item S) → Under s x → ¬ Pops s q → NoPop q x
  no_pop q s (value r v) u p = tt
  no_pop q s (spot t) u p = λ h. p (u.1 q h)
  no_pop q s (finished t) u p = tt
  no_pop q s (gave r) u p = tt

  pub passes_item : (n : Search) (s : S) (x : Item S) → Under s x → Passes n (spot s) → Passes n x
  passes_item free s x u p = tt
  passes_item (seeking b q) s (value r v) u p = λ e. p.1 (subst (Pushes s) e u)
  passes_item (seeking b q) s (spot t) u p = (λ h. p.0 (u.1 q h), λ h. p.1 (u.0 q h))
  passes_item (seeking b q) s (finished t) u p = tt
  passes_item (seeking b q) s (gave r) u p = tt
  passes_item (found b q w) s x u p = no_pop q s x u p
  passes_item (putting q w) s x u p = no_pop q s x u p

  puts_under : (s : S) (i : Action S) → Within s i → Line.Every (λ o. All (Under s)) i
  puts_under s (puts xs) w = w
  puts_under s (looks b q f) w = w.1
  puts_under s (returns q v xs) w = w.1

  pub put_under : (s : S) (i : Action S) (m : Search) (xs : List (Item S)) → Within s i → Acts m i xs → All (Under s) xs
  put_under s i m xs w d = Line.acts_every (λ o. All (Under s)) i m xs (puts_under s i w) d

  -- a task whose search is about a queue may pop there
  about_pops : {s : S} {i : Action S} {m : Search} {xs : List (Item S)} (q : ℕ) → Within s i → Line.Acting m i xs → About q m → Pops s q
  about_pops q w Line.Acting.putting_items e = absurd e
  about_pops q w Line.Acting.having_none e = rw e w.0
  about_pops q w Line.Acting.having_found e = rw e w.0
  about_pops q w Line.Acting.putting_back e = rw e w.0

  -- so no search about that queue goes past it
  pub looks_alone : (s : S) (i : Action S) (m n : Search) (xs : List (Item S)) → Within s i → Acts m i xs → Passes n (spot s) → Apart m n
  looks_alone s i m n xs w d p q e = stopped n p (about_pops q w (Line.acting m i xs d) e)
    where
      stopped : (k : Search) → Passes k (spot s) → Pops s q → About q k → ⊥
      stopped free p h f = f
      stopped (seeking b r) p h f = p.0 (rw f at h)
      stopped (found b r v) p h f = p (rw f at h)
      stopped (putting r v) p h f = p (rw f at h)

-- TASKS: their rights and what each does next, within its rights
pub record Tasks (S : Type 0) : Type 1 where
  pub Pushes : S → ℕ → Type 0
  pub Pops : S → ℕ → Type 0
  pub next : S → Action S
  pub within : (s : S) → Within Pushes Pops s (next s)

module _ {S : Type 0} (T : Tasks S) where
  -- what a search of these tasks may go past
  abbrev pub Passing : Search → Item S → Type 0
  Passing = Passes T.Pushes T.Pops
