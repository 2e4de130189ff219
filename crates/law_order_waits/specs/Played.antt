-- The lists that steps allowed by the waits and by the rights lead to; and what a step does to the spots.
use Rattle.std.specs.Prelude.{◌≡◌, refl, true, false, List, [], ◌∷◌, ◌++◌, ◌⊎◌, ℕ, ◌≤◌}
use Rattle.std.proofs.Common.{ap, sym, ◌∙◌, subst, inl, inr, arith}
use Rattle.spec_tree.specs.Rights.{subset}
use Rattle.spec_order.specs.Steps.{Name, Task, Item, step, spot, task, Act, spawns, pushes, pops, tests, syncs, finishes, name_of, number_of, rights_of, begin, made}
use Rattle.spec_order.specs.Steps.{advance}
use Rattle.spec_order.specs.Waits.{unfinished, blocked, has_child}
use Rattle.spec_order.specs.Ordered.{rights_at}
use Rattle.law_order.specs.Items.{In, in_split}
use Rattle.law_order.specs.Numbers.{advance_at, one_number}
use Rattle.law_order.specs.Reached.{Fresh, Reached, start, more}
use Rattle.law_order_waits.specs.Spots.{unfinished_says}

-- what is asked of a step of task t, besides that it is unfinished and no older sibling blocks it
unfoldable pub Asked : ℕ → Act → List Item → Type 0
Asked t (spawns c r) xs = subset r (rights_at t xs) ≡ true
Asked t finishes xs = has_child t xs ≡ false
Asked t (pushes q v) xs = Unit
Asked t (pops q) xs = Unit
Asked t (tests q) xs = Unit
Asked t syncs xs = Unit

pub data Played : List Item → Type 0 where
  opens : Played begin
  plays : {xs : List Item} (t : ℕ) (a : Act) → Played xs → unfinished t xs ≡ true → Fresh a xs → blocked t xs ≡ false → Asked t a xs → Played (advance t a xs)

pub played_reached : {xs : List Item} → Played xs → Reached xs
played_reached opens = start
played_reached (plays t a h u f b c) = more t a (played_reached h) u f

-- where the spot stands that makes a step
pub record At (t : ℕ) (xs : List Item) : Type 0 where
  pub before : List Item
  pub behind : List Item
  pub who : Task
  pub here : xs ≡ before ++ spot who ∷ behind
  pub number : number_of who ≡ t

pub stands_at : (xs : List Item) → Reached xs → (t : ℕ) → unfinished t xs ≡ true → At t xs
stands_at xs h t e =
    let w = unfinished_says xs h t e in
    let v = in_split (spot w.0) xs w.1 in
    record { before = v.0; behind = v.1; who = w.0; here = v.2; number = w.2 }

-- what the step makes of the list
pub advance_is : (xs : List Item) → Reached xs → (t : ℕ) (a : Act) (w : At t xs) → advance t a xs ≡ w.before ++ (made w.who a ++ w.behind)
advance_is xs h t a w =
    ap (λ (n : ℕ). advance n a xs) (sym w.number)
    ∙ ap (advance (number_of w.who) a) w.here
    ∙ advance_at w.before w.behind w.who a (one_number (subst Reached w.here h) (number_of w.who))

-- how many children a task has made
unfoldable pub kids_of : Task → ℕ
kids_of (task p t r k) = k

-- the same task, which may have made more children
pub record Like (o s : Task) : Type 0 where
  pub name : name_of o ≡ name_of s
  pub number : number_of o ≡ number_of s
  pub rights : rights_of o ≡ rights_of s
  pub kids : kids_of s ≤ kids_of o

pub like_self : (s : Task) → Like s s
like_self s = record { name = refl; number = refl; rights = refl; kids = omega arith }

-- the child that a task makes
unfoldable pub child_of : Task → ℕ → ℕ → Task
child_of s c r = task (kids_of s ∷ name_of s) c r 0

abbrev pub Spawns : Task → Act → Task → Type 0
Spawns s a o = (c : ℕ) × (r : ℕ) × (a ≡ spawns c r) × (o ≡ child_of s c r)

-- the spots in place of the task's own: its own again, or the child's
pub made_spots : (s : Task) (a : Act) (o : Task) → In (spot o) (made s a) → Like o s ⊎ Spawns s a o
unfolding made child_of kids_of name_of number_of rights_of
made_spots s a o i = go s a i
  where
    same : {p : Name} {t r k : ℕ} → spot o ≡ spot (task p t r k) → o ≡ task p t r k
    same e = cc

    no : {p : Name} {a : Act} {A : Type 0} → spot o ≡ step p a → A
    no e = let z : ◌≡◌ {A = ℕ} 0 1 = cc in absurd (omega (arith, z))

    mine : (p : Name) (t r k : ℕ) → In (spot o) (spot (task p t r k) ∷ []) → Like o (task p t r k)
    mine p t r k (inl e) = subst (λ (s : Task). Like s (task p t r k)) (sym (same e)) (like_self (task p t r k))
    mine p t r k (inr i) = absurd i

    go : (s : Task) (a : Act) → In (spot o) (made s a) → Like o s ⊎ Spawns s a o
    go (task p t r k) (spawns c u) (inl e) = no e
    go (task p t r k) (spawns c u) (inr (inl e)) = inr (c, u, refl, same e)
    go (task p t r k) (spawns c u) (inr (inr (inl e))) =
        inl (subst (λ (s : Task). Like s (task p t r k)) (sym (same e)) (record { name = refl; number = refl; rights = refl; kids = omega arith }))
    go (task p t r k) (spawns c u) (inr (inr (inr i))) = absurd i
    go (task p t r k) (pushes q v) (inl e) = no e
    go (task p t r k) (pushes q v) (inr i) = inl (mine p t r k i)
    go (task p t r k) (pops q) (inl e) = no e
    go (task p t r k) (pops q) (inr i) = inl (mine p t r k i)
    go (task p t r k) (tests q) (inl e) = no e
    go (task p t r k) (tests q) (inr i) = inl (mine p t r k i)
    go (task p t r k) syncs (inl e) = no e
    go (task p t r k) syncs (inr i) = inl (mine p t r k i)
    go (task p t r k) finishes (inl e) = no e
    go (task p t r k) finishes (inr i) = absurd i
