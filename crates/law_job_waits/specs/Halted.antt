-- THE WAITS FOR OLDER SIBLINGS AND CHILDREN, on the line: a task is blocked, or has a child it waits for, exactly where some task before
-- it halts it.
use Rattle.std.specs.Prelude.{◌≡◌, refl, Bool, ℕ}
use Rattle.std.proofs.Math.Path.{ap}
use Rattle.std.proofs.Common.{sym, ◌∙◌, subst, inl, ⊎_elim}
use Rattle.std.proofs.Math.Bool.{true, false}
use Rattle.std.proofs.lemmas.Bool.{false≢true}
use mathlib.Core.List.{List, [], ◌∷◌, ◌++◌}
use Rattle.spec_words.specs.Words.{both, either, both_true, true_both, either_true, true_left, true_right, refuted}
use Rattle.spec_tree.specs.Rights.{shares_pop}
use Rattle.spec_order.specs.Steps.{Task, Item as Mark, spot as place, name_of, number_of, rights_of}
use Rattle.spec_order.specs.Waits.{is_child, is_older, blocked, has_child}
use Rattle.law_order.specs.Items.{In}
use Rattle.law_order.specs.Reached.{Reached}
use Rattle.law_order_waits.specs.Spots.{some_says, says_some, pair_is}
use Rattle.law_order_waits.specs.Played.{Played, played_reached}
use Rattle.law_order_waits.specs.Changes.{in_left, in_right}
use Rattle.law_order_waits.specs.Kinship.{says_blocked, blocked_says}
use Rattle.spec_lists.specs.Maps.{All}
use Rattle.spec_job.specs.Operations.{operation_at}
use Rattle.spec_plain.specs.Stack.{rights_of as jobRights}
use Rattle.spec_line.specs.Line.{Item, value, spot, finished, gave}
use Rattle.law_job_line.specs.Tasks.{Runner, instruction_of}
use Rattle.law_job_order.specs.Beside.{Numbered, unnumbered, task_of, Beside}
use Rattle.law_job_order.specs.Located.{Located, located}
use Rattle.law_job_order.specs.Steps.{Old}
use Rattle.law_job_order.specs.Searches.{Spots, on_line}
use Rattle.law_named_waits.specs.Names.{above}
use Rattle.law_named_waits.specs.Named.{halts}
use Rattle.law_job_times.specs.Kin.{awaits, Unhalted}
use Rattle.law_job_waits.specs.Able.{Awaits, Able}
use Rattle.law_job_waits.specs.Before.{not_above, older_before, child_before, off_line}

-- task o, by its name and rights, halts u
abbrev halts_by : List ℕ → Runner → Task → Bool
halts_by j u o =
    either (both (is_older (name_of o) u.task.name) (shares_pop (rights_of o) (jobRights j u.task)))
    (both (is_child (name_of o) u.task.name) (awaits (operation_at (instruction_of j u).operation)))

abbrev Open : List ℕ → Runner → Task → Type 0
Open j u o = (above (name_of o) u.task.name ≡ true → ⊥) × (halts_by j u o ≡ true → ⊥)

module _ (j : List ℕ) (u : Runner) where
  open_clear : (a : List (Item Numbered)) → All (Spots j (Open j u)) a → Unhalted j u (unnumbered a)
  unfolding unnumbered task_of name_of rights_of halts
  open_clear [] h = tt
  open_clear (value q v ∷ a) h = (tt, open_clear a h.1)
  open_clear (spot n ∷ a) h = (h.0, open_clear a h.1)
  open_clear (finished n ∷ a) h = (tt, open_clear a h.1)
  open_clear (gave q ∷ a) h = (tt, open_clear a h.1)

  clear_open : (a : List (Item Numbered)) → Unhalted j u (unnumbered a) → All (Spots j (Open j u)) a
  unfolding unnumbered task_of name_of rights_of halts
  clear_open [] h = tt
  clear_open (value q v ∷ a) h = (tt, clear_open a h.1)
  clear_open (spot n ∷ a) h = (h.0, clear_open a h.1)
  clear_open (finished n ∷ a) h = (tt, clear_open a h.1)
  clear_open (gave q ∷ a) h = (tt, clear_open a h.1)

module _ (j : List ℕ) {xs : List Mark} (played : Played xs) (a b : List (Item Numbered)) (n : Numbered) (h : Beside j xs (a ++ spot n ∷ b)) where
  abbrev u : Runner
  u = n.runner

  abbrev s : Task
  s = task_of j n

  abbrev here : Located j xs a b n
  here = located j a b n h

  abbrev Steps : List Mark
  Steps = Old j (played_reached played) a b n h

  reached : Reached Steps
  reached = subst Reached here.here (played_reached played)

  mine : In (place s) Steps
  mine = in_right (place s) here.before (place s ∷ here.behind) (inl refl)

  ahead : (o : Task) → In (place o) here.before → In (place o) Steps
  ahead o i = in_left (place o) here.before (place s ∷ here.behind) i

  says_child : (o : Task) → In (place o) here.before → is_child (name_of o) (name_of s) ≡ true → has_child (number_of s) Steps ≡ true
  unfolding has_child
  says_child o i e = pair_is Steps reached _ s mine ∙ says_some _ Steps o (ahead o i) e

  -- a task that need not wait: nobody before it halts it
  pub nobody_halts : Able j xs n → Unhalted j u (unnumbered a)
  unfolding task_of name_of number_of rights_of
  nobody_halts able = open_clear j u a (on_line j (Open j u) here.before a here.first each)
    where
      free : blocked (number_of s) Steps ≡ false
      free = ap (blocked (number_of s)) (sym here.here) ∙ able.free

      childless : Awaits j u → has_child (number_of s) Steps ≡ false
      childless w = ap (has_child (number_of s)) (sym here.here) ∙ able.childless w

      each : (o : Task) → In (place o) here.before → Open j u o
      each o i = (
        not_above here.before here.behind s reached o i,
        λ e. ⊎_elim
            (λ d. let w = both_true _ _ d in false≢true (sym free ∙ says_blocked Steps reached o s (ahead o i, w.0, w.1) mine))
            (λ d. let w = both_true _ _ d in false≢true (sym (childless w.1) ∙ says_child o i w.0))
            (either_true _ _ e),
      )

  -- and where nobody halts it, it waits for no sibling and no child
  module _ (c : Unhalted j u (unnumbered a)) where
    each_open : (o : Task) → In (place o) here.before → Open j u o
    each_open = off_line j (Open j u) here.before a here.first (clear_open j u a c)

    pub never_blocked : blocked n.number xs ≡ false
    unfolding task_of name_of number_of rights_of
    never_blocked = ap (blocked (number_of s)) here.here ∙ refuted _ none
      where
        none : blocked (number_of s) Steps ≡ true → ⊥
        none e =
            let w = blocked_says Steps reached s mine e in
            let i = older_before here.before here.behind s reached w.0 w.1.0 w.1.1 in
            (each_open w.0 i).1 (true_left _ (true_both w.1.1 w.1.2))

    pub never_awaited : Awaits j u → has_child n.number xs ≡ false
    unfolding task_of name_of number_of rights_of has_child
    never_awaited awaiting = ap (has_child (number_of s)) here.here ∙ refuted _ none
      where
        none : has_child (number_of s) Steps ≡ true → ⊥
        none e =
            let w = some_says _ Steps (sym (pair_is Steps reached _ s mine) ∙ e) in
            let i = child_before here.before here.behind s reached w.0 w.1 w.2 in
            (each_open w.0 i).1 (true_right _ (true_both w.2 awaiting))
