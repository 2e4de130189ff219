-- A MOVE THAT LOOKS in a queue, where nothing of the queue stands before the task, and where a value does.
use Rattle.std.specs.Prelude.{◌≡◌, Bool, false, ℕ}
use Rattle.std.proofs.Math.Path.{refl, ap}
use Rattle.std.proofs.Common.{sym, ◌∙◌, subst}
use Rattle.std.proofs.Math.Bool.{true, false≢true}
use Rattle.std.proofs.Math.Option.{Option, none, some}
use mathlib.Core.List.{List, [], ◌∷◌, ◌++◌}
use Rattle.spec_words.specs.Words.{both_true}
use Rattle.spec_tree.specs.Rights.{pushes as mayPush, pops as mayPop}
use Rattle.spec_order.specs.Steps.{Item as Mark, rights_of}
use Rattle.spec_lists.specs.Maps.{All}
use Rattle.spec_plain.specs.Stack.{rights_of as jobRights}
use Rattle.spec_line.specs.Line.{Item, value, spot, finished, gave, looks, seeking, found, leave}
use Rattle.law_job_line.specs.Tasks.{can_push, can_pop, Runner, action}
use Rattle.spec_tree.specs.Users.{useless_pops, useless_pushes}
use Rattle.law_job_order.specs.Beside.{Numbered, unnumbered, standing, task_of, Beside}
use Rattle.law_job_order.specs.After.{After}
use Rattle.law_job_order.specs.Points.{standing_append, unnumbered_append}
use Rattle.law_job_order.specs.Walks.{Walked, Past, walk_nothing, walk_finds, walk_after}
use Rattle.law_job_order.specs.Searches.{NoPop, NoPoint, FirstValue}
use Rattle.law_job_order.specs.Kept.{kept, standing_kept, unnumbered_kept}
use Rattle.law_job_order.specs.Puts.{on}

module _ (j : List ℕ) where
  -- a right that a task lacks
  no_push : (r q : ℕ) → mayPush r q ≡ false → can_push r q ≡ true → ⊥
  unfolding can_push
  no_push r q e d = false≢true (sym e ∙ (both_true _ _ d).1)

  no_pop : (r q : ℕ) → mayPop r q ≡ false → can_pop r q ≡ true → ⊥
  unfolding can_pop
  no_pop r q e d = false≢true (sym e ∙ (both_true _ _ d).1)

  -- a search that looks goes past what is not of its queue
  pub past_bare : (c : Bool) (q : ℕ) (a : List (Item Numbered)) → All (NoPoint j q) a → All (Past j (seeking c q)) (unnumbered a)
  unfolding unnumbered task_of rights_of
  past_bare c q [] h = tt
  past_bare c q (value p v ∷ a) h = (h.0, past_bare c q a h.1)
  past_bare c q (spot m ∷ a) h =
      let r = jobRights j m.runner.task in
      ((no_pop r q (useless_pops r q h.0), no_push r q (useless_pushes r q h.0)), past_bare c q a h.1)
  past_bare c q (finished m ∷ a) h = (tt, past_bare c q a h.1)
  past_bare c q (gave p ∷ a) h = (tt, past_bare c q a h.1)

  -- one that has found its value goes past all but poppers
  pub past_quiet : (c : Bool) (q v : ℕ) (a : List (Item Numbered)) → All (NoPop j q) a → All (Past j (found c q v)) (unnumbered a)
  unfolding unnumbered task_of rights_of
  past_quiet c q v [] h = tt
  past_quiet c q v (value p w ∷ a) h = (tt, past_quiet c q v a h.1)
  past_quiet c q v (spot m ∷ a) h = (no_pop (jobRights j m.runner.task) q h.0, past_quiet c q v a h.1)
  past_quiet c q v (finished m ∷ a) h = (tt, past_quiet c q v a h.1)
  past_quiet c q v (gave p ∷ a) h = (tt, past_quiet c q v a h.1)

module _ (j : List ℕ) (a b : List (Item Numbered)) (n : Numbered) (k : Bool) (q : ℕ) (f : Option ℕ → Runner)
    (does : action j n.runner ≡ looks k q (λ o. spot (f o) ∷ [])) where
  -- nothing is found
  pub nothing_after : {xs : List Mark} → All (NoPoint j q) a → Beside j xs (a ++ spot (on n (f none)) ∷ b) → After j xs a b n (on n (f none) ∷ []) none
  unfolding unnumbered standing
  nothing_after bare h =
      walk_after j a b n (on n (f none) ∷ []) none (a ++ spot (on n (f none)) ∷ b) h (standing_append a (spot (on n (f none)) ∷ b)) _ does refl
      (subst (λ (l : List (Item Runner)). Walked j n.runner (seeking k q) (unnumbered a) (unnumbered a ++ spot n.runner ∷ unnumbered b) l none)
      (sym (unnumbered_append a (spot (on n (f none)) ∷ b)))
      (walk_nothing j n.runner k q (λ o. spot (f o) ∷ []) does (unnumbered b) (unnumbered a) (past_bare j k q a bare)))

  -- a value is found
  pub value_after : {xs : List Mark} (v : ℕ) (w : FirstValue j q v a) → Beside j xs (kept q v w.front w.back k ++ spot (on n (f (some v))) ∷ b)
      → After j xs a b n (on n (f (some v)) ∷ []) (some v)
  unfolding unnumbered standing
  value_after v w h =
      let m = on n (f (some v)) in
      let here = unnumbered a ++ spot n.runner ∷ unnumbered b in
      let there = unnumbered w.front ++ leave k (value q v) (unnumbered w.back ++ spot m.runner ∷ unnumbered b) in
      walk_after j a b n (m ∷ []) (some v) (kept q v w.front w.back k ++ spot m ∷ b) h
      (standing_append (kept q v w.front w.back k) (spot m ∷ b)
      ∙ ap (λ (l : List Numbered). l ++ m ∷ standing b) (standing_kept q v w.front w.back k ∙ ap standing (sym w.parts)))
      _ does refl
      (subst (λ (l : List (Item Runner)). Walked j n.runner (seeking k q) (unnumbered a) here l (some v))
      (sym (unnumbered_kept q v w.front w.back k (spot m ∷ b)))
      (subst (λ (g : List (Item Runner)). Walked j n.runner (seeking k q) g here there (some v))
      (sym (unnumbered_append w.front (value q v ∷ w.back)) ∙ ap unnumbered (sym w.parts))
      (subst (λ (l : List (Item Runner)). Walked j n.runner (seeking k q) (unnumbered w.front ++ value q v ∷ unnumbered w.back) l there (some v))
      (sym (unnumbered_kept q v w.front w.back true (spot n ∷ b))
      ∙ ap (λ (l : List (Item Numbered)). unnumbered (l ++ spot n ∷ b)) (sym w.parts)
      ∙ unnumbered_append a (spot n ∷ b))
      (walk_finds j n.runner k q (λ o. spot (f o) ∷ []) does (unnumbered b) v (unnumbered w.front) (unnumbered w.back)
      (past_bare j k q w.front w.bare) (past_quiet j k q v w.back w.quiet)))))
