-- THE LOG AND THE LINE: after any moves of an accepted job's tasks, what each task on the line has been answered are the
-- events of its name in the log, and the log has no event of another name.
use Rattle.std.specs.Prelude.{◌≡◌, refl, ◌⊎◌, ℕ}
use Rattle.std.proofs.Math.Path.{ap}
use Rattle.std.proofs.Common.{sym, ◌∙◌, subst, inl, inr, ⊎_elim}
use mathlib.Core.List.{List, [], ◌∷◌, ◌++◌, append_assoc, append-nil}
use Rattle.spec_words.specs.Words.{halt, pass}
use Rattle.spec_lists.specs.Maps.{All}
use Rattle.spec_order.specs.Steps.{Name}
use Rattle.law_order.specs.Names.{same?, same_yes, same_no}
use Rattle.spec_job.specs.Accepted.{Accepted}
use Rattle.spec_plain.specs.Machine.{Event, event_of, advanced, parent, child}
use Rattle.spec_plain.specs.Run.{answers_of}
use Rattle.spec_plain.proofs.Laws.{answers_join}
use Rattle.spec_line.specs.Line.{Item, value, spot, finished, gave}
use Rattle.spec_line.specs.Fronts.{Fronts}
use Rattle.law_timed_line.specs.Times.{Timed, untimed}
use Rattle.law_timed_line.specs.Walks.{Waits}
use Rattle.law_timed_line.proofs.Agreement.{Moves}
use Rattle.law_timed_line.proofs.Answers.{On, unfinished, over, behind}
use Rattle.law_job_line.specs.Tasks.{Runner}
use Rattle.law_job_line.proofs.Within.{job_tasks}
use Rattle.law_job_line.proofs.Agree.{start, none_back}
use Rattle.law_job_line.proofs.Events.{move_event, log}
use Rattle.law_job_line.proofs.Put.{Put, goes, pushes, finishes, spawns}
use Rattle.law_job_line.proofs.Stood.{Standing, Replaces, here, past, takes, replaced, stand_kept, start_stands}
use Rattle.law_job_line.proofs.Named.{Unnamed, next_name, Apart, turned, Pairs, not_own, of_mover, pairs_kept, next_new, unnamed_before}

-- the answers of a task, by the events es
abbrev pub Own : List Event → Item Runner → Type 0
Own es (value q v) = Unit {0}
Own es (spot u) = u.answers ≡ answers_of u.task.name es
Own es (finished u) = u.answers ≡ answers_of u.task.name es
Own es (gave q) = Unit {0}

-- The line l and the events es: each task's answers are its events, no event is of a name that no task has, and names are
-- used once.
pub record Logged (l : List (Item Runner)) (es : List Event) : Type 0 where
  pub own : All (Own es) l
  pub heard : (p : Name) → All (Unnamed p) l → answers_of p es ≡ []
  pub apart : Pairs l

-- one event more
module _ (es : List Event) (a : Event) (p : Name) where
  one_more : a.name ≡ p → answers_of p (es ++ (a ∷ [])) ≡ answers_of p es ++ (a ∷ [])
  unfolding answers_of
  one_more e = answers_join p es (a ∷ []) ∙ ap (λ (x : List Event). answers_of p es ++ x) (halt _ _ (same_yes a.name p e))

  no_more : (a.name ≡ p → ⊥) → answers_of p (es ++ (a ∷ [])) ≡ answers_of p es
  unfolding answers_of
  no_more n = answers_join p es (a ∷ []) ∙ ap (λ (x : List Event). answers_of p es ++ x) (pass _ (same_no a.name p n) refl) ∙ append-nil (answers_of p es)

-- the task u moves and is answered a
module _ (j : List ℕ) (es : List Event) (u : Runner) (a : Event) (made : a.name ≡ u.task.name) where
  other_own : (x : Item Runner) → Apart (spot u) x → Own es x → Own (es ++ (a ∷ [])) x
  other_own (value q v) h o = tt
  other_own (spot w) h o = o ∙ sym (no_more es a w.task.name (λ e. h.differ w.task.name (sym made ∙ e) refl))
  other_own (gave q) h o = tt
  other_own (finished w) h o = o ∙ sym (no_more es a w.task.name (λ e. h.differ w.task.name (sym made ∙ e) refl))

  others_own : (l : List (Item Runner)) → All (Apart (spot u)) l → All (Own es) l → All (Own (es ++ (a ∷ []))) l
  others_own [] h o = tt
  others_own (x ∷ l) h o = (other_own x h.0 o.0, others_own l h.1 o.1)

  mover_own : Own es (spot u) → u.answers ++ (a ∷ []) ≡ answers_of u.task.name (es ++ (a ∷ []))
  mover_own o = ap (λ (x : List Event). x ++ (a ∷ [])) o ∙ sym (one_more es a u.task.name made)

  child_own : answers_of (next_name u) es ≡ [] → [] ≡ answers_of (next_name u) (es ++ (a ∷ []))
  child_own e = sym (no_more es a (next_name u) (λ c. not_own u (sym made ∙ c)) ∙ e)

  put_own : {xs : List (Item Runner)} (l : List (Item Runner)) → Put j u a xs → answers_of (next_name u) es ≡ []
      → All (Apart (spot u)) l → All (Own es) (spot u ∷ l) → All (Own (es ++ (a ∷ []))) (xs ++ l)
  unfolding advanced parent child
  put_own l (goes e st) c h o = (mover_own o.0, others_own l h o.1)
  put_own l (pushes q v e st) c h o = (tt, (mover_own o.0, others_own l h o.1))
  put_own l finishes c h o = (mover_own o.0, others_own l h o.1)
  put_own l (spawns w x e st more) c h o = (child_own c, (mover_own o.0, others_own l h o.1))

  own_kept : {l k : List (Item Runner)} → Replaces j u a l k → Pairs l → answers_of (next_name u) es ≡ []
      → All (Own es) l → All (Own (es ++ (a ∷ []))) k
  own_kept (here {l = l} p) h c o = put_own l p c h.0 o
  own_kept (past {x = x} r) h c o = (other_own x (turned (of_mover j (Apart x) r h.0)) o.0, own_kept r h.1 c o.1)
  own_kept (takes r) h c o = own_kept r h.1 c o.1

  heard_kept : {l k : List (Item Runner)} → Replaces j u a l k → Logged l es → (p : Name) → All (Unnamed p) k → answers_of p (es ++ (a ∷ [])) ≡ []
  heard_kept r h p n =
      let m = unnamed_before j p r n in
      no_more es a p (λ e. of_mover j (Unnamed p) r m (sym made ∙ e)) ∙ h.heard p m

  logged_kept : {l k : List (Item Runner)} → Replaces j u a l k → Logged l es → Logged k (es ++ (a ∷ []))
  logged_kept r h =
      record {
        own = own_kept r h.apart (h.heard (next_name u) (next_new j r h.apart)) h.own;
        heard = heard_kept r h;
        apart = pairs_kept j r h.apart;
      }

module _ (j : List ℕ) (W : Waits (job_tasks j)) (acc : Accepted j) where
  all_logged : {n : ℕ} {r x : Fronts} {l k : List (Timed Runner)} (es : List Event) → All (Standing j) (untimed l) → Logged (untimed l) es
      → (ms : Moves (job_tasks j) W n r l x k) → Logged (untimed k) (es ++ log j W ms)
  all_logged {l = l} es st h Moves.no_move = subst (Logged (untimed l)) (sym (append-nil es)) h
  all_logged {k = k} es st h (Moves.moves m ms) =
      let a = move_event j W m in
      let c = replaced j W acc st m in
      subst (Logged (untimed k)) (append_assoc es (a ∷ []) (log j W ms))
      (all_logged (es ++ (a ∷ [])) (stand_kept j c st) (logged_kept j es m.task a (unfold event_of in refl) c h) ms)

  pub moves_logged : {n : ℕ} {x : Fronts} {l : List (Timed Runner)} (ms : Moves (job_tasks j) W n none_back start x l) → Logged (untimed l) (log j W ms)
  unfolding answers_of
  moves_logged ms = all_logged [] (start_stands j W acc) (record { own = (refl, tt); heard = λ p n. refl; apart = (tt, tt) }) ms

-- the answers of one task of the line
own_answers : (w : Runner) (es : List Event) {l : List (Item Runner)} → On w l → All (Own es) l → w.answers ≡ answers_of w.task.name es
own_answers w es unfinished h = h.0
own_answers w es over h = h.0
own_answers w es (behind i) h = own_answers w es i h.1

-- a task on the line of name p
pub record Has (p : Name) (l : List (Item Runner)) : Type 0 where
  pub task : Runner
  pub on : On task l
  pub name : task.task.name ≡ p

-- there is one, or no item has the name
pub has? : (p : Name) (l : List (Item Runner)) → Has p l ⊎ All (Unnamed p) l
has? p [] = inr tt
has? p (x ∷ l) = ⊎_elim (λ h. inl (record { task = h.task; on = behind h.on; name = h.name })) (first x) (has? p l)
  where
    first : (y : Item Runner) → All (Unnamed p) l → Has p (y ∷ l) ⊎ All (Unnamed p) (y ∷ l)
    first (value q v) n = inr (λ e. e, n)
    first (spot u) n = ⊎_elim (λ e. inl (record { task = u; on = unfinished; name = e })) (λ d. inr (d, n)) (same? u.task.name p)
    first (gave q) n = inr (λ e. e, n)
    first (finished u) n = ⊎_elim (λ e. inl (record { task = u; on = over; name = e })) (λ d. inr (d, n)) (same? u.task.name p)

-- the answers of name p are those of the task that has it
pub has_answers : (p : Name) {l : List (Item Runner)} {es : List Event} → Logged l es → (h : Has p l) → h.task.answers ≡ answers_of p es
has_answers p {l} {es} g h = own_answers h.task es h.on g.own ∙ ap (λ (q : Name). answers_of q es) h.name
