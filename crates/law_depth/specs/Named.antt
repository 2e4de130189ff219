-- THE NAMES OF MOVING TASKS: a task whose call moves is unfinished, and the core has 128 task records. So no event of a list of calls has a
-- name of more than 127 numbers.
use Rattle.std.specs.Prelude.{◌≡◌, ℕ, ◌+◌, ◌-◌, ◌<◌}
use Rattle.std.proofs.Math.Path.{refl, ap, subst}
use Rattle.std.proofs.Common.{sym, ◌∙◌, inl, arith}
use mathlib.Core.List.{List, [], ◌∷◌}
use Rattle.std.proofs.Math.ListN.{length}
use Rattle.spec_words.specs.Words.{size, halt}
use Rattle.spec_lists.specs.Counting.{over, over_append}
use Rattle.spec_layout.specs.Layout.{WORDS}
use Rattle.spec_answers.specs.declared.Answer.TheVariants.{Moved}
use Rattle.spec_order.specs.Steps.{spot as place, name_of}
use Rattle.law_order.specs.Items.{In}
use Rattle.law_order_waits.specs.Changes.{in_right}
use Rattle.law_links.specs.Many.{spots_many}
use Rattle.spec_line.specs.Line.{Item, spot}
use Rattle.spec_job.specs.Test.{job_answer}
use Rattle.spec_plain.specs.Machine.{Event}
use Rattle.spec_runner.specs.Words.{RUNNER}
use Rattle.law_job_order.specs.Beside.{Numbered, task_of, Beside}
use Rattle.law_job_order.specs.Located.{top_numbered, located, stands_unfinished}
use Rattle.law_any_order.specs.Statement.{Stand, name_at, event_for, stand_after, stepped, after_calls, fresh, step_answer}
use Rattle.law_any_order.proofs.States.{still}
use Rattle.law_any_order.proofs.Running.{Running}
use Rattle.law_any_order.proofs.Names.{name_is}
use Rattle.law_any_order.proofs.Called.{Mover, Called, absent, held, went}
use Rattle.law_any_order.proofs.Fresh.{fresh_runs}
use Rattle.law_any_order.proofs.AnyOrder.{call, calls, no_ticks}
use Rattle.law_depth.specs.Ancestors.{name_short}

-- how much longer than 127 numbers the name of an event is
unfoldable pub excess : Event → ℕ
excess e = length e.name - 127

module _ (j : List ℕ) (accept : job_answer j ≡ Moved 0) where
  -- the name of a task whose call moves
  mover_named : (s : Stand) (l : List (Item Numbered)) → Running j no_ticks s l → (t : ℕ) → Mover j no_ticks accept s l t → length (name_at t s.order) < 128
  unfolding task_of name_of
  mover_named s l run t w =
      let a = w.before in
      let b = w.behind in
      let n = w.who in
      let xs = s.order in
      let beside = subst (Beside j xs) w.here run.beside in
      let r = still s.core xs run.state n.number (stands_unfinished j a b n beside) in
      let k = located j a b n beside in
      let here = place (task_of j n) in
      let i : In here xs = subst (In here) (sym k.here) (in_right here k.before (here ∷ k.behind) (inl refl)) in
      let short = name_short r.played (task_of j n) i in
      let many = spots_many s.core r.tour xs r.linked in
      let name = ap length (ap (λ (u : ℕ). name_at u xs) (sym w.number) ∙ name_is j xs a b n r.played beside) in
      omega (arith, short, many, name)

  -- a call that moves appends its event
  moved_named : (s : Stand) (l : List (Item Numbered)) → Running j no_ticks s l → (t : ℕ) → Called j no_ticks accept s l t → over s.events excess ≡ 0
      → over (stepped j t s).events excess ≡ 0
  moved_named s l run t (absent f a same) h = ap (λ (o : Stand). over o.events excess) same ∙ h
  moved_named s l run t (held a b n x f g y z same) h = ap (λ (o : Stand). over o.events excess) same ∙ h
  moved_named s l run t (went w m k r) h =
      unfold stepped stand_after step_answer in
      ap (λ (es : List Event). over es excess) (halt _ _ m)
      ∙ over_append excess s.events (event_for j s t (step_answer j s t) ∷ [])
      ∙ last
    where
      last : over s.events excess + over (event_for j s t (step_answer j s t) ∷ []) excess ≡ 0
      last = unfold over excess event_for in let a = mover_named s l run t w in omega (arith, a, h)

  -- A LIST OF CALLS
  calls_named : (ts : List ℕ) (s : Stand) (l : List (Item Numbered)) → Running j no_ticks s l → over s.events excess ≡ 0
      → over (after_calls j ts s).events excess ≡ 0
  unfolding after_calls
  calls_named [] s l run h = h
  calls_named (t ∷ ts) s l run h =
      let k = calls j no_ticks accept (t ∷ []) s l run in
      calls_named ts (stepped j t s) k.0 k.1 (moved_named s l run t (call j no_ticks accept s l run t) h)

  -- FROM A FRESH OPENING
  pub named : (w v : List ℕ) → size w ≡ WORDS → size v ≡ RUNNER → (ts : List ℕ) → over (after_calls j ts (fresh j w v)).events excess ≡ 0
  unfolding fresh over
  named w v sw sv ts = calls_named ts (fresh j w v) (spot top_numbered ∷ []) (fresh_runs j accept w v sw sv no_ticks) refl
