-- THE SPAN of a job whose plain run ends is the time of the last item of the line, by whatever order its tasks have moved.
use Rattle.std.specs.Prelude.{◌≡◌}
use Rattle.std.proofs.Math.Path.{refl, subst}
use Rattle.std.proofs.Common.{sym, inl, arith}
use mathlib.Core.List.{List, [], ◌∷◌, nil≢cons}
use Rattle.std.proofs.Math.Option.{Option}
use Prim.Native.Nat.{ℕ, zero, suc}
use Rattle.spec_job.specs.Accepted.{Accepted}
use Rattle.spec_plain.specs.Machine.{Task, State, state, Event, begin, event_of, step}
use Rattle.spec_plain.specs.Run.{stack_of, event_in, next, after, run}
use Rattle.spec_plain.proofs.Kept.{begin_stands}
use Rattle.law_timed_line.specs.Times.{Timed, last_time}
use Rattle.law_timed_line.proofs.Agreement.{Moves, Bare, all_finished}
use Rattle.law_job_line.specs.Tasks.{Runner}
use Rattle.law_job_line.proofs.Within.{job_tasks}
use Rattle.law_job_line.proofs.Events.{event_with}
use Rattle.law_job_line.proofs.Agree.{top, start, none_back, begins as line-begins}
use Rattle.law_serial_times.specs.Ended.{ended}
use Rattle.law_serial_times.specs.Dominated.{Frame, frame}
use Rattle.spec_span.specs.Needs.{Made, History, recorded, history_from, history_of, marks, previous, spawn_of, Chain, alone, link, Span}
use Rattle.law_span.specs.Ticks.{waits_by}
use Rattle.law_span.specs.Chains.{latest_none}
use Rattle.law_span.specs.Heard.{nothing}
use Rattle.law_span.specs.Spanned.{Spanned, spanned}
use Rattle.law_span.specs.Serial.{Serial, over, then, Ending, AtStep, runs}

module _ (j table : List ℕ) (acc : Accepted j) where
  -- an ended run makes no more history
  history_ended : (m : ℕ) (s : State) (h : History) → stack_of s ≡ [] → history_from m j s h ≡ h
  unfolding history_from recorded next step after stack_of
  history_ended zero s h e = refl
  history_ended (suc m) (state qs [] n) h e = history_ended m (state qs [] n) h e
  history_ended (suc m) (state qs (t ∷ ts) n) h e = absurd (nil≢cons (sym e))

  abbrev made : Runner → Option ℕ → Made
  made u x = record { task = u.task; event = event_with j u x }

  -- one step more
  history_more : (m : ℕ) (s : State) (h : History) (t : Task) (ts : List Task) (e : Event) → stack_of s ≡ t ∷ ts → event_in (step j s) ≡ e ∷ []
      → history_from (suc m) j s h ≡ history_from m j (next j s) (record { task = t; event = e } ∷ h)
  unfolding history_from recorded
  history_more m s h t ts e a b = rw (a, b) refl

  -- ALONG THE RUN
  along : (m : ℕ) (s : State) (f : List (Timed Runner)) (st : List Frame) (last c : ℕ) → Serial j table m s f st last c → (h : History) → Spanned j table h f st last
      → (z : List (Timed Runner)) × Spanned j table (history_from m j s h) z [] c
  unfolding event_of
  along m s f st last c (over e) h sp = (f, rw (history_ended m s h e) sp)
  along _ s f _ last c (then {m = m} {t = t} {u = u} {st = st} d f' st' k rest) h sp =
      let e = made u k.found in
      let next-sp = spanned j table acc h f t u st k.bare k.dom k.nested d k.time last sp e refl refl refl k.begins _ f' st' refl k.went in
      rw (history_more m s h u.task _ _ k.stack k.event) (along m (next j s) f' st' d c rest (e ∷ h) next-sp)

  -- AT THE BEGINNING
  at_first : Spanned j table [] [] (frame 0 top ∷ []) 0
  unfolding marks previous spawn_of
  at_first = record { matched = nothing; fresh = (tt, tt); owns = (latest_none j table, tt); known = λ s b. absurd b; latest = λ e. absurd (nil≢cons (sym e)) }

  stands_first : AtStep j table acc ([] ∷ [] ∷ [] ∷ [] ∷ []) 0 [] (frame 0 top ∷ []) 0
  unfolding stack_of begin ended
  stands_first =
      record {
        serially = line-begins;
        bare = tt;
        dom = (record { below = λ q p y s m. absurd m; rights = λ y s m. absurd m; kids = λ y s m. absurd m; none = λ y s m. absurd m }, tt);
        stack = begin_stands j acc;
        closed = tt;
      }

  -- THE SERIAL RUN of n steps, where it ends
  pub serial_ends : (n : ℕ) → stack_of (run n j) ≡ [] → Ending j table n begin [] (frame 0 top ∷ []) 0
  unfolding run begin
  serial_ends n end = runs j table acc n ([] ∷ [] ∷ [] ∷ [] ∷ []) 0 [] (frame 0 top ∷ []) 0 stands_first end

  no_chain : {h : History} {c : ℕ} → Chain j table h c → h ≡ [] → ⊥
  no_chain alone e = nil≢cons (sym e)
  no_chain (link a x) e = nil≢cons (sym e)

  -- the whole history, with the longest chain to its last step
  spans : (h : History) (c : ℕ) (z : List (Timed Runner)) → Spanned j table h z [] c → Span j table h c
  spans [] c z sp = absurd (no_chain (sp.latest refl).chain refl)
  spans (e ∷ h) c z sp =
      record {
        last = e ∷ h;
        within = inl refl;
        chain = (sp.latest refl).chain;
        longest = λ s b i x. let (y, l, k) = sp.known s i in let m = l.most b x in omega (arith, m, k);
      }

  -- THE SPAN, by any run of moves to the end
  pub span_is : (n : ℕ) → stack_of (run n j) ≡ [] → (k : ℕ) (z : List (Timed Runner)) → Moves (job_tasks j) (waits_by j table) k none_back start none_back z → Bare z
      → Span j table (history_of n j) (last_time z)
  unfolding history_of
  span_is n end k z ms bare =
      let r = serial_ends n end in
      let a = along n begin [] (frame 0 top ∷ []) 0 _ r.serial [] at_first in
      let same = all_finished (job_tasks j) (waits_by j table) r.bare r.run bare ms in
      subst (λ (l : List (Timed Runner)). Span j table (history_from n j begin []) (last_time l)) same.2 (spans _ _ a.0 a.1)
