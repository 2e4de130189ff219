-- THE SERIAL RUN'S TIMES ARE LONGEST CHAINS: a step keeps that every mark, and every task of the stack, has the ticks of the longest chain to
-- what it stands for.
use Rattle.std.specs.Prelude.{◌≡◌, ℕ, ◌+◌, ◌≤◌, length}
use Rattle.std.proofs.Math.Path.{refl, ap, subst}
use Rattle.std.proofs.Common.{sym, ◌∙◌, inl, arith}
use Rattle.std.proofs.Math.Bool.{true}
use mathlib.Core.List.{List, [], ◌∷◌, ◌++◌, append-nil}
use Rattle.std.proofs.Math.Logic.{inr}
use Rattle.spec_order.specs.Waits.{is_child}
use Rattle.law_order.specs.Names.{under_self}
use Rattle.spec_job.specs.declared.Instruction.{Instruction}
use Rattle.spec_job.specs.Operations.{Operation, return, operation_at}
use Rattle.spec_job.specs.Accepted.{Accepted}
use Rattle.spec_plain.specs.Machine.{Task, advanced, parent, child}
use Rattle.spec_line.specs.Line.{value, finished, Search}
use Rattle.law_timed_line.specs.Times.{Timed, at}
use Rattle.law_timed_line.proofs.Agreement.{Bare}
use Rattle.law_job_line.specs.Tasks.{Runner, instruction_of, answering, after_spawn, new_task}
use Rattle.law_job_times.specs.Kin.{awaits, ticks_of}
use Rattle.law_serial_times.specs.Ended.{Over, Among, ended, ended_append}
use Rattle.law_serial_times.specs.Dominated.{Frame, frame, Dom, Nobody}
use Rattle.law_serial_times.specs.Returned.{Nested}
use Rattle.law_serial_times.specs.Literal.{begun, ready, ready_bounds, alone_by}
use Rattle.spec_span.specs.Needs.{Made, History, Beginning, marked_by, marks, needs, ticks_in}
use Rattle.law_span.specs.Ticks.{ticks_by}
use Rattle.law_serial_times.specs.Leaving.{ended_taken}
use Rattle.law_serial_times.specs.Went.{Went, returned, pushed, pushed_sum, popped, tested, took, gone, gone_if_zero, added, synced, spawned, Begun, looks_not, looks_there}
use Rattle.law_span.specs.Chains.{Longest, latest_none, latest_both, longest_step}
use Rattle.law_span.specs.Heard.{Matched, a_push, a_finish, nothing, matched_more, matched_taken, Seeks, heard}
use Rattle.law_span.specs.Owned.{Fresh, fresh_below, fresh_own, fresh_child, Owns, owns_below, owns_step, owns_child}
use Rattle.law_span.specs.Covered.{Covered, Known, covered_on, covered_return, covered_last}

module _ (j table : List ℕ) where
  -- The history h of a run that stands at the front f and the stack st; its last step was done at `last`.
  pub record Spanned (h : History) (f : List (Timed Runner)) (st : List Frame) (last : ℕ) : Type 0 where
    pub matched : Matched j table (marks h) f
    pub fresh : Fresh h st
    pub owns : Owns j table h st
    pub known : (s : History) → Beginning s h → (y : ℕ) × Longest j table s y × Known (ended f) last st y
    pub latest : st ≡ [] → Longest j table h last

  module _ (acc : Accepted j) (h : History) (f : List (Timed Runner)) (t : ℕ) (u : Runner) (st : List Frame) (bare : Bare f)
      (dom : Dom j (ended f) (Nobody j) (frame t u ∷ st)) (nested : Nested j u st) (d : ℕ)
      (time : d ≡ ready j (ticks_by table) u t f + ticks_of j (ticks_by table) u) (last : ℕ) (sp : Spanned h f (frame t u ∷ st) last)
      (k : Made) (by : k.task ≡ u.task) (same : k.event.operation ≡ operation_at (instruction_of j u).operation)
      (which : k.event.which ≡ (instruction_of j u).which) (begins : Begun (operation_at (instruction_of j u).operation) (instruction_of j u).which (begun j (ticks_by table) u)) where
    seeks : (m : Search) → Begun (operation_at (instruction_of j u).operation) (instruction_of j u).which m → Seeks j table u k by same m true
    seeks _ (looks_not i) = rw same i
    seeks _ (looks_there b i few) = (rw same i, sym which, rw which few, refl)

    -- THE TIME OF THE STEP is the longest chain to it
    pub longest : Longest j table (k ∷ h) d
    unfolding needs
    longest =
        let n = heard j table u k by same sp.matched (begun j (ticks_by table) u) true (seeks _ begins) [] 0 (latest_none j table) in
        let o = rw (← ap (λ (x : Task). x.name) by) at sp.owns.0 in
        let i : ready j (ticks_by table) u t f + ticks_in j table k ≡ d = rw same (sym time) in
        subst (Longest j table (k ∷ h)) i (longest_step j table k h (ready j (ticks_by table) u t f) (latest_both j table _ _ _ t n o))

    late : ready j (ticks_by table) u t f ≤ d
    late = omega (arith, time)

    after : t ≤ d
    after = let b = (ready_bounds j (ticks_by table) u t f st dom).1 in omega (arith, late, b)

    as_long : length u.task.name ≤ length k.task.name
    as_long = rw by (omega arith)

    below : Owns j table (k ∷ h) st
    below = owns_below j table k h u st as_long nested sp.owns.1

    named_so : k.task.name ≡ u.task.name
    named_so = ap (λ (x : Task). x.name) by

    fresh_rest : Fresh (k ∷ h) st
    fresh_rest = fresh_below j k h u st (rw named_so (under_self u.task.name)) nested sp.fresh.1

    -- the latest step is done at d; the others are known
    knows : (F : List (Over Runner)) (st' : List Frame) → Known F d st' d → ((y : ℕ) → Known (ended f) last (frame t u ∷ st) y → Known F d st' y)
        → (s : History) → Beginning s (k ∷ h) → (y : ℕ) × Longest j table s y × Known F d st' y
    knows F st' new old s (inl e) = (d, subst (λ (z : History). Longest j table z d) (sym e) longest, new)
    knows F st' new old s (inr b) = let (y, l, c) = sp.known s b in (y, l, old y c)

    -- the task goes on
    goes : (f' : List (Timed Runner)) (v : Runner) → v.task.name ≡ u.task.name → u.task.children ≤ v.task.children → Matched j table (marks (k ∷ h)) f' → ended f' ≡ ended f
        → Spanned (k ∷ h) f' (frame d v ∷ st) d
    goes f' v name more m e =
        record {
          matched = m;
          fresh = (fresh_own k h u v named_so name more sp.fresh.0, fresh_rest);
          owns = (owns_step j table k h v.task.name t d (named_so ∙ sym name) after (rw name sp.owns.0) longest, below);
          known = knows (ended f') (frame d v ∷ st) (inl (omega arith)) (λ y c. subst (λ (o : List (Over Runner)). Covered o (frame d v ∷ st) y) (sym e) (covered_on (ended f) t d u v st y name after c));
          latest = λ _. longest;
        }

    -- the marks, by the operation
    marks_are : (o : Operation) → operation_at (instruction_of j u).operation ≡ o
        → marks (k ∷ h) ≡ marked_by o (instruction_of j u).which u.task (k ∷ h) (marks h)
    unfolding marks
    marks_are o e = rw (same, which, by, e) refl

    marked : (o : Operation) (f' : List (Timed Runner)) → operation_at (instruction_of j u).operation ≡ o
        → Matched j table (marked_by o (instruction_of j u).which u.task (k ∷ h) (marks h)) f' → Matched j table (marks (k ∷ h)) f'
    marked o f' e m = rw (marks_are o e) m

    abbrev s : Instruction
    s = instruction_of j u

    -- a value that is put
    puts_value : (q v : ℕ) → ended (f ++ at d (value q v) ∷ []) ≡ ended f
    unfolding ended
    puts_value q v = ended_append f (at d (value q v) ∷ []) ∙ append-nil (ended f)

    pub spanned : (o : Operation) (f' : List (Timed Runner)) (st' : List Frame) → operation_at (instruction_of j u).operation ≡ o → Went j u s d f st o f' st'
        → Spanned (k ∷ h) f' st' d
    unfolding marked_by ended advanced parent child awaits
    spanned _ _ _ e returned =
        record {
          matched = marked return _ e (matched_more j table sp.matched (a_finish longest nothing));
          fresh = fresh_rest;
          owns = below;
          known = knows _ st
              (rw (ended_append f (at d (finished (answering u s _ u.task)) ∷ [])) (covered_last j (ended f) t d u _ refl after alone st nested))
              (λ y c. rw (ended_append f (at d (finished (answering u s _ u.task)) ∷ [])) (covered_return j (ended f) t d u _ refl after alone st nested y c));
          latest = λ _. longest;
        }
      where
        alone : (z : ℕ) (x : Runner) → Among (ended f) z x → is_child x.task.name u.task.name ≡ true → z ≤ d
        alone = alone_by j (ticks_by table) u t f st dom d late (unfold awaits in rw e refl)
    spanned _ _ _ e (pushed few) = goes _ _ refl (omega arith) (marked _ _ e (matched_more j table sp.matched (a_push longest nothing))) (puts_value _ _)
    spanned _ _ _ e (pushed_sum few) = goes _ _ refl (omega arith) (marked _ _ e (matched_more j table sp.matched (a_push longest nothing))) (puts_value _ _)
    spanned _ _ _ e (popped few) = goes _ _ refl (omega arith) (marked _ _ e (matched_taken j table s.which sp.matched)) (ended_taken s.which f)
    spanned _ _ _ e (tested few) = goes _ _ refl (omega arith) (marked _ _ e sp.matched) refl
    spanned _ _ _ e (took few) = goes _ _ refl (omega arith) (marked _ _ e (matched_taken j table s.which sp.matched)) (ended_taken s.which f)
    spanned _ _ _ e gone = goes _ _ refl (omega arith) (marked _ _ e sp.matched) refl
    spanned _ _ _ e gone_if_zero = goes _ _ refl (omega arith) (marked _ _ e sp.matched) refl
    spanned _ _ _ e added = goes _ _ refl (omega arith) (marked _ _ e sp.matched) refl
    spanned _ _ _ e synced = goes _ _ refl (omega arith) (marked _ _ e sp.matched) refl
    spanned _ _ _ e (spawned within) =
        record {
          matched = marked _ _ e sp.matched;
          fresh = (fresh_child k h u (new_task u s) named_so refl sp.fresh.0, (fresh_own k h u (after_spawn u s) named_so refl (omega arith) sp.fresh.0, fresh_rest));
          owns = (
            owns_child j table k h u _ d (same ∙ e) by refl sp.fresh.0 longest,
            (owns_step j table k h _ t d named_so after sp.owns.0 longest, below),
          );
          known = knows (ended f) (frame d (new_task u s) ∷ frame d (after_spawn u s) ∷ st) (inl (omega arith))
              (λ y c. inr (inr (covered_on (ended f) t d u (after_spawn u s) st y refl after c)));
          latest = λ _. longest;
        }
