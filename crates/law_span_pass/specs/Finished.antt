-- A TASK HAS FINISHED: what is kept of its parent, of the tasks above, and of the queues.
use Rattle.std.specs.Prelude.{◌≡◌, refl, Bool, true, false, ℕ, suc, ◌+◌, ◌<◌, ◌≤◌, length}
use Rattle.std.proofs.Math.Path.{ap, sym}
use Rattle.std.proofs.Common.{◌∙◌, arith}
use mathlib.Core.List.{List, [], ◌∷◌, ◌++◌}
use Rattle.spec_words.specs.Words.{load, size, halt, pass, both_on, both_off, refuted}
use Rattle.spec_tree.specs.Rights.{pushes, pops}
use Rattle.spec_order.specs.Steps.{Name}
use Rattle.spec_order.specs.Waits.{is_child, is_older}
use Rattle.law_order_waits.specs.Spots.{child_says, older_says, says_child}
use Rattle.spec_plain.specs.Machine.{Task}
use Rattle.spec_plain.specs.Stack.{rights_of}
use Rattle.spec_line.specs.Line.{finished}
use Rattle.spec_line.specs.Later.{later}
use Rattle.law_timed_line.specs.Times.{Timed, at}
use Rattle.law_job_line.specs.Tasks.{Runner}
use Rattle.law_job_times.specs.Kin.{pushes_of}
use Rattle.law_serial_times.specs.Ended.{Over, over, ended, ended_append}
use Rattle.law_serial_times.specs.Dominated.{Frame, frame}
use Rattle.law_serial_times.specs.Returned.{Nested}
use Rattle.spec_span.specs.Pass.{task_at, queue_at, place_at, SPAN, CHILDREN, OLDER, POPPING, TAKEN, PUSHED, PUSHERS, child_finished}
use Rattle.law_span.specs.Heard.{can_pop_lem, can_push_lem}
use Rattle.law_span_pass.specs.Raised.{raise, latest_by, latest_more}
use Rattle.law_span_pass.specs.Places.{places_of, places_other, a_finish}
use Rattle.law_span_pass.specs.Ready.{popping_of}
use Rattle.law_span_pass.specs.Kept.{TaskKept, StackKept, QueueKept, Kept, holds_same}
use Rattle.law_span_pass.specs.Going.{by_more, stack_by_more}
use Rattle.law_span_pass.specs.Pushing.{settled_more, by_append}
use Rattle.law_span_pass.specs.Finishing.{all_size, all_other, all_children, all_popping, all_pushers}

-- names of other lengths are no child's and no older sibling's
not_child : (p q : Name) → ¬ (length p ≡ suc (length q)) → is_child p q ≡ false
not_child p q n = refuted _ (λ e. let c = child_says p q e in n (ap (λ (x : Name). length x) c.1))

not_older : (p q : Name) → ¬ (length p ≡ length q) → is_older p q ≡ false
not_older p q n =
    refuted _ (λ e. let o = older_says p q e in n (ap (λ (x : Name). length x) o.3 ∙ ap (λ (x : Name). length x) (sym o.4)))

raise_not : {b : Bool} (t a : ℕ) → b ≡ false → raise b t a ≡ a
unfolding raise
raise_not t a e = pass _ e refl

raise_so : {b : Bool} (t a : ℕ) → b ≡ true → raise b t a ≡ later a t
unfolding raise
raise_so t a e = halt _ _ e

module _ (j w : List ℕ) (d : ℕ) (x : Runner) (r t : ℕ) (rights_are : rights_of j x.task ≡ r) (deep : d ≤ 128) (sized : size w ≡ SPAN) where
  abbrev w' : List ℕ
  w' = child_finished w d r t

  abbrev more : List (Over Runner) → List (Over Runner)
  more F = F ++ over t x ∷ []

  same_word : (a : ℕ) → ¬ (a ≡ task_at d CHILDREN) → ((q : ℕ) → q < 4 → ¬ (a ≡ task_at d (POPPING + q)) × ¬ (a ≡ queue_at q PUSHERS)) → load w' a ≡ load w a
  unfolding child_finished
  same_word a n m = all_other d r t deep w sized a n m

  -- a task above the parent: x is neither its child nor its older sibling
  above : (i s : ℕ) (u : Runner) (F : List (Over Runner)) → i < d → ¬ (length x.task.name ≡ suc (length u.task.name))
      → ¬ (length x.task.name ≡ length u.task.name) → TaskKept j w i s u F → TaskKept j w' i s u (more F)
  above i s u F l n o h =
      record {
        procedure = same 0 (omega arith) ∙ h.procedure;
        position = same 1 (omega arith) ∙ h.position;
        register = same 2 (omega arith) ∙ h.register;
        own = same 3 (omega arith) ∙ h.own;
        children = same 4 (omega arith) ∙ h.children ∙ sym (latest_more _ 0 F t x ∙ raise_not t _ (not_child _ _ n));
        older = same 5 (omega arith) ∙ h.older ∙ sym (latest_more _ 0 F t x ∙ raise_not t _ (both_off _ (not_older _ _ o)));
        popping = λ q few. same (POPPING + q) (omega arith) ∙ h.popping q few ∙ sym (latest_more _ 0 F t x ∙ raise_not t _ (both_off _ (not_child _ _ n)));
      }
    where
      same : (k : ℕ) → k < 10 → load w' (task_at i k) ≡ load w (task_at i k)
      same k m = same_word (task_at i k) (λ e. omega (arith, e, l, m)) (λ q few. (λ e. omega (arith, e, l, m, few), λ e. omega (arith, e, l, m, few, deep)))

  stack_above : (c : Runner) (F : List (Over Runner)) (st : List Frame) → length st < d → length c.task.name < length x.task.name → Nested j c st
      → StackKept j w F st → StackKept j w' (more F) st
  stack_above c F [] l n z h = tt
  stack_above c F (frame s u ∷ st) l n z h =
      let i = ap (λ (p : Name). length p) z.0.name in (
        above (suc (length st)) s u F l (λ e. omega (arith, e, i, n)) (λ e. omega (arith, e, i, n)) h.0,
        stack_above u F st (omega (arith, l)) (omega (arith, i, n)) z.1 h.1,
      )

  -- the parent
  parent_kept : (s : ℕ) (u : Runner) (F : List (Over Runner)) → is_child x.task.name u.task.name ≡ true → TaskKept j w d s u F → TaskKept j w' d s u (more F)
  unfolding child_finished
  parent_kept s u F c h =
      record {
        procedure = same 0 (omega arith) (λ q e. omega (arith, e)) ∙ h.procedure;
        position = same 1 (omega arith) (λ q e. omega (arith, e)) ∙ h.position;
        register = same 2 (omega arith) (λ q e. omega (arith, e)) ∙ h.register;
        own = same 3 (omega arith) (λ q e. omega (arith, e)) ∙ h.own;
        children = all_children d r t deep w sized ∙ ap (λ (y : ℕ). later y t) h.children ∙ sym (latest_more _ 0 F t x ∙ raise_so t _ c);
        older = same_word (task_at d OLDER) (λ e. omega (arith, e)) (λ q few. (λ e. omega (arith, e), λ e. omega (arith, e, deep))) ∙ h.older
            ∙ sym (latest_more _ 0 F t x ∙ raise_not t _ (both_off _ (not_older _ _ longer)));
        popping = λ q few.
            all_popping d r t deep w sized q few ∙ ap (raise (pops r q) t) (h.popping q few)
            ∙ sym (latest_more _ 0 F t x ∙ ap (λ (b : Bool). raise b t (popping_of j u q F)) (both_on c ∙ can_pop_lem (rights_of j x.task) q few ∙ ap (λ (y : ℕ). pops y q) rights_are));
      }
    where
      same : (k : ℕ) → k < 4 → ((q : ℕ) → k ≡ POPPING + q → ⊥) → load w' (task_at d k) ≡ load w (task_at d k)
      same k m n = same_word (task_at d k) (λ e. omega (arith, e, m)) (λ q few. (λ e. omega (arith, e, m), λ e. omega (arith, e, m, deep)))

      longer : ¬ (length x.task.name ≡ length u.task.name)
      longer e = let i = ap (λ (p : Name). length p) (child_says x.task.name u.task.name c).1 in omega (arith, e, i)

  -- the queues
  queue_kept : (f : List (Timed Runner)) (n q : ℕ) → q < 4 → QueueKept j w f n q → QueueKept j w' (f ++ at t (finished x) ∷ []) n q
  unfolding child_finished ended
  queue_kept f n q few h =
      record {
        few = rw count h.few;
        pushers = all_pushers d r t deep w sized q few ∙ ap (raise (pushes r q) t) h.pushers
            ∙ sym (ap (λ (F : List (Over Runner)). latest_by (λ s. pushes_of j s q) 0 F) (ended_append f (at t (finished x) ∷ []))
            ∙ latest_more _ 0 (ended f) t x
            ∙ ap (λ (b : Bool). raise b t (latest_by (λ s. pushes_of j s q) 0 (ended f))) (can_push_lem (rights_of j x.task) q few ∙ ap (λ (y : ℕ). pushes y q) rights_are));
        places = rw (count, taken, places_other (pushes_of j) q (at t (finished x)) (λ a. a_finish (pushes_of j) q x t a) 0 f)
            (holds_same j w w' q (load w (queue_at q TAKEN)) (places_of (pushes_of j) q 0 f) (load w (queue_at q PUSHED))
            (λ i k l m. same_word (place_at q i k) (λ e. omega (arith, e, deep)) (λ p g. (λ e. omega (arith, e, deep, g), λ e. omega (arith, e, g)))) h.places);
      }
    where
      count : load w' (queue_at q PUSHED) ≡ load w (queue_at q PUSHED)
      count = same_word (queue_at q PUSHED) (λ e. omega (arith, e, deep)) (λ p g. (λ e. omega (arith, e, deep, g), λ e. omega (arith, e)))

      taken : load w' (queue_at q TAKEN) ≡ load w (queue_at q TAKEN)
      taken = same_word (queue_at q TAKEN) (λ e. omega (arith, e, deep)) (λ p g. (λ e. omega (arith, e, deep, g), λ e. omega (arith, e)))

-- ALL OF IT: u, on top of the stack, has finished at d
module _ (j w : List ℕ) (f : List (Timed Runner)) (t : ℕ) (u : Runner) (st : List Frame) (n b c : ℕ) (k : Kept j w f (frame t u ∷ st) n b) (deep : length st ≤ 128)
    (nested : Nested j u st) (d : ℕ) (x : Runner) (like : x.task ≡ u.task) (more : b ≤ c) (by : d ≤ c) where
  stack_kept : (s : List Frame) → length s ≤ 128 → Nested j u s → StackKept j w (ended f) s
      → StackKept j (child_finished w (length s) (rights_of j u.task) d) (ended f ++ over d x ∷ []) s
  stack_kept [] l z h = tt
  stack_kept (frame s v ∷ su) l z h =
      let r = ap (λ (y : Task). rights_of j y) like in
      let name = ap (λ (y : Task). y.name) like ∙ z.0.name in
      let i = ap (λ (p : Name). length p) name in (
        parent_kept j w (suc (length su)) x (rights_of j u.task) d r l k.sized s v (ended f)
            (rw name (says_child z.0.number v.task.name)) h.0,
        stack_above j w (suc (length su)) x (rights_of j u.task) d r l k.sized v (ended f) su (omega arith) (omega (arith, i)) z.1 h.1,
      )

  pub finished_kept : Kept j (child_finished w (length st) (rights_of j u.task) d) (f ++ at d (finished x) ∷ []) st n c
  unfolding ended child_finished
  finished_kept =
      record {
        sized = all_size (length st) (rights_of j u.task) d deep w k.sized;
        settled = settled_more j f (at d (finished x)) k.settled tt;
        tasks = rw (ended_append f (at d (finished x) ∷ [])) (stack_kept st deep nested k.tasks.1);
        queues = λ q few. queue_kept j w (length st) x (rights_of j u.task) d (ap (λ (y : Task). rights_of j y) like) deep k.sized f n q few (k.queues q few);
        by = by_append j c d f (finished x) (by_more b c f more k.by) by;
        stack_by = stack_by_more b c st more k.stack_by.1;
      }
