-- A TASK GOES ON: what the words hold then.
use Rattle.std.specs.Prelude.{◌≡◌, refl, List, [], ◌∷◌, ℕ, suc, ◌+◌, ◌<◌, ◌≤◌, length}
use Rattle.std.proofs.Math.Path.{sym}
use Rattle.std.proofs.Common.{◌∙◌, arith, mod-eq_of_lt}
use Rattle.spec_words.specs.Words.{load, store, size, load_same, load_other, size_store}
use Rattle.spec_job.specs.Effects.{Effect, sum}
use Rattle.spec_plain.specs.Stack.{rights_of}
use Rattle.law_timed_line.specs.Times.{Timed, at}
use Rattle.law_job_line.specs.Tasks.{Runner}
use Rattle.law_serial_times.specs.Ended.{ended}
use Rattle.law_serial_times.specs.Dominated.{Frame, frame}
use Rattle.spec_span.specs.Pass.{task_at, SPAN, POSITION, REGISTER, OWN, gone_on}
use Rattle.law_span_pass.specs.Kept.{By, StackBy, TaskKept, QueueKept, Kept, stack_same, queue_same}

-- a sum that drops nothing
pub small_sum : (a b : ℕ) → a + b < 4294967296 → sum a b ≡ a + b
unfolding sum
small_sum a b h = mod-eq_of_lt h

pub by_more : (b c : ℕ) (f : List (Timed Runner)) → b ≤ c → By b f → By c f
by_more b c [] l h = tt
by_more b c (at t x ∷ f) l h = (let i = h.0 in omega (arith, i), by_more b c f l h.1)

pub stack_by_more : (b c : ℕ) (st : List Frame) → b ≤ c → StackBy b st → StackBy c st
stack_by_more b c [] l h = tt
stack_by_more b c (frame t u ∷ st) l h = (let i = h.0 in omega (arith, i), stack_by_more b c st l h.1)

module _ (j : List ℕ) where
  -- more steps
  pub queue_more : (w : List ℕ) (f : List (Timed Runner)) (n m q : ℕ) → n ≤ m → QueueKept j w f n q → QueueKept j w f m q
  queue_more w f n m q l h = record { few = let i = h.few in omega (arith, i); pushers = h.pushers; places = h.places }

  -- A TASK GOES ON
  module _ (w : List ℕ) (f : List (Timed Runner)) (t : ℕ) (u : Runner) (st : List Frame) (n b c : ℕ) (k : Kept j w f (frame t u ∷ st) n b)
      (deep : suc (length st) ≤ 128) (e : Effect) (d : ℕ) (v : Runner) (name : v.task.name ≡ u.task.name) (procedure : v.task.procedure ≡ u.task.procedure)
      (position : v.task.position ≡ e.next) (register : v.task.register ≡ e.register) (more : b ≤ c) (by : d ≤ c) where
    abbrev D : ℕ
    D = suc (length st)

    abbrev w' : List ℕ
    w' = gone_on w D e d

    gone_size : size w' ≡ SPAN
    unfolding gone_on
    gone_size = size_store _ _ _ ∙ size_store _ _ _ ∙ size_store _ _ _ ∙ k.sized

    -- the words that stay
    gone_other : (a : ℕ) → ¬ (a ≡ task_at D POSITION) → ¬ (a ≡ task_at D REGISTER) → ¬ (a ≡ task_at D OWN) → load w' a ≡ load w a
    unfolding gone_on
    gone_other a x y z = load_other _ _ _ _ z ∙ load_other _ _ _ _ y ∙ load_other _ _ _ _ x

    sized_1 : (x : ℕ) → size (store w (task_at D POSITION) x) ≡ SPAN
    sized_1 x = size_store _ _ _ ∙ k.sized

    gone_position : load w' (task_at D POSITION) ≡ e.next
    unfolding gone_on
    gone_position =
        load_other _ _ _ _ (λ x. omega (arith, x)) ∙ load_other _ _ _ _ (λ x. omega (arith, x)) ∙ load_same _ _ _ (let s = k.sized in omega (arith, s, deep))

    gone_register : load w' (task_at D REGISTER) ≡ e.register
    unfolding gone_on
    gone_register = load_other _ _ _ _ (λ x. omega (arith, x)) ∙ load_same _ _ _ (let s = sized_1 e.next in omega (arith, s, deep))

    gone_own : load w' (task_at D OWN) ≡ d
    unfolding gone_on
    gone_own = load_same _ _ _ (let s = size_store (store w (task_at D POSITION) e.next) (task_at D REGISTER) e.register ∙ sized_1 e.next in omega (arith, s, deep))

    task : TaskKept j w D t u (ended f) → TaskKept j w' D d v (ended f)
    unfolding rights_of
    task h =
        record {
          procedure = gone_other _ (λ x. omega (arith, x)) (λ x. omega (arith, x)) (λ x. omega (arith, x)) ∙ h.procedure ∙ sym procedure;
          position = gone_position ∙ sym position;
          register = gone_register ∙ sym register;
          own = gone_own;
          children = gone_other _ (λ x. omega (arith, x)) (λ x. omega (arith, x)) (λ x. omega (arith, x)) ∙ h.children ∙ rw name refl;
          older = gone_other _ (λ x. omega (arith, x)) (λ x. omega (arith, x)) (λ x. omega (arith, x)) ∙ h.older ∙ rw (name, procedure) refl;
          popping = λ q l. gone_other _ (λ x. omega (arith, x)) (λ x. omega (arith, x)) (λ x. omega (arith, x)) ∙ h.popping q l ∙ rw name refl;
        }

    pub gone_kept : Kept j w' f (frame d v ∷ st) n c
    gone_kept =
        record {
          sized = gone_size;
          settled = k.settled;
          tasks = (
            task k.tasks.0,
            stack_same j w w' (ended f) st (λ i l x y. gone_other _ (λ z. omega (arith, z, x, y)) (λ z. omega (arith, z, x, y)) (λ z. omega (arith, z, x, y))) k.tasks.1,
          );
          queues = λ q l.
              queue_same j w w' f n q (λ i x. gone_other _ (λ z. omega (arith, z, deep)) (λ z. omega (arith, z, deep)) (λ z. omega (arith, z, deep)))
              (λ i m x y. gone_other _ (λ z. omega (arith, z, deep)) (λ z. omega (arith, z, deep)) (λ z. omega (arith, z, deep))) (k.queues q l);
          by = by_more b c f more k.by;
          stack_by = (by, stack_by_more b c st more k.stack_by.1);
        }
