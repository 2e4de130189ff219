-- WHAT THE WORDS OF THE PASS HOLD: of each task of the stack and of each queue, the times that the line has.
use Rattle.std.specs.Prelude.{◌≡◌, ℕ, suc, ◌+◌, ◌<◌, ◌≤◌, length}
use Rattle.std.proofs.Math.Path.{refl, ap}
use Rattle.std.proofs.Common.{◌∙◌, arith}
use mathlib.Core.List.{List, [], ◌∷◌}
use Rattle.std.proofs.Math.Option.{some}
use borrow.Author.Tests.{lt-ltb, le-ltb}
use Rattle.spec_words.specs.Words.{load, size, halt, pass}
use Rattle.law_timed_line.specs.Times.{Timed, at}
use Rattle.law_job_line.specs.Tasks.{Runner}
use Rattle.law_job_times.specs.Kin.{pushes_of}
use Rattle.law_serial_times.specs.Ended.{Over, ended}
use Rattle.law_serial_times.specs.Dominated.{Frame, frame}
use Rattle.spec_span.specs.Pass.{task_at, queue_at, place_at, SPAN, PROCEDURE, POSITION, REGISTER, OWN, CHILDREN, OLDER, POPPING, TAKEN, PUSHED, PUSHERS, VALUE, TIME, filled, front_of, front_time}
use Rattle.law_span_pass.specs.Places.{Place, place, places_of, pushers_by, value_in, time_in}
use Rattle.law_span_pass.specs.Ready.{Settled, older_of, children_of, popping_of}

-- every time is at most b
abbrev pub By : ℕ → List (Timed Runner) → Type 0
By b [] = Unit {0}
By b (at t x ∷ f) = (t ≤ b) × By b f

abbrev pub StackBy : ℕ → List Frame → Type 0
StackBy b [] = Unit {0}
StackBy b (frame t u ∷ st) = (t ≤ b) × StackBy b st

-- the values of queue q from place i on, n being the place behind the last
abbrev pub Holds : List ℕ → ℕ → ℕ → List Place → ℕ → Type 0
Holds w q i [] n = i ≡ n
Holds w q i (place v t ∷ ps) n = (load w (place_at q i VALUE) ≡ v) × (load w (place_at q i TIME) ≡ t) × Holds w q (i + 1) ps n

module _ (j : List ℕ) where
  -- task u at depth d, whose last step was done at t, where F have finished
  pub record TaskKept (w : List ℕ) (d t : ℕ) (u : Runner) (F : List (Over Runner)) : Type 0 where
    pub procedure : load w (task_at d PROCEDURE) ≡ u.task.procedure
    pub position : load w (task_at d POSITION) ≡ u.task.position
    pub register : load w (task_at d REGISTER) ≡ u.task.register
    pub own : load w (task_at d OWN) ≡ t
    pub children : load w (task_at d CHILDREN) ≡ children_of j u F
    pub older : load w (task_at d OLDER) ≡ older_of j u F
    pub popping : (q : ℕ) → q < 4 → load w (task_at d (POPPING + q)) ≡ popping_of j u q F

  abbrev pub StackKept : List ℕ → List (Over Runner) → List Frame → Type 0
  StackKept w F [] = Unit {0}
  StackKept w F (frame t u ∷ st) = TaskKept w (suc (length st)) t u F × StackKept w F st

  -- queue q, after at most n steps
  pub record QueueKept (w : List ℕ) (f : List (Timed Runner)) (n q : ℕ) : Type 0 where
    pub few : load w (queue_at q PUSHED) ≤ n
    pub pushers : load w (queue_at q PUSHERS) ≡ pushers_by (pushes_of j) q 0 f
    pub places : Holds w q (load w (queue_at q TAKEN)) (places_of (pushes_of j) q 0 f) (load w (queue_at q PUSHED))

  pub record Kept (w : List ℕ) (f : List (Timed Runner)) (st : List Frame) (n b : ℕ) : Type 0 where
    pub sized : size w ≡ SPAN
    pub settled : Settled f
    pub tasks : StackKept w (ended f) st
    pub queues : (q : ℕ) → q < 4 → QueueKept w f n q
    pub by : By b f
    pub stack_by : StackBy b st

  -- OTHER WORDS that agree
  pub task_same : (w w' : List ℕ) (d t : ℕ) (u : Runner) (F : List (Over Runner)) → ((k : ℕ) → k < 10 → load w' (task_at d k) ≡ load w (task_at d k))
      → TaskKept w d t u F → TaskKept w' d t u F
  task_same w w' d t u F s h =
      record {
        procedure = s 0 (omega arith) ∙ h.procedure;
        position = s 1 (omega arith) ∙ h.position;
        register = s 2 (omega arith) ∙ h.register;
        own = s 3 (omega arith) ∙ h.own;
        children = s 4 (omega arith) ∙ h.children;
        older = s 5 (omega arith) ∙ h.older;
        popping = λ q l. s (POPPING + q) (omega arith) ∙ h.popping q l;
      }

  pub stack_same : (w w' : List ℕ) (F : List (Over Runner)) (st : List Frame)
      → ((d k : ℕ) → d ≤ length st → k < 10 → load w' (task_at d k) ≡ load w (task_at d k)) → StackKept w F st → StackKept w' F st
  stack_same w w' F [] s h = tt
  stack_same w w' F (frame t u ∷ st) s h = (
    task_same w w' (suc (length st)) t u F (λ k l. s (suc (length st)) k (omega arith) l) h.0,
    stack_same w w' F st (λ d k i l. s d k (omega arith) l) h.1,
  )

  pub holds_behind : (w : List ℕ) (q i : ℕ) (ps : List Place) (n : ℕ) → Holds w q i ps n → i ≤ n
  holds_behind w q i [] n h = omega (arith, h)
  holds_behind w q i (place v t ∷ ps) n h = let l = holds_behind w q (i + 1) ps n h.2 in omega (arith, l)

  pub holds_same : (w w' : List ℕ) (q i : ℕ) (ps : List Place) (n : ℕ)
      → ((i k : ℕ) → i < n → k < 2 → load w' (place_at q i k) ≡ load w (place_at q i k)) → Holds w q i ps n → Holds w' q i ps n
  holds_same w w' q i [] n s h = h
  holds_same w w' q i (place v t ∷ ps) n s h =
      let l = holds_behind w q (i + 1) ps n h.2 in
      (s i 0 (omega (arith, l)) (omega arith) ∙ h.0, s i 1 (omega (arith, l)) (omega arith) ∙ h.1, holds_same w w' q (i + 1) ps n s h.2)

  pub queue_same : (w w' : List ℕ) (f : List (Timed Runner)) (n q : ℕ) → ((k : ℕ) → k < 3 → load w' (queue_at q k) ≡ load w (queue_at q k))
      → ((i k : ℕ) → i < n → k < 2 → load w' (place_at q i k) ≡ load w (place_at q i k)) → QueueKept w f n q → QueueKept w' f n q
  queue_same w w' f n q s p h =
      record {
        few = rw (s 1 (omega arith)) h.few;
        pushers = s 2 (omega arith) ∙ h.pushers;
        places = rw (s 0 (omega arith), s 1 (omega arith))
            (holds_same w w' q (load w (queue_at q TAKEN)) (places_of (pushes_of j) q 0 f) (load w (queue_at q PUSHED))
            (λ i k l m. let few = h.few in p i k (omega (arith, few)) m) h.places);
      }

  -- WHAT A LOOK FINDS, and when
  module _ (w : List ℕ) (f : List (Timed Runner)) (n q : ℕ) (h : QueueKept w f n q) where
    abbrev ps : List Place
    ps = places_of (pushes_of j) q 0 f

    looked : (xs : List Place) → Holds w q (load w (queue_at q TAKEN)) xs (load w (queue_at q PUSHED))
        → (front_of w q ≡ value_in xs) × (front_time w q ≡ time_in (load w (queue_at q PUSHERS)) xs)
    unfolding front_of front_time filled
    looked [] e = let z = le-ltb (load w (queue_at q TAKEN)) (load w (queue_at q PUSHED)) (omega (arith, e)) in (pass _ z refl, pass _ z refl)
    looked (place v t ∷ xs) (a, b, r) =
        let l = holds_behind w q (load w (queue_at q TAKEN) + 1) xs (load w (queue_at q PUSHED)) r in
        let z = lt-ltb (load w (queue_at q TAKEN)) (load w (queue_at q PUSHED)) (omega (arith, l)) in
        (halt _ _ z ∙ ap some a, halt _ _ z ∙ b)

    pub found : front_of w q ≡ value_in ps
    found = (looked ps h.places).0

    pub found_at : front_time w q ≡ time_in (pushers_by (pushes_of j) q 0 f) ps
    found_at = (looked ps h.places).1 ∙ ap (λ (a : ℕ). time_in a ps) h.pushers
