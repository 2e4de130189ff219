-- One step of the code after another.
use Rattle.std.specs.Prelude.{◌≡◌, refl, Bool, true, false, not, ℕ, ◌+◌, ◌-◌, ◌*◌, ◌/◌, ◌%◌, ◌^◌, ◌<◌, ◌≤◌, eqb, get_or}
use Rattle.std.proofs.Common.{ap, ◌∙◌, arith, lt-ltb, le-ltb}
use Rattle.std.proofs.Math.Path.{sym}
use mathlib.Core.List.{List}
use Rattle.spec_words.specs.Words.{pass, halt, both_on, both_off}
use Rattle.spec_layout.specs.Layout.{CHILDREN, USER, RIGHT}
use Rattle.spec_rules.specs.Contents.{decode}
use Rattle.spec_view_events.specs.Events.{Event, queue_of, queue_at, queues_at, kind_at, events_at}
use Rattle.spec_view_events.specs.Run.{run}
use Rattle.spec_view_events.specs.Sees.{Sees}
use Rattle.spec_view_events.specs.Groups.{Blank, queue_at_lem, queues_skip, kind_skip}

module _ (m : List ℕ) where
  -- a step that the others follow
  pub follow : (vs vs' : List Event → List Event) {b b' : Bool} {d f w d1 f1 w1 d2 f2 w2 : List ℕ} → b ≡ true
      → Sees m vs b d f w d1 f1 w1 → Sees m vs' b' d1 f1 w1 d2 f2 w2 → Sees m (λ es. vs (vs' es)) b' d f w d2 f2 w2
  follow vs vs' e s s' = record { same = λ es. s'.same es ∙ sym (both_on e) ∙ s.same (vs' es) }

  -- a step that is the last
  pub end : (vs vs' : List Event → List Event) {b : Bool} {d f w d1 f1 w1 d2 f2 w2 : List ℕ} → b ≡ false
      → Sees m vs b d f w d1 f1 w1 → Sees m (λ es. vs (vs' es)) false d f w d2 f2 w2
  end vs vs' e s = record { same = λ es. both_off _ refl ∙ sym (both_off _ e) ∙ s.same (vs' es) }

  -- no step at all
  pub skip : (vs : List Event → List Event) {d f w : List ℕ} → ((es : List Event) → run (decode m) es d f w ≡ run (decode m) (vs es) d f w)
      → Sees m vs true d f w d f w
  skip vs s = record { same = λ es. both_on refl ∙ s es }

  module _ (t : ℕ) where
    abbrev R : ℕ
    R = get_or m (1473 + t * 48) 0

    first : R ≡ R / 4 ^ 0
    first = omega arith

    abbrev Q : ℕ
    Q = 1488 + t * 48

    -- the queue views
    module _ {b : Bool} {d f w d1 f1 w1 : List ℕ} where
      pub queue_first : Sees m (queue_of (not (eqb (R % 4) 0)) 0 (get_or m Q 0)) b d f w d1 f1 w1 → Sees m (queue_at (decode m) t 0) b d f w d1 f1 w1
      queue_first s =
          record { same = λ es. s.same es ∙ ap (λ (x : List Event). run (decode m) x d f w) (queue_at_lem m t 0 R Q first (omega arith) es) }

      pub queue_later : (q : ℕ) → Sees m (queue_of (not (eqb (R / 4 ^ q % 4) 0)) q (get_or m (Q + q) 0)) b d f w d1 f1 w1
          → Sees m (queue_at (decode m) t q) b d f w d1 f1 w1
      queue_later q s =
          record { same = λ es. s.same es ∙ ap (λ (x : List Event). run (decode m) x d f w) (queue_at_lem m t q (R / 4 ^ q) (Q + q) refl refl es) }

    -- views that are all empty
    module _ {d f w : List ℕ} where
      pub kind_none : (k : ℕ) → Blank m (1492 + t * 48 + k * 4) × Blank m (1504 + t * 48 + k * 4) → Sees m (kind_at (decode m) t k) true d f w d f w
      kind_none k e =
          skip (kind_at (decode m) t k) (λ es. kind_skip m t d f w k es (1492 + t * 48 + k * 4) (1504 + t * 48 + k * 4) refl (omega arith) e.0 e.1)

      pub queues_none : Blank m (1488 + t * 48) → Sees m (queues_at (decode m) t) true d f w d f w
      queues_none e = skip (queues_at (decode m) t) (λ es. queues_skip m t d f w es (1488 + t * 48) refl e)

  -- a mark where a task is entered, and one where it is exited
  module _ (x : ℕ) {b : Bool} {d f w d1 f1 w1 : List ℕ} where
    pub mark_entered : x < 128
        → Sees m (λ es. queues_at (decode m) x (kind_at (decode m) x RIGHT (kind_at (decode m) x USER es))) b d f w d1 f1 w1
        → Sees m (events_at (decode m) x) b d f w d1 f1 w1
    unfolding events_at
    mark_entered l s = record { same = λ es. s.same es ∙ sym (ap (λ (v : List Event). run (decode m) v d f w) (halt _ _ (lt-ltb x 128 l))) }

    pub mark_exited : 128 ≤ x → Sees m (kind_at (decode m) (x - 128) CHILDREN) b d f w d1 f1 w1 → Sees m (events_at (decode m) x) b d f w d1 f1 w1
    unfolding events_at
    mark_exited l s = record { same = λ es. s.same es ∙ sym (ap (λ (v : List Event). run (decode m) v d f w) (pass _ (le-ltb x 128 l) refl)) }
