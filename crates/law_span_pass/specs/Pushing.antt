-- A VALUE IS PUSHED: what the words hold then.
use Rattle.std.specs.Prelude.{◌≡◌, refl, ◌⊎◌, ℕ, ◌+◌, ◌<◌, ◌≤◌, length}
use Rattle.std.proofs.Common.{ap, sym, ◌∙◌, ⊎_elim, arith}
use mathlib.Core.List.{List, [], ◌∷◌, ◌++◌, append-nil}
use Rattle.spec_words.specs.Words.{load, store, size, load_same, load_other, size_store}
use Rattle.spec_lists.specs.Counting.{equal?}
use Rattle.spec_line.specs.Line.{Item, value, spot, finished, gave}
use Rattle.spec_line.specs.Later.{later}
use Rattle.law_timed_line.specs.Times.{Timed, at}
use Rattle.law_job_line.specs.Tasks.{Runner}
use Rattle.law_job_times.specs.Kin.{pushes_of}
use Rattle.law_serial_times.specs.Ended.{Over, ended, ended_append}
use Rattle.law_serial_times.specs.Dominated.{Frame}
use Rattle.spec_span.specs.Pass.{queue_at, place_at, SPAN, TAKEN, PUSHED, PUSHERS, VALUE, TIME, queued}
use Rattle.law_span_pass.specs.Raised.{later_comm, latest_by}
use Rattle.law_span_pass.specs.Places.{Place, place, places_of, places_push, places_other, other_value}
use Rattle.law_span_pass.specs.Ready.{Settled}
use Rattle.law_span_pass.specs.Kept.{By, Holds, QueueKept, Kept, stack_same, holds_behind, queue_same}
use Rattle.law_span_pass.specs.Going.{small_sum}

module _ (j : List ℕ) where
  -- A VALUE IS PUSHED to queue q
  holds_more : (w w' : List ℕ) (q i : ℕ) (ps : List Place) (m v t : ℕ) → ((i k : ℕ) → i < m → k < 2 → load w' (place_at q i k) ≡ load w (place_at q i k))
      → load w' (place_at q m VALUE) ≡ v → load w' (place_at q m TIME) ≡ t → Holds w q i ps m → Holds w' q i (ps ++ place v t ∷ []) (m + 1)
  holds_more w w' q i [] m v t s a b h = rw h (a, b, refl)
  holds_more w w' q i (place x y ∷ ps) m v t s a b h =
      let l = holds_behind j w q (i + 1) ps m h.2 in
      (s i 0 (omega (arith, l)) (omega arith) ∙ h.0, s i 1 (omega (arith, l)) (omega arith) ∙ h.1, holds_more w w' q (i + 1) ps m v t s a b h.2)

  pub settled_more : (f : List (Timed Runner)) (x : Timed Runner) → Settled f → Settled (x ∷ []) → Settled (f ++ x ∷ [])
  settled_more [] x h g = g
  settled_more (at t (value p v) ∷ f) x h g = settled_more f x h g
  settled_more (at t (spot s) ∷ f) x h g = absurd h
  settled_more (at t (finished s) ∷ f) x h g = settled_more f x h g
  settled_more (at t (gave p) ∷ f) x h g = absurd h

  pub by_append : (b d : ℕ) (f : List (Timed Runner)) (x : Item Runner) → By b f → d ≤ b → By b (f ++ at d x ∷ [])
  by_append b d [] x h l = (l, tt)
  by_append b d (at t y ∷ f) x h l = (h.0, by_append b d f x h.1 l)

  module _ (w : List ℕ) (f : List (Timed Runner)) (st : List Frame) (n b : ℕ) (k : Kept j w f st n b) (deep : length st ≤ 128) (q : ℕ) (few : q < 4) (v d : ℕ)
      (room : n < 65535) (by : d ≤ b) where
    abbrev N : ℕ
    N = load w (queue_at q PUSHED)

    abbrev put : List ℕ
    put = queued w q v d

    pushed_few : N < 65535
    pushed_few = let l = (k.queues q few).few in omega (arith, l)

    queued_size : size put ≡ SPAN
    unfolding queued
    queued_size = size_store _ _ _ ∙ size_store _ _ _ ∙ size_store _ _ _ ∙ k.sized

    queued_other : (a : ℕ) → ¬ (a ≡ place_at q N VALUE) → ¬ (a ≡ place_at q N TIME) → ¬ (a ≡ queue_at q PUSHED) → load put a ≡ load w a
    unfolding queued
    queued_other a x y z = load_other _ _ _ _ z ∙ load_other _ _ _ _ y ∙ load_other _ _ _ _ x

    queued_value : load put (place_at q N VALUE) ≡ v
    unfolding queued
    queued_value =
        load_other _ _ _ _ (λ x. omega (arith, x, few, pushed_few)) ∙ load_other _ _ _ _ (λ x. omega (arith, x))
        ∙ load_same _ _ _ (let s = k.sized in omega (arith, s, few, pushed_few))

    queued_time : load put (place_at q N TIME) ≡ later d (load w (queue_at q PUSHERS))
    unfolding queued
    queued_time =
        load_other _ _ _ _ (λ x. omega (arith, x, few, pushed_few))
        ∙ load_same _ _ _ (let s = size_store w (place_at q N VALUE) v ∙ k.sized in omega (arith, s, few, pushed_few))

    queued_count : load put (queue_at q PUSHED) ≡ N + 1
    unfolding queued
    queued_count =
        load_same _ _ _
        (let s = size_store (store w (place_at q N VALUE) v) (place_at q N TIME) (later d (load w (queue_at q PUSHERS))) ∙ size_store w (place_at q N VALUE) v ∙ k.sized in
        omega (arith, s, few))
        ∙ small_sum N 1 (omega (arith, pushed_few))

    same_ended : ended (f ++ at d (value q v) ∷ []) ≡ ended f
    unfolding ended
    same_ended = ended_append f (at d (value q v) ∷ []) ∙ append-nil (ended f)

    there : QueueKept j put (f ++ at d (value q v) ∷ []) (n + 1) q
    there =
        let h = k.queues q few in
        record {
          few = let l = h.few in rw queued_count (omega (arith, l));
          pushers = queued_other _ (λ x. omega (arith, x, few)) (λ x. omega (arith, x, few)) (λ x. omega (arith, x)) ∙ h.pushers
              ∙ ap (λ (F : List (Over Runner)). latest_by (λ s. pushes_of j s q) 0 F) (sym same_ended);
          places = rw (queued_count, queued_other (queue_at q TAKEN) (λ x. omega (arith, x, few)) (λ x. omega (arith, x, few)) (λ x. omega (arith, x)), places_push (pushes_of j) q 0 d v f)
              (holds_more w put q (load w (queue_at q TAKEN)) (places_of (pushes_of j) q 0 f) N v _
              (λ i m x y. queued_other _ (λ z. omega (arith, z, x, y)) (λ z. omega (arith, z, x, y)) (λ z. omega (arith, z, few))) queued_value
              (queued_time ∙ later_comm d _ ∙ ap (λ (a : ℕ). later a d) h.pushers) h.places);
        }

    elsewhere : (p : ℕ) → p < 4 → ¬ (p ≡ q) → QueueKept j put (f ++ at d (value q v) ∷ []) (n + 1) p
    elsewhere p l other =
        let h = queue_same j w put f n p
        (λ i x. queued_other _ (λ z. omega (arith, z, l, x)) (λ z. omega (arith, z, l, x)) (λ z. other (omega (arith, z, l, x))))
        (λ i m x y. queued_other _ (λ z. other (omega (arith, z, x, y, room, pushed_few))) (λ z. other (omega (arith, z, x, y, room, pushed_few))) (λ z. omega (arith, z, few)))
        (k.queues p l) in
        record {
          few = let i = h.few in omega (arith, i);
          pushers = h.pushers ∙ ap (λ (F : List (Over Runner)). latest_by (λ s. pushes_of j s p) 0 F) (sym same_ended);
          places = rw (places_other (pushes_of j) p (at d (value q v)) (λ a. other_value (pushes_of j) p q v d a (λ z. other (sym z))) 0 f) h.places;
        }

    pub queued_kept : Kept j put (f ++ at d (value q v) ∷ []) st (n + 1) b
    queued_kept =
        record {
          sized = queued_size;
          settled = settled_more f (at d (value q v)) k.settled tt;
          tasks = rw same_ended
              (stack_same j w put (ended f) st
              (λ i m x y. queued_other _ (λ z. omega (arith, z, x, y, deep)) (λ z. omega (arith, z, x, y, deep)) (λ z. omega (arith, z, x, y, deep))) k.tasks);
          queues = λ p l. ⊎_elim (λ e. rw e there) (elsewhere p l) (equal? p q);
          by = by_append b d f (value q v) k.by by;
          stack_by = k.stack_by;
        }
