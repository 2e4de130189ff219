-- THE FIRST VALUE OF A QUEUE IS TAKEN: what the words hold then.
use Rattle.std.specs.Prelude.{◌≡◌, refl, ◌⊎◌, ℕ, ◌+◌, ◌<◌, ◌≤◌, eqb, length}
use Rattle.std.proofs.Common.{ap, sym, ◌∙◌, ⊎_elim, arith}
use Rattle.std.proofs.Math.Path.{subst}
use mathlib.Core.List.{List, [], ◌∷◌}
use borrow.Author.Tests.{lt-ltb, le-ltb}
use Rattle.spec_words.specs.Words.{load, store, size, halt, pass, load_same, load_other, size_store}
use Rattle.spec_lists.specs.Counting.{equal?}
use Rattle.spec_job.specs.Effects.{sum}
use Rattle.spec_line.specs.Line.{value, spot, finished, gave}
use Rattle.spec_line.specs.Later.{picked}
use Rattle.law_timed_line.specs.Times.{Timed, at}
use Rattle.law_job_line.specs.Tasks.{Runner}
use Rattle.law_job_times.specs.Kin.{pushes_of}
use Rattle.law_serial_times.specs.Ended.{Over, ended}
use Rattle.law_serial_times.specs.Dominated.{Frame}
use Rattle.spec_span.specs.Pass.{queue_at, SPAN, TAKEN, PUSHED, PUSHERS, filled, unqueued}
use Rattle.law_serial_times.specs.Leaving.{value_taken, ended_taken}
use Rattle.law_span_pass.specs.Raised.{latest_by}
use Rattle.law_span_pass.specs.Places.{Place, place, places_of, pushers_by, places_taken, places_kept}
use Rattle.law_span_pass.specs.Ready.{Settled}
use Rattle.law_span_pass.specs.Kept.{By, Holds, QueueKept, Kept, stack_same, holds_same, holds_behind, queue_same}
use Rattle.law_span_pass.specs.Going.{small_sum}

settled_taken : (q : ℕ) (f : List (Timed Runner)) → Settled f → Settled (value_taken q f)
unfolding value_taken
settled_taken q [] h = tt
settled_taken q (at t (value p v) ∷ f) h = picked Settled (eqb p q) h (settled_taken q f h)
settled_taken q (at t (spot s) ∷ f) h = absurd h
settled_taken q (at t (finished s) ∷ f) h = settled_taken q f h
settled_taken q (at t (gave p) ∷ f) h = absurd h

by_taken : (b q : ℕ) (f : List (Timed Runner)) → By b f → By b (value_taken q f)
unfolding value_taken
by_taken b q [] h = tt
by_taken b q (at t (value p v) ∷ f) h = picked (By b) (eqb p q) h.1 (h.0, by_taken b q f h.1)
by_taken b q (at t (spot s) ∷ f) h = (h.0, by_taken b q f h.1)
by_taken b q (at t (finished s) ∷ f) h = (h.0, by_taken b q f h.1)
by_taken b q (at t (gave p) ∷ f) h = (h.0, by_taken b q f h.1)

module _ (j : List ℕ) (w : List ℕ) (f : List (Timed Runner)) (st : List Frame) (n b : ℕ) (k : Kept j w f st n b) (deep : length st ≤ 128) (q : ℕ) (few : q < 4)
    (room : n < 65535) where
  abbrev I : ℕ
  I = load w (queue_at q TAKEN)

  abbrev one_taken : List ℕ
  one_taken = store w (queue_at q TAKEN) (sum I 1)

  pushers_same : (p : ℕ) → pushers_by (pushes_of j) p 0 f ≡ pushers_by (pushes_of j) p 0 (value_taken q f)
  pushers_same p = ap (λ (F : List (Over Runner)). latest_by (λ s. pushes_of j s p) 0 F) (sym (ended_taken q f))

  -- the other queues, and all where there was no value
  elsewhere : (x : List ℕ) (p : ℕ) → ¬ (p ≡ q) → QueueKept j x f n p → QueueKept j x (value_taken q f) n p
  elsewhere x p other h =
      record { few = h.few; pushers = h.pushers ∙ pushers_same p; places = rw (places_kept (pushes_of j) p q 0 f (λ z. other (sym z))) h.places }

  all_kept : (x : List ℕ) → size x ≡ SPAN → ((a : ℕ) → ¬ (a ≡ queue_at q TAKEN) → load x a ≡ load w a) → QueueKept j x (value_taken q f) n q
      → Kept j x (value_taken q f) st n b
  all_kept x s same h =
      record {
        sized = s;
        settled = settled_taken q f k.settled;
        tasks = rw (ended_taken q f) (stack_same j w x (ended f) st (λ i m y z. same _ (λ e. omega (arith, e, y, z, deep))) k.tasks);
        queues = λ p l.
            ⊎_elim (λ e. rw e h)
            (λ other.
            elsewhere x p other
            (queue_same j w x f n p (λ i y. same _ (λ e. other (omega (arith, e, y)))) (λ i m y z. same _ (λ e. omega (arith, e, few))) (k.queues p l)))
            (equal? p q);
        by = by_taken b q f k.by;
        stack_by = k.stack_by;
      }

  -- there is none, or there is a first one
  by_places : (ps : List Place) → places_of (pushes_of j) q 0 f ≡ ps → Holds w q I ps (load w (queue_at q PUSHED)) → Kept j (unqueued w q) (value_taken q f) st n b
  unfolding unqueued filled
  by_places [] e h =
      let z = le-ltb I (load w (queue_at q PUSHED)) (omega (arith, h)) in
      let g = k.queues q few in
      subst (λ (x : List ℕ). Kept j x (value_taken q f) st n b) (sym (pass _ z refl))
      (all_kept w k.sized (λ a i. refl)
      (record { few = g.few; pushers = g.pushers ∙ pushers_same q; places = rw (places_taken (pushes_of j) q 0 f, e) h }))
  by_places (place v t ∷ ps) e h =
      let l = holds_behind j w q (I + 1) ps (load w (queue_at q PUSHED)) h.2 in
      let z = lt-ltb I (load w (queue_at q PUSHED)) (omega (arith, l)) in
      let g = k.queues q few in
      let i = g.few in
      let now : load one_taken (queue_at q TAKEN) ≡ I + 1 =
      load_same w (queue_at q TAKEN) (sum I 1) (let s = k.sized in omega (arith, s, few)) ∙ small_sum I 1 (omega (arith, l, i, room)) in
      let other : (a : ℕ) → ¬ (a ≡ queue_at q TAKEN) → load one_taken a ≡ load w a = λ a x. load_other w (queue_at q TAKEN) a (sum I 1) x in
      let count = other (queue_at q PUSHED) (λ x. omega (arith, x)) in
      subst (λ (x : List ℕ). Kept j x (value_taken q f) st n b) (sym (halt _ _ z))
      (all_kept one_taken (size_store _ _ _ ∙ k.sized) other
      (record {
        few = rw count i;
        pushers = other (queue_at q PUSHERS) (λ x. omega (arith, x)) ∙ g.pushers ∙ pushers_same q;
        places = rw (now, count, places_taken (pushes_of j) q 0 f, e)
            (holds_same j w one_taken q (I + 1) ps (load w (queue_at q PUSHED)) (λ a m x y. other _ (λ r. omega (arith, r, few))) h.2);
      }))

  pub unqueued_kept : Kept j (unqueued w q) (value_taken q f) st n b
  unqueued_kept = by_places (places_of (pushes_of j) q 0 f) refl (k.queues q few).places
