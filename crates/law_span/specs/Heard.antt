-- WHAT A STEP HEARS along the front is the latest of what it needs there: the front has the marks of program order, each with the ticks of
-- the longest chain to it.
use Rattle.std.specs.Prelude.{◌≡◌, Bool, ℕ, ◌+◌, ◌<◌, eqb}
use Rattle.std.proofs.Math.Path.{refl, sym}
use Rattle.std.proofs.Common.{◌∙◌, subst}
use Rattle.std.proofs.Math.Bool.{true, false}
use mathlib.Core.List.{List, [], ◌∷◌, ◌++◌, append_assoc, append-nil}
use borrow.Author.Tests.{eq-eqb, ne_eqb, eqb-true, eqb-false, lt-ltb}
use Rattle.spec_words.specs.Words.{pick, both, either, halt, pass, both_on, both_off, both_right_off, true_both}
use Rattle.spec_tree.specs.Rights.{pushes, pops}
use Rattle.spec_order.specs.Waits.{is_child}
use Rattle.spec_job.specs.Operations.{Operation, return, push, push_sum, pop, go_if_empty, go, go_if_zero, add, spawn, sync, take_or_go, operation_at}
use Rattle.spec_plain.specs.Stack.{rights_of}
use Rattle.spec_line.specs.Line.{value, finished, Search, free, seeking, found, putting}
use Rattle.spec_line.specs.Later.{later}
use Rattle.law_timed_line.specs.Times.{Timed, at}
use Rattle.law_job_line.specs.Tasks.{can_push, can_pop, Runner, instruction_of}
use Rattle.law_named_waits.specs.Named.{halts}
use Rattle.law_job_times.specs.Kin.{awaits}
use Rattle.law_serial_times.specs.Named.{names, by_queue}
use Rattle.law_serial_times.specs.Hearing.{entering, hear}
use Rattle.spec_span.specs.Kinds.{awaits_children, looks_in}
use Rattle.spec_span.specs.Needs as Need
use Rattle.spec_span.specs.Needs.{Made, History, Mark, without_first, queue_names, waits_named, looks_for, named}
use Rattle.law_serial_times.specs.Leaving.{value_taken}
use Rattle.law_span.specs.Chains.{Longest, Latest, latest_one, latest_both}

pub same_awaits : (o : Operation) → awaits_children o ≡ awaits o
unfolding awaits awaits_children
same_awaits return = refl
same_awaits sync = refl
same_awaits push = refl
same_awaits push_sum = refl
same_awaits pop = refl
same_awaits go_if_empty = refl
same_awaits take_or_go = refl
same_awaits go = refl
same_awaits go_if_zero = refl
same_awaits add = refl
same_awaits spawn = refl

either_none : (b : Bool) → either b false ≡ b
unfolding either pick
either_none true = refl
either_none false = refl

-- on a queue that there is, the right is a bit
pub can_pop_lem : (r q : ℕ) → q < 4 → can_pop r q ≡ pops r q
unfolding can_pop
can_pop_lem r q h = both_on (lt-ltb q 4 h)

pub can_push_lem : (r q : ℕ) → q < 4 → can_push r q ≡ pushes r q
unfolding can_push
can_push_lem r q h = both_on (lt-ltb q 4 h)

module _ (j table : List ℕ) where
  -- THE MARKS AND THE FRONT, item for item
  pub data Matched : List Mark → List (Timed Runner) → Type 0 where
    nothing : Matched [] []
    a_push : {q v t : ℕ} {s : History} {ms : List Mark} {f : List (Timed Runner)} → Longest j table s t → Matched ms f
        → Matched (Need.pushed q s ∷ ms) (at t (value q v) ∷ f)
    a_finish : {r : Runner} {t : ℕ} {s : History} {ms : List Mark} {f : List (Timed Runner)} → Longest j table s t → Matched ms f
        → Matched (Need.finished r.task s ∷ ms) (at t (finished r) ∷ f)

  pub matched_more : {ms ns : List Mark} {f g : List (Timed Runner)} → Matched ms f → Matched ns g → Matched (ms ++ ns) (f ++ g)
  matched_more nothing k = k
  matched_more (a_push l h) k = a_push l (matched_more h k)
  matched_more (a_finish l h) k = a_finish l (matched_more h k)

  pub matched_taken : (q : ℕ) {ms : List Mark} {f : List (Timed Runner)} → Matched ms f → Matched (without_first q ms) (value_taken q f)
  unfolding without_first value_taken
  matched_taken q nothing = nothing
  matched_taken q (a_push {q = p} {s = s} {ms = ms} l h) = go (eqb p q) (a_push l (matched_taken q h)) h
    where
      go : (b : Bool) {ms ns : List Mark} {f g : List (Timed Runner)} → Matched ns g → Matched ms f → Matched (pick b ms ns) (pick b f g)
      go true k h = unfold pick in h
      go false k h = unfold pick in k
  matched_taken q (a_finish l h) = a_finish l (matched_taken q h)

  module _ (u : Runner) (e : Made) (by : e.task ≡ u.task) (same : e.event.operation ≡ operation_at (instruction_of j u).operation) where
    abbrev o : Operation
    o = e.event.operation

    abbrev w : ℕ
    w = e.event.which

    -- the search m has found no value so far exactly where l says so
    abbrev pub Seeks : Search → Bool → Type 0
    Seeks free l = looks_in o ≡ false
    Seeks (seeking b q) l = (looks_in o ≡ true) × (q ≡ w) × (w < 4) × (l ≡ true)
    Seeks (found b q v) l = (looks_in o ≡ true) × (q ≡ w) × (w < 4) × (l ≡ false)
    Seeks (putting q v) l = ⊥

    abbrev child_pops : Runner → Bool
    child_pops r = both (is_child r.task.name u.task.name) (pops (rights_of j r.task) w)

    by_queue_lem : (m : Search) (l : Bool) (r : Runner) → Seeks m l → by_queue j m u r ≡ queue_names j e l r.task
    unfolding by_queue queue_names both either pick
    by_queue_lem free l r h = rw (h) refl
    by_queue_lem (seeking b q) l r h =
        rw (h.0, h.1, h.3, by, can_pop_lem (rights_of j r.task) w h.2, can_push_lem (rights_of j r.task) w h.2) refl
    by_queue_lem (found b q v) l r h =
        rw (h.0, h.1, h.3, by, can_pop_lem (rights_of j r.task) w h.2) (sym (either_none (both (is_child r.task.name u.task.name) (pops (rights_of j r.task) w))))
    by_queue_lem (putting q v) l r h = absurd h

    names_same : (m : Search) (l : Bool) (r : Runner) → Seeks m l → names j u m r ≡ waits_named j e l r.task
    unfolding names halts waits_named
    names_same m l r h = rw (by_queue_lem m l r h, by, same, same_awaits (operation_at (instruction_of j u).operation)) refl

    -- where the search goes past a push, and where it finds one
    named_past : (l : Bool) (p : ℕ) (s : History) (ms : List Mark) → looks_for j e l p ≡ false → named j e l (Need.pushed p s ∷ ms) ≡ named j e l ms
    unfolding named
    named_past l p s ms h = pass _ h refl

    named_found : (l : Bool) (p : ℕ) (s : History) (ms : List Mark) → looks_for j e l p ≡ true
        → named j e l (Need.pushed p s ∷ ms) ≡ s ∷ named j e false ms
    unfolding named
    named_found l p s ms h = halt _ _ h

    -- s is noted besides
    besides : (xs ys : List History) (s : History) (z : ℕ) → Latest j table ((xs ++ s ∷ []) ++ ys) z → Latest j table (xs ++ s ∷ ys) z
    besides xs ys s z h = subst (λ (l : List History). Latest j table l z) (append_assoc xs (s ∷ []) ys) h

    one_more : (xs : List History) (a : ℕ) (s : History) (t : ℕ) → Latest j table xs a → Longest j table s t → Latest j table (xs ++ s ∷ []) (later a t)
    one_more xs a s t k l = latest_both j table xs (s ∷ []) a t k (latest_one j table s t l)

    -- at a finish, which counts by both or by neither
    at_finish : (b : Bool) (xs : List History) (a t : ℕ) (s : History) (ys : List History) (z : ℕ → ℕ)
        → (b ≡ true → Latest j table ((xs ++ s ∷ []) ++ ys) (z (later a t))) → (b ≡ false → Latest j table (xs ++ ys) (z a))
        → Latest j table (xs ++ pick b (s ∷ ys) ys) (z (pick b (later a t) a))
    unfolding pick
    at_finish true xs a t s ys z f g = besides xs ys s _ (f refl)
    at_finish false xs a t s ys z f g = g refl

    -- at a push to queue p, by a search for a value of q
    at_push : (c b : Bool) (q v a t : ℕ) (f : List (Timed Runner)) (xs : List History) → (c ≡ true → Latest j table xs (hear (names j u) (found b q v) (later a t) f))
        → (c ≡ false → Latest j table xs (hear (names j u) (seeking b q) a f))
        → Latest j table xs (hear (names j u) (pick c (found b q v) (seeking b q)) (pick c (later a t) a) f)
    unfolding pick
    at_push true b q v a t f xs g h = g refl
    at_push false b q v a t f xs g h = h refl

    -- THE LATEST HEARD is the latest needed
    pub heard : {ms : List Mark} {f : List (Timed Runner)} → Matched ms f → (m : Search) (l : Bool) → Seeks m l → (xs : List History) (a : ℕ)
        → Latest j table xs a → Latest j table (xs ++ named j e l ms) (hear (names j u) m a f)
    unfolding named hear entering looks_for
    heard nothing m l h xs a k = rw append-nil k
    heard (a_push {q = p} {s = s} {ms = ms} i r) free l h xs a k =
        rw (named_past l p s ms (both_right_off l (both_off _ h))) (heard r free l h xs a k)
    heard (a_push {q = p} {v = v} {t = t} {s = s} {ms = ms} {f = f} i r) (seeking b q) l h xs a k =
        at_push (eqb q p) b q v a t f (xs ++ named j e l (Need.pushed p s ∷ ms))
        (λ y.
        rw (named_found l p s ms (true_both h.3 (true_both h.0 (eq-eqb p w (sym (eqb-true q p y) ∙ h.1)))))
        (besides xs (named j e false ms) s _
        (heard r (found b q v) false (h.0, h.1, h.2, refl) (xs ++ s ∷ []) (later a t) (one_more xs a s t k i))))
        (λ n.
        rw (named_past l p s ms (both_right_off l (both_right_off (looks_in o) (ne_eqb p w (λ z. eqb-false q p n (h.1 ∙ sym z))))))
        (heard r (seeking b q) l h xs a k))
    heard (a_push {q = p} {s = s} {ms = ms} i r) (found b q v) l h xs a k =
        rw (named_past l p s ms (both_off _ h.3)) (heard r (found b q v) l h xs a k)
    heard (a_push i r) (putting q v) l h xs a k = absurd h
    heard (a_finish {r = x} {t = t} {s = s} {ms = ms} {f = f} i r) m l h xs a k =
        rw (names_same m l x h)
        (at_finish (waits_named j e l x.task) xs a t s (named j e l ms) (λ z. hear (names j u) m z f)
        (λ _. heard r m l h (xs ++ s ∷ []) (later a t) (one_more xs a s t k i)) (λ _. heard r m l h xs a k))
