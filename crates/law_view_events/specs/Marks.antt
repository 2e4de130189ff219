-- What each rule sees of the marks of a tour.
use Rattle.std.specs.Prelude.{◌≡◌, Bool, not, ℕ, ◌+◌, ◌-◌, ◌<◌, ◌≤◌, ltb, eqb}
use Rattle.std.proofs.Math.Path.{refl, ap, ap₂, sym, subst, subst⁻¹}
use Rattle.std.proofs.Common.{◌∙◌, lt-ltb, le-ltb}
use Rattle.std.proofs.Math.Bool.{true, false}
use mathlib.Core.List.{List, [], ◌∷◌}
use Rattle.std.proofs.Math.Logic.{⊎_elim}
use native.Mathlib.Omega.{arith}
use Rattle.std.proofs.Math.ListN.{length}
use Rattle.spec_words.specs.Words.{pick, pass, halt}
use Rattle.spec_lists.specs.Counting.{one, occurrences, over, equal?, occurs_nil, occurs_here, occurs_past, below?}
use Rattle.spec_layout.specs.Layout.{NONE, QUEUE_HEADS, CHILDREN, USER, RIGHT}
use Rattle.spec_tree.specs.Rights.{uses}
use Rattle.spec_tree.specs.Tour.{entered}
use Rattle.spec_rules.specs.Contents.{Contents, word, owners, task_rights}
use Rattle.spec_rules.specs.Test.{passed_at, order_at, order_of}
use Rattle.law_rules_tasks.specs.Holders.{entered_here, entered_past}
use Rattle.spec_view_events.specs.Events.{Event, queues_at, kind_at, events_at, events}
use Rattle.law_view_events.specs.Good.{Queued, allowed, order_from, owners_of, tails_of, heads_of}
use Rattle.law_view_events.specs.Tasks.{MayKind, MayQueues, kind_allowed, allowed_kind, queues_allowed, allowed_queues, kind_order, queues_order, kind_owners}
use Rattle.law_view_events.specs.Tasks.{kind_queued, queues_queued}
use Rattle.law_view_events.specs.Counts.{names_at, queues_owners, kind_heads, kind_tails, queues_heads, queues_tails}

-- the tasks that are exited
unfoldable pub exits : List ℕ → List ℕ
exits [] = []
exits (x ∷ xs) = pick (ltb x 128) (exits xs) ((x - 128) ∷ exits xs)

twice : (u : Bool) (g : ℕ → ℕ) (a o : ℕ) → pick u (g (pick u a o)) (pick u a o) ≡ pick u (g a) o
unfolding pick
twice true g a o = refl
twice false g a o = refl

pub exits_here : (x : ℕ) (xs : List ℕ) → 128 ≤ x → exits (x ∷ xs) ≡ (x - 128) ∷ exits xs
unfolding exits
exits_here x xs l = pass _ (le-ltb x 128 l) refl

pub exits_past : (x : ℕ) (xs : List ℕ) → x < 128 → exits (x ∷ xs) ≡ exits xs
unfolding exits
exits_past x xs l = halt _ _ (lt-ltb x 128 l)

module _ (c : Contents) where
  module _ (x : ℕ) (es : List Event) where
    at_entered : x < 128 → events_at c x es ≡ queues_at c x (kind_at c x RIGHT (kind_at c x USER es))
    unfolding events_at
    at_entered l = halt _ _ (lt-ltb x 128 l)

    at_exited : 128 ≤ x → events_at c x es ≡ kind_at c (x - 128) CHILDREN es
    unfolding events_at
    at_exited l = pass _ (le-ltb x 128 l) refl

  -- ORDER
  order_at_lem : (q x : ℕ) (es : List Event) (o : ℕ) → q < 4 → order_from q (events_at c x es) o ≡ order_from q es (order_at c q x o)
  unfolding order_at
  order_at_lem q x es o m =
      ⊎_elim
      (λ l.
      ap (λ (v : List Event). order_from q v o) (at_entered x es l)
      ∙ queues_order c x (kind_at c x RIGHT (kind_at c x USER es)) o q
      ∙ kind_order c x (kind_at c x USER es) RIGHT o q m
      ∙ kind_order c x es USER _ q m
      ∙ ap (order_from q es) (twice (uses (task_rights c x) q) (passed_at c q x USER) (passed_at c q x RIGHT o) o ∙ sym (halt _ _ (lt-ltb x 128 l))))
      (λ l.
      ap (λ (v : List Event). order_from q v o) (at_exited x es l)
      ∙ kind_order c (x - 128) es CHILDREN o q m
      ∙ ap (order_from q es) (sym (pass _ (le-ltb x 128 l) refl)))
      (below? x 128)

  pub order_marks : (q : ℕ) (xs : List ℕ) (o : ℕ) → q < 4 → order_from q (events c xs) o ≡ order_of c q xs o
  unfolding events order_of order_from
  order_marks q [] o m = refl
  order_marks q (x ∷ xs) o m = order_at_lem q x (events c xs) o m ∙ order_marks q xs (order_at c q x o) m

  -- QUEUE VIEWS
  owner_count : (q t : ℕ) (ts : List ℕ) → length (owners c q (t ∷ ts)) ≡ one (not (eqb (word c t (QUEUE_HEADS + q)) NONE)) + length (owners c q ts)
  unfolding owners one
  owner_count q t ts = go (eqb (word c t (QUEUE_HEADS + q)) NONE)
    where
      go : (b : Bool) → length (pick b (owners c q ts) (t ∷ owners c q ts)) ≡ pick (not b) 1 0 + length (owners c q ts)
      go true = unfold pick in omega arith
      go false = unfold pick in omega arith

  pub owners_marks : (q : ℕ) (xs : List ℕ) → q < 4 → owners_of q (events c xs) ≡ length (owners c q (entered xs))
  unfolding events
  owners_marks q [] m = unfold owners_of owners entered in refl
  owners_marks q (x ∷ xs) m =
      ⊎_elim
      (λ l.
      ap (owners_of q) (at_entered x (events c xs) l)
      ∙ queues_owners c x (kind_at c x RIGHT (kind_at c x USER (events c xs))) q m
      ∙ ap (λ (k : ℕ). one (not (eqb (word c x (QUEUE_HEADS + q)) NONE)) + k)
      (kind_owners c x (kind_at c x USER (events c xs)) RIGHT q ∙ kind_owners c x (events c xs) USER q ∙ owners_marks q xs m)
      ∙ sym (ap (λ (ts : List ℕ). length (owners c q ts)) (entered_here x xs l) ∙ owner_count q x (entered xs)))
      (λ l.
      ap (owners_of q) (at_exited x (events c xs) l)
      ∙ kind_owners c (x - 128) (events c xs) CHILDREN q
      ∙ owners_marks q xs m
      ∙ sym (ap (λ (ts : List ℕ). length (owners c q ts)) (entered_past x xs l)))
      (below? x 128)

  pub queued_marks : (xs : List ℕ) → Queued (events c xs)
  unfolding events
  queued_marks [] = tt
  queued_marks (x ∷ xs) =
      ⊎_elim
      (λ l.
      subst⁻¹ (λ (v : List Event). Queued v) (at_entered x (events c xs) l)
      (queues_queued c x _ (kind_queued c x _ RIGHT (kind_queued c x _ USER (queued_marks xs)))))
      (λ l. subst⁻¹ (λ (v : List Event). Queued v) (at_exited x (events c xs) l) (kind_queued c (x - 128) _ CHILDREN (queued_marks xs)))
      (below? x 128)

  -- HEADS AND TAILS
  module _ (s : ℕ) where
    -- where a task is entered, and where it is exited
    abbrev pub heads_entered : ℕ → ℕ
    heads_entered t = names_at c s t 16 + names_at c s t 28 + names_at c s t 24

    abbrev pub heads_exited : ℕ → ℕ
    heads_exited t = names_at c s t 20

    abbrev pub tails_entered : ℕ → ℕ
    tails_entered t = names_at c s t 40 + names_at c s t 36

    abbrev pub tails_exited : ℕ → ℕ
    tails_exited t = names_at c s t 32

    over_here : (x : ℕ) (xs : List ℕ) (g h : ℕ → ℕ) → x < 128 → over (entered (x ∷ xs)) g + over (exits (x ∷ xs)) h ≡ g x + (over (entered xs) g + over (exits xs) h)
    unfolding over
    over_here x xs g h l =
        ap₂ (λ (a b : List ℕ). over a g + over b h) (entered_here x xs l) (exits_past x xs l)
        ∙ (let z : g x + over (entered xs) g + over (exits xs) h ≡ g x + (over (entered xs) g + over (exits xs) h) = omega arith in z)

    over_past : (x : ℕ) (xs : List ℕ) (g h : ℕ → ℕ) → 128 ≤ x
        → over (entered (x ∷ xs)) g + over (exits (x ∷ xs)) h ≡ h (x - 128) + (over (entered xs) g + over (exits xs) h)
    unfolding over
    over_past x xs g h l =
        ap₂ (λ (a b : List ℕ). over a g + over b h) (entered_past x xs l) (exits_here x xs l)
        ∙ (let z : over (entered xs) g + (h (x - 128) + over (exits xs) h) ≡ h (x - 128) + (over (entered xs) g + over (exits xs) h) = omega arith in z)

    -- a count n of events that adds g where a task is entered, and h where it is exited
    count_marks : (n : List Event → ℕ) (g h : ℕ → ℕ) → n [] ≡ 0
        → ((x : ℕ) (es : List Event) → n (queues_at c x (kind_at c x RIGHT (kind_at c x USER es))) ≡ g x + n es)
        → ((x : ℕ) (es : List Event) → n (kind_at c x CHILDREN es) ≡ h x + n es) → (xs : List ℕ) → n (events c xs) ≡ over (entered xs) g + over (exits xs) h
    unfolding events
    count_marks n g h none enters leaves [] = unfold entered exits over in none
    count_marks n g h none enters leaves (x ∷ xs) =
        let f = count_marks n g h none enters leaves xs in
        ⊎_elim
        (λ l.
        let a = ap n (at_entered x (events c xs) l) in
        let b = enters x (events c xs) in
        let d = over_here x xs g h l in
        omega (arith, a, b, d, f))
        (λ l.
        let a = ap n (at_exited x (events c xs) l) in
        let b = leaves (x - 128) (events c xs) in
        let d = over_past x xs g h l in
        omega (arith, a, b, d, f))
        (below? x 128)

    pub heads_marks : (xs : List ℕ) → occurrences s (heads_of (events c xs)) ≡ over (entered xs) heads_entered + over (exits xs) heads_exited
    heads_marks =
        count_marks (λ v. occurrences s (heads_of v)) heads_entered heads_exited (unfold heads_of occurrences in refl)
        (λ x es.
        let a = queues_heads s c x (kind_at c x RIGHT (kind_at c x USER es)) in
        let b = kind_heads s c x RIGHT (kind_at c x USER es) in
        let d = kind_heads s c x USER es in
        omega (arith, a, b, d))
        (λ x es. kind_heads s c x CHILDREN es)

    pub tails_marks : (xs : List ℕ) → occurrences s (tails_of (events c xs)) ≡ over (entered xs) tails_entered + over (exits xs) tails_exited
    tails_marks =
        count_marks (λ v. occurrences s (tails_of v)) tails_entered tails_exited (unfold tails_of occurrences in refl)
        (λ x es.
        let a = ap (occurrences s) (queues_tails s c x (kind_at c x RIGHT (kind_at c x USER es))) in
        let b = kind_tails s c x RIGHT (kind_at c x USER es) in
        let d = kind_tails s c x USER es in
        omega (arith, a, b, d))
        (λ x es. kind_tails s c x CHILDREN es)

  -- WORDS
  pub record Allowed (x : ℕ) : Type 0 where
    pub entered : x < 128 → MayQueues c x × MayKind c x RIGHT × MayKind c x USER
    pub exited : 128 ≤ x → MayKind c (x - 128) CHILDREN

  allowed_at : (x : ℕ) (es : List Event) → allowed (events_at c x es) ≡ true → Allowed x × (allowed es ≡ true)
  allowed_at x es e =
      ⊎_elim
      (λ l.
      let a = queues_allowed c x _ (ap allowed (sym (at_entered x es l)) ∙ e) in
      let b = kind_allowed c x _ RIGHT a.1 in
      let d = kind_allowed c x _ USER b.1 in
      (record { entered = λ m. (a.0, b.0, d.0); exited = λ m. let z : ⊥ = omega (arith, l, m) in absurd z }, d.1))
      (λ l.
      let a = kind_allowed c (x - 128) _ CHILDREN (ap allowed (sym (at_exited x es l)) ∙ e) in
      (record { entered = λ m. let z : ⊥ = omega (arith, l, m) in absurd z; exited = λ m. a.0 }, a.1))
      (below? x 128)

  at_allowed : (x : ℕ) (es : List Event) → Allowed x → allowed es ≡ true → allowed (events_at c x es) ≡ true
  at_allowed x es a e =
      ⊎_elim
      (λ l.
      let w = a.entered l in
      ap allowed (at_entered x es l) ∙ allowed_queues c x _ w.0 (allowed_kind c x _ RIGHT w.1 (allowed_kind c x _ USER w.2 e)))
      (λ l. ap allowed (at_exited x es l) ∙ allowed_kind c (x - 128) _ CHILDREN (a.exited l) e)
      (below? x 128)

  pub allowed_marks : (xs : List ℕ) → allowed (events c xs) ≡ true → (x : ℕ) → 0 < occurrences x xs → Allowed x
  unfolding events
  allowed_marks [] e x p = let a = occurs_nil x in let z : ⊥ = omega (arith, a, p) in absurd z
  allowed_marks (y ∷ xs) e x p =
      ⊎_elim
      (λ z. subst (λ (k : ℕ). Allowed k) z (allowed_at y (events c xs) e).0)
      (λ z. allowed_marks xs (allowed_at y (events c xs) e).1 x (let a = occurs_past y x xs z in omega (arith, a, p)))
      (equal? y x)

  pub marks_allowed : (xs : List ℕ) → ((x : ℕ) → 0 < occurrences x xs → Allowed x) → allowed (events c xs) ≡ true
  unfolding events
  marks_allowed [] f = unfold allowed in refl
  marks_allowed (y ∷ xs) f =
      at_allowed y (events c xs) (f y (let a = occurs_here y y xs refl in omega (arith, a)))
      (marks_allowed xs
      (λ x p. f x (⊎_elim (λ z. let a = occurs_here y x xs z in omega (arith, a)) (λ z. let a = occurs_past y x xs z in omega (arith, a, p)) (equal? y x))))
