-- What each rule sees of the views of one task.
use Rattle.std.specs.Prelude.{◌≡◌, Bool, true, List, ℕ, ◌+◌, ◌*◌, ◌<◌, eqb}
use Rattle.std.proofs.Math.Path.{refl}
use Rattle.std.proofs.Common.{ap, sym, ◌∙◌, ⊎_elim}
use Rattle.std.proofs.Math.Bool.{false, not}
use native.Mathlib.Omega.{arith}
use borrow.Author.Tests.{eq-eqb, ne_eqb, eqb-true, eqb-false, not-true}
use Rattle.spec_words.specs.Words.{pick, either, both_true, true_both, either_true, true_left, true_right}
use Rattle.spec_layout.specs.Layout.{NONE, NL, QUEUE_HEADS, HEADS, TAILS}
use Rattle.spec_tree.specs.Rights.{uses}
use Rattle.spec_tree.specs.Queues.{by_four}
use Rattle.spec_rules.specs.Contents.{Contents, word, task_rights}
use Rattle.spec_rules.specs.Test.{passed_at}
use Rattle.law_rules_views.specs.Marks.{yes_no}
use Rattle.spec_view_events.specs.Events.{Event, queue_at, view_at, queues_at, kind_at}
use Rattle.law_view_events.specs.Good.{Queued, allowed, order_from, owners_of}

-- one of four
-- a word stands only where the task has a right
may_says : (u : Bool) (x : ℕ) → either (eqb x NONE) u ≡ true → u ≡ false → x ≡ NONE
may_says u x e z = ⊎_elim (λ a. eqb-true _ _ a) (λ a. let y : true ≡ false = sym a ∙ z in absurd (no y)) (either_true _ _ e)
  where
    no : true ≡ false → ⊥
    no y = let k : ◌≡◌ {A = ℕ} 0 1 = cc in omega arith

says_may : (u : Bool) (x : ℕ) → (u ≡ false → x ≡ NONE) → either (eqb x NONE) u ≡ true
says_may u x f = ⊎_elim (λ e. true_right _ e) (λ e. true_left u (eq-eqb _ _ (f e))) (yes_no u)

module _ (c : Contents) (t : ℕ) where
  abbrev r : ℕ
  r = task_rights c t

  -- the words of the four views of kind k, and of the queue views
  pub record MayKind (k : ℕ) : Type 0 where
    pub heads : (q : ℕ) → q < 4 → uses r q ≡ false → word c t (HEADS + k * 4 + q) ≡ NONE
    pub tails : (q : ℕ) → q < 4 → uses r q ≡ false → word c t (TAILS + k * 4 + q) ≡ NONE

  pub record MayQueues : Type 0 where
    pub none : (q : ℕ) → q < 4 → uses r q ≡ false → word c t (QUEUE_HEADS + q) ≡ NONE
    pub local : (q : ℕ) → q < 4 → word c t (QUEUE_HEADS + q) ≡ NL → ⊥

  module _ (es : List Event) where
    view_allowed : (k q : ℕ) → allowed (view_at c t k q es) ≡ true
        → ((uses r q ≡ false → word c t (HEADS + k * 4 + q) ≡ NONE) × (uses r q ≡ false → word c t (TAILS + k * 4 + q) ≡ NONE)) × (allowed es ≡ true)
    unfolding view_at allowed
    view_allowed k q e =
        let a = both_true _ _ e in
        let b = both_true _ _ a.1 in
        ((may_says _ _ a.0, may_says _ _ b.0), b.1)

    allowed_view : (k q : ℕ) → (uses r q ≡ false → word c t (HEADS + k * 4 + q) ≡ NONE) → (uses r q ≡ false → word c t (TAILS + k * 4 + q) ≡ NONE)
        → allowed es ≡ true → allowed (view_at c t k q es) ≡ true
    unfolding view_at allowed
    allowed_view k q a b e = true_both (says_may _ _ a) (true_both (says_may _ _ b) e)

    queue_allowed : (q : ℕ) → allowed (queue_at c t q es) ≡ true
        → ((uses r q ≡ false → word c t (QUEUE_HEADS + q) ≡ NONE) × (word c t (QUEUE_HEADS + q) ≡ NL → ⊥)) × (allowed es ≡ true)
    unfolding queue_at allowed
    queue_allowed q e =
        let a = both_true _ _ e in
        let b = both_true _ _ a.1 in
        ((may_says _ _ a.0, eqb-false _ _ (not-true _ b.0)), b.1)

    allowed_queue : (q : ℕ) → (uses r q ≡ false → word c t (QUEUE_HEADS + q) ≡ NONE) → (word c t (QUEUE_HEADS + q) ≡ NL → ⊥) → allowed es ≡ true
        → allowed (queue_at c t q es) ≡ true
    unfolding queue_at allowed
    allowed_queue q a b e = true_both (says_may _ _ a) (true_both (ap not (ne_eqb _ _ b)) e)

  pub kind_allowed : (es : List Event) (k : ℕ) → allowed (kind_at c t k es) ≡ true → MayKind k × (allowed es ≡ true)
  unfolding kind_at
  kind_allowed es k e =
      let v0 = view_allowed _ k 0 e in
      let v1 = view_allowed _ k 1 v0.1 in
      let v2 = view_allowed _ k 2 v1.1 in
      let v3 = view_allowed _ k 3 v2.1 in (
        record {
          heads = by_four (λ q. uses r q ≡ false → word c t (HEADS + k * 4 + q) ≡ NONE) v0.0.0 v1.0.0 v2.0.0 v3.0.0;
          tails = by_four (λ q. uses r q ≡ false → word c t (TAILS + k * 4 + q) ≡ NONE) v0.0.1 v1.0.1 v2.0.1 v3.0.1;
        },
        v3.1,
      )

  pub allowed_kind : (es : List Event) (k : ℕ) → MayKind k → allowed es ≡ true → allowed (kind_at c t k es) ≡ true
  unfolding kind_at
  allowed_kind es k m e =
      allowed_view _ k 0 (m.heads 0 (omega arith)) (m.tails 0 (omega arith))
      (allowed_view _ k 1 (m.heads 1 (omega arith)) (m.tails 1 (omega arith))
      (allowed_view _ k 2 (m.heads 2 (omega arith)) (m.tails 2 (omega arith))
      (allowed_view _ k 3 (m.heads 3 (omega arith)) (m.tails 3 (omega arith)) e)))

  pub queues_allowed : (es : List Event) → allowed (queues_at c t es) ≡ true → MayQueues × (allowed es ≡ true)
  unfolding queues_at
  queues_allowed es e =
      let v0 = queue_allowed _ 0 e in
      let v1 = queue_allowed _ 1 v0.1 in
      let v2 = queue_allowed _ 2 v1.1 in
      let v3 = queue_allowed _ 3 v2.1 in (
        record {
          none = by_four (λ q. uses r q ≡ false → word c t (QUEUE_HEADS + q) ≡ NONE) v0.0.0 v1.0.0 v2.0.0 v3.0.0;
          local = by_four (λ q. word c t (QUEUE_HEADS + q) ≡ NL → ⊥) v0.0.1 v1.0.1 v2.0.1 v3.0.1;
        },
        v3.1,
      )

  pub allowed_queues : (es : List Event) → MayQueues → allowed es ≡ true → allowed (queues_at c t es) ≡ true
  unfolding queues_at
  allowed_queues es m e =
      allowed_queue _ 0 (m.none 0 (omega arith)) (m.local 0 (omega arith))
      (allowed_queue _ 1 (m.none 1 (omega arith)) (m.local 1 (omega arith))
      (allowed_queue _ 2 (m.none 2 (omega arith)) (m.local 2 (omega arith))
      (allowed_queue _ 3 (m.none 3 (omega arith)) (m.local 3 (omega arith)) e)))

  -- the order of queue q in front of the views of kind k
  pub kind_order : (es : List Event) (k o q : ℕ) → q < 4 → order_from q (kind_at c t k es) o ≡ order_from q es (pick (uses r q) (passed_at c q t k o) o)
  unfolding kind_at view_at order_from passed_at pick
  kind_order es k o = by_four (λ q. order_from q (kind_at c t k es) o ≡ order_from q es (pick (uses r q) (passed_at c q t k o) o)) refl refl refl refl

  pub queues_order : (es : List Event) (o q : ℕ) → order_from q (queues_at c t es) o ≡ order_from q es o
  unfolding queues_at queue_at order_from
  queues_order es o q = refl

  -- queue views with a head
  pub kind_owners : (es : List Event) (k q : ℕ) → owners_of q (kind_at c t k es) ≡ owners_of q es
  unfolding kind_at view_at owners_of
  kind_owners es k q = refl

  pub kind_queued : (es : List Event) (k : ℕ) → Queued es → Queued (kind_at c t k es)
  unfolding kind_at view_at
  kind_queued es k q = (omega arith, (omega arith, (omega arith, (omega arith, q))))

  pub queues_queued : (es : List Event) → Queued es → Queued (queues_at c t es)
  unfolding queues_at queue_at
  queues_queued es q = (omega arith, (omega arith, (omega arith, (omega arith, q))))
