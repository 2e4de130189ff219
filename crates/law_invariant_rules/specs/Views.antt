-- Of memory that represents program order: a task has no view of a queue to which it has no right, and no queue head is
-- non-local.
use Rattle.std.specs.Prelude.{◌≡◌, true, false, List, ℕ, ◌+◌, ◌<◌}
use Rattle.std.proofs.Common.{ap, sym, ◌∙◌, ⊎_elim, arith}
use Rattle.std.proofs.lemmas.Bool.{false≢true}
use Rattle.spec_lists.specs.Counting.{equal?}
use Rattle.spec_lists.specs.Tests.{each}
use Rattle.spec_layout.specs.Layout.{NONE, NL, QUEUE_HEADS, HEADS, TAILS, CHILDREN, USER, RIGHT}
use Rattle.spec_tree.specs.Rights.{uses}
use Rattle.spec_tree.specs.Tour.{entered}
use Rattle.spec_rules.specs.Contents.{Contents, decode, word, task_rights}
use Rattle.spec_rules.specs.Rules.{Unfinished}
use Rattle.spec_rules.specs.Test.{views_test}
use Rattle.law_rules_views.specs.Tested.{says_words}
use Rattle.law_view_events.specs.Tasks.{MayKind, MayQueues}
use Rattle.law_view_events.specs.Toured.{kinds_words}
use Rattle.spec_order.specs.Steps.{Item}
use Rattle.law_links.specs.Marks.{mark_once}
use Rattle.law_gaps.specs.Line.{vacant}
use Rattle.law_links.specs.Linked.{holder_unfinished}
use Rattle.law_invariant.specs.Represents.{Represents}
use Rattle.law_invariant_rules.specs.Tasks.{whole, children_words, user_words, right_words, uses_word}
use Rattle.law_invariant_rules.specs.Heads.{holder, holder_uses, holder_head, other_head, first_opened}

module _ (m : List ℕ) (xs : List Item) (r : Represents m xs) where
  abbrev c : Contents
  c = decode m

  -- one task
  module _ (t : ℕ) (u : Unfinished c t) where
    -- without a right its views are vacant
    module _ (q : ℕ) (small : q < 4) (n : uses (task_rights c t) q ≡ false) where
      pub children_none : (word c t (HEADS + q) ≡ NONE) × (word c t (TAILS + q) ≡ NONE)
      children_none = children_words m xs r q small t u vacant ((r.queue q small).bare t (uses_word m xs r q small t u ∙ n)).0

      pub user_none : (word c t (24 + q) ≡ NONE) × (word c t (36 + q) ≡ NONE)
      user_none = user_words m xs r q small t u vacant ((r.queue q small).bare t (uses_word m xs r q small t u ∙ n)).1

      pub right_none : (word c t (28 + q) ≡ NONE) × (word c t (40 + q) ≡ NONE)
      right_none = right_words m xs r q small t u vacant ((r.queue q small).bare t (uses_word m xs r q small t u ∙ n)).2

      head_none : word c t (QUEUE_HEADS + q) ≡ NONE
      head_none =
          other_head m xs r q small t u
          (λ e. false≢true (sym n ∙ ap (λ (k : ℕ). uses (task_rights c k) q) e ∙ holder_uses m xs r q small))

    -- a queue head is a segment or none
    head_local : (q : ℕ) → q < 4 → word c t (QUEUE_HEADS + q) ≡ NL → ⊥
    head_local q small e =
        ⊎_elim
        (λ z.
        let a = ap (λ (k : ℕ). word c k (QUEUE_HEADS + q)) z ∙ holder_head m xs r q small in
        let b = first_opened m xs r q small in
        let d = r.sized.number_range.1 in
        omega (arith, a, b, d, e))
        (λ z. let a = other_head m xs r q small t u z in omega (arith, a, e))
        (equal? t (holder m xs r q small))

    queues_may : MayQueues c t
    queues_may = record { none = head_none; local = head_local }

    children_may : MayKind c t CHILDREN
    children_may = record { heads = λ q l n. (children_none q l n).0; tails = λ q l n. (children_none q l n).1 }

    user_may : MayKind c t USER
    user_may = record { heads = λ q l n. (user_none q l n).0; tails = λ q l n. (user_none q l n).1 }

    right_may : MayKind c t RIGHT
    right_may = record { heads = λ q l n. (right_none q l n).0; tails = λ q l n. (right_none q l n).1 }

  -- VIEW WORDS of all tasks of the tour
  pub words_right : each (views_test c) (entered r.tour) ≡ true
  words_right =
      says_words c r.tour (whole m xs r) (λ t i h l.
      let u = holder_unfinished m r.tour xs r.linked t h in
      kinds_words c r.tour (whole m xs r) (mark_once m r.tour xs r.linked) t (queues_may t u) (children_may t u) (user_may t u) (right_may t u) i l)
