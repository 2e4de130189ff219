-- Of memory that represents program order: of each queue one task has the queue view, and its head is the first segment
-- of the queue's first chain.
use Rattle.std.specs.Prelude.{◌≡◌, refl, true, List, ◌∷◌, ℕ, ◌+◌, ◌*◌, ◌<◌, length}
use Rattle.std.proofs.Common.{ap, sym, ◌∙◌, subst, inr, arith}
use Rattle.std.proofs.Math.Option.{none, some, some-injective}
use Rattle.std.proofs.Math.Dec.{eqb}
use borrow.Author.Tests.{eq-eqb, ne_eqb}
use Rattle.spec_words.specs.Words.{pick, pass, halt}
use Rattle.spec_lists.specs.Counting.{occurrences, occurs_here}
use Rattle.spec_lists.specs.Sums.{over_at}
use Rattle.spec_layout.specs.Layout.{NONE, RIGHTS, QUEUE_HEADS, Opened}
use Rattle.spec_tree.specs.Rights.{uses}
use Rattle.spec_tree.specs.Tour.{entered}
use Rattle.spec_tree.specs.Queues.{queue_each}
use Rattle.spec_rules.specs.Contents.{Contents, decode, word, owners, task_rights}
use Rattle.spec_rules.specs.Rules.{Unfinished}
use Rattle.spec_rules.specs.Test.{owners_test}
use Rattle.law_rules_tasks.specs.Holders.{holder_once as task-once}
use Rattle.law_rules_views.specs.Toured.{over_owners}
use Rattle.spec_order.specs.Steps.{Item, number_of}
use Rattle.law_order_waits.specs.Poppers.{popper_says}
use Rattle.spec_lists.specs.Maps.{put, put_same, put_other}
use Rattle.law_gaps.specs.Line.{first_chain}
use Rattle.law_gaps.specs.Store.{head_of}
use Rattle.law_gaps.proofs.Names.{first_chain_lem, count_parts}
use Rattle.law_links.specs.Linked.{word_is, spot_unfinished}
use Rattle.law_maps.specs.Meaning.{optional}
use Rattle.law_maps.specs.Free.{none_word, some_word, optional_some}
use Rattle.law_invariant.specs.Represents.{Represents, Queue}
use Rattle.spec_tree.specs.Users.{pops_uses}
use Rattle.law_invariant_rules.specs.Tasks.{whole, entered_busy, head_word}
use Rattle.law_invariant_rules.specs.Segments.{held_opened}

module _ (m : List ℕ) (xs : List Item) (r : Represents m xs) where
  abbrev c : Contents
  c = decode m

  module _ (q : ℕ) (small : q < 4) where
    abbrev Q : Queue m r.tour xs q (r.line q)
    Q = r.queue q small

    -- the task that has the queue view
    abbrev pub holder : ℕ
    holder = Q.holder

    pub holder_busy : Unfinished c holder
    holder_busy =
        let p = popper_says q xs holder Q.first in
        subst (λ (t : ℕ). Unfinished c t) p.2 (spot_unfinished m r.tour xs r.linked p.0 p.1)

    -- it has a right to the queue
    pub holder_uses : uses (task_rights c holder) q ≡ true
    holder_uses =
        let p = popper_says q xs holder Q.first in
        ap (λ (k : ℕ). uses k q) (ap (λ (t : ℕ). task_rights c t) (sym p.2) ∙ word_is m (number_of p.0) RIGHTS ∙ r.linked.rights p.0 p.1)
        ∙ pops_uses _ q p.3

    -- the first segment of the first chain
    pub first_segment : ℕ
    first_segment = (first_chain_lem Q.laid.views).0

    pub first_is : (d : List ℕ) × (first_chain (r.line q) ≡ first_segment ∷ d)
    unfolding first_segment
    first_is = let w = first_chain_lem Q.laid.views in (w.1, w.2)

    pub first_opened : Opened m first_segment
    first_opened =
        held_opened m xs r q first_segment small
        (let w = first_is in
        let a = count_parts first_segment Q.laid.views in
        let b = ap (occurrences first_segment) w.1 in
        let d = occurs_here first_segment first_segment w.0 refl in
        omega (arith, a, b, d))

    -- QUEUE HEADS: the holder's is the first segment, no other task has one
    named : (t : ℕ) → Unfinished c t → optional (word c t (QUEUE_HEADS + q)) ≡ put (λ y. none) holder (head_of (first_chain (r.line q))) t
    named t u = sym (head_word m xs r q small t u) ∙ Q.laid.held.head t

    pub holder_head : word c holder (QUEUE_HEADS + q) ≡ first_segment
    holder_head = some-injective _ _ (sym (optional_some _ (some_word _ first_segment there)) ∙ there)
      where
        there : optional (word c holder (QUEUE_HEADS + q)) ≡ some first_segment
        there = named holder holder_busy ∙ put_same (λ y. none) holder (head_of (first_chain (r.line q))) ∙ ap head_of first_is.1

    pub other_head : (t : ℕ) → Unfinished c t → (t ≡ holder → ⊥) → word c t (QUEUE_HEADS + q) ≡ NONE
    other_head t u n = none_word _ (named t u ∙ put_other (λ y. none) holder (head_of (first_chain (r.line q))) t n)

    -- the tour meets the holder once
    pub holder_once : occurrences holder (entered r.tour) ≡ 1
    holder_once = (whole m xs r).same holder ∙ task-once c holder (inr holder_busy)

    one_owner : length (owners c q (entered r.tour)) ≡ 1
    one_owner =
        over_owners c q (entered r.tour)
        ∙ over_at (entered r.tour) (λ t. pick (eqb (word c t (QUEUE_HEADS + q)) NONE) 0 1) holder
        (λ t p n. halt _ _ (eq-eqb _ _ (other_head t (entered_busy m xs r t p) n)))
        ∙ ap (λ (k : ℕ). k * pick (eqb (word c holder (QUEUE_HEADS + q)) NONE) 0 1) holder_once
        ∙ ap (λ (k : ℕ). 1 * k) (pass 0 (ne_eqb _ _ some) refl)
      where
        some : word c holder (QUEUE_HEADS + q) ≡ NONE → ⊥
        some e = let a = holder_head in let b = first_opened in let d = r.sized.number_range.1 in omega (arith, a, b, d, e)

  -- ONE QUEUE VIEW WITH A HEAD for each queue
  pub owners_right : owners_test c (entered r.tour) ≡ true
  unfolding owners_test
  owners_right = queue_each (λ q. eqb (length (owners c q (entered r.tour))) 1) (λ q l. eq-eqb _ _ (one_owner q l))
