use Rattle.spec_view_events.specs.Placing.{place_start}
use Rattle.spec_view_events.specs.Placing.{place_far, place_again, place_last, place_empty, place_more, place_out}
use Rattle.std.proofs.Common.{sym, ◌∙◌, arith, rules}
use Rattle.view_steps.proofs.place.Goals as goal

pub loop-k-init : goal.loop-k-init
loop-k-init c = (search rules, place_start _ _ _)

pub returns-then-s-n : goal.returns-then-s-n
returns-then-s-n c = place_far _ _ _ _ _ c.loop-k-test.true c.if-s-n.true ∙ c.loop-k.invariant.1

pub returns-then-d-s-ne0 : goal.returns-then-d-s-ne0
returns-then-d-s-ne0 c =
    place_again _ _ _ _ _ c.loop-k-test.true c.if-s-n.false c.if-d-s-ne0.true
    ∙ c.loop-k.invariant.1

pub next-behind-requires : goal.next-behind-requires
next-behind-requires c = (search rules, omega arith)

pub returns-then-behind : goal.returns-then-behind
returns-then-behind c =
    place_last _ _ _ _ _ c.loop-k-test.true c.if-s-n.false
    c.if-d-s-ne0.false c.next-behind.ensures c.if-behind.true ∙ c.loop-k.invariant.1

pub count-requires : goal.count-requires
count-requires c = (search rules, omega arith)

pub returns-then-count-eq0 : goal.returns-then-count-eq0
returns-then-count-eq0 c =
    place_empty _ _ _ _ _ c.loop-k-test.true
    c.if-s-n.false c.if-d-s-ne0.false c.next-behind.ensures _
    c.if-behind.false (sym c.count.ensures ∙ c.if-count-eq0.true)
    ∙ c.loop-k.invariant.1

pub loop-k-preserved : goal.loop-k-preserved
loop-k-preserved c = (
  search rules,
  place_more _ _ _ _ _ c.loop-k-test.true
      c.if-s-n.false c.if-d-s-ne0.false c.next-behind.ensures
      c.if-behind.false (λ e. c.if-count-eq0.false (c.count.ensures ∙ e))
      ∙ c.loop-k.invariant.1,
)

pub returns : goal.returns
returns c = place_out _ _ _ _ _ c.loop-k-test.false ∙ c.loop-k.invariant.1
