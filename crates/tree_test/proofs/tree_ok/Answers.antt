use Rattle.std.proofs.Common.{◌∙◌, arith}
use Rattle.tree_test.specs.Led.{same_here, same_on, walk_none, walk_fails, walk_ends}
use Rattle.spec_rules.specs.Contents.{decode}
use Rattle.tree_test.proofs.tree_ok.Goals as goal

pub loop-i-init : goal.loop-i-init
loop-i-init c = (omega arith, c.requires.1, same_here (decode c.args.m.now) c.args.k _ _ _)

pub onward-requires : goal.onward-requires
onward-requires c = (c.requires.0, c.loop-i.invariant.1, c.requires.2, c.loop-i.invariant.0, c.loop-i-test.true)

pub returns-in_default : goal.returns-in_default
returns-in_default c =
    walk_fails (decode c.args.m.now) c.args.k _ (c.onward.ensures.wrong c.in_default.is ∙ c.loop-i.invariant.2.test)

pub returns-then-i-n : goal.returns-then-i-n
returns-then-i-n c =
    let on = c.onward.ensures.on _ c.in-Some.is in
    walk_fails (decode c.args.m.now) c.args.k _
    (walk_none (decode c.args.m.now) c.args.k _ _ c.if-i-n.true
    ∙ (same_on (decode c.args.m.now) c.args.k c.loop-i.invariant.2 on.2).test)

pub returns-then-x-eq-TASKS : goal.returns-then-x-eq-TASKS
returns-then-x-eq-TASKS c =
    let on = c.onward.ensures.on _ c.in-Some.is in
    let l = c.onward.auto.xs ∙ c.loop-i.invariant.1 in
    walk_ends (decode c.args.m.now) c.args.k _ _ _ _ c.if-i-n.false (omega (arith, l, c.requires.2, c.if-i-n.false)) c.if-x-eq-TASKS.true
    (same_on (decode c.args.m.now) c.args.k c.loop-i.invariant.2 on.2)

pub loop-i-smaller : goal.loop-i-smaller
loop-i-smaller c = let on = c.onward.ensures.on _ c.in-Some.is in omega (arith, on.1, c.loop-i-test.true)

pub loop-i-preserved : goal.loop-i-preserved
loop-i-preserved c =
    let on = c.onward.ensures.on _ c.in-Some.is in (
      let n = c.if-x-eq-TASKS.false in omega (arith, n, on.0),
      c.onward.auto.xs ∙ c.loop-i.invariant.1,
      same_on (decode c.args.m.now) c.args.k c.loop-i.invariant.2 on.2,
    )

pub returns : goal.returns
returns c =
    walk_fails (decode c.args.m.now) c.args.k _
    (walk_none (decode c.args.m.now) c.args.k c.loop-i.i c.loop-i.x c.loop-i-test.false ∙ c.loop-i.invariant.2.test)
