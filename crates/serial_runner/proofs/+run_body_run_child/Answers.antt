use borrow.Enum.Refused.{opened}
use Rattle.serial_runner.proofs.Arms.{spawns, returns, inner, inner_some, eight_some}
use Rattle.serial_runner.proofs.Measures.{body_falls, child_falls, size_kept}
use Rattle.serial_runner.specs.Child.{child_too_deep, child_runs}
use Rattle.serial_runner.specs.Body.{position_small, goes_start, body_spent, body_full, body_returns, body_stops, goes_inner, child_less}
use Rattle.serial_runner.specs.Body.{goes_child}
use Rattle.std.proofs.Common.{sym, refl, ◌∙◌, arith, rules}
use Rattle.serial_runner.proofs.+run_body_run_child.Goals as goal

pub run_body-loop-left-init : goal.run_body-loop-left-init
run_body-loop-left-init t c = (refl, refl, omega arith, search rules, goes_start _ _ _ _ _ _ _ _ _)

pub run_body-run_child-child-requires : goal.run_body-run_child-child-requires
run_body-run_child-child-requires t c =
    let f = c.loop-left.invariant.4.fewer in
    let g = c.loop-left.invariant.4.tasks in (
      body_falls _ _ _ c.decreases f,
      (
        size_kept _ _ _ c.loop-left.invariant.0
            c.requires.0,
        c.requires.1,
        c.requires.2,
        c.loop-left-test.true,
        omega (arith, f, c.requires.3),
        omega (arith, g, c.requires.4),
      ),
    )

pub run_body-shape_of-w-in_default-end : goal.run_body-shape_of-w-in_default-end
run_body-shape_of-w-in_default-end t c =
    c.run_child-child.auto.w
    ∙ c.loop-left.invariant.0

pub run_body-shape_of-a-in_default-end : goal.run_body-shape_of-a-in_default-end
run_body-shape_of-a-in_default-end t c =
    c.run_child-child.auto.a
    ∙ c.loop-left.invariant.1

pub run_body-returns-in_default-end : goal.run_body-returns-in_default-end
run_body-returns-in_default-end t c =
    body_stops _ _ _ _ _ _ _ _ _ c.loop-left.invariant.4
    c.requires.3 _
    c.instruction_at-s.ensures
    c.loop-left-test.true _ _ _ _
    (spawns _ c.from.ensures c.in-Spawn.is)
    refl
    c.run_child-child.ensures (opened c.in_default-end.in_default-end-own.keys2)

pub run_body-overflow_add-i : goal.run_body-overflow_add-i
run_body-overflow_add-i t c =
    let z = position_small _ _ _ _ _ c.instruction_at-s.ensures
    (eight_some _ (spawns _ c.from.ensures c.in-Spawn.is))
    c.requires.1 in
    omega (arith, z)

pub run_body-loop-left-smaller-in-Spawn : goal.run_body-loop-left-smaller-in-Spawn
run_body-loop-left-smaller-in-Spawn t c =
    child_less _ _ _ _ _ _ _ _ _ c.loop-left.invariant.4
    c.requires.3 _
    c.instruction_at-s.ensures
    c.loop-left-test.true _ _ _ _
    (spawns _ c.from.ensures c.in-Spawn.is)
    refl
    c.run_child-child.ensures c.in-Ended.in-Ended-own.keys1

pub run_body-loop-left-preserved-in-Spawn : goal.run_body-loop-left-preserved-in-Spawn
run_body-loop-left-preserved-in-Spawn t c =
    let z = position_small _ _ _ _ _ c.instruction_at-s.ensures
    (eight_some _ (spawns _ c.from.ensures c.in-Spawn.is))
    c.requires.1 in (
      c.run_child-child.auto.w
          ∙ c.loop-left.invariant.0,
      c.run_child-child.auto.a
          ∙ c.loop-left.invariant.1,
      omega (arith, z),
      c.loop-left.invariant.3,
      goes_child _ _ _ _ _ _ _ _ _ c.loop-left.invariant.4
          c.requires.3 _
          c.instruction_at-s.ensures
          c.loop-left-test.true _ _ _ _
          (spawns _ c.from.ensures c.in-Spawn.is)
          refl
          c.run_child-child.ensures c.in-Ended.in-Ended-own.keys1,
    )

pub run_body-shape_of-w-then-is_full : goal.run_body-shape_of-w-then-is_full
run_body-shape_of-w-then-is_full t c = c.loop-left.invariant.0

pub run_body-shape_of-a-then-is_full : goal.run_body-shape_of-a-then-is_full
run_body-shape_of-a-then-is_full t c = c.loop-left.invariant.1

pub run_body-returns-then-is_full : goal.run_body-returns-then-is_full
run_body-returns-then-is_full t c =
    rw c.number.ensures
    (body_full _ _ _ _ _ _ _ _ _ c.loop-left.invariant.4
    c.requires.3 _
    c.instruction_at-s.ensures
    c.loop-left-test.true (inner _ c.from.ensures c.in_default.not-Spawn c.in_default.not-Return).inside
    (sym c.is_full.ensures ∙ c.if-is_full.true))

pub run_body-step-m-requires : goal.run_body-step-m-requires
run_body-step-m-requires t c =
    let h = inner _ c.from.ensures c.in_default.not-Spawn c.in_default.not-Return in (
      size_kept _ _ _ c.loop-left.invariant.0
          c.requires.0,
      h,
      sym c.is_full.ensures ∙ c.if-is_full.false,
      position_small _ _ _ _ _ c.instruction_at-s.ensures (inner_some _ h)
          c.requires.1,
    )

pub run_body-loop-left-smaller : goal.run_body-loop-left-smaller
run_body-loop-left-smaller t c = omega (
  arith,
  c.loop-left-test.true,
)

pub run_body-loop-left-preserved : goal.run_body-loop-left-preserved
run_body-loop-left-preserved t c = (
  c.step-m.auto.w ∙
      c.loop-left.invariant.0,
  c.write_answer-in_default.auto.a ∙
      c.loop-left.invariant.1,
  search rules,
  search rules,
  goes_inner _ _ _ _ _ _ _ _ _
      c.loop-left.invariant.4
      c.requires.3 _
      c.instruction_at-s.ensures
      c.loop-left-test.true _ _
      (inner _ c.from.ensures c.in_default.not-Spawn c.in_default.not-Return) (sym
      c.is_full.ensures ∙
      c.if-is_full.false) c.step-m.ensures
      c.write_answer-in_default.ensures,
)

pub run_body-shape_of-w-in-Return : goal.run_body-shape_of-w-in-Return
run_body-shape_of-w-in-Return t c = c.loop-left.invariant.0

pub run_body-shape_of-a-in-Return : goal.run_body-shape_of-a-in-Return
run_body-shape_of-a-in-Return t c = c.write_answer.auto.a ∙ c.loop-left.invariant.1

pub run_body-returns-in-Return : goal.run_body-returns-in-Return
run_body-returns-in-Return t c =
    body_returns _ _ _ _ _ _ _ _ _ c.loop-left.invariant.4
    c.requires.3 _
    c.instruction_at-s.ensures
    c.loop-left-test.true
    (returns _ c.from.ensures c.in-Return.is) c.write_answer.ensures

pub run_body-shape_of-w : goal.run_body-shape_of-w
run_body-shape_of-w t c = c.loop-left.invariant.0

pub run_body-shape_of-a : goal.run_body-shape_of-a
run_body-shape_of-a t c = c.loop-left.invariant.1

pub run_body-returns : goal.run_body-returns
run_body-returns t c = body_spent _ _ _ _ _ _ _ _ _ c.loop-left.invariant.4 c.requires.3 c.loop-left-test.false

pub run_child-returns-then-depth-ge-DEPTH : goal.run_child-returns-then-depth-ge-DEPTH
run_child-returns-then-depth-ge-DEPTH t c =
    rw c.number.ensures (child_too_deep _ _ _ _ _ _ _ _ _ c.requires.3 c.requires.4 c.if-depth-ge-DEPTH.true)

pub run_child-overflow_sub-left : goal.run_child-overflow_sub-left
run_child-overflow_sub-left t c = c.requires.4

pub run_child-overflow_add-depth : goal.run_child-overflow_add-depth
run_child-overflow_add-depth t c = omega (arith, c.if-depth-ge-DEPTH.false)

pub run_child-overflow_sub-left-2 : goal.run_child-overflow_sub-left-2
run_child-overflow_sub-left-2 t c = c.requires.3

pub run_child-overflow_add-made : goal.run_child-overflow_add-made
run_child-overflow_add-made t c = omega (arith, c.requires.5)

pub run_child-run_body-requires : goal.run_child-run_body-requires
run_child-run_body-requires t c = (
  child_falls _ _ c.decreases
      c.requires.3,
  (
    c.requires.0,
    c.requires.1,
    omega (arith, c.if-depth-ge-DEPTH.false),
    omega (arith, c.requires.4),
    omega (
      arith,
      c.requires.3,
      c.requires.5,
    ),
  ),
)

pub run_child-shape_of-w : goal.run_child-shape_of-w
run_child-shape_of-w t c = c.run_body.auto.w

pub run_child-shape_of-a : goal.run_child-shape_of-a
run_child-shape_of-a t c =
    c.run_body.auto.a
    ∙ c.write_answer.auto.a

pub run_child-returns : goal.run_child-returns
run_child-returns t c =
    child_runs _ _ _ _ _ _ _ _ _
    c.requires.3
    c.requires.4 _ _ _
    c.if-depth-ge-DEPTH.false
    c.write_answer.ensures c.run_body.ensures
