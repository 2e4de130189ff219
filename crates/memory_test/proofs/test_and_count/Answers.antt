-- Each test that fails makes the whole fail (`Stages`); where all pass, the count is the one that was made first.
use Prim.Native.Nat.{◌-◌, ◌*◌}
use Rattle.memory_test.specs.Stages.{so, wrong, stack_wrong, tree_wrong, held_few, started, ready, begun, views_wrong, all_right, marks_number}
use Rattle.memory_test.specs.Stages.{in_range_at, from_zero}
use Rattle.segment_test.specs.Count.{held_says, wrong_says}
use borrow.Author.Tests.{not-false}
use native.Mathlib.Omega.{arith}
use mathlib.Core.Path.{refl, ◌∙◌, ap}
use lib.ListN.{set, replicate}
use Rattle.spec_view_events.specs.Run.{PLACED}
use Rattle.std.proofs.Common.{not}
use Rattle.std.proofs.Common.{rules}
use Rattle.memory_test.proofs.test_and_count.Goals as goal

pub returns-then-not-in_range : goal.returns-then-not-in_range
returns-then-not-in_range c = wrong _ (λ p. p.range) (in_range_at _ c.in_range.ensures c.length_of.ensures
    c.number.ensures) (ap not c.if-not-in_range.true)

pub count_held-requires : goal.count_held-requires
count_held-requires c = (
  ready _ (so (in_range_at _ c.in_range.ensures c.length_of.ensures
      c.number.ensures) (ap not c.if-not-in_range.false)) c.requires,
  refl,
)

pub returns-in_err-held : goal.returns-in_err-held
returns-in_err-held c = stack_wrong _ (search rules) (wrong_says _ c.in_err-held.was c.count_held.ensures.0)

pub overflow_sub-w : goal.overflow_sub-w
overflow_sub-w c = held_few _ c.number-2.ensures (held_says _ c.in_ok-held.was c.count_held.ensures.0).2

pub returns-then-not-top_ok : goal.returns-then-not-top_ok
returns-then-not-top_ok c = wrong _ (λ p. p.top) c.top_ok.ensures (ap not c.if-not-top_ok.true)

pub returns-then-not-idle_ok : goal.returns-then-not-idle_ok
returns-then-not-idle_ok c = wrong _ (λ p. p.free) c.idle_ok.ensures (ap not c.if-not-idle_ok.true)

pub overflow_mul-k : goal.overflow_mul-k
overflow_mul-k c =
    let a = (marks_number _ c.requires (so c.idle_ok.ensures (ap not c.if-not-idle_ok.false)) c.free_tasks.ensures).0 in
    omega (arith, a)

pub overflow_sub-k : goal.overflow_sub-k
overflow_sub-k c =
    let a = (marks_number _ c.requires (so c.idle_ok.ensures (ap not c.if-not-idle_ok.false)) c.free_tasks.ensures).0 in
    omega (arith, a)

pub returns-then-not-tree_ok : goal.returns-then-not-tree_ok
returns-then-not-tree_ok c = tree_wrong _ (marks_number _ c.requires (so c.idle_ok.ensures
    (ap not c.if-not-idle_ok.false)) c.free_tasks.ensures).1
    c.tree_ok.ensures.0 (ap not c.if-not-tree_ok.true)

pub views_hold-requires : goal.views_hold-requires
views_hold-requires c = (
  begun _ (so (in_range_at _ c.in_range.ensures c.length_of.ensures
      c.number.ensures) (ap not c.if-not-in_range.false)) c.requires
      (held_says _ c.in_ok-held.was c.count_held.ensures.0).0 (so c.top_ok.ensures (ap not c.if-not-top_ok.false)) (so
      c.idle_ok.ensures
      (ap not c.if-not-idle_ok.false))
      (marks_number _ c.requires (so c.idle_ok.ensures (ap not c.if-not-idle_ok.false))
      c.free_tasks.ensures).1
      (so c.tree_ok.ensures.0 (ap not c.if-not-tree_ok.false))
      (from_zero (256 - 2 * c.free_tasks.result)
      c.tree_ok.new.xs ∙ c.tree_ok.ensures.1
      (not-false _ (ap not c.if-not-tree_ok.false))),
  c.count_held.ensures.1 (held_says _ c.in_ok-held.was c.count_held.ensures.0).0,
  ap (set (replicate 12 0) PLACED) (started _ c.number-2.ensures (held_says _ c.in_ok-held.was c.count_held.ensures.0).1),
)

pub returns-then-not-views_hold : goal.returns-then-not-views_hold
returns-then-not-views_hold c =
    views_wrong _ (so (in_range_at _ c.in_range.ensures c.length_of.ensures c.number.ensures) (ap not c.if-not-in_range.false))
    c.requires
    (held_says _ c.in_ok-held.was c.count_held.ensures.0).0 (so c.top_ok.ensures (ap not c.if-not-top_ok.false)) (so c.idle_ok.ensures (ap not c.if-not-idle_ok.false))
    (marks_number _ c.requires (so c.idle_ok.ensures (ap not c.if-not-idle_ok.false)) c.free_tasks.ensures).1
    (so c.tree_ok.ensures.0 (ap not c.if-not-tree_ok.false))
    (from_zero (256 - 2 * c.free_tasks.result)
    c.tree_ok.new.xs ∙ c.tree_ok.ensures.1 (not-false _ (ap not c.if-not-tree_ok.false)))
    c.views_hold.ensures (ap not c.if-not-views_hold.true)

pub returns : goal.returns
returns c =
    all_right _ (so (in_range_at _ c.in_range.ensures c.length_of.ensures c.number.ensures) (ap not c.if-not-in_range.false))
    c.requires
    (held_says _ c.in_ok-held.was c.count_held.ensures.0).0 (so c.top_ok.ensures (ap not c.if-not-top_ok.false)) (so c.idle_ok.ensures (ap not c.if-not-idle_ok.false))
    (marks_number _ c.requires (so c.idle_ok.ensures (ap not c.if-not-idle_ok.false)) c.free_tasks.ensures).1
    (so c.tree_ok.ensures.0 (ap not c.if-not-tree_ok.false))
    (from_zero (256 - 2 * c.free_tasks.result)
    c.tree_ok.new.xs ∙ c.tree_ok.ensures.1 (not-false _ (ap not c.if-not-tree_ok.false)))
    c.views_hold.ensures (ap not c.if-not-views_hold.false) (held_says _ c.in_ok-held.was c.count_held.ensures.0).1
