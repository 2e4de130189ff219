use mathlib.Core.Path.{◌∙◌}
use native.Mathlib.Omega.{arith}
use borrow.Author.Tests.{lt-ltb}
use Rattle.core_push.proofs.RunsOut.{few_values, none_free, enough, too_few, by_link}
use Rattle.core_push.proofs.room.empty_runs_out.Goals as goal

pub returns-then-f-eq0 : goal.returns-then-f-eq0
returns-then-f-eq0 c = none_free _ _ _ _ c.requires.3 c.free_segments-f.ensures c.if-f-eq0.true c.requires.2

pub overflow_mul-most : goal.overflow_mul-most
overflow_mul-most c =
    let w = few_values _ _ _ c.next_free.result _ _ c.requires.0
    c.free_segments-f.ensures c.length_of-l.ensures in let a = w.0 in omega (arith, a)

pub returns-then-n-most : goal.returns-then-n-most
returns-then-n-most c =
    enough _ _ _ _ c.requires.3 c.free_segments-f.ensures
    c.if-f-eq0.false c.next_free.ensures c.length_of-l.ensures c.if-n-most.true

pub overflow_add-longest : goal.overflow_add-longest
overflow_add-longest c =
    let w = few_values _ _ _ c.next_free.result _ _ c.requires.0
    c.free_segments-f.ensures c.length_of-l.ensures in let a = w.0 in let b = w.1 in omega (arith, a, b)

pub returns-then-longest-n : goal.returns-then-longest-n
returns-then-longest-n c =
    lt-ltb _ _ c.if-longest-n.true
    ∙ too_few _ _ _ _ c.requires.3 c.free_segments-f.ensures
    c.if-f-eq0.false c.next_free.ensures c.length_of-l.ensures c.if-longest-n.true

pub returns-else-longest-n : goal.returns-else-longest-n
returns-else-longest-n c =
    by_link _ _ _ _ c.requires.3
    c.free_segments-f.ensures c.if-f-eq0.false
    c.next_free.ensures c.length_of-l.ensures c.if-n-most.false
    c.if-longest-n.false c.link_frees.ensures
