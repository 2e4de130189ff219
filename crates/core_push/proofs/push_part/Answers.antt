-- The tail segment takes what it has room for; where it is full, a new one takes the first value and what it has room for behind it.
use mathlib.Core.Path.{refl}
use native.Mathlib.Omega.{arith}
use Rattle.core_push.proofs.Parts.{storable, part_into, can_take, new_filled, new_tail, part_of_one, part_behind, part_small}
use Rattle.core_push.proofs.push_part.Goals as goal

pub store_run-requires : goal.store_run-requires
store_run-requires c =
    storable _ _ c.requires.1
    c.requires.2 _
    c.requires.0
    c.tail-e.ensures

pub returns-then-count-length_of : goal.returns-then-count-length_of
returns-then-count-length_of c =
    part_into _ _ c.requires.1
    c.requires.2 _ _
    c.requires.0
    c.tail-e.ensures
    c.count.ensures c.length_of.ensures
    c.if-count-length_of.true
    c.requires.3
    c.store_run.ensures

pub push_behind-s-requires : goal.push_behind-s-requires
push_behind-s-requires c =
    can_take _ _ c.requires.1
    c.requires.2 _
    c.requires.0
    c.tail-e.ensures c.count.ensures
    c.length_of.ensures c.if-count-length_of.false
    c.requires.3
    c.requires.4

pub returns-then-vs-eq1 : goal.returns-then-vs-eq1
returns-then-vs-eq1 c =
    part_of_one _ _ c.requires.1
    c.requires.2 _
    c.requires.0
    c.tail-e.ensures
    c.count.ensures
    c.length_of.ensures c.if-count-length_of.false
    c.requires.3
    c.requires.4
    c.push_behind-s.ensures
    c.args.vs.now refl
    c.if-vs-eq1.true refl

pub store_run-requires-2 : goal.store_run-requires-2
store_run-requires-2 c =
    let w = c.push_behind-s.ensures in storable _ _
    c.requires.1
    c.requires.2 _
    (new_filled _ _ c.requires.1 c.requires.2 _ c.requires.0 c.tail-e.ensures c.count.ensures c.length_of.ensures c.if-count-length_of.false c.requires.3 c.requires.4 w)
    (new_tail _ _ c.requires.1 c.requires.2 _ c.requires.0 c.tail-e.ensures c.count.ensures c.length_of.ensures c.if-count-length_of.false c.requires.3 c.requires.4 w)

pub overflow_add-result : goal.overflow_add-result
overflow_add-result c =
    let a = part_small _ _
    c.requires.1
    c.requires.2
    _
    c.requires.0
    c.tail-e.ensures
    c.count.ensures
    c.length_of.ensures
    c.if-count-length_of.false
    c.requires.3
    c.requires.4
    c.push_behind-s.ensures _ c.store_run-2.ensures.0 in omega
    (arith, a)

pub returns : goal.returns
returns c =
    part_behind _ _
    c.requires.1
    c.requires.2
    _
    c.requires.0
    c.tail-e.ensures
    c.count.ensures
    c.length_of.ensures
    c.if-count-length_of.false
    c.requires.3
    c.requires.4
    c.push_behind-s.ensures _ refl refl c.store_run-2.ensures
