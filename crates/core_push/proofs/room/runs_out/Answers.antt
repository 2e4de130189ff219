use mathlib.Core.Path.{sym, ◌∙◌, refl}
use native.Mathlib.Omega.{arith}
use Rattle.core_push.proofs.RunsOut.{few_values, tail_count, empty_same, ends_away_lem, by_tail}
use Rattle.core_push.proofs.Ends.{user_head, user_tail}
use Rattle.core_push.proofs.room.runs_out.Goals as goal

pub empty_runs_out-requires : goal.empty_runs_out-requires
empty_runs_out-requires c = (
  c.requires.0,
  c.requires.1,
  c.requires.2,
  sym (empty_same _ _ _ 0 (user_tail _ _ _ _ c.of-user.ensures) (user_head _ _ _ _ c.of-user.ensures) c.is_empty.ensures) ∙ c.if-is_empty.true,
)

pub returns-then-e-ge-NL : goal.returns-then-e-ge-NL
returns-then-e-ge-NL c =
    ends_away_lem _ _ _ _ (user_tail _ _ _ _ c.of-user.ensures) (user_head _ _ _ _ c.of-user.ensures) c.is_empty.ensures
    c.if-is_empty.false c.if-e-ge-NL.true

pub overflow_sub-room : goal.overflow_sub-room
overflow_sub-room c =
    tail_count _ _ _ c.requires.0
    (user_tail _ _ _ _ c.of-user.ensures) c.if-e-ge-NL.false c.length_of-l.ensures c.count.ensures

pub overflow_mul-most : goal.overflow_mul-most
overflow_mul-most c =
    let w = few_values _ _ _ c.of-user.result.tail _ _
    c.requires.0 c.free_segments.ensures c.length_of-l.ensures
    in let a = w.0 in omega (arith, a)

pub overflow_add-most : goal.overflow_add-most
overflow_add-most c =
    let w = few_values _ _ _ c.of-user.result.tail _ _
    c.requires.0 c.free_segments.ensures c.length_of-l.ensures
    in let a = w.0 in let b = w.1 in omega (arith, a, b)

pub returns : goal.returns
returns c =
    by_tail _ _ _ _ (user_tail _ _ _ _ c.of-user.ensures)
    (user_head _ _ _ _ c.of-user.ensures) c.is_empty.ensures
    c.if-is_empty.false c.if-e-ge-NL.false c.length_of-l.ensures
    c.count.ensures c.free_segments.ensures refl
