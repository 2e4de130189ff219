-- A run of none, one that fits into the tail segment, one that is refused, one that goes on behind it, one that begins a segment apart.
use mathlib.Core.Path.{refl}
use Rattle.core_push.proofs.Whole.{run_of_none, can_store, all_stored, run_refused, can_go, gone, ends_away_lem, can_take, left_out}
use Rattle.core_push.proofs.Whole.{can_go_on, gone_on}
use Rattle.std.proofs.Common.{ap, not}
use Rattle.core_push.proofs.Ends.{user_head, user_tail}
use Rattle.core_push.proofs.push_run.Goals as goal

pub returns-then-n-eq0 : goal.returns-then-n-eq0
returns-then-n-eq0 c = run_of_none _ _ _ _ _ refl c.if-n-eq0.true

pub store_run-requires : goal.store_run-requires
store_run-requires c =
    can_store _ _ _ c.args.vs.now
    c.requires.0
    c.requires.1
    c.requires.2 refl
    c.if-n-eq0.false (user_tail _ _ _ _ c.of-user.ensures)
    c.fits_tail.ensures c.if-fits_tail.true

pub returns-then-fits_tail : goal.returns-then-fits_tail
returns-then-fits_tail c =
    all_stored _ _ _ _ c.requires.0
    c.requires.1
    c.requires.2 refl
    c.if-n-eq0.false
    (user_tail _ _ _ _ c.of-user.ensures) c.fits_tail.ensures
    c.if-fits_tail.true c.store_run.ensures

pub returns-then-runs_out : goal.returns-then-runs_out
returns-then-runs_out c =
    rw c.into.ensures
    (run_refused _ _ _ _ c.requires.0
    c.requires.1
    c.requires.2 refl c.runs_out.ensures
    c.if-runs_out.true)

pub push_rest-requires : goal.push_rest-requires
push_rest-requires c =
    can_go _ _ _ c.args.vs.now
    c.requires.0
    c.requires.1
    c.requires.2 refl
    c.runs_out.ensures c.if-runs_out.false
    c.if-n-eq0.false
    (user_tail _ _ _ _ c.of-user.ensures) c.if-user-lt-NL.true

pub returns-then-user-lt-NL : goal.returns-then-user-lt-NL
returns-then-user-lt-NL c =
    gone _ _ _ _
    c.requires.0
    c.requires.1
    c.requires.2 refl
    c.runs_out.ensures c.if-runs_out.false
    c.if-n-eq0.false
    (user_tail _ _ _ _ c.of-user.ensures)
    c.if-user-lt-NL.true c.push_rest.ensures

pub returns-then-not-is_empty : goal.returns-then-not-is_empty
returns-then-not-is_empty c =
    rw c.into-then-not-is_empty.ensures
    (ends_away_lem _ _ _ _
    c.requires.0
    c.requires.1
    c.requires.2 refl
    c.runs_out.ensures c.if-runs_out.false
    c.if-n-eq0.false
    (user_tail _ _ _ _ c.of-user.ensures)
    c.if-user-lt-NL.false (user_head _ _ _ _ c.of-user.ensures) c.is_empty.ensures (ap not c.if-not-is_empty.true))

pub push_apart-requires : goal.push_apart-requires
push_apart-requires c =
    can_take _ _ _
    c.args.vs.now
    c.requires.0
    c.requires.1
    c.requires.2
    refl c.runs_out.ensures
    c.if-runs_out.false
    c.if-n-eq0.false
    (user_tail _ _ _ _ c.of-user.ensures)
    c.if-user-lt-NL.false (user_head _ _ _ _ c.of-user.ensures)
    c.is_empty.ensures (ap not c.if-not-is_empty.false)

pub returns-then-not-push_apart : goal.returns-then-not-push_apart
returns-then-not-push_apart c =
    rw c.into-then-not-push_apart.ensures
    (left_out _ _ _ _
    c.requires.0
    c.requires.1
    c.requires.2
    refl c.runs_out.ensures
    c.if-runs_out.false
    c.if-n-eq0.false
    (user_tail _ _ _ _ c.of-user.ensures)
    c.if-user-lt-NL.false
    (user_head _ _ _ _ c.of-user.ensures)
    c.is_empty.ensures
    (ap not c.if-not-is_empty.false) _ c.just_before.ensures
    c.push_apart.ensures (ap not c.if-not-push_apart.true))

pub push_rest-requires-2 : goal.push_rest-requires-2
push_rest-requires-2 c =
    can_go_on _ _ _
    c.args.vs.now
    c.requires.0
    c.requires.1
    c.requires.2
    refl c.runs_out.ensures
    c.if-runs_out.false
    c.if-n-eq0.false
    (user_tail _ _ _ _ c.of-user.ensures)
    c.if-user-lt-NL.false
    (user_head _ _ _ _ c.of-user.ensures)
    c.is_empty.ensures
    (ap not c.if-not-is_empty.false) _
    c.just_before.ensures c.push_apart.ensures (ap not c.if-not-push_apart.false)

pub returns : goal.returns
returns c =
    gone_on _ _ _ _
    c.requires.0
    c.requires.1
    c.requires.2
    refl
    c.runs_out.ensures
    c.if-runs_out.false
    c.if-n-eq0.false
    (user_tail _ _ _ _ c.of-user.ensures)
    c.if-user-lt-NL.false
    (user_head _ _ _ _ c.of-user.ensures)
    c.is_empty.ensures
    (ap not c.if-not-is_empty.false) _
    c.just_before.ensures
    c.push_apart.ensures (ap not c.if-not-push_apart.false)
    c.push_rest-2.ensures
