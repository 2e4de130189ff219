-- From an entered task the tour goes down to its youngest child, or exits it and climbs: in both ways the next marks of the tour are written.
use Rattle.std.proofs.Common.{rules, ◌≡◌, ◌+◌, ◌-◌, sym, ◌∙◌, length-set, arith}
use Rattle.spec_words.specs.Found.{some_found, none_found}
use Rattle.tree_test.specs.Led.{same_step, led_on, led_here, led_wrong, walk_wrong}
use Rattle.tree_test.specs.Walk.{entered_next, next_entered}
use Rattle.spec_rules.specs.Contents.{decode}
use Rattle.tree_test.proofs.onward.Goals as goal

pub returns-in_err-y : goal.returns-in_err-y
returns-in_err-y c =
    let d = decode c.args.m.now in
    led_wrong d c.args.n (search rules)
    (walk_wrong d c.args.n c.args.i c.args.t c.requires.4 (λ e. let a = c.requires.3 in omega (arith, a, e)) _
    (next_entered d c.args.t c.requires.3)
    (none_found 256 (entered_next d c.args.t) (sym c.in_err-y.was ∙ c.entered_next.ensures)))

pub returns-then-y-lt-TASKS : goal.returns-then-y-lt-TASKS
returns-then-y-lt-TASKS c =
    let d = decode c.args.m.now in
    let a = some_found 256 (entered_next d c.args.t) _ (sym c.in_ok-y.was ∙ c.entered_next.ensures) in
    led_here d c.args.n (let l = c.if-y-lt-TASKS.true in omega (arith, l)) (omega arith)
    (same_step d c.args.n c.args.i c.args.t c.requires.4 (λ e. let a = c.requires.3 in omega (arith, a, e)) _
    (a.0 ∙ next_entered d c.args.t c.requires.3) c.args.xs.now (omega (arith, c.requires.1, c.requires.2, c.requires.4)) (omega (arith, a.0, a.1)))

pub climb-requires : goal.climb-requires
climb-requires c =
    let a = some_found 256 (entered_next (decode c.args.m.now) c.args.t) _ (sym c.in_ok-y.was ∙ c.entered_next.ensures) in
    (c.requires.0, length-set _ _ _ ∙ c.requires.1, c.requires.2, let l = c.if-y-lt-TASKS.false in omega (arith, a.1, l))

pub returns : goal.returns
returns c =
    let d = decode c.args.m.now in
    let a = some_found 256 (entered_next d c.args.t) c.in_ok-y.y (sym c.in_ok-y.was ∙ c.entered_next.ensures) in
    let l = c.if-y-lt-TASKS.false in
    let z : 128 + (c.in_ok-y.y - 128) ≡ c.in_ok-y.y = omega (arith, l) in
    led_on d c.args.n
    (same_step d c.args.n c.args.i c.args.t c.requires.4 (λ e. let a = c.requires.3 in omega (arith, a, e)) (128 + (c.in_ok-y.y - 128))
    (z ∙ a.0 ∙ next_entered d c.args.t c.requires.3) c.args.xs.now (omega (arith, c.requires.1, c.requires.2, c.requires.4)) (omega (arith, z, a.1)))
    c.climb.ensures
