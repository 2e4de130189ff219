use Rattle.std.proofs.Common.{rules, refl, ◌≡◌, ◌+◌, ◌-◌, sym, ◌∙◌, subst, ℕ, length-set, arith}
use Rattle.spec_words.specs.Found.{some_found, none_found}
use Rattle.tree_test.specs.Led.{Same, same_here, same_on, same_step, led_here, led_wrong, walk_none, walk_wrong}
use Rattle.tree_test.specs.Walk.{exited_next, next_up}
use Rattle.spec_rules.specs.Contents.{decode}
use Rattle.tree_test.proofs.climb.Goals as goal

pub loop-i-init : goal.loop-i-init
loop-i-init c = (c.requires.3, c.requires.1, same_here (decode c.args.m.now) c.args.n _ _ _)

pub returns-then-t-eq0 : goal.returns-then-t-eq0
returns-then-t-eq0 c =
    led_here (decode c.args.m.now) c.args.n (omega arith) c.loop-i.auto.i
    (subst (λ (y : ℕ). Same (decode c.args.m.now) c.args.n (128 + c.args.t0) c.args.i0 c.args.xs.now y c.loop-i.i c.loop-i.xs)
    (let e = c.if-t-eq0.true in let z : 128 + c.loop-i.t ≡ 128 = omega (arith, e) in z) c.loop-i.invariant.2)

pub returns-in_err-y : goal.returns-in_err-y
returns-in_err-y c =
    let d = decode c.args.m.now in
    led_wrong d c.args.n (search rules)
    (walk_wrong d c.args.n c.loop-i.i (128 + c.loop-i.t) c.loop-i-test.true
    (λ e. c.if-t-eq0.false (let z : c.loop-i.t ≡ 0 = omega (arith, e) in z)) _ (next_up d c.loop-i.t)
    (none_found 256 (exited_next d c.loop-i.t) (sym c.in_err-y.was ∙ c.exited_next.ensures)) ∙ c.loop-i.invariant.2.test)

pub returns-then-y-lt-TASKS : goal.returns-then-y-lt-TASKS
returns-then-y-lt-TASKS c =
    let d = decode c.args.m.now in
    let a = some_found 256 (exited_next d c.loop-i.t) _ (sym c.in_ok-y.was ∙ c.exited_next.ensures) in
    led_here d c.args.n (let l = c.if-y-lt-TASKS.true in omega (arith, l)) (let l = c.loop-i.auto.i in omega (arith, l))
    (same_on d c.args.n c.loop-i.invariant.2
    (same_step d c.args.n c.loop-i.i (128 + c.loop-i.t) c.loop-i-test.true
    (λ e. c.if-t-eq0.false (let z : c.loop-i.t ≡ 0 = omega (arith, e) in z)) _ (a.0 ∙ next_up d c.loop-i.t)
    c.loop-i.xs (let e = c.loop-i.invariant.1 in omega (arith, e, c.loop-i-test.true, c.requires.2)) (omega (arith, a.0, a.1))))

pub loop-i-preserved : goal.loop-i-preserved
loop-i-preserved c =
    let d = decode c.args.m.now in
    let a = some_found 256 (exited_next d c.loop-i.t) c.in_ok-y.y (sym c.in_ok-y.was ∙ c.exited_next.ensures) in
    let l = c.if-y-lt-TASKS.false in
    let z : 128 + (c.in_ok-y.y - 128) ≡ c.in_ok-y.y = omega (arith, l) in (
      omega (arith, a.1, l),
      length-set _ _ _ ∙ c.loop-i.invariant.1,
      same_on d c.args.n c.loop-i.invariant.2
          (same_step d c.args.n c.loop-i.i (128 + c.loop-i.t) c.loop-i-test.true
          (λ e. c.if-t-eq0.false (let z : c.loop-i.t ≡ 0 = omega (arith, e) in z)) (128 + (c.in_ok-y.y - 128)) (z ∙ a.0 ∙ next_up d c.loop-i.t)
          c.loop-i.xs (let e = c.loop-i.invariant.1 in omega (arith, e, c.loop-i-test.true, c.requires.2)) (omega (arith, z, a.1))),
    )

pub returns : goal.returns
returns c =
    led_wrong (decode c.args.m.now) c.args.n refl
    (walk_none (decode c.args.m.now) c.args.n c.loop-i.i (128 + c.loop-i.t) c.loop-i-test.false ∙ c.loop-i.invariant.2.test)
