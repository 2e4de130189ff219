use Rattle.std.proofs.Common.{◌-◌, ◌≤◌, ap, ◌∙◌, ℕ, ◌≡◌, ◌<◌, ◌+◌, ◌*◌, ◌/◌, ◌%◌, length-set, length-take, length-drop, drop, arith}
use Rattle.spec_words.specs.Words.{load, store}
use Rattle.tree_test.specs.Counted.{near_from}
use Rattle.tree_test.proofs.Turns.{entry_at, faults_more, near_more, faults_done, near_done}
use Rattle.tree_test.proofs.mark_free.Goals as goal

pub loop-t-preserved : goal.loop-t-preserved
unfolding load store
loop-t-preserved c =
    let n = length-take (320 + c.args.h - 320) (drop 320 c.args.m.now) in
    let l : c.loop-t.t-index < c.args.h = omega (arith, n, c.loop-t-test.true) in
    let e = entry_at c.args.m.now c.args.h c.loop-t.t-index l in
    let m = c.args.m.now in
    let i = c.loop-t.t-index in
    let f : c.from.result ≡ load m (320 + i) / 128 = c.from.ensures ∙ ap (λ (v : ℕ). v / 128) e in
    let g : c.from-in-loop-t.result ≡ load m (1472 + load m (320 + i) % 128 * 48) = c.from-in-loop-t.ensures
    ∙ ap (λ (v : ℕ). load m (1472 + v % 128 * 48)) e in
    let more = faults_more m c.args.h i c.loop-t.w l c.loop-t.invariant.2 in (
      length-set _ _ _ ∙ c.loop-t.invariant.0,
      omega (arith, f, g, c.type_inv.m (320 + i), c.type_inv.m (1472 + load m (320 + i) % 128 * 48), c.loop-t.invariant.1),
      omega (arith, f, g, more),
      ap (λ (v : ℕ). near_from (c.args.h - (i + 1)) m (i + 1) (store c.loop-t.d (v % 128) 1)) e
          ∙ near_more m c.args.h i c.loop-t.d l ∙ c.loop-t.invariant.3,
    )

pub returns : goal.returns
returns c =
    let n = length-take (320 + c.args.h - 320) (drop 320 c.args.m.now) in
    let d = length-drop 320 c.args.m.now in
    let l : c.args.h ≤ c.loop-t.t-index = omega (arith, n, d, c.loop-t-test.false, c.requires.0) in (
      faults_done c.args.m.now c.args.h c.loop-t.t-index c.loop-t.w l c.loop-t.invariant.2,
      near_done c.args.m.now c.args.h c.loop-t.t-index c.loop-t.d l ∙ c.loop-t.invariant.3,
    )
