use Rattle.std.proofs.Common.{◌≡◌, ℕ, ◌+◌, ◌-◌, ap, sym, ◌∙◌}
use native.Mathlib.Omega.{arith}
use Rattle.spec_layout.specs.Layout.{record_of}
use Rattle.spec_tree.specs.Tour.{seek}
use Rattle.walks.specs.Steps.{seek_none, seek_end, seek_here, seek_on}
use Rattle.spec_words.specs.Words.{pick}
use Rattle.spec_words.specs.Found.{found, found_some}
use Rattle.walks.proofs.seek.Goals as goal

pub returns-then-x-ge-END : goal.returns-then-x-ge-END
unfolding found pick
returns-then-x-ge-END g c = λ f t. ap (found 256) (seek_end _ _ _ _ (omega (arith, c.loop-test.true)) c.if-x-ge-END.true ∙ c.loop.invariant.1 f t)

pub returns-then-test : goal.returns-then-test
returns-then-test g c =
    λ f t. found_some _ _ c.if-x-ge-END.false ∙ ap (found 256) (seek_here _ _ _ _ (omega (arith, c.loop-test.true)) c.if-x-ge-END.false
    (sym (t _ _ c.if-x-ge-END.false c.test.ensures) ∙ c.if-test.true) ∙ c.loop.invariant.1 f t)

pub loop-preserved : goal.loop-preserved
loop-preserved g c = (
  c.loop.invariant.0,
  λ f t.
      ap (λ (n : ℕ). seek n f (record_of c.args.m.now) c.after-x.result) (let e : 256 - (c.loop.counter + 1) ≡ 256 - c.loop.counter - 1 = omega arith in e)
      ∙ seek_on _ _ _ _ _ (omega (arith, c.loop-test.true)) c.if-x-ge-END.false
      (sym (t _ _ c.if-x-ge-END.false c.test.ensures) ∙ c.if-test.false) c.after-x.ensures ∙ c.loop.invariant.1 f t,
)

pub returns : goal.returns
unfolding found pick
returns g c = λ f t. ap (found 256) (seek_none _ _ _ _ (omega (arith, c.loop-test.false)) ∙ c.loop.invariant.1 f t)
