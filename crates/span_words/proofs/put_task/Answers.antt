use Rattle.std.proofs.Common.{ap, ◌∙◌, ◌≡◌, ◌+◌, ◌*◌, ℕ, [], ◌∷◌, arith}
use Rattle.spec_words.specs.Parts.{put_block}
use Rattle.spec_words.specs.Blocks.{store_all}
use Rattle.span_words.specs.Words.{task_words}
use Rattle.span_words.proofs.put_task.Goals as goal

pub returns : goal.returns
unfolding task_words
returns c =
    let e : c.args.d * 10 ≡ c.args.d * 10 + 0 = omega arith in
    rw c.copy_from_slice.ensures.after
    (put_block (c.args.d * 10) _ c.args.w.now _ (omega arith) (omega arith)
    ∙ ap (λ (a : ℕ). store_all c.args.w.now a (c.args.p ∷ 0 ∷ c.args.x ∷ c.args.t ∷ 0 ∷ c.args.older ∷ 0 ∷ 0 ∷ 0 ∷ 0 ∷ [])) e)
