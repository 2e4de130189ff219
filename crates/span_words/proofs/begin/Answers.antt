use Rattle.std.proofs.Common.{List, ap, ◌∙◌, ◌≡◌, ℕ, refl, arith, rules, replicate}
use Rattle.spec_words.specs.Parts.{put_block}
use Rattle.spec_words.specs.Blocks.{store_all}
use Rattle.spec_span.specs.Pass.{pass_opened}
use Rattle.span_words.specs.Words.{task_words}
use Rattle.span_words.proofs.begin.Goals as goal

pub returns : goal.returns
unfolding pass_opened task_words
returns c =
    let e : c.fill.new.self ≡ replicate 12 0 = search rules in
    rw e (put_block 1290 12 c.put_task.new.w (replicate 12 0) refl (omega arith) ∙ ap (λ (w : List ℕ). store_all w 1290 (replicate 12 0)) c.put_task.ensures)
