use Rattle.std.proofs.Common.{rules, ℕ, ap, ◌∙◌, ◌+◌}
use Rattle.spec_words.specs.Blocks.{store_all}
use Rattle.spec_layout.specs.Layout.{task, read}
use Rattle.spec_outcomes.specs.Spawn.{passed_user}
use Rattle.core_spawn.proofs.pass.Goals as goal

pub returns : goal.returns
returns c =
    c.set_words.ensures
    ∙ ap (store_all _ _) (c.by_queue-words.ensures (λ (q : ℕ). passed_user c.args.a (read c.args.m.now (task c.args.t (c.args.k + q))) q) (λ q x l p. search rules))
