use Rattle.span_words.proofs.Written.{child_made_lem}
use Rattle.span_words.proofs.with_child.Goals as goal

pub returns : goal.returns
returns c = child_made_lem _ _ _ _ _ _ c.requires.0 c.requires.1 c.older_for-older.ensures c.put_task.ensures c.put_task.auto.w
