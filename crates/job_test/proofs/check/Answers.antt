use Rattle.std.proofs.Common.{ap, sym, ◌∙◌, not}
use Rattle.spec_words.specs.Words.{pass, halt}
use Rattle.spec_job.specs.Test.{refusal10, refusal11, job_answer}
use Rattle.job_test.specs.Answers.{answer_for}
use Rattle.job_test.proofs.check.Goals as goal

pub returns-then-not-contents_hold : goal.returns-then-not-contents_hold
unfolding answer_for job_answer refusal10 refusal11
returns-then-not-contents_hold c =
    sym (pass _ (ap not (sym c.head_holds.ensures ∙ c.if-not-head_holds.false))
    (halt _ _ (ap not (sym c.contents_hold.ensures ∙ c.if-not-contents_hold.true))))
