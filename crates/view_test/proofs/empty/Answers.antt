use Rattle.spec_view_events.specs.Groups.{both_full}
use borrow.Author.Tests.{eqb-true}
use Rattle.view_test.proofs.empty.Goals as goal

pub returns : goal.returns
returns c = λ e. let x = both_full _ _ (eqb-true _ _ e) in (c.shared.ensures x.0, c.shared-2.ensures x.1)
