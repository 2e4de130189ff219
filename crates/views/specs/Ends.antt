-- The view that two ends make.
use Rattle.spec_rules.specs.Views.{view}
use Rattle.spec_rules.specs.Views as spec
use Rattle.views.specs.declared.View.{View}

abbrev pub seen : View → spec.View
seen v = view v.head v.tail
