-- VIEWS: their tests say exactly their rules, where xs are the marks of a whole tour.
use Rattle.std.specs.Prelude.{◌≡◌, true, List, ℕ, ◌≤◌}
use Rattle.spec_lists.specs.Tests.{each}
use Rattle.spec_layout.specs.Layout.{NONE}
use Rattle.spec_tree.specs.Tour.{entered}
use Rattle.spec_rules.specs.Contents.{Contents, word, heads, tails}
use Rattle.spec_rules.specs.Rules.{ViewRules}
use Rattle.spec_rules.specs.Test.{views_test, order_test, owners_test}
use Rattle.law_rules_views.specs.Toured.{Toured}
use Rattle.law_rules_views.specs.Ends.{AllOpened}
use Rattle.law_rules_views.specs.FromTest.{tested_views}
use Rattle.law_rules_views.specs.FromRules.{views_tested}

module _ (c : Contents) (xs : List ℕ) (v : Toured c xs) where
  pub views_say : ((t i : ℕ) → word c t i ≤ NONE) → each (views_test c) (entered xs) ≡ true → order_test c xs ≡ true → owners_test c (entered xs) ≡ true
      → AllOpened c (heads c (entered xs)) → AllOpened c (tails c (entered xs)) → ViewRules c
  views_say small words order owned hs es = tested_views c small xs v words order owned hs es

  pub says_views : c.number ≤ 256 → ViewRules c
      → (each (views_test c) (entered xs) ≡ true) × (order_test c xs ≡ true) × (owners_test c (entered xs) ≡ true)
      × AllOpened c (heads c (entered xs)) × AllOpened c (tails c (entered xs))
  says_views few r = views_tested c few xs v r
