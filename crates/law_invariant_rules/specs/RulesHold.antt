-- MEMORY THAT REPRESENTS PROGRAM ORDER PASSES THE MEMORY TEST. Since every call keeps the invariant, this is document 01's
-- "Memory left by the core's own calls passes".
use Rattle.std.specs.Prelude.{◌≡◌, true, List, ℕ}
use Rattle.std.proofs.Common.{ap, sym, ◌∙◌, subst, le-leb}
use Rattle.spec_rules.specs.Contents.{Contents, decode, scan_decodes}
use Rattle.spec_rules.specs.Rules.{OpeningRules}
use Rattle.spec_rules.specs.Test.{test, rules_hold}
use Rattle.law_rules_same.specs.Passed.{Seen, Passed, says_opening, says_test}
use Rattle.spec_order.specs.Steps.{Item}
use Rattle.law_links.specs.Linked.{tree}
use Rattle.law_invariant.specs.Represents.{Represents}
use Rattle.law_invariant_rules.specs.Tasks.{same_tour}
use Rattle.law_invariant_rules.specs.Segments.{records_right}
use Rattle.law_invariant_rules.specs.Heads.{owners_right}
use Rattle.law_invariant_rules.specs.Views.{words_right}
use Rattle.law_invariant_rules.specs.Order.{order_right}
use Rattle.law_invariant_rules.specs.Free.{free_few}
use Rattle.law_invariant_rules.specs.Held.{held_right}

-- part by part
module _ (m : List ℕ) (xs : List Item) (r : Represents m xs) where
  abbrev c : Contents
  c = decode m

  seen : Seen c r.tour
  seen =
      record {
        words = words_right m xs r;
        order = order_right m xs r;
        owned = owners_right m xs r;
        segs = records_right m xs r;
        holding = held_right m xs r;
      }

  opening : OpeningRules c
  opening = record { length_range = r.sized.length_range 0; number_range = r.sized.number_range; product_range = r.sized.product_range }

  pub passed : Passed c
  passed =
      record {
        range = says_opening c opening;
        room = le-leb _ _ (free_few m r.sized);
        top = r.linked.top;
        free = r.linked.idle;
        tree = tree m r.tour xs r.linked;
        seen = subst (λ (l : List ℕ). Seen c l) (sym (same_tour m xs r)) seen;
      }

-- the memory test says true
pub rules_hold_lem : (m : List ℕ) (xs : List Item) → Represents m xs → rules_hold m ≡ true
unfolding rules_hold
rules_hold_lem m xs r = ap test (scan_decodes m) ∙ says_test (decode m) (passed m xs r)
