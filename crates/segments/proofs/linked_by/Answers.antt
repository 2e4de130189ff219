use Rattle.std.proofs.Common.{rules, ap, ◌∙◌, arith, ℕ, ◌-◌, ◌≡◌, true, false}
use Rattle.std.proofs.lemmas.Iterator.{first_from_Range}
use Rattle.spec_words.specs.Found.{found}
use Rattle.spec_layout.specs.Layout.{segments_of}
use Rattle.spec_outcomes.specs.Segments.{linked_by}
use Rattle.segments.specs.Names.{next_is}
use Rattle.segments.proofs.Links.{found_first, by_start, by_found, by_next, by_end}
use Rattle.segments.proofs.linked_by.Goals as goal

pub returns : goal.returns
returns c =
    found_first c.number.result (λ (y : ℕ). linked_by (c.number.result - y) c.args.m.now c.args.q c.args.s y)
    (λ (y : ℕ). next_is c.args.m.now c.args.q c.args.s y ≡ true) (λ (y : ℕ). next_is c.args.m.now c.args.q c.args.s y ≡ false)
    (λ i l e. by_found _ _ _ _ _ l e) (λ i l e. by_next _ _ _ _ _ l e) (by_end _ _ _ _ _ (omega arith)) _
    (first_from_Range _ _ _ _ _ _ c.find.ensures.ran (λ x k q. search rules) (λ x k q. search rules))
    ∙ ap (found _) (by_start c.args.m.now c.args.q c.args.s _ c.number.ensures)
    ∙ ap (λ (n : ℕ). found n (linked_by (segments_of c.args.m.now c.args.q) c.args.m.now c.args.q c.args.s 0)) c.number.ensures
