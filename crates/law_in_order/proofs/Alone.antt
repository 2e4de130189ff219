-- THE TOP ALONE: the tour meets and leaves it and nobody else, and each queue has all its segments in one chain.
use Rattle.std.specs.Prelude.{◌≡◌, refl, false, ℕ, ◌-◌, ◌<◌, ltb}
use Rattle.std.proofs.Math.Path.{ap}
use Rattle.std.proofs.Common.{ap₂, sym, ◌∙◌, subst, arith}
use Rattle.std.proofs.lemmas.Bool.{false≢true}
use mathlib.Core.List.{List, [], ◌∷◌, cons-ne-nil, head-eq_of_cons-eq, tail-eq_of_cons-eq}
use Rattle.spec_words.specs.Words.{pick}
use Rattle.spec_layout.specs.Layout.{NONE, YOUNGEST, task, read}
use Rattle.spec_tree.specs.Tour.{after, entering, exiting}
use Rattle.spec_rules.specs.Contents.{Contents, decode, word}
use Rattle.spec_order.specs.Steps.{Item}
use Rattle.spec_lists.specs.Maps.{All}
use Rattle.law_gaps.specs.Line.{base, exited, entered, Line, marks, Fits, Mode, Views, queue, passing}
use Rattle.law_gaps.specs.Line.Views.{exiting as exits, entering as enters}
use Rattle.law_gaps.specs.Store.{Closed}
use Rattle.law_links.specs.Row.{Row, leads_after, leads_on}
use Rattle.law_links.specs.Linked.{word_is}
use Rattle.law_invariant.specs.Represents.{queue_memory, uses_in, Represents}
use Rattle.law_invariant.specs.Parts.{parts_of}
use Rattle.law_invariant.specs.Views.{uses_small}
use Rattle.law_invariant.specs.Walks.{top_uses}

module _ (m : List ℕ) (xs : List Item) (r : Represents m xs) (alone : read m (task 0 YOUNGEST) ≡ NONE) where
  abbrev c : Contents
  c = decode m

  after_top : after c.recs 0 ≡ 128
  unfolding after entering exiting pick word
  after_top = ap (entering 0) (word_is m 0 YOUNGEST ∙ alone)

  pub tour_alone : r.tour ≡ 0 ∷ 128 ∷ []
  tour_alone = go r.linked.first.0 r.linked.first.1 (subst (Row c) r.linked.first.1 r.linked.row)
    where
      go : (l : List ℕ) → r.tour ≡ 0 ∷ l → Row c (0 ∷ l) → r.tour ≡ 0 ∷ 128 ∷ []
      go [] e h = let z : ⊥ = omega (arith, h) in absurd z
      go (y ∷ l) e h = second l e h.1
        where
          is : y ≡ 128
          is = sym (leads_after c h.0) ∙ after_top

          second : (l : List ℕ) → r.tour ≡ 0 ∷ y ∷ l → Row c (y ∷ l) → r.tour ≡ 0 ∷ 128 ∷ []
          second [] e k = e ∙ ap (λ (x : ℕ). 0 ∷ x ∷ []) is
          second (z ∷ l) e k = absurd (leads_on c k.0 is)

  module _ (q : ℕ) (small : q < 4) where
    abbrev At : Line → Mode → Type 0
    At = Views (queue_memory m q).children (queue_memory m q).user (queue_memory m q).right

    third : (l : Line) {n : Mode} → At l n → marks l ≡ [] → (g : ℕ) × (d : List ℕ) × (l ≡ base (g ∷ d) ∷ [])
    third l (queue {s = s} {c = d} e) k = (s, d, refl)
    third l (exits v e i w) k = absurd (cons-ne-nil _ _ k)
    third l (enters v w e i f b u) k = absurd (cons-ne-nil _ _ k)
    third l (passing w) k = absurd (cons-ne-nil _ _ k)

    second : (l : Line) {n : Mode} → At l n → All (Fits (uses_in m q)) l → marks l ≡ 128 ∷ [] → (g : ℕ) × (d : List ℕ) × (l ≡ exited 0 ∷ base (g ∷ d) ∷ [])
    second l (queue e) f k = absurd (cons-ne-nil _ _ (sym k))
    second l (exits {t = t} {l = b} v e i w) f k =
        let z = third b w (tail-eq_of_cons-eq k) in
        let is : t ≡ 0 = (let h = head-eq_of_cons-eq k in omega (arith, h)) in
        (z.0, z.1, ap (λ (x : ℕ). exited x ∷ b) is ∙ ap (λ (y : Line). exited 0 ∷ y) z.2)
    second l (enters {t = t} v w e i f0 b u) f k =
        let h = head-eq_of_cons-eq k in let a = uses_small m q t f.0 in let z : ⊥ = omega (arith, h, a) in absurd z
    second l (passing {x = x} w) f k =
        absurd
        (false≢true
        (sym (subst (λ (y : ℕ). uses_in m q (pick (ltb y 128) y (y - 128)) ≡ false) (head-eq_of_cons-eq k) f.0) ∙ (unfold pick in top_uses m xs r q small)))

    -- THE LINE of a queue: the top's spot, and one chain before it
    pub line_alone : (g : ℕ) × (d : List ℕ) × (r.line q ≡ entered 0 [] ∷ exited 0 ∷ base (g ∷ d) ∷ [])
    line_alone =
        let p = parts_of m xs r in
        first (r.line q) (p.laids.laid q small).views (p.laids.laid q small).closed (p.fits q small) (p.marked q small ∙ tour_alone)
      where
        first : (l : Line) {n : Mode} → At l n → Closed l → All (Fits (uses_in m q)) l → marks l ≡ 0 ∷ 128 ∷ []
            → (g : ℕ) × (d : List ℕ) × (l ≡ entered 0 [] ∷ exited 0 ∷ base (g ∷ d) ∷ [])
        first l (queue e) z f k = absurd z
        first l (exits v e i w) z f k = absurd z
        first l (passing w) z f k = absurd z
        first l (enters {t = t} {c = d} {l = b} v w e i f0 b0 u) z f k =
            let y = second b u f.1 (tail-eq_of_cons-eq k) in
            (y.0, y.1, ap₂ (λ (x : ℕ) (s : List ℕ). entered x s ∷ b) (head-eq_of_cons-eq k) z ∙ ap (λ (x : Line). entered 0 [] ∷ x) y.2)
