-- The views along a line, one by one: which words they have where all segments are below the marks, and how the test of
-- order goes on at each of them.
use Rattle.std.specs.Prelude.{◌≡◌, List, [], ◌∷◌, ℕ, ◌<◌}
use Rattle.std.proofs.Common.{subst, ◌∙◌, arith}
use Rattle.spec_layout.specs.Layout.{NL}
use Rattle.spec_rules.specs.Test.{passed}
use Rattle.spec_rules.specs.Passed.{marked_yes, marked_no, passed_none, passed_fit}
use Rattle.spec_lists.specs.Maps.{All, last_of, all_front}
use Rattle.law_gaps.specs.Line.{Extent, Line, segments, Mode, settled, awaiting, Inside, rest, mid, close, Begins, bare, whole, begun, Views, queue, exiting}
use Rattle.law_gaps.specs.Line.{entering, passing}
use Rattle.law_invariant_rules.specs.Words.{ViewWords}

-- a number that is no mark
abbrev pub Plain : ℕ → Type 0
Plain s = s < NL

-- the last segment of a chain that has had no tail yet
abbrev pub PlainMode : Mode → Type 0
PlainMode settled = Unit {0}
PlainMode (awaiting z) = Plain z

pub all_last : (P : ℕ → Type 0) (s : ℕ) (d : List ℕ) → All P (s ∷ d) → P (last_of s d)
all_last P s [] h = h.0
all_last P s (t ∷ d) h = all_last P t d h.1

last_plain : (s z : ℕ) (d : List ℕ) → last_of s d ≡ z → All Plain (s ∷ d) → Plain z
last_plain s z d e h = subst Plain e (all_last Plain s d h)

inside_plain : {a b : Mode} {v : Extent} → Inside a v b → PlainMode a → PlainMode b
inside_plain rest h = h
inside_plain mid h = h
inside_plain close h = tt

begins_plain : {d : List ℕ} {w : Extent} {n : Mode} → Begins d w n → All Plain d → PlainMode n
begins_plain bare h = tt
begins_plain (whole e) h = tt
begins_plain (begun {s = s} {z = z} {c = d} e) h = last_plain s z d e h

pub views_plain : {children user right : ℕ → Extent} {l : Line} {n : Mode} → Views children user right l n → All Plain (segments l) → PlainMode n
views_plain (queue {s = s} {z = z} {c = d} e) h = last_plain s z d e (all_front Plain (s ∷ d) [] h)
views_plain (exiting v e i r) h = inside_plain i (views_plain r h)
views_plain (entering {c = d} {l = l} v w e i f b r) h = begins_plain b (all_front Plain d (segments l) h)
views_plain (passing r) h = views_plain r h

-- The state of the test of order at a place of the line: 1 where the view behind begins with a non-local head, since the
-- chain's tail is still to come; 0 where not.
abbrev pub state_of : Mode → ℕ
state_of settled = 0
state_of (awaiting z) = 1

-- a view inside a gap
pub inside_passed : {a b : Mode} {v : Extent} (h e : ℕ) → Inside a v b → ViewWords v h e → PlainMode a → passed h e (state_of b) ≡ state_of a
inside_passed h e (rest {m = m}) w p = passed_none h e (state_of m) w.0 w.1
inside_passed h e mid w p =
    let x = w.0 in
    let y = w.1 in
    passed_fit h e 1 (λ z. omega (arith, x, z)) (λ z. omega (arith, y, z)) (marked_yes e y) ∙ marked_yes h x
inside_passed h e close w p =
    let x = w.0 in
    let y = w.1 in
    passed_fit h e 0 (λ z. omega (arith, x, z)) (λ z. omega (arith, y, z, p)) (marked_no e (λ z. omega (arith, y, z, p))) ∙ marked_yes h x

-- the first view of a gap: its head is local, or it is vacant
pub begins_passed : {d : List ℕ} {v : Extent} {n : Mode} (h e : ℕ) → Begins d v n → ViewWords v h e → All Plain d → passed h e (state_of n) ≡ 0
begins_passed h e bare w p = passed_none h e 0 w.0 w.1
begins_passed h e (whole {s = s} {z = z} {c = d} f) w p =
    let x = w.0 in
    let y = w.1 in
    let a = p.0 in
    let b = last_plain s z d f p in
    passed_fit h e 0 (λ z. omega (arith, x, z, a)) (λ z. omega (arith, y, z, b)) (marked_no e (λ z. omega (arith, y, z, b)))
    ∙ marked_no h (λ z. omega (arith, x, z, a))
begins_passed h e (begun f) w p =
    let x = w.0 in
    let y = w.1 in
    let a = p.0 in
    passed_fit h e 1 (λ z. omega (arith, x, z, a)) (λ z. omega (arith, y, z)) (marked_yes e y) ∙ marked_no h (λ z. omega (arith, x, z, a))
