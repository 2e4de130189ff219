-- The first and the last segments of the chains of a line, and how often the views along it name each: every chain has
-- one head, its first segment, and one tail, its last.
use Rattle.std.specs.Prelude.{◌≡◌, refl, List, [], ◌∷◌, ℕ, ◌+◌, ◌≤◌, eqb, length}
use Rattle.std.proofs.Common.{ap, sym, ◌∙◌, arith, le-leb}
use Rattle.std.proofs.lemmas.Bool.{lt-leb}
use Rattle.spec_words.specs.Words.{pass, halt}
use Rattle.spec_lists.specs.Counting.{one, occurrences, occurs_cons}
use Rattle.spec_layout.specs.Layout.{NONE, NL}
use Rattle.law_view_events.specs.Counts.{names}
use Rattle.spec_lists.specs.Maps.{All, last_of}
use Rattle.law_gaps.specs.Line.{Extent, base, exited, entered, pass as past, Line, Mode, settled, awaiting, Inside, rest, mid, close, Begins, bare, whole, begun}
use Rattle.law_invariant_rules.specs.Words.{ViewWords}
use Rattle.law_invariant_rules.specs.Modes.{Plain, PlainMode, all_last}

-- a list with the first segment of a chain in front, and with the last
abbrev pub with_first : List ℕ → List ℕ → List ℕ
with_first [] r = r
with_first (s ∷ d) r = s ∷ r

abbrev pub with_last : List ℕ → List ℕ → List ℕ
with_last [] r = r
with_last (s ∷ d) r = last_of s d ∷ r

-- from each chain of a line that is not empty one segment, which f puts in front: the first segments, and the last ones
abbrev pub ends_of : (List ℕ → List ℕ → List ℕ) → Line → List ℕ
ends_of f [] = []
ends_of f (base d ∷ l) = f d (ends_of f l)
ends_of f (exited t ∷ l) = ends_of f l
ends_of f (entered t d ∷ l) = f d (ends_of f l)
ends_of f (past x ∷ l) = ends_of f l

abbrev pub firsts : Line → List ℕ
firsts = ends_of with_first

abbrev pub lasts : Line → List ℕ
lasts = ends_of with_last

-- they are equally many
one_more : (d f e : List ℕ) → length f ≡ length e → length (with_first d f) ≡ length (with_last d e)
one_more [] f e h = h
one_more (s ∷ d) f e h = omega (arith, h)

pub same_length : (l : Line) → length (firsts l) ≡ length (lasts l)
same_length [] = refl
same_length (base d ∷ l) = one_more d (firsts l) (lasts l) (same_length l)
same_length (exited t ∷ l) = same_length l
same_length (entered t d ∷ l) = one_more d (firsts l) (lasts l) (same_length l)
same_length (past x ∷ l) = same_length l

-- WHAT A WORD NAMES: a mark no segment, a segment itself
module _ (s : ℕ) where
  pub mark_names : (w : ℕ) → NL ≤ w → names s w ≡ 0
  unfolding names
  mark_names w l = halt _ _ (le-leb NL w l)

  pub none_names : (w : ℕ) → w ≡ NONE → names s w ≡ 0
  none_names w e = mark_names w (omega (arith, e))

  pub plain_names : (w z : ℕ) → w ≡ z → Plain z → names s w ≡ one (eqb z s)
  unfolding names
  plain_names w z e l = pass _ (lt-leb NL w (omega (arith, e, l))) (ap (λ (k : ℕ). one (eqb k s)) e)

  -- HEADS: a view inside a gap names no segment by its head, the first view of a gap the first segment of the chain
  pub inside_head : {a b : Mode} {v : Extent} (h e : ℕ) → Inside a v b → ViewWords v h e → names s h ≡ 0
  inside_head h e rest w = none_names h w.0
  inside_head h e mid w = let x = w.0 in mark_names h (omega (arith, x))
  inside_head h e close w = let x = w.0 in mark_names h (omega (arith, x))

  pub begins_head : {d : List ℕ} {v : Extent} {n : Mode} (h e : ℕ) (k : List ℕ) → Begins d v n → ViewWords v h e → All Plain d
      → names s h + occurrences s k ≡ occurrences s (with_first d k)
  begins_head h e k bare w p = let a = none_names h w.0 in omega (arith, a)
  begins_head h e k (whole {s = f} {c = d} z) w p = let a = plain_names h f w.0 p.0 in let b = occurs_cons f s k in omega (arith, a, b)
  begins_head h e k (begun {s = f} {c = d} z) w p = let a = plain_names h f w.0 p.0 in let b = occurs_cons f s k in omega (arith, a, b)

  -- TAILS: 1 where s is the last segment of a chain that has had no tail yet
  abbrev pub pending : Mode → ℕ
  pending settled = 0
  pending (awaiting z) = one (eqb z s)

  pub inside_tail : {a b : Mode} {v : Extent} (h e : ℕ) → Inside a v b → ViewWords v h e → PlainMode a → names s e + pending b ≡ pending a
  inside_tail h e (rest {m = m}) w p = let a = none_names e w.1 in omega (arith, a)
  inside_tail h e (mid {z = z}) w p = let x = w.1 in let a = mark_names e (omega (arith, x)) in omega (arith, a)
  inside_tail h e (close {z = z}) w p = let a = plain_names e z w.1 p in omega (arith, a)

  pub begins_tail : {d : List ℕ} {v : Extent} {n : Mode} (h e : ℕ) (k : List ℕ) → Begins d v n → ViewWords v h e → All Plain d
      → names s e + pending n + occurrences s k ≡ occurrences s (with_last d k)
  begins_tail h e k bare w p = let a = none_names e w.1 in omega (arith, a)
  begins_tail h e k (whole {s = f} {z = z} {c = d} y) w p =
      let a = plain_names e (last_of f d) (w.1 ∙ sym y) (all_last Plain f d p) in
      let b = occurs_cons (last_of f d) s k in
      omega (arith, a, b)
  begins_tail h e k (begun {s = f} {z = z} {c = d} y) w p =
      let x = w.1 in
      let a = mark_names e (omega (arith, x)) in
      let b = occurs_cons (last_of f d) s k in
      let i = ap (λ (j : ℕ). one (eqb j s)) y in
      omega (arith, a, b, i)
