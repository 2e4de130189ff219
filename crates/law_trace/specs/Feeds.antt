-- LINES: texts that end with their only line feed. What is written of lines one behind the other, up to a line feed, is whole lines.
use Rattle.std.specs.Prelude.{◌≡◌, refl, ℕ, suc, ◌≤◌, length, take, drop}
use Rattle.std.proofs.Common.{ap, ap₂, sym, ◌∙◌, arith}
use mathlib.Core.List.{List, [], ◌∷◌, ◌++◌, append_assoc, nil≢cons, head-eq_of_cons-eq, tail-eq_of_cons-eq}
use Rattle.std.proofs.Math.Seq.{append_snoc}
use Rattle.spec_lists.specs.Counting.{occurrences, occurs_nil, occurs_here, occurs_past, occurs_append}
use Rattle.spec_lists.specs.Maps.{All, Off, last_of, all_append, last_append}

pub record IsLine (t : List ℕ) : Type 0 where
  pub body : List ℕ
  pub clear : Off 10 body
  pub whole : t ≡ body ++ (10 ∷ [])

-- how many line feeds stand in a text
abbrev pub feeds : List ℕ → ℕ
feeds t = occurrences 10 t

-- a text is empty or its last byte is a line feed
abbrev pub EndsLine : List ℕ → Type 0
EndsLine [] = Unit {0}
EndsLine (x ∷ xs) = last_of x xs ≡ 10

pub feed_ends : (zs : List ℕ) → EndsLine (zs ++ (10 ∷ []))
feed_ends [] = refl
feed_ends (x ∷ zs) = last_append x zs 10 []

-- xs is the text of the first lines, and ys that of the others
pub record Whole {A : Type 0} (text : List A → List ℕ) (ls : List A) (xs ys : List ℕ) : Type 0 where
  pub count : ℕ
  pub few : count ≤ length ls
  pub front : xs ≡ text (take count ls)
  pub behind : ys ≡ text (drop count ls)

pub clear_append : (p t : List ℕ) → Off 10 p → Off 10 t → Off 10 (p ++ t)
clear_append p t = all_append (λ b. b ≡ 10 → ⊥) p t

-- a text without a line feed in front of a line
pub line_behind : (p : List ℕ) {t : List ℕ} → Off 10 p → IsLine t → IsLine (p ++ t)
line_behind p o l =
    record {
      body = p ++ l.body;
      clear = clear_append p l.body o l.clear;
      whole = ap (λ (t : List ℕ). p ++ t) l.whole ∙ sym (append_assoc p l.body (10 ∷ []));
    }

none_off : (w : List ℕ) → Off 10 w → feeds w ≡ 0
none_off [] o = occurs_nil 10
none_off (x ∷ w) o = occurs_past x 10 w o.0 ∙ none_off w o.1

pub one_feed : {t : List ℕ} → IsLine t → feeds t ≡ 1
one_feed l =
    let a = occurs_append 10 l.body (10 ∷ []) in
    let b = occurs_here 10 10 [] refl in
    ap feeds l.whole ∙ omega (arith, a, b, none_off l.body l.clear, occurs_nil 10)

-- a text that ends with a line feed and begins as a line does has the whole line
record Past (w : List ℕ) (r xs ys : List ℕ) : Type 0 where
  rest : List ℕ
  first : xs ≡ w ++ (10 ∷ rest)
  then : rest ++ ys ≡ r
  ends : EndsLine rest

past : (w : List ℕ) → Off 10 w → (r : List ℕ) (x : ℕ) (xs ys : List ℕ) → x ∷ (xs ++ ys) ≡ w ++ (10 ∷ r) → EndsLine (x ∷ xs) → Past w r (x ∷ xs) ys
past [] o r x [] ys e h = record { rest = []; first = ap (λ (b : ℕ). b ∷ []) h; then = tail-eq_of_cons-eq e; ends = tt }
past [] o r x (y ∷ xs) ys e h =
    record { rest = y ∷ xs; first = ap (λ (b : ℕ). b ∷ y ∷ xs) (head-eq_of_cons-eq e); then = tail-eq_of_cons-eq e; ends = h }
past (b ∷ w) o r x [] ys e h = absurd (o.0 (sym (head-eq_of_cons-eq e) ∙ h))
past (b ∷ w) o r x (y ∷ xs) ys e h =
    let p = past w o.1 r y xs ys (tail-eq_of_cons-eq e) h in
    record { rest = p.rest; first = ap₂ (λ (c : ℕ) (l : List ℕ). c ∷ l) (head-eq_of_cons-eq e) p.first; then = p.then; ends = p.ends }

-- THE LAWS for things that are written as lines, one behind the other
module _ {A : Type 0} (write : A → List ℕ) (text : List A → List ℕ) (none : text [] ≡ [])
    (more : (l : A) (ls : List A) → text (l ∷ ls) ≡ write l ++ text ls) where
  pub feeds_written : (ls : List A) → All (λ l. IsLine (write l)) ls → feeds (text ls) ≡ length ls
  feeds_written [] h = ap feeds none ∙ occurs_nil 10
  feeds_written (l ∷ ls) h =
      ap feeds (more l ls) ∙ omega (arith, occurs_append 10 (write l) (text ls), one_feed h.0, feeds_written ls h.1)

  pub whole_written : (ls : List A) → All (λ l. IsLine (write l)) ls → (xs ys : List ℕ) → xs ++ ys ≡ text ls → EndsLine xs → Whole text ls xs ys
  whole_written [] h [] ys e n = record { count = 0; few = omega arith; front = sym none; behind = e }
  whole_written (l ∷ ls) h [] ys e n = record { count = 0; few = omega arith; front = sym none; behind = e }
  whole_written [] h (x ∷ xs) ys e n = absurd (nil≢cons (sym (e ∙ none)))
  whole_written (l ∷ ls) h (x ∷ xs) ys e n =
      let w = h.0.body in
      let split : (us : List ℕ) → write l ++ us ≡ w ++ (10 ∷ us) = λ us. ap (λ (t : List ℕ). t ++ us) h.0.whole ∙ append_snoc w 10 us in
      let p = past w h.0.clear (text ls) x xs ys (e ∙ more l ls ∙ split (text ls)) n in
      let r = whole_written ls h.1 p.rest ys p.then p.ends in
      record {
        count = suc r.count;
        few = let f = r.few in omega (arith, f);
        front = p.first ∙ sym (split p.rest) ∙ ap (λ (t : List ℕ). write l ++ t) r.front ∙ sym (more l (take r.count ls));
        behind = r.behind;
      }
