-- The chains of a line in memory: the memory test follows them from their first segments to their last ones, and a segment
-- with a next holds a value.
use Rattle.std.specs.Prelude.{◌≡◌, ◌⊎◌, ℕ, zero, suc, ◌+◌, ◌<◌, ◌≤◌, eqb}
use Rattle.std.proofs.Math.Path.{refl, ap}
use Rattle.std.proofs.Common.{sym, ◌∙◌, inl, inr, arith}
use Rattle.std.proofs.Math.Option.{none, some, some-injective}
use mathlib.Core.List.{List, [], ◌∷◌, ◌++◌}
use Rattle.std.proofs.Math.ListN.{length, length-append}
use Rattle.spec_lists.specs.Counting.{one, occurrences, over, occurs_cons, occurs_append}
use Rattle.spec_layout.specs.Layout.{NONE, next, read}
use Rattle.spec_rules.specs.Contents.{Contents, decode, part, part_word}
use Rattle.spec_rules.specs.Test.{chain}
use Rattle.law_rules_segments.specs.Chains.{chain_last, chain_more}
use Rattle.spec_lists.specs.Maps.{All, last_of, all_front, all_behind, all_append, all_map}
use Rattle.law_gaps.specs.Line.{base, exited, entered, pass as past, Line, segments}
use Rattle.law_gaps.specs.Store.{LinkedFrom, Linked, Filled, Start, sole, full, Chain}
use Rattle.law_maps.specs.Meaning.{next_in, contents_in}
use Rattle.law_maps.specs.Reads.{next_at}
use Rattle.law_maps.specs.Ring.{count_length}
use Rattle.law_maps.specs.Free.{none_word, some_word, optional_some}
use Rattle.law_invariant_rules.specs.Ends.{with_first, with_last, firsts, lasts, ends_of}

-- a segment that has a record in the layout
abbrev pub InTable : ℕ → Type 0
InTable s = s < 256

module _ (m : List ℕ) where
  abbrev c : Contents
  c = decode m

  -- WORDS OF A RECORD
  pub next_none : (s : ℕ) → InTable s → next_in m s ≡ none → part c s 2 ≡ NONE
  next_none s l e = part_word m s 2 ∙ none_word _ (sym (next_at m s l) ∙ e)

  next_some : (s t : ℕ) → InTable s → next_in m s ≡ some t → (part c s 2 ≡ t) × (part c s 2 ≡ NONE → ⊥)
  next_some s t l e =
      let f = sym (next_at m s l) ∙ e in
      let n = some_word (read m (next s)) t f in
      (part_word m s 2 ∙ some-injective _ _ (sym (optional_some (read m (next s)) n) ∙ f), λ z. n (sym (part_word m s 2) ∙ z))

  -- a segment without a next, or with a value
  abbrev pub EndOrFilled : ℕ → Type 0
  EndOrFilled s = (next_in m s ≡ none) ⊎ Filled (contents_in m) s

  pub filled_word : (s : ℕ) → InTable s → EndOrFilled s → (part c s 2 ≡ NONE → ⊥) → part c s 1 ≡ 0 → ⊥
  filled_word s l (inl e) n z = n (next_none s l e)
  filled_word s l (inr w) n z =
      let a = part_word m s 1 in
      let b = count_length m s l in
      let d : length (contents_in m s) ≡ suc (length w.1) = ap length w.2 in
      omega (arith, a, b, d, z)

  -- ONE CHAIN
  chain_is : (k s : ℕ) (d : List ℕ) → LinkedFrom (next_in m) s d → All InTable (s ∷ d) → length (s ∷ d) ≤ k → chain c k s ≡ s ∷ d
  chain_is zero s d h b l = let z : ⊥ = omega (arith, l) in absurd z
  chain_is (suc k) s [] h b l = chain_last c k s (next_none s b.0 h)
  chain_is (suc k) s (t ∷ d) h b l =
      let w = next_some s t b.0 h.0 in
      chain_more c k s w.1
      ∙ ap (λ (x : ℕ). s ∷ chain c k x) w.0
      ∙ ap (λ (r : List ℕ). s ∷ r) (chain_is k t d h.1 b.1 (omega (arith, l)))

  last_none : (s : ℕ) (d : List ℕ) → LinkedFrom (next_in m) s d → next_in m (last_of s d) ≡ none
  last_none s [] h = h
  last_none s (t ∷ d) h = last_none t d h.1

  -- ALL CHAINS OF A LINE end
  one_end : (d e : List ℕ) → Linked (next_in m) d → All (λ x. next_in m x ≡ none) e → All (λ x. next_in m x ≡ none) (with_last d e)
  one_end [] e h k = k
  one_end (s ∷ d) e h k = (last_none s d h, k)

  pub line_ends : (l : Line) → All (Chain (next_in m) (contents_in m)) l → All (λ x. next_in m x ≡ none) (lasts l)
  line_ends [] h = tt
  line_ends (base d ∷ l) h = one_end d (lasts l) h.0.0 (line_ends l h.1)
  line_ends (exited t ∷ l) h = line_ends l h.1
  line_ends (entered t d ∷ l) h = one_end d (lasts l) h.0.0 (line_ends l h.1)
  line_ends (past x ∷ l) h = line_ends l h.1

  -- and hold values
  start_filled : (d : List ℕ) → Linked (next_in m) d → Start (contents_in m) d → All EndOrFilled d
  start_filled d h (sole e) = (inl h, tt)
  start_filled d h (full {s = s} {c = f} k) = all_map (Filled (contents_in m)) EndOrFilled (s ∷ f) (λ x w. inr w) k

  pub line_filled : (l : Line) → All (Chain (next_in m) (contents_in m)) l → All EndOrFilled (segments l)
  line_filled [] h = tt
  line_filled (base d ∷ l) h = all_append EndOrFilled d (segments l) (start_filled d h.0.0 h.0.1) (line_filled l h.1)
  line_filled (exited t ∷ l) h = line_filled l h.1
  line_filled (entered t d ∷ l) h =
      all_append EndOrFilled d (segments l) (all_map (Filled (contents_in m)) EndOrFilled d (λ x w. inr w) h.0.1) (line_filled l h.1)
  line_filled (past x ∷ l) h = line_filled l h.1

  -- THE TEST FOLLOWS THEM, where none is longer than k
  module _ (s k : ℕ) where
    abbrev followed : ℕ → ℕ
    followed h = occurrences s (chain c k h)

    one_chain : (d f e : List ℕ) → Linked (next_in m) d → All InTable (d ++ e) → length (d ++ e) ≤ k
        → (All InTable e → length e ≤ k → over f followed ≡ occurrences s e) → over (with_first d f) followed ≡ occurrences s (d ++ e)
    unfolding over
    one_chain [] f e h b l ih = ih b l
    one_chain (x ∷ d) f e h b l ih =
        let n : length (d ++ e) ≡ length d + length e = length-append d e in
        let a = ih (all_behind InTable (x ∷ d) e b) (omega (arith, n, l)) in
        let g = ap (occurrences s) (chain_is k x d h (all_front InTable (x ∷ d) e b) (omega (arith, n, l))) in
        let i = occurs_append s (x ∷ d) e in
        omega (arith, a, g, i)

    pub line_chains : (l : Line) → All (Chain (next_in m) (contents_in m)) l → All InTable (segments l) → length (segments l) ≤ k
        → over (firsts l) followed ≡ occurrences s (segments l)
    unfolding over occurrences
    line_chains [] h b n = refl
    line_chains (base d ∷ l) h b n = one_chain d (firsts l) (segments l) h.0.0 b n (line_chains l h.1)
    line_chains (exited t ∷ l) h b n = line_chains l h.1 b n
    line_chains (entered t d ∷ l) h b n = one_chain d (firsts l) (segments l) h.0.0 b n (line_chains l h.1)
    line_chains (past x ∷ l) h b n = line_chains l h.1 b n

-- FIRSTS AND LASTS are segments of the line
module _ (s : ℕ) where
  last_count : (x : ℕ) (d : List ℕ) → one (eqb (last_of x d) s) ≤ occurrences s (x ∷ d)
  last_count x [] = let a = occurs_cons x s [] in omega (arith, a)
  last_count x (t ∷ d) = let a = occurs_cons x s (t ∷ d) in let b = last_count t d in omega (arith, a, b)

  one_first : (d f e : List ℕ) → occurrences s f ≤ occurrences s e → occurrences s (with_first d f) ≤ occurrences s (d ++ e)
  one_first [] f e h = h
  one_first (x ∷ d) f e h =
      let a = occurs_cons x s f in
      let b = occurs_append s (x ∷ d) e in
      let i = occurs_cons x s d in
      omega (arith, a, b, i, h)

  one_last : (d f e : List ℕ) → occurrences s f ≤ occurrences s e → occurrences s (with_last d f) ≤ occurrences s (d ++ e)
  one_last [] f e h = h
  one_last (x ∷ d) f e h =
      let a = occurs_cons (last_of x d) s f in
      let b = occurs_append s (x ∷ d) e in
      let i = last_count x d in
      omega (arith, a, b, i, h)

  -- ends of chains that are segments of their chains
  ends_held : (f : List ℕ → List ℕ → List ℕ) → ((d l e : List ℕ) → occurrences s l ≤ occurrences s e → occurrences s (f d l) ≤ occurrences s (d ++ e))
      → (l : Line) → occurrences s (ends_of f l) ≤ occurrences s (segments l)
  ends_held f h [] = omega arith
  ends_held f h (base d ∷ l) = h d (ends_of f l) (segments l) (ends_held f h l)
  ends_held f h (exited t ∷ l) = ends_held f h l
  ends_held f h (entered t d ∷ l) = h d (ends_of f l) (segments l) (ends_held f h l)
  ends_held f h (past x ∷ l) = ends_held f h l

  pub firsts_held : (l : Line) → occurrences s (firsts l) ≤ occurrences s (segments l)
  firsts_held = ends_held with_first one_first

  pub lasts_held : (l : Line) → occurrences s (lasts l) ≤ occurrences s (segments l)
  lasts_held = ends_held with_last one_last
