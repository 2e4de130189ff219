-- THE CHAINS OF THE GAPS: what a change of other segments leaves alone, and a chain that is put behind another.
use Rattle.std.specs.Prelude.{◌≡◌, refl, List, [], ◌∷◌, ◌++◌, ℕ, ◌+◌, ◌≤◌, eqb}
use Rattle.std.proofs.Common.{◌∙◌, arith}
use Rattle.std.proofs.Math.Option.{Option}
use Rattle.spec_lists.specs.Counting.{one, occurrences, occurs_append}
use Rattle.spec_lists.specs.Maps.{All, Agree, all_front, all_behind}
use Rattle.law_gaps.specs.Line.{base, exited, entered, pass, Line, segments, first_chain}
use Rattle.law_gaps.specs.Store.{LinkedFrom, Linked, Filled, Start, sole, full, Chain}
use Rattle.law_gaps.specs.Places.{grow}

-- WHAT IS NOT WRITTEN IS CARRIED

pub linked_keep : (next next' : ℕ → Option ℕ) (s : ℕ) (c : List ℕ) → Agree next next' (s ∷ c) → LinkedFrom next s c → LinkedFrom next' s c
linked_keep next next' s [] e h = e.0 ∙ h
linked_keep next next' s (t ∷ c) e h = (e.0 ∙ h.0, linked_keep next next' t c e.1 h.1)

chain_linked : (next next' : ℕ → Option ℕ) (c : List ℕ) → Agree next next' c → Linked next c → Linked next' c
chain_linked next next' [] e h = tt
chain_linked next next' (s ∷ c) e h = linked_keep next next' s c e h

pub filled_keep : (contents contents' : ℕ → List ℕ) (c : List ℕ) → Agree contents contents' c → All (Filled contents) c → All (Filled contents') c
filled_keep contents contents' [] e h = tt
filled_keep contents contents' (s ∷ c) e h = ((h.0.0, h.0.1, e.0 ∙ h.0.2), filled_keep contents contents' c e.1 h.1)

start_keep : (contents contents' : ℕ → List ℕ) (c : List ℕ) → Agree contents contents' c → Start contents c → Start contents' c
start_keep contents contents' c e (sole h) = sole (e.0 ∙ h)
start_keep contents contents' c e (full {s = s} {c = d} h) = full (filled_keep contents contents' (s ∷ d) e h)

module _ (next next' : ℕ → Option ℕ) (contents contents' : ℕ → List ℕ) where
  pub chain_keep : (l : Line) → Agree next next' (segments l) → Agree contents contents' (segments l) → All (Chain next contents) l
      → All (Chain next' contents') l
  chain_keep [] e f h = tt
  chain_keep (base c ∷ l) e f h = (
    (chain_linked next next' c (all_front _ c (segments l) e) h.0.0, start_keep contents contents' c (all_front _ c (segments l) f) h.0.1),
    chain_keep l (all_behind _ c (segments l) e) (all_behind _ c (segments l) f) h.1,
  )
  chain_keep (exited t ∷ l) e f h = (tt, chain_keep l e f h.1)
  chain_keep (entered t c ∷ l) e f h = (
    (chain_linked next next' c (all_front _ c (segments l) e) h.0.0, filled_keep contents contents' c (all_front _ c (segments l) f) h.0.1),
    chain_keep l (all_behind _ c (segments l) e) (all_behind _ c (segments l) f) h.1,
  )
  chain_keep (pass x ∷ l) e f h = (tt, chain_keep l e f h.1)

-- THE LATEST GAP OF A LINE: it has the chain p ∷ r; it has none; its chain is one segment of the first gap.
pub data Gap : Line → ℕ → List ℕ → Type 0 where
  at_base : {p : ℕ} {r : List ℕ} {l : Line} → Gap (base (p ∷ r) ∷ l) p r
  at_entered : {t p : ℕ} {r : List ℕ} {l : Line} → Gap (entered t (p ∷ r) ∷ l) p r
  on_exited : {t p : ℕ} {r : List ℕ} {l : Line} → Gap l p r → Gap (exited t ∷ l) p r
  on_pass : {x p : ℕ} {r : List ℕ} {l : Line} → Gap l p r → Gap (pass x ∷ l) p r

pub data NoGap : Line → Type 0 where
  at_entered : {t : ℕ} {l : Line} → NoGap (entered t [] ∷ l)
  on_exited : {t : ℕ} {l : Line} → NoGap l → NoGap (exited t ∷ l)
  on_pass : {x : ℕ} {l : Line} → NoGap l → NoGap (pass x ∷ l)

pub data Sole : Line → ℕ → Type 0 where
  at_base : {p : ℕ} {l : Line} → Sole (base (p ∷ []) ∷ l) p
  on_exited : {t p : ℕ} {l : Line} → Sole l p → Sole (exited t ∷ l) p
  on_pass : {x p : ℕ} {l : Line} → Sole l p → Sole (pass x ∷ l) p

-- a segment that is alone is the first
pub sole_first : {a : Line} {p : ℕ} → Sole a p → first_chain a ≡ p ∷ []
sole_first Sole.at_base = refl
sole_first (Sole.on_exited g) = sole_first g
sole_first (Sole.on_pass g) = sole_first g

-- how often a segment stands in a line whose latest gap grows by c
pub count_link : {a : Line} {p : ℕ} {r : List ℕ} (x : ℕ) (c : List ℕ) → Gap a p r
    → occurrences x (segments (grow a c (p ∷ (r ++ c)))) ≡ occurrences x (segments a) + occurrences x c
unfolding occurrences
count_link {r = r} x c (Gap.at_base {l = l}) = omega (arith, occurs_append x (r ++ c) (segments l), occurs_append x r c, occurs_append x r (segments l))
count_link {r = r} x c (Gap.at_entered {l = l}) = omega (arith, occurs_append x (r ++ c) (segments l), occurs_append x r c, occurs_append x r (segments l))
count_link x c (Gap.on_exited g) = count_link x c g
count_link x c (Gap.on_pass g) = count_link x c g

pub count_bare : {a : Line} (x : ℕ) (c d : List ℕ) → NoGap a → occurrences x (segments (grow a c d)) ≡ occurrences x (segments a) + occurrences x c
count_bare x c d (NoGap.at_entered {l = l}) = omega (arith, occurs_append x c (segments l))
count_bare x c d (NoGap.on_exited g) = count_bare x c d g
count_bare x c d (NoGap.on_pass g) = count_bare x c d g

pub count_sole : {a : Line} {p : ℕ} (x : ℕ) (c : List ℕ) → Sole a p
    → occurrences x (segments (grow a c c)) + one (eqb p x) ≡ occurrences x (segments a) + occurrences x c
unfolding occurrences
count_sole x c (Sole.at_base {l = l}) = omega (arith, occurs_append x c (segments l))
count_sole x c (Sole.on_exited g) = count_sole x c g
count_sole x c (Sole.on_pass g) = count_sole x c g

pub count_gap : {a : Line} {p : ℕ} {r : List ℕ} (x : ℕ) → Gap a p r → occurrences x (p ∷ r) ≤ occurrences x (segments a)
unfolding occurrences
count_gap {r = r} x (Gap.at_base {l = l}) = omega (arith, occurs_append x r (segments l))
count_gap {r = r} x (Gap.at_entered {l = l}) = omega (arith, occurs_append x r (segments l))
count_gap x (Gap.on_exited g) = count_gap x g
count_gap x (Gap.on_pass g) = count_gap x g
