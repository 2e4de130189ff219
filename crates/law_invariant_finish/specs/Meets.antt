-- TWO VIEWS THAT ARE REDUCED: which ends may meet, and what follows for the words.
use Rattle.std.specs.Prelude.{◌≡◌, refl, true, not, List, ℕ}
use Rattle.std.proofs.Common.{ap, subst, arith, ne_eqb}
use Rattle.spec_layout.specs.Layout.{NONE}
use Rattle.law_gaps.specs.Line.{End, nonlocal, local, Extent, vacant, extent}
use Rattle.law_gaps.specs.Store.{Store}
use Rattle.law_gaps.specs.Moves.{reduced, joined}
use Rattle.law_maps.specs.Extents.{reduces}
use Rattle.law_maps.specs.Links.{Linkable}
use Rattle.law_maps.specs.Reduce.{Links, Tailed}

-- One view is vacant, or both ends are non-local, or P holds of the two segments.
abbrev pub Meets : (ℕ → ℕ → Type 0) → Extent → Extent → Type 0
Meets P vacant b = Unit {0}
Meets P (extent h x) vacant = Unit {0}
Meets P (extent h nonlocal) (extent nonlocal y) = Unit {0}
Meets P (extent h nonlocal) (extent (local t) y) = ⊥
Meets P (extent h (local s)) (extent nonlocal y) = ⊥
Meets P (extent h (local s)) (extent (local t) y) = P s t

-- P holds of a local tail
abbrev pub Tails : (ℕ → Type 0) → Extent → Type 0
Tails P vacant = Unit {0}
Tails P (extent h nonlocal) = Unit {0}
Tails P (extent h (local s)) = P s

-- the head is not local
abbrev pub Headless : Extent → Type 0
Headless vacant = Unit {0}
Headless (extent nonlocal y) = Unit {0}
Headless (extent (local s) y) = ⊥

pub meets_vacant : (P : ℕ → ℕ → Type 0) (a : Extent) → Meets P a vacant
meets_vacant P vacant = tt
meets_vacant P (extent h x) = tt

-- the paper has the reduction
pub meets_reduces : (P : ℕ → ℕ → Type 0) → ((s t : ℕ) → P s t → s ≡ t → ⊥) → (a b : Extent) → Meets P a b → reduces a b ≡ true
meets_reduces P n vacant b h = refl
meets_reduces P n (extent e x) vacant h = refl
meets_reduces P n (extent e nonlocal) (extent nonlocal y) h = refl
meets_reduces P n (extent e nonlocal) (extent (local t) y) h = absurd h
meets_reduces P n (extent e (local s)) (extent nonlocal y) h = absurd h
meets_reduces P n (extent e (local s)) (extent (local t) y) h = ap not (ne_eqb s t (n s t h))

-- what the link needs
pub meets_links : (P : ℕ → ℕ → Type 0) (m : List ℕ) (q holder : ℕ) → ((s t : ℕ) → P s t → Linkable m q holder s t) → (a b : Extent) → Meets P a b
    → Links m q holder a b
meets_links P m q holder f vacant b h = tt
meets_links P m q holder f (extent e nonlocal) vacant h = tt
meets_links P m q holder f (extent e (local s)) vacant h = tt
meets_links P m q holder f (extent e nonlocal) (extent nonlocal y) h = tt
meets_links P m q holder f (extent e nonlocal) (extent (local t) y) h = absurd h
meets_links P m q holder f (extent e (local s)) (extent nonlocal y) h = absurd h
meets_links P m q holder f (extent e (local s)) (extent (local t) y) h = f s t h

-- no two segments meet, so none are linked
abbrev pub Apart : Extent → Extent → Type 0
Apart a b = Meets (λ s t. ⊥) a b

pub apart_joined : (holder : ℕ) (a b : Extent) (st : Store) → Apart a b → joined holder a b st ≡ st
apart_joined holder vacant b st h = refl
apart_joined holder (extent e nonlocal) vacant st h = refl
apart_joined holder (extent e (local s)) vacant st h = refl
apart_joined holder (extent e nonlocal) (extent nonlocal y) st h = refl
apart_joined holder (extent e nonlocal) (extent (local t) y) st h = absurd h
apart_joined holder (extent e (local s)) (extent nonlocal y) st h = absurd h
apart_joined holder (extent e (local s)) (extent (local t) y) st h = absurd h

pub tails_tailed : (P : ℕ → Type 0) → ((s : ℕ) → P s → s ≡ NONE → ⊥) → (v : Extent) → Tails P v → Tailed v
tails_tailed P f vacant h = tt
tails_tailed P f (extent e nonlocal) h = tt
tails_tailed P f (extent e (local s)) h = f s h

pub tails_reduced : (P : ℕ → Type 0) (v w : Extent) → Tails P v → Tails P w → Tails P (reduced v w)
tails_reduced P vacant w h k = k
tails_reduced P (extent e x) vacant h k = h
tails_reduced P (extent e x) (extent f nonlocal) h k = tt
tails_reduced P (extent e x) (extent f (local s)) h k = k

-- a view whose head is not local does not begin with g
pub headless_not : (v : Extent) → Headless v → (g : ℕ) (y : End) → v ≡ extent (local g) y → ⊥
headless_not v h g y e = subst Headless e h

pub vacant_not : (g : ℕ) (y : End) → vacant ≡ extent (local g) y → ⊥
vacant_not g y e = let z : ◌≡◌ {A = ℕ} 0 1 = cc in omega (arith, z)
