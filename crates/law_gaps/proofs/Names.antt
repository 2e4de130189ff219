-- WHO NAMES A SEGMENT: the first segment of a queue is named by the queue head and by no view, and no queue names a
-- segment that it does not have. So what is freed when two chains join is named once, and where is known.
use Rattle.std.specs.Prelude.{◌≡◌, refl, List, [], ◌∷◌, ◌++◌, ℕ, ◌+◌, ◌≤◌}
use Rattle.std.proofs.Common.{ap, sym, ◌∙◌, ⊎_elim, arith}
use Rattle.std.proofs.Math.Option.{Option, none, some}
use Rattle.spec_lists.specs.Counting.{one_yes, occurrences, occurs_append, equal?}
use Rattle.spec_lists.specs.Maps.{All, put, put_same, put_other, Off, off, all_front, all_behind}
use Rattle.law_gaps.specs.Line.{End, nonlocal, local, Extent, extent, base, exited, entered, pass, Line, exits, entries, segments, first_chain, Mode, Inside, rest, mid}
use Rattle.law_gaps.specs.Line.{close, Begins, bare, whole, begun, Views, queue, exiting, entering, passing}
use Rattle.law_gaps.specs.Store.{head_of, Memory, Laid}
use Rattle.law_gaps.proofs.Frames.{clash}

-- the segments of the gaps but the first
abbrev pub later_segments : Line → List ℕ
later_segments [] = []
later_segments (base c ∷ l) = later_segments l
later_segments (exited t ∷ l) = later_segments l
later_segments (entered t c ∷ l) = c ++ later_segments l
later_segments (pass x ∷ l) = later_segments l

-- HEADS OF VIEWS. A view inside a gap has no local head; the first view of a gap has the first segment of its chain.
inside_head : {m n : Mode} {v : Extent} (w : Extent) (h x : End) → Inside m v n → w ≡ v → w ≡ extent h x → h ≡ nonlocal
inside_head w h x rest e f = clash w e f
inside_head w h x mid e f = let g : extent nonlocal nonlocal ≡ extent h x = sym e ∙ f in cc
inside_head w h x (close {z = z}) e f = let g : extent nonlocal (local z) ≡ extent h x = sym e ∙ f in cc

begins_head : {c : List ℕ} {n : Mode} {v : Extent} (w : Extent) (g : ℕ) (x : End) → Begins c v n → w ≡ v → w ≡ extent (local g) x → Off g c → ⊥
begins_head w g x bare e f o = clash w e f
begins_head w g x (whole {s = s} {z = z} k) e f o = let i : extent (local s) (local z) ≡ extent (local g) x = sym e ∙ f in o.0 (cc)
begins_head w g x (begun {s = s} k) e f o = let i : extent (local s) nonlocal ≡ extent (local g) x = sym e ∙ f in o.0 (cc)

module _ {children user right : ℕ → Extent} where
  pub children_heads : {l : Line} {m : Mode} → Views children user right l m
      → All (λ t. (h x : End) → children t ≡ extent h x → h ≡ nonlocal) (exits l)
  children_heads (queue e) = tt
  children_heads (exiting {t = t} v e i r) = (λ h x f. inside_head (children t) h x i e f, children_heads r)
  children_heads (entering v w e i f b r) = children_heads r
  children_heads (passing r) = children_heads r

  pub user_heads : {l : Line} {m : Mode} → Views children user right l m → All (λ t. (h x : End) → user t ≡ extent h x → h ≡ nonlocal) (entries l)
  user_heads (queue e) = tt
  user_heads (exiting v e i r) = user_heads r
  user_heads (entering {t = t} v w e i f b r) = (λ h x g. inside_head (user t) h x i e g, user_heads r)
  user_heads (passing r) = user_heads r

  pub right_heads : {l : Line} {m : Mode} (g : ℕ) → Views children user right l m → Off g (later_segments l)
      → All (λ t. (x : End) → right t ≡ extent (local g) x → ⊥) (entries l)
  right_heads g (queue e) o = tt
  right_heads g (exiting v e i r) o = right_heads g r o
  right_heads g (entering {t = t} {c = c} {l = l} v w e i f b r) o = (
    λ x k. begins_head (right t) g x b f k (all_front (λ y. y ≡ g → ⊥) c (later_segments l) o),
    right_heads g r (all_behind (λ y. y ≡ g → ⊥) c (later_segments l) o),
  )
  right_heads g (passing r) o = right_heads g r o

  -- A USER VIEW that is not vacant has a local tail.
  pub user_local : {l : Line} {m : Mode} → Views children user right l m
      → All (λ t. (h x : End) → user t ≡ extent h x → (z : ℕ) × (x ≡ local z)) (entries l)
  user_local (queue e) = tt
  user_local (exiting v e i r) = user_local r
  user_local (entering {t = t} v w e rest f b r) = (λ h x g. clash (user t) e g, user_local r)
  user_local (entering {t = t} v w e (close {z = z}) f b r) =
      (λ h x g. let i : extent nonlocal (local z) ≡ extent h x = sym e ∙ g in (z, cc), user_local r)
  user_local (passing r) = user_local r

  pub count_parts : {l : Line} {m : Mode} (x : ℕ) → Views children user right l m
      → occurrences x (segments l) ≡ occurrences x (first_chain l) + occurrences x (later_segments l)
  unfolding occurrences
  count_parts x (queue {s = s} {c = c} e) = omega (arith, occurs_append x c [])
  count_parts x (exiting v e i r) = count_parts x r
  count_parts x (entering {c = c} {l = l} v w e i f b r) =
      omega (arith, count_parts x r, occurs_append x c (segments l), occurs_append x c (later_segments l))
  count_parts x (passing r) = count_parts x r

-- THE FIRST SEGMENT g: the holder's queue head names it; no view of the line does.
pub record OnlyHead (m : Memory) (holder : ℕ) (l : Line) (g : ℕ) : Type 0 where
  pub head_names : m.store.heads holder ≡ some g
  pub no_children : All (λ t. (h x : End) → m.children t ≡ extent h x → h ≡ nonlocal) (exits l)
  pub no_user : All (λ t. (h x : End) → m.user t ≡ extent h x → h ≡ nonlocal) (entries l)
  pub no_right : All (λ t. (x : End) → m.right t ≡ extent (local g) x → ⊥) (entries l)

pub only_head : (own : ℕ → ℕ) → ((x : ℕ) → own x ≤ 1) → (m : Memory) (holder : ℕ) (l : Line) (g : ℕ) (c : List ℕ) → Laid own m holder l
    → first_chain l ≡ g ∷ c
    → OnlyHead m holder l g
unfolding occurrences
only_head own single m holder l g c r e = record {
  head_names = r.held.head holder ∙ (put_same (λ y. none) holder (head_of (first_chain l)) ∙ ap head_of e);
  no_children = children_heads r.views;
  no_user = user_heads r.views;
  no_right = right_heads g r.views later;
}
  where
    total : occurrences g (g ∷ c) + occurrences g (later_segments l) ≤ 1
    total = omega (arith, r.held.chains.once g, single g, count_parts g r.views, ap (occurrences g) e)

    later : Off g (later_segments l)
    later = off g (later_segments l) (omega (arith, total, one_yes g g refl))

-- A SEGMENT g THAT A QUEUE DOES NOT HAVE: neither a queue head nor a view names it.
pub record Unnamed (m : Memory) (l : Line) (g : ℕ) : Type 0 where
  pub no_head : (x : ℕ) → m.store.heads x ≡ some g → ⊥
  pub no_children : All (λ t. (h x : End) → m.children t ≡ extent h x → h ≡ nonlocal) (exits l)
  pub no_user : All (λ t. (h x : End) → m.user t ≡ extent h x → h ≡ nonlocal) (entries l)
  pub no_right : All (λ t. (x : End) → m.right t ≡ extent (local g) x → ⊥) (entries l)

-- the head of a first chain without g is not g
other_head : (heads : ℕ → Option ℕ) (holder g : ℕ) (c : List ℕ) (x : ℕ) → Off g c → heads x ≡ put (λ y. none) holder (head_of c) x → heads x ≡ some g
    → ⊥
other_head heads holder g c x o h e = ⊎_elim held others (equal? x holder)
  where
    named : (c : List ℕ) → Off g c → head_of c ≡ some g → ⊥
    named [] o e = let z : ◌≡◌ {A = ℕ} 0 1 = cc in omega (arith, z)
    named (s ∷ c) o e = o.0 (cc)

    held : x ≡ holder → ⊥
    held q = named c o (sym (ap (put (λ y. none) holder (head_of c)) q ∙ put_same (λ y. none) holder (head_of c)) ∙ (sym h ∙ e))

    others : (x ≡ holder → ⊥) → ⊥
    others n = named [] tt (sym (put_other (λ y. none) holder (head_of c) x n) ∙ (sym h ∙ e))

-- a first chain that is not empty, as every line has
pub first_chain_lem : {children user right : ℕ → Extent} {m : Mode} {l : Line} → Views children user right l m
    → (s : ℕ) × (c : List ℕ) × (first_chain l ≡ s ∷ c)
first_chain_lem (queue {s = s} {c = c} e) = (s, c, refl)
first_chain_lem (exiting v e i r) = first_chain_lem r
first_chain_lem (entering v w e i f b r) = first_chain_lem r
first_chain_lem (passing r) = first_chain_lem r

pub unnamed : (own : ℕ → ℕ) (m : Memory) (holder : ℕ) (l : Line) (g : ℕ) → Laid own m holder l → occurrences g (segments l) ≡ 0 → Unnamed m l g
unnamed own m holder l g r n = record {
  no_head = λ x e. other_head m.store.heads holder g (first_chain l) x first (r.held.head x) e;
  no_children = children_heads r.views;
  no_user = user_heads r.views;
  no_right = right_heads g r.views later;
}
  where
    first : Off g (first_chain l)
    first = off g (first_chain l) (omega (arith, n, count_parts g r.views))

    later : Off g (later_segments l)
    later = off g (later_segments l) (omega (arith, n, count_parts g r.views))
