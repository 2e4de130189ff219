-- SEVERAL QUEUES SHARE THE SEGMENTS: a call on one of them leaves the others alone and keeps the law of all segments.
use Rattle.std.specs.Prelude.{◌≡◌, refl, ℕ, ◌+◌, ◌≤◌}
use Rattle.std.proofs.Math.Option.{Option}
use mathlib.Core.List.{List, [], ◌∷◌, ◌++◌}
use Rattle.std.proofs.Common.{arith}
use Rattle.spec_lists.specs.Counting.{one_yes, occurrences, occurs_append}
use Rattle.spec_lists.specs.Maps.{All, Agree, all_append, all_front, all_behind}
use Rattle.law_gaps.specs.Line.{Extent, Line, segments}
use Rattle.law_gaps.specs.Store.{Store, Chain, Segments, Memory, Laid, timeline}
use Rattle.law_gaps.proofs.Chains.{chain_keep}
use Rattle.law_gaps.proofs.Timelines.{timeline_keep}
use Rattle.law_gaps.proofs.Stores.{Kept}

-- ANOTHER QUEUE, whose segments are not of those that the call may use
kept_agree : (own : ℕ → ℕ) (st st' : Store) (c : List ℕ) → Kept own st st' → All (λ x. own x ≡ 0) c
    → Agree st.next st'.next c × Agree st.contents st'.contents c
kept_agree own st st' [] k h = (tt, tt)
kept_agree own st st' (x ∷ c) k h =
    let r = kept_agree own st st' c k h.1 in
    (((k x h.0).0, r.0), ((k x h.0).1, r.1))

pub other_chains : (own : ℕ → ℕ) (st st' : Store) (l : Line) → Kept own st st' → All (λ x. own x ≡ 0) (segments l)
    → All (Chain st.next st.contents) l
    → All (Chain st'.next st'.contents) l × (timeline st'.contents l ≡ timeline st.contents l)
other_chains own st st' l k h g =
    let e = kept_agree own st st' (segments l) k h in
    (chain_keep st.next st'.next st.contents st'.contents l e.0 e.1 g, timeline_keep st.contents st'.contents l e.1)

-- the store with the queue heads of another queue
abbrev pub with_heads : (ℕ → Option ℕ) → Store → Store
with_heads heads st = record { next = st.next; contents = st.contents; heads = heads; free = st.free }

-- The invariant of another queue, after a call that had own₁ to use and took the store from st to st'.
pub other_queue : (own₁ own₂ own₂' : ℕ → ℕ) (children user right : ℕ → Extent) (heads : ℕ → Option ℕ) (st st' : Store) (holder : ℕ) (l : Line)
    → Kept own₁ st st' → All (λ x. own₁ x ≡ 0) (segments l) → ((x : ℕ) → occurrences x (segments l) + occurrences x st'.free ≡ own₂' x)
    → Laid own₂ (record { children = children; user = user; right = right; store = with_heads heads st }) holder l
    → Laid own₂' (record { children = children; user = user; right = right; store = with_heads heads st' }) holder l
    × (timeline st'.contents l ≡ timeline st.contents l)
other_queue own₁ own₂ own₂' children user right heads st st' holder l k a o r =
    let e = other_chains own₁ st st' l k a r.held.chains.good in (
      record { views = r.views; dist = r.dist; held = record { chains = record { good = e.0; once = o }; head = r.held.head }; closed = r.closed },
      e.1,
    )

-- THE POOL: each segment below the number opened with (own x is 1) stands once, in one chain of one queue or among the free.
abbrev pub all_segments : List Line → List ℕ
all_segments [] = []
all_segments (l ∷ ls) = segments l ++ all_segments ls

count_all : (x : ℕ) (a b : List Line) → occurrences x (all_segments (a ++ b)) ≡ occurrences x (all_segments a) + occurrences x (all_segments b)
unfolding occurrences
count_all x [] b = omega arith
count_all x (l ∷ a) b =
    omega (arith, count_all x a b, occurs_append x (segments l) (all_segments (a ++ b)), occurs_append x (segments l) (all_segments a))

abbrev pub ChainsIn : Store → Line → Type 0
ChainsIn st l = All (Chain st.next st.contents) l

pub record Pool (own : ℕ → ℕ) (st : Store) (ls : List Line) : Type 0 where
  pub chains : All (ChainsIn st) ls
  pub total : (x : ℕ) → occurrences x (all_segments ls) + occurrences x st.free ≡ own x

-- what a call on the queue with the line l may use: its own segments and the free ones
abbrev pub mine : Store → Line → ℕ → ℕ
mine st l x = occurrences x (segments l) + occurrences x st.free

-- an invariant with any measure of what may be used is one with this
pub laid_mine : {own : ℕ → ℕ} {m : Memory} {holder : ℕ} {l : Line} → Laid own m holder l → Laid (mine m.store l) m holder l
laid_mine r = record {
  views = r.views;
  dist = r.dist;
  held = record { chains = record { good = r.held.chains.good; once = λ x. refl }; head = r.held.head };
  closed = r.closed;
}

module _ (own : ℕ → ℕ) (single : (x : ℕ) → own x ≤ 1) (st : Store) (a : List Line) (l : Line) (b : List Line) (h : Pool own st (a ++ (l ∷ b))) where
  sum : (x : ℕ) → occurrences x (all_segments a) + (occurrences x (segments l) + occurrences x (all_segments b)) + occurrences x st.free ≡ own x
  sum x = omega (arith, h.total x, count_all x a (l ∷ b), occurs_append x (segments l) (all_segments b))

  not_mine : (c : List ℕ) → ((x : ℕ) → occurrences x c ≤ occurrences x (all_segments a) + occurrences x (all_segments b)) → All (λ x. mine st l x ≡ 0) c
  unfolding occurrences
  not_mine c k = go c (λ x p. omega (arith, sum x, single x, k x, p))
    where
      go : (d : List ℕ) → ((x : ℕ) → 1 ≤ occurrences x d → mine st l x ≡ 0) → All (λ x. mine st l x ≡ 0) d
      go [] k = tt
      go (x ∷ d) k = (k x (omega (arith, one_yes x x refl)), go d (λ y p. k y (omega (arith, p))))

  -- the segments of another queue are not this one's to use
  others_apart : (ls : List Line) → ((x : ℕ) → occurrences x (all_segments ls) ≤ occurrences x (all_segments a) + occurrences x (all_segments b))
      → All (λ o. All (λ x. mine st l x ≡ 0) (segments o)) ls
  others_apart [] n = tt
  others_apart (o ∷ ls) n = (
    not_mine (segments o) (λ x. omega (arith, n x, occurs_append x (segments o) (all_segments ls))),
    others_apart ls (λ x. omega (arith, n x, occurs_append x (segments o) (all_segments ls))),
  )

  pub before_apart : All (λ o. All (λ x. mine st l x ≡ 0) (segments o)) a
  before_apart = others_apart a (λ x. omega arith)

  pub behind_apart : All (λ o. All (λ x. mine st l x ≡ 0) (segments o)) b
  behind_apart = others_apart b (λ x. omega arith)

  others : (st' : Store) → Kept (mine st l) st st' → (ls : List Line) → All (λ o. All (λ x. mine st l x ≡ 0) (segments o)) ls
      → All (ChainsIn st) ls → All (ChainsIn st') ls
  others st' k [] n g = tt
  others st' k (o ∷ ls) n g = ((other_chains (mine st l) st st' o k n.0 g.0).0, others st' k ls n.1 g.1)

  -- A call on the queue with the line l took the line to l' and the store to st'.
  pub pool_row : (st' : Store) (l' : Line) → Kept (mine st l) st st' → Segments (mine st l) st'.next st'.contents st'.free l'
      → Pool own st' (a ++ (l' ∷ b))
  pool_row st' l' k g = record {
    chains = all_append (ChainsIn st') a (l' ∷ b)
        (others st' k a before_apart (all_front (ChainsIn st) a (l ∷ b) h.chains))
        (g.good, others st' k b behind_apart (all_behind (ChainsIn st) a (l ∷ b) h.chains).1);
    total = λ x. omega (arith, sum x, g.once x, count_all x a (l' ∷ b), occurs_append x (segments l') (all_segments b));
  }
