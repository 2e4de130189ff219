-- THE REDUCTIONS OF A SYNC AND OF A FINISH along the line of a queue: all are among those that the paper has, and where two
-- segments are linked, the first is empty only if it is alone in the first gap.
use Rattle.std.specs.Prelude.{◌≡◌, refl, List, [], ◌∷◌, ◌++◌, ℕ, ◌+◌, ◌<◌, ◌≤◌}
use Rattle.std.proofs.Common.{ap, sym, ◌∙◌, subst, arith}
use Rattle.spec_lists.specs.Counting.{occurrences, occurs_append, occurs_here}
use Rattle.spec_lists.specs.Maps.{last_of, last_in, all_behind}
use Rattle.law_gaps.specs.Line.{End, nonlocal, local, Extent, extent, exited, entered, Line, segments, first_chain, Mode, settled, awaiting, Inside, rest, mid, close}
use Rattle.law_gaps.specs.Line.{Begins, bare, whole, begun, Views, exiting, entering, passing}
use Rattle.law_gaps.specs.Store.{Chain, Memory, Laid}
use Rattle.law_gaps.specs.Lines.{count_segments, first_behind}
use Rattle.law_gaps.proofs.Frames.{split, no_base}
use Rattle.law_gaps.specs.Moves.{Place, children_of, right_of, view_at, reduced, returned}
use Rattle.law_gaps.specs.Places.{Latest, Target, Returns}
use Rattle.law_gaps.proofs.Chains.{Gap, count_gap, sole_first}
use Rattle.law_gaps.proofs.Joins.{is_sole}
use Rattle.law_gaps.proofs.Find.{awaited, Found, nothing, tail, find}
use Rattle.law_gaps.proofs.Reductions.{fuse}
use Rattle.law_invariant_finish.specs.Meets.{Meets, Apart, Tails, Headless, meets_vacant, tails_reduced}

-- Segments z and s of the line l, which may be linked.
pub record Link (m : Memory) (l : Line) (z s : ℕ) : Type 0 where
  pub from : 0 < occurrences z (segments l)
  pub to : 0 < occurrences s (segments l)
  pub apart : z ≡ s → ⊥
  pub alone : m.store.contents z ≡ [] → first_chain l ≡ z ∷ []

inside_headless : {m n : Mode} {v : Extent} → Inside m v n → Headless v
inside_headless rest = tt
inside_headless mid = tt
inside_headless close = tt

inside_apart : {m n : Mode} {v w : Extent} → Inside m v n → Inside n w settled → Apart v w
inside_apart rest j = tt
inside_apart mid close = tt
inside_apart close rest = tt

-- the view just before a view with a non-local head
latest_meets : (P : ℕ → ℕ → Type 0) {children user right : ℕ → Extent} {l : Line} {z : ℕ} (k : Place) (x : End) → Latest l k
    → Views children user right l (awaiting z)
    → Meets P (view_at children right k) (extent nonlocal x)
latest_meets P (children_of t) x Latest.at_exited (exiting v e rest r) = subst (λ (w : Extent). Meets P w (extent nonlocal x)) (sym e) tt
latest_meets P (children_of t) x Latest.at_exited (exiting v e mid r) = subst (λ (w : Extent). Meets P w (extent nonlocal x)) (sym e) tt
latest_meets P (right_of t) x Latest.at_entered (entering v w e i f (begun y) r) = subst (λ (w : Extent). Meets P w (extent nonlocal x)) (sym f) tt
latest_meets P k x (Latest.over o) (passing r) = latest_meets P k x o r

-- Task t has a right to the queue, and no child: it is entered and exited side by side.
module _ (own : ℕ → ℕ) (single : (x : ℕ) → own x ≤ 1) (m : Memory) (holder : ℕ) (b : Line) (t : ℕ) (a : Line) where
  abbrev Whole : List ℕ → Line
  Whole c = b ++ (entered t c ∷ (exited t ∷ a))

  abbrev Was : List ℕ → Type 0
  Was c = Laid own m holder (Whole c)

  abbrev Held : List ℕ → ℕ → Type 0
  Held c z = 0 < occurrences z (segments (Whole c))

  counted : (c : List ℕ) (x : ℕ) → occurrences x (segments (Whole c)) ≡ occurrences x (segments b) + (occurrences x c + occurrences x (segments a))
  counted c x =
      let e = count_segments x b (entered t c ∷ (exited t ∷ a)) in
      let f = occurs_append x c (segments a) in
      omega (arith, e, f)

  once : (c : List ℕ) → Was c → (x : ℕ) → occurrences x (segments (Whole c)) ≤ 1
  once c w x = let e = w.held.chains.once x in let f = single x in omega (arith, e, f)

  -- the last segment of the latest gap before t
  gap_held : (c : List ℕ) {p : ℕ} {r : List ℕ} → Gap a p r → Held c (last_of p r)
  gap_held c {p} {r} g =
      let z = last_of p r in
      let d = counted c z in
      let e = count_gap z g in
      let f = last_in p r in
      omega (arith, d, e, f)

  -- and the first of the gap behind its spot
  gap_link : (s : ℕ) (d : List ℕ) → Was (s ∷ d) → {p : ℕ} {r : List ℕ} → Gap a p r → Link m (Whole (s ∷ d)) (last_of p r) s
  gap_link s d w {p} {r} g =
      let first_held : 0 < occurrences s (s ∷ d) = let e = occurs_here s s d refl in omega (arith, e) in
      record {
        from = gap_held (s ∷ d) g;
        to = let e = counted (s ∷ d) s in omega (arith, e, first_held);
        apart = λ e.
            let z = last_of p r in
            let x = counted (s ∷ d) z in
            let o = once (s ∷ d) w z in
            let i = count_gap z g in
            let j = last_in p r in
            let k = ap (λ (y : ℕ). occurrences y (s ∷ d)) e in
            omega (arith, x, o, i, j, k, first_held);
        alone = λ e.
            let k = is_sole m.store.next m.store.contents g
            (all_behind (Chain m.store.next m.store.contents) b (entered t (s ∷ d) ∷ (exited t ∷ a)) w.held.chains.good).1.1 e in
            first_behind b (entered t (s ∷ d) ∷ (exited t ∷ a)) (no_base b (entered t (s ∷ d)) (exited t ∷ a) w.views)
            ∙ sole_first k.0
            ∙ ap (λ (y : ℕ). y ∷ []) (sym (ap (last_of p) k.1));
      }

  awaited_link : (s : ℕ) (d : List ℕ) → Was (s ∷ d) → (z : ℕ) → Views m.children m.user m.right a (awaiting z) → Link m (Whole (s ∷ d)) z s
  awaited_link s d w z q =
      let g = awaited q in subst (λ (x : ℕ). Link m (Whole (s ∷ d)) x s) g.3 (gap_link s d w g.2)

  -- THE RIGHT VIEW is reduced into what children and user view are reduced to
  right_case : {n₀ n : Mode} (c : List ℕ) (v w : Extent) → Was c → Inside n₀ v settled → Begins c w n → Views m.children m.user m.right a n₀
      → Meets (Link m (Whole c)) v w
  right_case c v w r rest g q = tt
  right_case c v w r (close {z = z}) bare q = tt
  right_case c v w r (close {z = z}) (whole {s = s} {c = d} e) q = awaited_link s d r z q
  right_case c v w r (close {z = z}) (begun {s = s} {c = d} e) q = awaited_link s d r z q

  -- THE RESULT is reduced into the view at place k
  target_case : (k : Place) (s : ℕ) (d : List ℕ) (x : End) → Was (s ∷ d) → Views m.children m.user m.right a settled → Target m.children a k
      → Meets (Link m (Whole (s ∷ d))) (view_at m.children m.right k) (extent (local s) x)
  target_case k s d x w q o = go (find k o q)
    where
      go : Found m.children m.right a k → Meets (Link m (Whole (s ∷ d))) (view_at m.children m.right k) (extent (local s) x)
      go (nothing e g) = subst (λ (v : Extent). Meets (Link m (Whole (s ∷ d))) v (extent (local s) x)) (sym e) tt
      go (tail h p r e g) = subst (λ (v : Extent). Meets (Link m (Whole (s ∷ d))) v (extent (local s) x)) (sym e) (gap_link s d w g)

  place_case : {n₀ n : Mode} (k : Place) (c : List ℕ) (v w : Extent) → Was c → Inside n₀ v settled → Begins c w n
      → Views m.children m.user m.right a n₀
      → Returns m.children a (reduced v w) k → Meets (Link m (Whole c)) (view_at m.children m.right k) (reduced v w)
  place_case k c v w r rest bare q o = meets_vacant (Link m (Whole c)) (view_at m.children m.right k)
  place_case k c v w r rest (whole {s = s} {z = z} {c = d} e) q o = target_case k s d (local z) r q o
  place_case k c v w r rest (begun {s = s} {c = d} e) q o = target_case k s d nonlocal r q o
  place_case k c v w r (close {z = u}) bare q o = latest_meets (Link m (Whole c)) k (local u) o q
  place_case k c v w r close (whole {z = z} e) q o = latest_meets (Link m (Whole c)) k (local z) o q
  place_case k c v w r close (begun e) q o = latest_meets (Link m (Whole c)) k nonlocal o q

  -- TAILS
  inner_tails : {n₀ : Mode} (c : List ℕ) (v : Extent) → Inside n₀ v settled → Views m.children m.user m.right a n₀ → Tails (Held c) v
  inner_tails c v rest q = tt
  inner_tails c v (close {z = z}) q = let g = awaited q in subst (Held c) g.3 (gap_held c g.2)

  begins_tails : {n : Mode} (c : List ℕ) (w : Extent) → Begins c w n → Tails (Held c) w
  begins_tails c w bare = tt
  begins_tails c w (begun e) = tt
  begins_tails c w (whole {s = s} {z = z} {c = d} e) =
      subst (Held (s ∷ d)) e (let f = last_in s d in let g = counted (s ∷ d) (last_of s d) in omega (arith, f, g))

  user_tails : {n₀ n : Mode} (c : List ℕ) (v w : Extent) → Inside n₀ v n → Inside n w settled → Views m.children m.user m.right a n₀ → Tails (Held c) w
  user_tails c v w i rest q = tt
  user_tails c v w rest (close {z = z}) q = let g = awaited q in subst (Held c) g.3 (gap_held c g.2)
  user_tails c v w mid (close {z = z}) q = let g = awaited q in subst (Held c) g.3 (gap_held c g.2)

  -- WHAT THE VIEWS OF t ARE
  pub record Leaving (c : List ℕ) : Type 0 where
    pub children_headless : Headless (m.children t)
    pub user_headless : Headless (m.user t)
    pub inner_headless : Headless (reduced (m.children t) (m.user t))
    pub user_apart : Apart (m.children t) (m.user t)
    pub user_held : Tails (Held c) (m.user t)
    pub right_meets : Meets (Link m (Whole c)) (reduced (m.children t) (m.user t)) (m.right t)
    pub right_held : Tails (Held c) (m.right t)
    pub whole_held : Tails (Held c) (returned t m)
    pub place_meets : (k : Place) → Returns m.children a (returned t m) k → Meets (Link m (Whole c)) (view_at m.children m.right k) (returned t m)

  pub leaving_views : (c : List ℕ) → Was c → Leaving c
  leaving_views c w = go (split b (entered t c) (exited t ∷ a) w.views).1
    where
      go : {n : Mode} → Views m.children m.user m.right (entered t c ∷ (exited t ∷ a)) n → Leaving c
      go {n} (entering {m = n₁} v x e i f g (exiting {m = n₀} v' e' i' q)) =
          let u : Inside n₁ (m.user t) settled = subst (λ (z : Extent). Inside n₁ z settled) (sym e) i in
          let k : Inside n₀ (m.children t) n₁ = subst (λ (z : Extent). Inside n₀ z n₁) (sym e') i' in
          let y : Begins c (m.right t) n = subst (λ (z : Extent). Begins c z n) (sym f) g in
          record {
            children_headless = inside_headless k;
            user_headless = inside_headless u;
            inner_headless = inside_headless (fuse k u);
            user_apart = inside_apart k u;
            user_held = user_tails c (m.children t) (m.user t) k u q;
            right_meets = right_case c (reduced (m.children t) (m.user t)) (m.right t) w (fuse k u) y q;
            right_held = begins_tails c (m.right t) y;
            whole_held =
                tails_reduced (Held c) (reduced (m.children t) (m.user t)) (m.right t) (inner_tails c (reduced (m.children t) (m.user t)) (fuse k u) q)
                (begins_tails c (m.right t) y);
            place_meets = λ p o. place_case p c (reduced (m.children t) (m.user t)) (m.right t) w (fuse k u) y q o;
          }
