-- FINISH, THE VIEWS OF ONE QUEUE: children, user and right view are reduced, and the result goes to the view just before.
use Rattle.std.specs.Prelude.{◌≡◌, refl, false, List, ◌∷◌, ◌++◌, ℕ, ◌<◌}
use Rattle.std.proofs.Math.Path.{ap, subst}
use Rattle.std.proofs.Common.{ap₂, sym, ◌∙◌, subst₂, arith}
use Rattle.std.proofs.Math.Option.{some}
use Rattle.spec_layout.specs.Layout.{CHILDREN, USER, RIGHT}
use Rattle.spec_outcomes.specs.Waits.{has_child}
use Rattle.spec_outcomes.specs.Views.{view_of, task_at, kind_at}
use Rattle.spec_outcomes.specs.Finish.{views_returned}
use Rattle.spec_order.specs.Steps.{Task, Item, spot, number_of}
use Rattle.law_order_waits.specs.Popper.{first_popper}
use Rattle.law_gaps.specs.Line.{End, nonlocal, local, Extent, vacant, extent, exited, entered, Line, marks}
use Rattle.law_gaps.specs.Store.{Store, Memory}
use Rattle.law_gaps.specs.Moves.{Place, children_of, view_at, reduced, children_with, rights_with, joined, returned, finished}
use Rattle.law_gaps.specs.Places.{Returns}
use Rattle.law_gaps.proofs.Search.{place_at}
use Rattle.law_maps.specs.Meaning.{Meaning, meaning_of, store_of, memory_of, view_in}
use Rattle.law_maps.specs.Update.{with_store, with_view, store_self, shared}
use Rattle.law_maps.specs.Kept.{Becomes}
use Rattle.law_maps.specs.Reduce.{Links, Tailed}
use Rattle.law_maps.specs.Merges.{whole, store2, three_in, returned_in}
use Rattle.law_maps.specs.Finish.{words2, Reduces, views_reduced, returned_extent, none_returned, views_returned_lem}
use Rattle.law_maps.specs.FinishMemory.{memory_none_returned, memory_returned, none_returned_elsewhere, returned_elsewhere}
use Rattle.law_invariant.specs.Represents.{alive, queue_memory, uses_in, Represents}
use Rattle.law_invariant.specs.Live.{holds_at}
use Rattle.law_invariant.specs.At.{task_unfinished}
use Rattle.law_invariant.specs.Covered.{Covered}
use Rattle.law_invariant.specs.Naming.{Names, names_view}
use Rattle.law_invariant_finish.specs.Leaf.{leaf}
use Rattle.law_invariant_finish.specs.Way.{Way}
use Rattle.law_invariant_finish.specs.Meets.{Meets, Headless, tails_tailed, vacant_not}
use Rattle.law_invariant_finish.specs.Reductions.{Link}
use Rattle.law_invariant_finish.specs.Target.{mark_of, returns, returned_at, target_at}
use Rattle.law_invariant_finish.specs.Reduced.{alive_t, inner_is, whole_is, views, not_none, linkable, store_idle, reduces}

-- a result with a local head is the right view alone
right_alone : (v w : Extent) → Headless v → (s : ℕ) (y : End) → reduced v w ≡ extent (local s) y → v ≡ vacant
right_alone vacant w h s y e = refl
right_alone (extent nonlocal x) vacant h s y e = let z : ◌≡◌ {A = ℕ} 0 1 = cc in absurd (omega (arith, z))
right_alone (extent nonlocal x) (extent g u) h s y e = let z : ◌≡◌ {A = ℕ} 0 1 = cc in absurd (omega (arith, z))
right_alone (extent (local g) x) w h s y e = absurd h

other_head : (z s : ℕ) (y u : End) → (z ≡ s → ⊥) → extent (local s) y ≡ extent (local z) u → ⊥
other_head z s y u n e = n (let d : s ≡ z = cc in sym d)

module _ (m : List ℕ) (ys zs : List Item) (s : Task) (r : Represents m (ys ++ spot s ∷ zs)) (barren : has_child m (number_of s) ≡ false) (above : 0 < number_of s)
    (n : List ℕ) (holder : ℕ → ℕ) (line : ℕ → Line) (way : Way m n holder line) (covered : (p : ℕ) → p < 4 → Covered (queue_memory n p) r.tour (line p))
    (q : ℕ) (small : q < 4) (first : first_popper q (ys ++ spot s ∷ zs) ≡ some (holder q))
    (b : Line) (c : List ℕ) (a : Line) (parts : line q ≡ b ++ (entered (number_of s) c ∷ (exited (number_of s) ∷ a)))
    (earlier : marks a ≡ (leaf m ys zs s r barren).earlier) where
  abbrev t : ℕ
  t = number_of s

  abbrev h : ℕ
  h = holder q

  abbrev M : Meaning
  M = meaning_of n

  abbrev Q : Memory
  Q = queue_memory n q

  abbrev Line-t : Line
  Line-t = b ++ (entered t c ∷ (exited t ∷ a))

  below : t < 128
  below = (task_unfinished m ys zs s r).0

  -- THE WORDS after the views have gone, and what they mean: the result stands at a place of another task.
  pub record Back : Type 0 where
    pub meaning : Meaning
    pub becomes : Becomes n (views_returned n t q) meaning
    pub place : Place
    pub here : memory_of meaning q ≡ finished h t place (memory_of M q)
    pub others : (p : ℕ) → (p ≡ q → ⊥) → memory_of meaning p ≡ shared (finished h t place (memory_of M q)).store (memory_of M p)
    pub holds : holds_at (alive n) place
    pub to : Returns Q.children a (returned t Q) place
    -- the tasks without a right have what they had
    pub rest : (x : ℕ) → uses_in m q x ≡ false
        → (children_with (returned t Q) place Q.children x ≡ Q.children x) × (rights_with (returned t Q) place Q.right x ≡ Q.right x)

  redu : Reduces n t q h
  redu = reduces m ys zs s r n holder line way covered q small first b c a parts

  W : whole M q h t ≡ returned t Q
  W = whole_is m ys zs s r n holder line way covered q small first b c a parts

  -- NOTHING IS RETURNED
  nothing : returned t Q ≡ vacant → Back
  unfolding holds_at
  nothing e =
      record {
        meaning = _;
        becomes = none_returned n t q h way.sized below small redu (W ∙ e);
        place = children_of t;
        here = memory_none_returned M q h t (children_of t) (W ∙ e);
        others = λ p k.
            none_returned_elsewhere M q h t p k
            ∙ ap (λ (w : Memory). shared w.store (memory_of M p)) (memory_none_returned M q h t (children_of t) (W ∙ e));
        holds = alive_t m ys zs s r n holder line way covered q small first b c a parts;
        to = subst (λ (v : Extent). Returns Q.children a v (children_of t)) (sym e) tt;
        rest = λ x u.
            subst (λ (v : Extent). (children_with v (children_of t) Q.children x ≡ Q.children x) × (rights_with v (children_of t) Q.right x ≡ Q.right x))
            (sym e)
            (refl, refl);
      }

  -- THE WORDS after two reductions
  halfway : Becomes n (words2 n t q) (three_in M q h t (store2 M q h t) (whole M q h t))
  halfway = views_reduced n t q h way.sized below small redu

  -- where the result has a local head nothing was linked on the way
  idle : (x : ℕ) (y : End) → returned t Q ≡ extent (local x) y → store2 M q h t ≡ store_of M q
  idle x y e =
      let v = views m ys zs s r n holder line way covered q small first b c a parts in
      let i = inner_is m ys zs s r n holder line way covered q small first b c a parts in
      ap (λ (w : Extent). joined h w (view_in n q RIGHT t) (joined h (view_in n q CHILDREN t) (view_in n q USER t) (store_of M q)))
      (i ∙ right_alone (reduced (Q.children t) (Q.user t)) (Q.right t) v.inner_headless x y e)
      ∙ store_idle m ys zs s r n holder line way covered q small first b c a parts

  halfway_means : (x : ℕ) (y : End) → returned t Q ≡ extent (local x) y
      → meaning_of (words2 n t q) ≡ with_view (with_view (with_view M q CHILDREN t (extent (local x) y)) q USER t vacant) q RIGHT t vacant
  halfway_means x y e =
      halfway.means
      ∙ ap₂ (λ (st : Store) (v : Extent). with_view (with_view (with_view (with_store M q st) q CHILDREN t v) q USER t vacant) q RIGHT t vacant)
      (idle x y e) (W ∙ e)
      ∙ ap (λ (N : Meaning). with_view (with_view (with_view N q CHILDREN t (extent (local x) y)) q USER t vacant) q RIGHT t vacant) (store_self M q)

  halfway_names : (x : ℕ) (y : End) → returned t Q ≡ extent (local x) y → (z : ℕ) → (z ≡ x → ⊥) → Names M r.tour z h q
      → Names (meaning_of (words2 n t q)) r.tour z h q
  halfway_names x y e z k w =
      subst (λ (N : Meaning). Names N r.tour z h q) (sym (halfway_means x y e))
      (names_view _ r.tour z h q q RIGHT t vacant (vacant_not z)
      (names_view _ r.tour z h q q USER t vacant (vacant_not z)
      (names_view M r.tour z h q q CHILDREN t (extent (local x) y) (λ u. other_head z x y u k) w)))

  -- THE THIRD REDUCTION, into the view at a place
  place_links : (v w : Extent) → returned t Q ≡ w → Meets (Link Q Line-t) v w → Links (words2 n t q) q h v w
  place_links vacant w e k = tt
  place_links (extent g nonlocal) vacant e k = tt
  place_links (extent g (local z)) vacant e k = tt
  place_links (extent g nonlocal) (extent nonlocal y) e k = tt
  place_links (extent g nonlocal) (extent (local x) y) e k = absurd k
  place_links (extent g (local z)) (extent nonlocal y) e k = absurd k
  place_links (extent g (local z)) (extent (local x) y) e k =
      linkable m ys zs s r n holder line way covered q small first b c a parts (words2 n t q) halfway.kept
      (ap (λ (N : Meaning). N.contents) (halfway_means x y e)) (ap (λ (N : Meaning). N.free) (halfway_means x y e)) z x k (halfway_names x y e z k.apart)

  -- A VIEW IS RETURNED
  something : (g y : End) → returned t Q ≡ extent g y → Back
  something g y e =
      let v = returned t Q in
      let x = mark_of m ys zs s r barren above n holder line way q small b c a parts earlier v in
      let some : v ≡ vacant → ⊥ = λ d. let z : ◌≡◌ {A = ℕ} 0 1 = cc in omega (arith, z) in
      let o = target_at m ys zs s r barren above n holder line way q small b c a parts earlier v some in
      let to = returns m ys zs s r barren above n holder line way q small b c a parts earlier v in
      let views = views m ys zs s r n holder line way covered q small first b c a parts in
      record {
        meaning = returned_in M q h t (kind_at x) (task_at x);
        becomes = views_returned_lem n t q h way.sized below small redu g y x (W ∙ e)
            (returned_at m ys zs s r barren above n holder line way q small b c a parts earlier (view_of (words2 n t q) q t CHILDREN) v
            (returned_extent n t q h way.sized below small redu ∙ W) some)
            o.task.range o.task.other
            (subst Tailed (sym W) (tails_tailed _ (not_none m ys zs s r n holder line way covered q small first b c a parts) v views.whole_held))
            (subst₂ (λ (u w : Extent). Links (words2 n t q) q h u w) o.view (sym W)
            (place_links (view_at Q.children Q.right (place_at x)) v refl (views.place_meets (place_at x) to)));
        place = place_at x;
        here = memory_returned M q h t x g y (W ∙ e);
        others = λ p k.
            returned_elsewhere M q h t (kind_at x) (task_at x) p k
            ∙ ap (λ (w : Memory). shared w.store (memory_of M p)) (memory_returned M q h t x g y (W ∙ e));
        holds = o.holds;
        to = to;
        rest = λ u k. o.rest v u k;
      }

  pub views_back : Back
  views_back = go (returned t Q) refl
    where
      go : (v : Extent) → returned t Q ≡ v → Back
      go vacant e = nothing e
      go (extent g y) e = something g y e
