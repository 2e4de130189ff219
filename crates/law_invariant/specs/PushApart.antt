-- A PUSH WITH AN EMPTY USER VIEW keeps the invariant: the head of the new segment goes to the view just before.
use Rattle.std.specs.Prelude.{◌≡◌, refl, true, false, not, List, ◌∷◌, ◌++◌, ℕ, ◌<◌}
use Rattle.std.proofs.Math.Path.{ap, subst}
use Rattle.std.proofs.Common.{ap₂, sym, ◌∙◌, arith, ne_eqb}
use Rattle.spec_words.specs.Words.{store}
use Rattle.spec_layout.specs.Layout.{NL, USER, Opened}
use Rattle.spec_tree.specs.Rights.{pushes as mayPush}
use Rattle.spec_rules.specs.Views.{view}
use Rattle.spec_outcomes.specs.Segments.{taken, next_free}
use Rattle.spec_outcomes.specs.Views.{view_of, task_at, kind_at, reducible, set_view, joined, just_before}
use Rattle.spec_order.specs.Steps.{Task, Item, spot, pushes, number_of, rights_of, advance}
use Rattle.law_order_waits.specs.Played.{Played}
use Rattle.spec_lists.specs.Maps.{last_of, last_in}
use Rattle.law_gaps.specs.Line.{nonlocal, local, Extent, vacant, extent, Line}
use Rattle.law_gaps.specs.Store.{Memory}
use Rattle.law_gaps.proofs.Chains.{count_gap}
use Rattle.law_gaps.specs.Moves.{view_at, taken as taken-store, pushed_apart}
use Rattle.law_gaps.specs.Places.{target_in}
use Rattle.law_gaps.proofs.Search.{place_at}
use Rattle.law_gaps.proofs.Find.{Found, nothing}
use Rattle.law_gaps.proofs.PushRows.{apart_row}
use Rattle.law_gaps.proofs.Pool.{mine}
use Rattle.law_maps.specs.Meaning.{extent_of, meaning_of, memory_of, memory_in, free_in, view_in}
use Rattle.law_maps.specs.Reads.{view_at_lem}
use Rattle.law_maps.specs.Extents.{reduces, reducible_extents, tailed_extent, end_local, end_nonlocal}
use Rattle.law_maps.specs.Free.{next_free_lem}
use Rattle.law_maps.specs.Reduce.{Links}
use Rattle.law_maps.specs.Push.{apart_in, pushed_apart_lem}
use Rattle.law_maps.specs.PushMemory.{memory_apart, apart_elsewhere}
use Rattle.law_maps.specs.Finish.{kind_below}
use Rattle.law_maps.specs.Update.{shared}
use Rattle.law_invariant.specs.Represents.{alive, of_tasks, queue_memory, uses_in, Represents}
use Rattle.law_invariant.specs.Nexts.{nexts_taken, nexts_joined}
use Rattle.law_invariant.specs.Parts.{holders, parts_of}
use Rattle.law_invariant.specs.Live.{live_apart}
use Rattle.law_invariant.specs.FirstNamed.{one_mine}
use Rattle.law_invariant.specs.At.{At, laid_at, task_unfinished, task_alive}
use Rattle.law_invariant.specs.Push.{stands, holder_alive, other_user, pushed, masked_share, some_opened, old_nexts}
use Rattle.law_invariant.specs.Found.{children_elsewhere, rights_elsewhere}
use Rattle.law_invariant.specs.JustBefore.{JustBefore, just_before_lem}
use Rattle.law_invariant.specs.NewLink.{g_below, low_free, not_free, linkable}

module _ (m : List ℕ) (ys zs : List Item) (s : Task) (r : Represents m (ys ++ spot s ∷ zs)) (q v : ℕ) (small : q < 4) (may : mayPush (rights_of s) q ≡ true)
    (g : ℕ) (rest : List ℕ) (ef : free_in m ≡ g ∷ rest) (empty : (queue_memory m q).user (number_of s) ≡ vacant) where
  abbrev t : ℕ
  t = number_of s

  abbrev Old : List Item
  Old = ys ++ spot s ∷ zs

  abbrev New : List Item
  New = advance t (pushes q v) Old

  abbrev here : At m ys zs s r q
  here = stands m ys zs s r q v small may

  abbrev a : Line
  a = here.earlier

  before : JustBefore m q t a
  before = just_before_lem m ys zs s r q small here empty

  open before use {mark as y, search_is, fits, target, placed, found}

  segment_there : Opened m g
  segment_there = g_below m ys zs s r q small here v g rest ef

  -- the view there, and what its reduction with the new head needs
  links : Links (taken m q v) q (holders m Old r q) (view_in m q (kind_at y) (task_at y)) (extent (local g) nonlocal)
  links = subst (λ (e : Extent). Links (taken m q v) q (holders m Old r q) e (extent (local g) nonlocal)) (sym placed.by_words) (go found)
    where
      go : Found (queue_memory m q).children (queue_memory m q).right a (place_at y)
          → Links (taken m q v) q (holders m Old r q) (view_at (queue_memory m q).children (queue_memory m q).right (place_at y)) (extent (local g) nonlocal)
      go (nothing e k) = subst (λ (w : Extent). Links (taken m q v) q (holders m Old r q) w (extent (local g) nonlocal)) (sym e) tt
      go (Found.tail h p c e k) =
          subst (λ (w : Extent). Links (taken m q v) q (holders m Old r q) w (extent (local g) nonlocal)) (sym e)
          (linkable m ys zs s r q small here v g rest ef p c k)

  -- the late refusal 2 does not come
  pub apart_reducible : reducible (view_of m q (task_at (just_before m q t)) (kind_at (just_before m q t))) (view (next_free m q) NL) ≡ true
  apart_reducible =
      ap (λ (z : ℕ). reducible (view_of m q (task_at z) (kind_at z)) (view (next_free m q) NL)) search_is
      ∙ reducible_extents (view_of m q (task_at y) (kind_at y)) (view (next_free m q) NL)
      ∙ ap₂ reduces (sym (view_at_lem m q (kind_at y) (task_at y) small (kind_below y) placed.range) ∙ placed.by_words) new_view
      ∙ go found
    where
      not_mark : next_free m q ≡ NL → ⊥
      not_mark e = let l = low_free m ys zs s r q small here v g rest ef in omega (arith, e, l)

      new_view : extent_of (view (next_free m q) NL) ≡ extent (local g) nonlocal
      new_view =
          tailed_extent (next_free m q) NL (λ e. omega (arith, e))
          ∙ ap₂ extent (end_local (next_free m q) not_mark ∙ ap local (next_free_lem m q g rest ef)) (end_nonlocal NL refl)

      go : Found (queue_memory m q).children (queue_memory m q).right a (place_at y)
          → reduces (view_at (queue_memory m q).children (queue_memory m q).right (place_at y)) (extent (local g) nonlocal) ≡ true
      go (nothing e k) = ap (λ (w : Extent). reduces w (extent (local g) nonlocal)) e
      go (Found.tail h p c e k) =
          ap (λ (w : Extent). reduces w (extent (local g) nonlocal)) e
          ∙ ap not
          (ne_eqb (last_of p c) g
          (not_free m ys zs s r q small here v g rest ef (last_of p c) (let i = last_in p c in let j = count_gap (last_of p c) k in omega (arith, i, j))))

  abbrev after : Memory
  after = pushed_apart (holders m Old r q) t (place_at y) g rest v (queue_memory m q)

  live : of_tasks (alive m) (pushed_apart (holders m Old r q) t (place_at y) g rest v (memory_in m q)) ≡ after
  unfolding queue_memory
  live =
      live_apart (alive m) (holders m Old r q) t (place_at y) g rest v (memory_in m q) (holder_alive m ys zs s r q v small may) (task_alive m ys zs s r)
      placed.holds

  pub push_apart : Played New
      → Represents
      (set_view (joined (taken m q v) q (task_at (just_before m q t)) (kind_at (just_before m q t)) (view (next_free m q) NL)) q t USER (view NL (next_free m q))) New
  unfolding queue_memory of_tasks pushed_apart
  push_apart play =
      subst (λ (z : ℕ). Represents (set_view (joined (taken m q v) q (task_at z) (kind_at z) (view (next_free m q) NL)) q t USER (view NL (next_free m q))) New)
      (sym search_is)
      (pushed m ys zs s r q v small may _ (apart_in (meaning_of m) q (holders m Old r q) t (kind_at y) (task_at y) g rest v) after
      (pushed_apart_lem m t q v g rest r.sized (task_unfinished m ys zs s r).0 small ef segment_there (task_at y) (kind_at y) (holders m Old r q) placed.range
      (kind_below y) links)
      play
      (nexts_joined (Opened m) (some_opened m ys zs s r q v small may) (holders m Old r q)
      (view_at (queue_memory m q).children (queue_memory m q).right (place_at y)) (extent (local g) nonlocal)
      (taken-store g rest v (queue_memory m q).store) segment_there
      (nexts_taken (Opened m) (some_opened m ys zs s r q v small may) g rest v (queue_memory m q).store (old_nexts m ys zs s r q v small may)))
      same others bare
      (apart_row (mine (queue_memory m q).store (r.line q)) (one_mine m Old r q small) (queue_memory m q) (holders m Old r q) here.later t here.chain a v
      (laid_at m ys zs s r q small here) g rest ef (place_at y) empty target))
    where
      same : of_tasks (alive m) (memory_of (apart_in (meaning_of m) q (holders m Old r q) t (kind_at y) (task_at y) g rest v) q) ≡ after
      same = ap (of_tasks (alive m)) (memory_apart (meaning_of m) q (holders m Old r q) t g rest v y) ∙ live

      others : (p : ℕ) → p < 4 → (p ≡ q → ⊥)
          → of_tasks (alive m) (memory_of (apart_in (meaning_of m) q (holders m Old r q) t (kind_at y) (task_at y) g rest v) p)
          ≡ shared after.store (queue_memory m p)
      others p i k =
          ap (of_tasks (alive m)) (apart_elsewhere (meaning_of m) q (holders m Old r q) t g rest v (kind_at y) (task_at y) p k)
          ∙ masked_share (alive m) (memory_of (apart_in (meaning_of m) q (holders m Old r q) t (kind_at y) (task_at y) g rest v) q) (memory_in m p)
          ∙ ap (λ (w : Memory). shared w.store (queue_memory m p)) same

      bare : (u : ℕ) → uses_in m q u ≡ false → (after.children u ≡ vacant) × (after.user u ≡ vacant) × (after.right u ≡ vacant)
      bare u e =
          let b = (parts_of m Old r).bare q small u e in
          let k = target_in _ target in
          unfold pushed_apart in (
            children_elsewhere (uses_in m q) a (place_at y) (extent (local g) nonlocal) (queue_memory m q).children u fits k e ∙ b.0,
            other_user m ys zs s r q v small may u (extent nonlocal (local g)) e ∙ b.1,
            rights_elsewhere (uses_in m q) a (place_at y) (extent (local g) nonlocal) (queue_memory m q).right u fits k e ∙ b.2,
          )
