-- From the tests: the tour meets and leaves each task that is not on the stack of free ones, once.
use Rattle.std.specs.Prelude.{◌≡◌, refl, true, List, ℕ, ◌+◌, ◌-◌, ◌*◌, ◌<◌, ◌≤◌, length}
use Rattle.std.proofs.Common.{subst, inl, inr, ⊎_elim, arith, eq-zero-or-pos}
use Rattle.spec_lists.specs.Counting.{occurrences}
use Rattle.spec_lists.specs.Sums.{total_tight}
use Rattle.spec_tree.specs.Tour.{tour}
use Rattle.spec_rules.specs.Contents.{Contents}
use Rattle.spec_rules.specs.Rules.{Holder}
use Rattle.spec_rules.specs.Test.{tree_test}
use Rattle.law_rules_tasks.specs.Tested.{Idle}
use Rattle.law_rules_tasks.specs.Tours.{tree_same, tour_length, tour_each, tour_once}
use Rattle.law_rules_tasks.specs.Reached.{Reached, top, reached_tree, reached_holder, reached_below, Standing, standing_range, standing_next}
use Rattle.law_rules_tasks.specs.Pairs.{pair, pairs, total_twos}
use Rattle.law_rules_tasks.specs.Holders.{holder_below}

-- the marks that a tour must have
abbrev pub count : Contents → ℕ
count c = 2 * (128 - length c.idle)

module _ (c : Contents) (idle : Idle c) (e : tree_test c (count c) 0 ≡ true) where
  abbrev pub marks : List ℕ
  marks = tour (count c) c.recs 0

  abbrev pub Entered : ℕ → ℕ → Type 0
  Entered = Reached c (count c)

  pub start : Standing c (count c) (count c) 0
  start = inl (top refl refl e)

  stands : (y : ℕ) → 0 < occurrences y marks → (j : ℕ) × (j ≤ count c) × (tree_test c j y ≡ true) × Standing c (count c) j y
  stands = tour_each c (Standing c (count c)) (standing_range c (count c)) (standing_next c (count c)) (count c) 0 start e

  pub marks_once : (y : ℕ) → occurrences y marks ≤ 1
  marks_once = tour_once c (Standing c (count c)) (standing_range c (count c)) (standing_next c (count c)) (count c) 0 start e

  many : length marks ≡ count c
  many = tour_length c (Standing c (count c)) (standing_range c (count c)) (standing_next c (count c)) (count c) 0 start e

  pub marks_below : (y : ℕ) → 0 < occurrences y marks → y < 256
  marks_below y p = let w = stands y p in standing_range c (count c) w.0 y w.3

  -- a task that is entered
  pub entered_reached : (t : ℕ) → t < 128 → 0 < occurrences t marks → (j : ℕ) × (j ≤ count c) × Entered j t
  entered_reached t l p = let w = stands t p in (w.0, w.1, go w.0 w.3)
    where
      go : (j : ℕ) → Standing c (count c) j t → Entered j t
      go j (inl r) = r
      go j (inr w) = let q = w.1 in let z : ⊥ = omega (arith, q, l) in absurd z

  -- a task that is exited
  pub exited_reached : (t : ℕ) → 0 < occurrences (128 + t) marks → (j : ℕ) × (tree_test c j (128 + t) ≡ true) × (i : ℕ) × (j < i) × Entered i t
  exited_reached t p = let w = stands (128 + t) p in let g = go w.0 w.3 in (w.0, w.2, g.0, g.1, g.2)
    where
      go : (j : ℕ) → Standing c (count c) j (128 + t) → (i : ℕ) × (j < i) × Entered i t
      go j (inl r) = let a = reached_below c (count c) j (128 + t) r in let z : ⊥ = omega (arith, a) in absurd z
      go j (inr w) = let q = w.1 in (w.2, w.3, subst (λ (x : ℕ). Entered w.2 x) (let z : w.0 ≡ t = omega (arith, q) in z) w.4)

  -- a holder is not on the stack
  pub busy : (t : ℕ) → Holder c t → occurrences t c.idle ≡ 0
  busy t h =
      ⊎_elim
      (λ q. q)
      (λ p.
      let a = idle.above t p in
      let b = idle.free t p in
      ⊎_elim
      (λ q. let z : ⊥ = omega (arith, a, q) in absurd z)
      (λ w. let q = w.1 in let z : ⊥ = omega (arith, b, q) in absurd z)
      h)
      (eq-zero-or-pos (occurrences t c.idle))

  pub entered_busy : (t : ℕ) → t < 128 → 0 < occurrences t marks → occurrences t c.idle ≡ 0
  entered_busy t l p = let w = entered_reached t l p in busy t (reached_holder c (count c) w.0 t w.2)

  exited_busy : (t : ℕ) → 0 < occurrences (128 + t) marks → occurrences t c.idle ≡ 0
  exited_busy t p = let w = exited_reached t p in busy t (reached_holder c (count c) w.2 t w.4)

  at_most : (t : ℕ) → t < 128 → pair marks c.idle t ≤ 2
  at_most t l =
      let a = marks_once t in
      let b = marks_once (128 + t) in
      let d = idle.apart.once t in
      ⊎_elim
      (λ q.
      ⊎_elim
      (λ r. omega (arith, d, q, r))
      (λ r. let f = exited_busy t r in omega (arith, b, f, q))
      (eq-zero-or-pos (occurrences (128 + t) marks)))
      (λ q. let f = entered_busy t l q in omega (arith, a, b, f))
      (eq-zero-or-pos (occurrences t marks))

  -- THE PIGEONHOLE: as many marks and free records as there are places, at most two for each task: two for each
  two : (t : ℕ) → t < 128 → pair marks c.idle t ≡ 2
  two =
      total_tight 128 (pair marks c.idle) (λ t. 2) at_most
      (let a = pairs marks c.idle marks_below idle.apart.below in
      let b = total_twos 128 in
      let d = many in
      let f = idle.few in
      omega (arith, a, b, d, f))

  pub entered_once : (t : ℕ) → t < 128 → occurrences t c.idle ≡ 0 → occurrences t marks ≡ 1
  entered_once t l q = let a = two t l in let b = marks_once t in let d = marks_once (128 + t) in omega (arith, a, b, d, q)

  pub exited_once : (t : ℕ) → t < 128 → occurrences t c.idle ≡ 0 → occurrences (128 + t) marks ≡ 1
  exited_once t l q = let a = two t l in let b = marks_once t in let d = marks_once (128 + t) in omega (arith, a, b, d, q)

  -- t is entered where i marks are left, and exited where j are
  pub record Visit (t : ℕ) : Type 0 where
    pub entered : ℕ
    pub exited : ℕ
    pub order : exited < entered
    pub most : entered ≤ count c
    pub reached : Entered entered t
    pub leaves : tree_test c exited (128 + t) ≡ true

  pub visit : (t : ℕ) → t < 128 → occurrences t c.idle ≡ 0 → Visit t
  visit t l q =
      let a = entered_once t l q in
      let b = exited_once t l q in
      let w = entered_reached t l (omega (arith, a)) in
      let v = exited_reached t (omega (arith, b)) in
      let m = v.3 in
      let s = tree_same c v.2 w.0 t (reached_tree c (count c) v.2 t v.4) (reached_tree c (count c) w.0 t w.2) in
      record { entered = w.0; exited = v.0; order = omega (arith, m, s); most = w.1; reached = w.2; leaves = v.1 }

  pub holder_visit : (t : ℕ) → Holder c t → Visit t
  holder_visit t h = visit t (holder_below c t h) (busy t h)
