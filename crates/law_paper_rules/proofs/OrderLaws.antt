-- THE PAPER'S ORDER OF VIEWS: the places along the tour obey its laws (i), (ii) and (iii), which together order the views of
-- all unfinished tasks.
use Rattle.std.specs.Prelude.{◌≡◌, true, List, [], ◌∷◌, ◌++◌}
use Rattle.std.proofs.Math.Path.{refl}
use Rattle.std.proofs.Common.{ap, sym, ◌∙◌, subst, inr, ⊎_elim, eq-zero-or-pos, arith}
use Prim.Native.Nat.{ℕ, zero, suc, ◌+◌, ◌<◌, ◌≤◌}
use Rattle.spec_words.specs.Words.{load}
use Rattle.spec_lists.specs.Counting.{occurrences, occurs_nil, occurs_past, equal?}
use Rattle.spec_layout.specs.Layout.{PARENT, OLDER, record_of}
use Rattle.spec_tree.specs.Tour.{after}
use Rattle.spec_rules.specs.Contents.{Contents, decode, word}
use Rattle.spec_rules.specs.Rules.{Unfinished}
use Rattle.spec_rules.specs.Test.{tree_test}
use Rattle.law_rules_tasks.specs.Marks.{tree_rest, after_younger}
use Rattle.law_rules_tasks.specs.Tested.{Idle, idle_says}
use Rattle.law_rules_tasks.specs.Tours.{tree_same}
use Rattle.law_rules_tasks.specs.Reached.{reached_tree}
use Rattle.law_rules_tasks.specs.Visits.{count, Visit, holder_visit}
use Rattle.law_rules_tasks.specs.Rings.{parent_visit, siblings_end}
use Rattle.spec_order.specs.Steps.{Task, Item, spot, name_of, number_of}
use Rattle.spec_order.specs.Waits.{is_older}
use Rattle.law_order.specs.Items.{In}
use Rattle.law_links.specs.Row.{Row, row_behind, row_tree}
use Rattle.law_links.specs.Linked.{tree, rules, spot_unfinished}
use Rattle.law_links.specs.Marks.{mark_once, mark_exited, mark_entered}
use Rattle.law_links.specs.Siblings.{On, here}
use Rattle.law_links.specs.Siblings.On.{behind as further}
use Rattle.law_links.specs.Family.{older_on, child_link}
use Rattle.law_invariant.specs.Represents.{Represents}
use Rattle.law_paper_rules.specs.Order.{queue, children, user, right, behind, behind_at, place_in, place, Before}
use Rattle.law_paper_rules.proofs.Words.{same_place}

-- a list parts at each number that stands in it
parts_at : (x : ℕ) (l : List ℕ) → 0 < occurrences x l → (a : List ℕ) × (e : List ℕ) × (l ≡ a ++ x ∷ e)
parts_at x [] p = let a = occurs_nil x in let z : ⊥ = omega (arith, a, p) in absurd z
parts_at x (y ∷ l) p =
    ⊎_elim
    (λ e. ([], l, ap (λ (z : ℕ). z ∷ l) e))
    (λ n.
    let w = parts_at x l (let a = occurs_past y x l n in omega (arith, a, p)) in
    (y ∷ w.0, w.1, ap (λ (k : List ℕ). y ∷ k) w.2))
    (equal? y x)

module _ (m : List ℕ) (xs : List Item) (r : Represents m xs) where
  abbrev c : Contents
  c = decode m

  abbrev T : List ℕ
  T = r.tour

  -- the test of the tree at a mark of the tour counts what comes after it
  mark_tree : (x : ℕ) → 0 < occurrences x T → tree_test c (suc (behind x T)) x ≡ true
  mark_tree x p =
      let w = parts_at x T p in
      let b = ap (behind x) w.2 ∙ behind_at w.0 x w.1 (subst (λ (l : List ℕ). occurrences x l ≤ 1) w.2 (mark_once m T xs r.linked x)) in
      ap (λ (k : ℕ). tree_test c (suc k) x) b ∙ row_tree c x w.1 (row_behind c w.0 x w.1 (subst (Row c) w.2 r.linked.row))

  idle : Idle c
  idle = idle_says c r.linked.idle

  whole : tree_test c (count c) 0 ≡ true
  whole = tree m T xs r.linked

  -- where an unfinished task is entered, and exited
  module _ (t : ℕ) (u : Unfinished c t) where
    visit : Visit c idle whole t
    visit = holder_visit c idle whole t (inr u)

    entered_at : suc (behind t T) ≡ visit.entered
    entered_at =
        tree_same c (suc (behind t T)) visit.entered t (mark_tree t (mark_entered m r.tour xs r.linked t u))
        (reached_tree c (count c) visit.entered t visit.reached)

    exited_at : suc (behind (128 + t) T) ≡ visit.exited
    exited_at = tree_same c (suc (behind (128 + t) T)) visit.exited (128 + t) (mark_tree (128 + t) (mark_exited m T xs r.linked t u)) visit.leaves

    -- LAW (i). "For a task T, T.queue < T.children < T.user < T.right."
    pub order_i : Before m (queue t) (children t) × Before m (children t) (user t) × Before m (user t) (right t)
    unfolding place_in
    order_i =
        let a = entered_at in
        let b = exited_at in
        let d = visit.order in
        let p = same_place m xs r (queue t) in
        let k = same_place m xs r (children t) in
        let w = same_place m xs r (user t) in
        let g = same_place m xs r (right t) in
        (omega (arith, p, k), omega (arith, a, b, d, k, w), omega (arith, w, g))

    -- all of an older sibling stands before it
    older_exited : (o : ℕ) → Unfinished c o → word c t OLDER ≡ o → behind o T < behind (128 + t) T
    older_exited o v e = go visit.exited exited_at visit.leaves
      where
        go : (j : ℕ) → suc (behind (128 + t) T) ≡ j → tree_test c j (128 + t) ≡ true → behind o T < behind (128 + t) T
        go zero i f = let z : ⊥ = omega (arith, i) in absurd z
        go (suc j) i f =
            let l = v.0 in
            let g = tree_rest c j (128 + t) (λ z. top_none z) f in
            let h : after c.recs (128 + t) ≡ o = after_younger c t (omega (arith, e, l)) ∙ e in
            let k = tree_same c (suc (behind o T)) j o (mark_tree o (mark_entered m r.tour xs r.linked o v)) (ap (tree_test c j) (sym h) ∙ g) in
            omega (arith, i, k)
          where
            l : o < 128
            l = v.0

            top_none : 128 + t ≡ 128 → ⊥
            top_none z =
                let a : t ≡ 0 = omega (arith, z) in
                let b = ap (λ (x : ℕ). word c x OLDER) a in
                let d = (rules m T xs r.linked).top_alone.1.0 in
                omega (arith, b, d, e, l)

    -- entered after it is exited, in program order
    pub exited_entered : behind (128 + t) T < behind t T
    exited_entered = let a = entered_at in let b = exited_at in let d = visit.order in omega (arith, a, b, d)

  -- the older sibling that a link leads to is unfinished
  older_unfinished : (t : ℕ) → Unfinished c t → word c t OLDER < 128 → Unfinished c (word c t OLDER)
  older_unfinished t u l =
      ⊎_elim
      (λ e. let z : ⊥ = omega (arith, e, l) in absurd z)
      (λ w. w.0.1.0)
      ((rules m T xs r.linked).older_linked t (word c t PARENT) (not_top, (u, refl)))
    where
      not_top : t ≡ 0 → ⊥
      not_top e =
          let a = ap (λ (x : ℕ). word c x OLDER) e in let d = (rules m T xs r.linked).top_alone.1.0 in omega (arith, a, d, l)

  older_is : (t : ℕ) → word c t OLDER ≡ load (record_of m t) OLDER
  unfolding word
  older_is t = refl

  siblings_before : (o t x : ℕ) → Unfinished c t → word c t OLDER ≡ x → On (record_of m) x o → behind o T < behind (128 + t) T
  siblings_before o t x u e (here l i) =
      let v = older_unfinished t u (omega (arith, e, l)) in
      older_exited t u o (subst (λ (k : ℕ). Unfinished c k) (e ∙ i) v) (e ∙ i)
  siblings_before o t x u e (further l g) =
      let v = subst (λ (k : ℕ). Unfinished c k) e (older_unfinished t u (omega (arith, e, l))) in
      let a = siblings_before o x _ v (older_is x) g in
      let b = exited_entered x v in
      let d = older_exited t u x v e in
      omega (arith, a, b, d)

  -- LAW (ii). "For sibling tasks T1 and T2 where T2 is later in program order, all views of T1 are ordered before T2's views."
  -- With law (i) it is enough that the last view of T1 stands before the first one of T2.
  pub order_ii : (o s : Task) → In (spot o) xs → In (spot s) xs → is_older (name_of o) (name_of s) ≡ true → Before m (right (number_of o)) (queue (number_of s))
  unfolding place_in
  order_ii o s j i e =
      let g = older_on m T xs r.played r.linked s o i j e in
      let a = siblings_before (number_of o) (number_of s) _ (spot_unfinished m T xs r.linked s i) (older_is (number_of s)) g in
      let p = same_place m xs r (right (number_of o)) in
      let k = same_place m xs r (queue (number_of s)) in
      omega (arith, a, p, k)

  -- LAW (iii). "For tasks P and C where P is the parent of C, and for any view v of C, P.children < C.v < P.user." With law (i)
  -- it is enough for the first view of C and the last.
  pub order_iii : (o s : Task) (k : ℕ) → In (spot o) xs → In (spot s) xs → name_of s ≡ k ∷ name_of o
      → Before m (children (number_of o)) (queue (number_of s)) × Before m (right (number_of s)) (user (number_of o))
  unfolding place_in
  order_iii o s k j i e = (omega (arith, b, p, w), omega (arith, a, x, y))
    where
      t : ℕ
      t = number_of s

      u : Unfinished c t
      u = spot_unfinished m T xs r.linked s i

      above : 0 < t
      above = let n = (child_link m T xs r.played r.linked s o k i j e).0 in ⊎_elim (λ z. absurd (n z)) (λ z. z) (eq-zero-or-pos t)

      parent : word c t PARENT ≡ number_of o
      parent = (child_link m T xs r.played r.linked s o k i j e).1.1

      -- the parent is entered later
      a : behind t T < behind (number_of o) T
      a =
          let v = spot_unfinished m T xs r.linked o j in
          let w = parent_visit c idle whole t (visit t u) above in
          let d = entered_at t u in
          let f = entered_at (number_of o) v in
          let g = w.1 in
          let h =
          tree_same c w.0.entered (visit (number_of o) v).entered (number_of o)
          (ap (tree_test c w.0.entered) (sym parent) ∙ reached_tree c (count c) w.0.entered (word c t PARENT) w.0.reached)
          (reached_tree c (count c) (visit (number_of o) v).entered (number_of o) (visit (number_of o) v).reached) in
          omega (arith, d, f, g, h)

      -- and exited earlier
      b : behind (128 + number_of o) T < behind (128 + t) T
      b =
          let v = spot_unfinished m T xs r.linked o j in
          let w = siblings_end c idle whole t above (visit t u) in
          let d = exited_at t u in
          let f = exited_at (number_of o) v in
          let g = w.order in
          let h =
          tree_same c w.later (visit (number_of o) v).exited (128 + number_of o) (ap (λ (x : ℕ). tree_test c w.later (128 + x)) (sym parent) ∙ w.parent)
          (visit (number_of o) v).leaves in
          omega (arith, d, f, g, h)

      p : place m (children (number_of o)) ≡ place_in T (children (number_of o))
      p = same_place m xs r (children (number_of o))

      w : place m (queue t) ≡ place_in T (queue t)
      w = same_place m xs r (queue t)

      x : place m (right t) ≡ place_in T (right t)
      x = same_place m xs r (right t)

      y : place m (user (number_of o)) ≡ place_in T (user (number_of o))
      y = same_place m xs r (user (number_of o))
