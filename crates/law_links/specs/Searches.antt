-- What two searches of the words find, by program order: a pusher before a task, and the heir of a task's queue view.
use Rattle.std.specs.Prelude.{◌≡◌, refl, true, false, List, [], ◌∷◌, ◌++◌, ◌⊎◌, eqb, ltb}
use Rattle.std.proofs.Math.Path.{ap}
use Rattle.std.proofs.Common.{sym, ◌∙◌, subst, inl, inr, ⊎_elim, arith}
use Rattle.std.proofs.Math.Bool.{Bool, not, false≢true}
use Prim.Native.Nat.{ℕ, ◌<◌}
use borrow.Author.Tests.{lt-ltb, ltb-true, eq-eqb, ne_eqb}
use Rattle.spec_words.specs.Words.{load, pass, halt, both, both_true, true_both, same_test}
use Rattle.spec_lists.specs.Counting.{occurrences, occurs_nil, occurs_here, occurs_past, equal?, occurs_later}
use Rattle.spec_layout.specs.Layout.{PARENT, OLDER, YOUNGEST, task, rights_of as rights_in, read, record_of}
use Rattle.spec_layout.proofs.Frame.{record_word}
use Rattle.spec_tree.specs.Rights.{pushes, pops, subset}
use Rattle.spec_tree.specs.Tour.{END, oldest}
use Rattle.spec_rules.specs.Rules.{walk}
use Rattle.law_rules_tasks.specs.Holders.{entered_count}
use Rattle.law_gaps.proofs.Search.{first_of}
use Rattle.spec_outcomes.specs.Waits.{pusher_before}
use Rattle.spec_outcomes.specs.Finish.{heir}
use Rattle.spec_order.specs.Steps.{Name, Task, Item, spot, name_of, number_of, rights_of}
use Rattle.spec_order.specs.Waits.{is_older, some_spot}
use Rattle.law_order.specs.Items.{In}
use Rattle.law_order_waits.specs.Spots.{some_says, says_some, says_older}
use Rattle.law_order_waits.specs.Played.{Played}
use Rattle.law_order_waits.specs.Changes.{in_left}
use Rattle.law_order_waits.specs.Kinship.{kinship}
use Rattle.law_links.specs.Siblings.{On, oldest_is}
use Rattle.law_links.specs.Linked.{back_says, says_back, Linked, spot_unfinished}
use Rattle.law_links.specs.Family.{on_child, child_on, older_on}
use Rattle.law_links.specs.Waits.{same_rights, youngest_ends}
use Rattle.law_links.specs.Places.{Place}

-- SEARCHING A LIST OF MARKS
first_says : (f : ℕ → Bool) (l : List ℕ) → (first_of f l ≡ END → ⊥) → (x : ℕ) × (0 < occurrences x l) × (f x ≡ true)
unfolding first_of
first_says f [] n = absurd (n refl)
first_says f (y ∷ l) n = go (f y) refl (first_says f l)
  where
    go : (b : Bool) → f y ≡ b → ((first_of f l ≡ END → ⊥) → (x : ℕ) × (0 < occurrences x l) × (f x ≡ true))
        → (x : ℕ) × (0 < occurrences x (y ∷ l)) × (f x ≡ true)
    go true e rest = (y, (let a = occurs_here y y l refl in omega (arith, a)), e)
    go false e rest =
        let w = rest (λ d. n (pass _ e d)) in
        (w.0, occurs_later y w.0 l w.1, w.2)

says_first : (f : ℕ → Bool) (l : List ℕ) (x : ℕ) → ((y : ℕ) → f y ≡ true → y < END) → 0 < occurrences x l → f x ≡ true → first_of f l ≡ END → ⊥
unfolding first_of
says_first f [] x small p e d = let a = occurs_nil x in omega (arith, a, p)
says_first f (y ∷ l) x small p e d = go (f y) refl (says_first f l x small)
  where
    go : (b : Bool) → f y ≡ b → (0 < occurrences x l → f x ≡ true → first_of f l ≡ END → ⊥) → ⊥
    go true g rest = let a = small y g in let h = sym (halt y (first_of f l) g) ∙ d in omega (arith, a, h)
    go false g rest =
        ⊎_elim
        (λ h. false≢true (sym g ∙ ap f h ∙ e))
        (λ h. let a = occurs_past y x l h in rest (omega (arith, a, p)) e (sym (pass y g refl) ∙ d))
        (equal? y x)

-- A PUSHER BEFORE the task: "an unfinished task, other than the caller, with push right on q"
module _ (m : List ℕ) (T : List ℕ) (ys zs : List Item) (s : Task) (h : Linked m T (ys ++ spot s ∷ zs)) (p : Place m T ys zs s) where
  pub same_pusher : (q : ℕ) → pusher_before m (number_of s) q ≡ some_spot (λ o. pushes (rights_of o) q) ys
  unfolding pusher_before
  same_pusher q =
      ap (λ (x : ℕ). not (eqb x END)) (p.search f)
      ∙ same_test _ _
      (λ e.
      let w = first_says f p.earlier (λ d. false≢true (ap not (sym (eq-eqb _ END d)) ∙ e)) in
      let b = both_true _ _ w.2 in
      let a = entered_count p.earlier w.0 (ltb-true w.0 128 b.0) in
      let d = ap (occurrences w.0) p.entered_earlier in
      let n = w.1 in
      let v = back_says w.0 ys (omega (arith, a, d, n)) in
      says_some _ ys v.0 v.1
      (subst (λ (r : ℕ). pushes r q ≡ true) (ap (rights_in m) (sym v.2) ∙ rights_of_lem v.0 (in_left (spot v.0) ys (spot s ∷ zs) v.1)) b.1))
      (λ e.
      let w = some_says _ ys e in
      let i = in_left (spot w.0) ys (spot s ∷ zs) w.1 in
      let l = (spot_unfinished m T (ys ++ spot s ∷ zs) h w.0 i).0 in
      let a = entered_count p.earlier (number_of w.0) l in
      let d = ap (occurrences (number_of w.0)) p.entered_earlier in
      let n = says_back w.0 ys w.1 in
      ap not
      (ne_eqb _ END
      (says_first f p.earlier (number_of w.0) (λ y g. let z = ltb-true y 128 (both_true _ _ g).0 in omega (arith, z)) (omega (arith, a, d, n))
      (true_both (lt-ltb _ 128 l) (subst (λ (r : ℕ). pushes r q ≡ true) (sym (rights_of_lem w.0 i)) w.2)))))
    where
      f : ℕ → Bool
      f x = both (ltb x 128) (pushes (rights_in m x) q)

      rights_of_lem : (o : Task) → In (spot o) (ys ++ spot s ∷ zs) → rights_in m (number_of o) ≡ rights_of o
      rights_of_lem o i = h.rights o i

-- THE HEIR of the queue view of s: "the oldest unfinished sibling with that pop right, else .. the parent"
module _ (m : List ℕ) (T : List ℕ) (xs : List Item) (play : Played xs) (h : Linked m T xs) where
  abbrev Spot : Task → Type 0
  Spot s = In (spot s) xs

  -- no child of the task named n, other than s, and older than number j where that is asked, pops
  abbrev pub ParentHeir : ℕ → Task → Name → ℕ → Type 0
  ParentHeir q s n w = (o : Task) × Spot o × (number_of o ≡ w) × (name_of o ≡ n)
      × ((u : Task) (i : ℕ) → Spot u → name_of u ≡ i ∷ n → (number_of u ≡ number_of s → ⊥) → pops (rights_of u) q ≡ true → ⊥)

  abbrev pub SiblingHeir : ℕ → Task → Name → ℕ → Type 0
  SiblingHeir q s n w = (o : Task) × (j : ℕ) × Spot o × (number_of o ≡ w) × (name_of o ≡ j ∷ n) × (number_of o ≡ number_of s → ⊥) × (pops (rights_of o) q ≡ true)
      × ((u : Task) (i : ℕ) → Spot u → name_of u ≡ i ∷ n → i < j → (number_of u ≡ number_of s → ⊥) → pops (rights_of u) q ≡ true → ⊥)

  pub heir_is : (q : ℕ) (s : Task) (k : ℕ) (n : Name) → Spot s → name_of s ≡ k ∷ n
      → ParentHeir q s n (heir m (number_of s) q) ⊎ SiblingHeir q s n (heir m (number_of s) q)
  unfolding heir
  heir_is q s k n i e = go ((kinship play).parent s k n i e)
    where
      f : ℕ → Bool
      f x = both (not (eqb x (number_of s))) (pops (rights_in m x) q)

      -- the search among the children of task x
      found : ℕ → ℕ
      found x = oldest 128 f (record_of m) (read m (task x YOUNGEST)) x

      holds : (u : Task) → Spot u → (number_of u ≡ number_of s → ⊥) → pops (rights_of u) q ≡ true → f (number_of u) ≡ true
      holds u j d g = true_both (ap not (ne_eqb _ _ d)) (ap (λ (r : ℕ). pops r q) (same_rights m T xs play h u j) ∙ g)

      by : (o : Task) → Spot o → name_of o ≡ n
          → ((found (number_of o) ≡ number_of o) × ((u : ℕ) → On (record_of m) (read m (task (number_of o) YOUNGEST)) u → f u ≡ true → ⊥))
          ⊎ (On (record_of m) (read m (task (number_of o) YOUNGEST)) (found (number_of o)) × (f (found (number_of o)) ≡ true)
          × ((u : ℕ) → On (record_of m) (load (record_of m (found (number_of o))) OLDER) u → f u ≡ true → ⊥))
          → ParentHeir q s n (found (number_of o)) ⊎ SiblingHeir q s n (found (number_of o))
      by o j d (inl v) =
          inl (
            o,
            j,
            sym v.0,
            d,
            (λ u x l g a b.
                v.1 (number_of u)
                (subst (λ (y : ℕ). On (record_of m) y (number_of u)) (record_word m (number_of o) YOUNGEST)
                (child_on m T xs play h o u x j l (g ∙ ap (λ (y : Name). x ∷ y) (sym d))))
                (holds u l a b)),
          )
      by o j d (inr v) =
          let w = on_child m T xs play h o (found (number_of o)) j
          (subst (λ (y : ℕ). On (record_of m) y (found (number_of o))) (sym (record_word m (number_of o) YOUNGEST)) v.0) in
          let c = both_true _ _ v.1 in
          let named = w.4 ∙ ap (λ (y : Name). w.1 ∷ y) d in
          inr (
            w.0,
            w.1,
            w.2,
            w.3,
            named,
            (λ z. false≢true (ap not (sym (eq-eqb _ _ (sym w.3 ∙ z))) ∙ c.0)),
            sym (ap (λ (r : ℕ). pops r q) (ap (rights_in m) (sym w.3) ∙ same_rights m T xs play h w.0 w.2)) ∙ c.1,
            (λ u x l g lt a b.
                v.2 (number_of u)
                (subst (λ (y : ℕ). On (record_of m) (load (record_of m y) OLDER) (number_of u)) w.3
                (older_on m T xs play h w.0 u w.2 l
                (subst (λ (y : Name). is_older y (name_of w.0) ≡ true) (sym g)
                (subst (λ (y : Name). is_older (x ∷ n) y ≡ true) (sym named) (says_older x w.1 n lt)))))
                (holds u l a b)),
          )

      go : (o : Task) × Spot o × (name_of o ≡ n) × (subset (rights_of s) (rights_of o) ≡ true)
          → ParentHeir q s n (found (read m (task (number_of s) PARENT))) ⊎ SiblingHeir q s n (found (read m (task (number_of s) PARENT)))
      go w =
          let o = w.0 in
          let p = h.parents s o k i w.1 (e ∙ ap (λ (x : Name). k ∷ x) (sym w.2)) in
          let ends = youngest_ends m T xs play h o w.1 in
          subst (λ (x : ℕ). ParentHeir q s n (found x) ⊎ SiblingHeir q s n (found x)) (sym p)
          (by o w.1 w.2
          (oldest_is (record_of m) f 128 ends.0 (read m (task (number_of o) YOUNGEST)) (number_of o) ends.1
          (ap (walk (λ x. load (record_of m x) OLDER) ends.0) (sym (record_word m (number_of o) YOUNGEST)) ∙ ends.2)).which)
