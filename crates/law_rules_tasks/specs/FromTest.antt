-- The rules of tasks from their tests.
use Rattle.std.specs.Prelude.{◌≡◌, refl, true, ◌⊎◌, ℕ, ◌<◌, ◌≤◌}
use Rattle.std.proofs.Common.{ap, sym, ◌∙◌, subst, inl, inr, ⊎_elim, arith, eq-zero-or-pos}
use Rattle.spec_lists.specs.Counting.{occurrences, equal?}
use Rattle.spec_layout.specs.Layout.{NONE, STATUS, PARENT, OLDER, YOUNGER, YOUNGEST, FREE, UNFINISHED, FINISHED}
use Rattle.spec_tree.specs.Rights.{subset}
use Rattle.spec_rules.specs.Contents.{Contents, word, task_rights}
use Rattle.spec_rules.specs.Rules.{Link, Unfinished, Holder, Child, TaskRules, walk}
use Rattle.spec_rules.specs.Test.{tree_test}
use Rattle.law_rules_tasks.specs.Marks.{Kin}
use Rattle.law_rules_tasks.specs.Tested.{Top, Idle}
use Rattle.law_rules_tasks.specs.Reached.{Reached, top, youngest, older, reached_holder}
use Rattle.law_rules_tasks.specs.Visits.{count, Visit, visit, holder_visit}
use Rattle.law_rules_tasks.specs.Rings.{parent_visit, parent_below, down, along, siblings_end, parents_end}
use Rattle.law_rules_tasks.specs.Holders.{child_above}

module _ (c : Contents) where
  kin_child : (t p y : ℕ) → Kin c t p y → Child c p t
  kin_child t p y k = let a = k.above in ((λ q. omega (arith, a, q)), ((k.below, k.status), k.parent))

  reached_unfinished : (n j t : ℕ) → Reached c n j t → 0 < t → Unfinished c t
  reached_unfinished n j t r h = ⊎_elim (λ q. let z : ⊥ = omega (arith, q, h) in absurd z) (λ w. w) (reached_holder c n j t r)

  -- the younger sibling, or the parent whose youngest child it is
  abbrev Younger : ℕ → ℕ → Type 0
  Younger p t = ((word c t YOUNGER ≡ NONE) × (word c p YOUNGEST ≡ t)) ⊎ (Child c p (word c t YOUNGER) × (word c (word c t YOUNGER) OLDER ≡ t))

  came : (n j t : ℕ) → Reached c n j t → 0 < t → Younger (word c t PARENT) t
  came n j t (top a b e) h = let z : ⊥ = omega (arith, a, h) in absurd z
  came n j t (youngest i p r l q w e) h = inl (w.younger, ap (λ (x : ℕ). word c x YOUNGEST) w.parent ∙ q)
  came n j t (older i u r l a q w e) h =
      inr (subst (λ (x : ℕ). Child c (word c t PARENT) x × (word c x OLDER ≡ t)) (sym w.younger)
      (((λ z. omega (arith, a, z)), (reached_unfinished n i u r a, sym w.parent)), q))

  rights : (n j t : ℕ) → Reached c n j t → 0 < t → subset (task_rights c t) (task_rights c (word c t PARENT)) ≡ true
  rights n j t (top a b e) h = let z : ⊥ = omega (arith, a, h) in absurd z
  rights n j t (youngest i p r l q w e) h = ap (λ (x : ℕ). subset (task_rights c t) (task_rights c x)) w.parent ∙ w.rights
  rights n j t (older i u r l a q w e) h = ap (λ (x : ℕ). subset (task_rights c t) (task_rights c x)) w.parent ∙ w.rights

  -- where a task other than the top is entered, the top has a child
  has_child : (n j t : ℕ) → Reached c n j t → 0 < t → word c 0 YOUNGEST ≡ NONE → ⊥
  has_child n j t (top a b e) h none = omega (arith, a, h)
  has_child n j t (youngest i p r l q w e) h none =
      ⊎_elim
      (λ z. let b = w.below in let d = ap (λ (x : ℕ). word c x YOUNGEST) (sym z) ∙ q in omega (arith, b, d, none))
      (λ z. has_child n i p r z none)
      (eq-zero-or-pos p)
  has_child n j t (older i u r l a q w e) h none = has_child n i u r a none

module _ (c : Contents) (first : Top c) (idle : Idle c) (e : tree_test c (count c) 0 ≡ true) where
  abbrev Visited : ℕ → Type 0
  Visited = Visit c idle e

  child_visit : (t p : ℕ) → Child c p t → Visited t
  child_visit t p h = holder_visit c idle e t (inr h.1.0)

  older_linked : (t p : ℕ) → Child c p t → (word c t OLDER ≡ NONE) ⊎ (Child c p (word c t OLDER) × (word c (word c t OLDER) YOUNGER ≡ t))
  older_linked t p h =
      ⊎_elim
      inl
      (λ k. inr (subst (λ (x : ℕ). Child c x (word c t OLDER)) h.1.1 (kin_child c _ _ _ k), k.younger))
      (along c idle e t (child_visit t p h) (child_above c t p h))

  younger_linked : (t p : ℕ) → Child c p t → Younger c p t
  younger_linked t p h =
      let v = child_visit t p h in
      subst (λ (x : ℕ). Younger c x t) h.1.1 (came c (count c) v.entered t v.reached (child_above c t p h))

  youngest_linked : (t : ℕ) → Holder c t → (word c t YOUNGEST ≡ NONE) ⊎ (Child c t (word c t YOUNGEST) × (word c (word c t YOUNGEST) YOUNGER ≡ NONE))
  youngest_linked t h = ⊎_elim inl (λ k. inr (kin_child c _ _ _ k, k.younger)) (down c idle e t (holder_visit c idle e t h))

  parents : (t p : ℕ) → Child c p t → Unfinished c p
  parents t p h =
      let v = child_visit t p h in
      let w = parent_visit c idle e t v (child_above c t p h) in
      subst (λ (x : ℕ). Unfinished c x) h.1.1 (⊎_elim (λ q. at_top q first.status) (λ u. u) w.2)
    where
      at_top : word c t PARENT ≡ 0 → (word c 0 STATUS ≡ UNFINISHED) ⊎ ((word c 0 STATUS ≡ FINISHED) × (word c 0 YOUNGEST ≡ NONE))
          → Unfinished c (word c t PARENT)
      at_top q (inl s) = (omega (arith, q), ap (λ (x : ℕ). word c x STATUS) q ∙ s)
      at_top q (inr s) = let v = child_visit t p h in absurd (has_child c (count c) v.entered t v.reached (child_above c t p h) s.1)

  no_sibling_ring : (t p : ℕ) → Child c p t → (k : ℕ) × (k ≤ 128) × (walk (λ x. word c x OLDER) k t ≡ NONE)
  no_sibling_ring t p h =
      let v = child_visit t p h in
      let s = siblings_end c idle e t (child_above c t p h) v in
      let a = s.few in
      let b = v.order in
      let d = v.most in
      (s.steps, omega (arith, a, b, d), s.end)

  no_parent_ring : (t : ℕ) → Unfinished c t → (k : ℕ) × (k ≤ 127) × (walk (λ x. word c x PARENT) k t ≡ 0)
  no_parent_ring t u =
      let v = holder_visit c idle e t (inr u) in
      let s = parents_end c idle e t v in
      let a = s.few in
      let b = v.order in
      (s.steps, omega (arith, a, b), s.end)

  record_status : (t : ℕ) → 0 < t → t < 128
      → ((word c t STATUS ≡ UNFINISHED) × (occurrences t c.idle ≡ 0)) ⊎ ((word c t STATUS ≡ FREE) × (occurrences t c.idle ≡ 1))
  record_status t h l =
      ⊎_elim
      (λ q. let v = visit c idle e t l q in inl ((reached_unfinished c (count c) v.entered t v.reached h).1, q))
      (λ p. let a = idle.apart.once t in inr (idle.free t p, omega (arith, a, p)))
      (eq-zero-or-pos (occurrences t c.idle))

  child_below : (t p : ℕ) → Child c p t → t < 128
  child_below t p h = h.1.0.0

  holder_links : (t : ℕ) → Holder c t
      → Link 128 (word c t PARENT) × Link 128 (word c t OLDER) × Link 128 (word c t YOUNGER) × Link 128 (word c t YOUNGEST)
  holder_links t h =
      let youngest = ⊎_elim inr (λ w. inl (child_below _ _ w.0)) (youngest_linked t h) in
      ⊎_elim
      (λ q. (
        inr (ap (λ (x : ℕ). word c x PARENT) q ∙ first.parent),
        inr (ap (λ (x : ℕ). word c x OLDER) q ∙ first.older),
        inr (ap (λ (x : ℕ). word c x YOUNGER) q ∙ first.younger),
        youngest,
      ))
      (λ g. let k = child g in (
        inl (parent_below c idle e t (holder_visit c idle e t h) g),
        ⊎_elim inr (λ w. inl (child_below _ _ w.0)) (older_linked t _ k),
        ⊎_elim (λ w. inr w.0) (λ w. inl (child_below _ _ w.0)) (younger_linked t _ k),
        youngest,
      ))
      (eq-zero-or-pos t)
    where
      child : 0 < t → Child c (word c t PARENT) t
      child g = ((λ q. omega (arith, q, g)), (⊎_elim (λ q. let z : ⊥ = omega (arith, q, g) in absurd z) (λ w. w) h, refl))

  task_links : (t k : ℕ) → Holder c t → PARENT ≤ k → k ≤ YOUNGEST → Link 128 (word c t k)
  task_links t k h a b =
      let w = holder_links t h in
      ⊎_elim (λ q. rw q w.0)
      (λ n2. ⊎_elim (λ q. rw q w.1)
      (λ n3. ⊎_elim (λ q. rw q w.2)
      (λ n4. let q : k ≡ 5 = omega (arith, a, b, n2, n3, n4) in rw q w.3)
      (equal? k 4)) (equal? k 3)) (equal? k 2)

  pub tested_rules : TaskRules c
  tested_rules =
      record {
        task_links = task_links;
        top_status = ⊎_elim inl (λ w. inr w.0) first.status;
        record_status = record_status;
        idle_few = idle.few;
        idle_below = λ t p. (idle.above t p, idle.apart.below t p);
        older_linked = older_linked;
        younger_linked = younger_linked;
        youngest_linked = youngest_linked;
        top_alone = (first.parent, (first.older, first.younger));
        parents = parents;
        no_sibling_ring = no_sibling_ring;
        no_parent_ring = no_parent_ring;
        top_rights = first.rights;
        child_rights = λ t p h.
            let v = child_visit t p h in
            ap (λ (x : ℕ). subset (task_rights c t) (task_rights c x)) (sym h.1.1) ∙ rights c (count c) v.entered t v.reached (child_above c t p h);
      }
