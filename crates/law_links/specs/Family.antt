-- Parents, children and older siblings: by the links of the words and by the names of program order, the same.
use Rattle.std.specs.Prelude.{◌≡◌, true, ◌⊎◌, ℕ, zero, suc, ◌+◌, ◌<◌, ◌≤◌}
use Rattle.std.proofs.Math.Path.{refl, ap, sym}
use Rattle.std.proofs.Common.{◌∙◌, subst, arith}
use mathlib.Core.List.{List, [], ◌∷◌, head-eq_of_cons-eq, tail-eq_of_cons-eq}
use Rattle.std.proofs.Math.Logic.{inl, inr, ⊎_elim}
use Rattle.spec_words.specs.Words.{load}
use Rattle.spec_lists.specs.Counting.{equal?}
use Rattle.spec_layout.specs.Layout.{NONE, PARENT, OLDER, YOUNGER, YOUNGEST, task, read, record_of}
use Rattle.spec_rules.specs.Contents.{Contents, decode, word}
use Rattle.spec_rules.specs.Rules.{Child, TaskRules}
use Rattle.spec_order.specs.Steps.{Name, Task, Item, spot, name_of, number_of}
use Rattle.spec_order.specs.Waits.{is_older}
use Rattle.law_order.specs.Items.{In}
use Rattle.law_order_waits.specs.Spots.{same_number, same_name, older_says, says_older}
use Rattle.law_order_waits.specs.Played.{Played, played_reached, kids_of}
use Rattle.law_order_waits.specs.Kinship.{Kinship, kinship}
use Rattle.law_links.specs.Siblings.{On, here, behind, on_below, on_linear, on_trans}
use Rattle.law_links.specs.Linked.{Linked, word_is, rules, spot_unfinished, unfinished_spot}

pub older_trans : (a b d : Name) → is_older a b ≡ true → is_older b d ≡ true → is_older a d ≡ true
older_trans a b d e f =
    let v = older_says a b e in
    let w = older_says b d f in
    let g : v.1 ∷ v.2 ≡ w.0 ∷ w.2 = sym v.4 ∙ w.3 in
    let i = head-eq_of_cons-eq g in
    let l = v.5 in
    let k = w.5 in
    subst (λ (x : Name). is_older x d ≡ true) (sym (v.3 ∙ ap (λ (n : Name). v.0 ∷ n) (tail-eq_of_cons-eq g)))
    (subst (λ (x : Name). is_older (v.0 ∷ w.2) x ≡ true) (sym w.4) (says_older v.0 w.1 w.2 (omega (arith, i, l, k))))

older_apart : (a b : Name) → is_older a b ≡ true → is_older b a ≡ true → ⊥
older_apart a b e f =
    let v = older_says a b e in
    let w = older_says b a f in
    let g : v.1 ∷ v.2 ≡ w.0 ∷ w.2 = sym v.4 ∙ w.3 in
    let k : v.0 ∷ v.2 ≡ w.1 ∷ w.2 = sym v.3 ∙ w.4 in
    let i = head-eq_of_cons-eq g in
    let j = head-eq_of_cons-eq k in
    let l = v.5 in
    let n = w.5 in
    omega (arith, i, j, l, n)

module _ (m : List ℕ) (T : List ℕ) (xs : List Item) (play : Played xs) (h : Linked m T xs) where
  abbrev c : Contents
  c = decode m

  abbrev Spot : Task → Type 0
  Spot s = In (spot s) xs

  law : TaskRules c
  law = rules m T xs h

  kin : Kinship xs
  kin = kinship play

  below : (s : Task) → Spot s → number_of s < 128
  below s i = (spot_unfinished m T xs h s i).0

  -- the top is named [], and no other task is
  top_name : (s : Task) → Spot s → number_of s ≡ 0 → name_of s ≡ []
  top_name s i e = go (name_of s) refl
    where
      go : (n : Name) → name_of s ≡ n → name_of s ≡ []
      go [] d = d
      go (k ∷ p) d =
          let w = kin.parent s k p i d in
          let a = h.parents s w.0 k i w.1 (d ∙ ap (λ (x : Name). k ∷ x) (sym w.2)) in
          let b = below w.0 w.1 in
          let t : word c 0 PARENT ≡ NONE = law.top_alone.0 in
          let f = sym (word_is m 0 PARENT) ∙ t in
          let g = ap (λ (x : ℕ). read m (task x PARENT)) (sym e) in
          let z : ⊥ = omega (arith, a, b, f, g) in
          absurd z

  pub name_top : (s : Task) → Spot s → name_of s ≡ [] → number_of s ≡ 0
  name_top s i e =
      let w = unfinished_spot m T xs h 0 (omega arith, word_is m 0 0 ∙ h.running) in
      ap number_of (same_name xs (played_reached play) s w.0 i w.1 (e ∙ sym (top_name w.0 w.1 w.2))) ∙ w.2

  -- a child by names is a child by links
  pub child_link : (s o : Task) (k : ℕ) → Spot s → Spot o → name_of s ≡ k ∷ name_of o → Child c (number_of o) (number_of s)
  child_link s o k i j e =
      let a = h.parents s o k i j e in
      let b = below o j in
      let t : word c 0 PARENT ≡ NONE = law.top_alone.0 in
      let f = sym (word_is m 0 PARENT) ∙ t in (
        (λ z. let g = ap (λ (x : ℕ). read m (task x PARENT)) z in omega (arith, a, b, f, g)),
        (spot_unfinished m T xs h s i, word_is m (number_of s) PARENT ∙ a),
      )

  -- a child by links is a child by names
  pub link_child : (p t : ℕ) → Child c p t → (s : Task) × (o : Task) × (k : ℕ) × Spot s × Spot o × (number_of s ≡ t) × (number_of o ≡ p)
      × (name_of s ≡ k ∷ name_of o)
  link_child p t w =
      let v = unfinished_spot m T xs h t w.1.0 in
      go v.0 v.1 v.2 (name_of v.0) refl
    where
      go : (s : Task) → Spot s → number_of s ≡ t → (n : Name) → name_of s ≡ n
          → (s : Task) × (o : Task) × (k : ℕ) × Spot s × Spot o × (number_of s ≡ t) × (number_of o ≡ p) × (name_of s ≡ k ∷ name_of o)
      go s i e [] d = absurd (w.0 (sym e ∙ name_top s i d))
      go s i e (k ∷ q) d =
          let u = kin.parent s k q i d in
          let named = d ∙ ap (λ (x : Name). k ∷ x) (sym u.2) in
          let a = h.parents s u.0 k i u.1 named in
          (s, u.0, k, i, u.1, e, sym a ∙ ap (λ (x : ℕ). read m (task x PARENT)) e ∙ sym (word_is m t PARENT) ∙ w.1.1, named)

  -- a task other than the top is a child by links
  some_child : (s : Task) → Spot s → (number_of s ≡ 0 → ⊥) → Child c (word c (number_of s) PARENT) (number_of s)
  some_child s i n = (n, (spot_unfinished m T xs h s i, refl))

  abbrev recs : ℕ → List ℕ
  recs = record_of m

  older_word : (t : ℕ) → load (recs t) OLDER ≡ word c t OLDER
  unfolding word
  older_word t = refl

  -- the older sibling that a link leads to
  next_older : (s : Task) → Spot s → load (recs (number_of s)) OLDER < 128
      → (o : Task) × Spot o × (number_of o ≡ load (recs (number_of s)) OLDER) × (is_older (name_of o) (name_of s) ≡ true)
  next_older s i l = ⊎_elim none some (equal? (number_of s) 0)
    where
      none : number_of s ≡ 0 → (o : Task) × Spot o × (number_of o ≡ load (recs (number_of s)) OLDER) × (is_older (name_of o) (name_of s) ≡ true)
      none e =
          let t : word c 0 OLDER ≡ NONE = law.top_alone.1.0 in
          let a = older_word (number_of s) in
          let b = ap (λ (x : ℕ). word c x OLDER) e in
          let z : ⊥ = omega (arith, t, a, b, l) in
          absurd z

      some : (number_of s ≡ 0 → ⊥) → (o : Task) × Spot o × (number_of o ≡ load (recs (number_of s)) OLDER) × (is_older (name_of o) (name_of s) ≡ true)
      some n =
          ⊎_elim
          (λ e. let a = older_word (number_of s) in let z : ⊥ = omega (arith, e, a, l) in absurd z)
          (λ w.
          let v = unfinished_spot m T xs h (word c (number_of s) OLDER) w.0.1.0 in
          (v.0, v.1, v.2 ∙ sym (older_word (number_of s)), h.ages s v.0 i v.1 (sym (word_is m (number_of s) OLDER) ∙ sym v.2)))
          (law.older_linked (number_of s) _ (some_child s i n))

  -- who stands behind on the list of siblings is older
  pub on_older : (s : Task) (x u : ℕ) → Spot s → x ≡ load (recs (number_of s)) OLDER → On recs x u
      → (o : Task) × Spot o × (number_of o ≡ u) × (is_older (name_of o) (name_of s) ≡ true)
  on_older s x u i e (here l d) =
      let w = next_older s i (omega (arith, e, l)) in
      (w.0, w.1, w.2 ∙ sym e ∙ d, w.3)
  on_older s x u i e (behind l g) =
      let w = next_older s i (omega (arith, e, l)) in
      let v = on_older w.0 (load (recs x) OLDER) u w.1 (ap (λ (y : ℕ). load (recs y) OLDER) (e ∙ sym w.2)) g in
      (v.0, v.1, v.2, older_trans (name_of v.0) (name_of w.0) (name_of s) v.3 w.3)

  -- the younger sibling of a child, or that there is none
  abbrev Next : Task → Task → ℕ → Type 0
  Next s o k =
      (load (recs (number_of s)) YOUNGEST ≡ number_of o)
      ⊎ ((y : Task) × (j : ℕ) × Spot y × (name_of y ≡ j ∷ name_of s) × (k < j) × (load (recs (number_of y)) OLDER ≡ number_of o))

  next_younger : (s o : Task) (k : ℕ) → Spot s → Spot o → name_of o ≡ k ∷ name_of s → Next s o k
  unfolding word
  next_younger s o k i j e =
      ⊎_elim
      (λ w. inl w.1)
      (λ w.
      let v = link_child (number_of s) (word c (number_of o) YOUNGER) w.0 in
      let p : v.1 ≡ s = same_number xs (played_reached play) v.1 s v.4 i v.6 in
      let named : name_of v.0 ≡ v.2 ∷ name_of s = v.7 ∙ ap (λ (x : Task). v.2 ∷ name_of x) p in
      let back : load (recs (number_of v.0)) OLDER ≡ number_of o = ap (λ (x : ℕ). load (recs x) OLDER) v.5 ∙ w.1 in
      let a = h.ages v.0 o v.3 j (sym (word_is m (number_of v.0) OLDER) ∙ back) in
      let y = older_says (name_of o) (name_of v.0) a in
      let f : y.0 ∷ y.2 ≡ k ∷ name_of s = sym y.3 ∙ e in
      let g : y.1 ∷ y.2 ≡ v.2 ∷ name_of s = sym y.4 ∙ named in
      let fi = head-eq_of_cons-eq f in
      let gi = head-eq_of_cons-eq g in
      let l = y.5 in
      inr (v.0, v.2, v.3, named, omega (arith, fi, gi, l), back))
      (law.younger_linked (number_of o) (number_of s) (child_link o s k j i e))

  -- every child stands on the list from the youngest; n bounds how many are younger
  from_youngest : (n : ℕ) (s o : Task) (k : ℕ) → Spot s → Spot o → name_of o ≡ k ∷ name_of s → kids_of s ≤ k + n
      → On recs (load (recs (number_of s)) YOUNGEST) (number_of o)
  from_youngest zero s o k i j e l = let a = kin.below s o k i j e in let z : ⊥ = omega (arith, a, l) in absurd z
  from_youngest (suc n) s o k i j e l = go (λ y k' i' e' l'. from_youngest n s y k' i i' e' l') (next_younger s o k i j e)
    where
      go : ((y : Task) (k' : ℕ) → Spot y → name_of y ≡ k' ∷ name_of s → kids_of s ≤ k' + n → On recs (load (recs (number_of s)) YOUNGEST) (number_of y)) → Next s o k
          → On recs (load (recs (number_of s)) YOUNGEST) (number_of o)
      go rest (inl q) = let b = below o j in let l : load (recs (number_of s)) YOUNGEST < 128 = omega (arith, b, q) in here l q
      go rest (inr w) =
          let q = w.5 in
          let lt = w.4 in
          let b = below o j in
          on_trans recs (rest w.0 w.1 w.2 w.3 (omega (arith, l, lt)))
          (behind (below w.0 w.2) (let l : load (recs (number_of w.0)) OLDER < 128 = omega (arith, b, q) in here l q))

  pub child_on : (s o : Task) (k : ℕ) → Spot s → Spot o → name_of o ≡ k ∷ name_of s → On recs (load (recs (number_of s)) YOUNGEST) (number_of o)
  child_on s o k i j e = from_youngest (kids_of s) s o k i j e (omega arith)

  -- who stands on the list from the youngest is a child
  pub on_child : (s : Task) (u : ℕ) → Spot s → On recs (load (recs (number_of s)) YOUNGEST) u
      → (o : Task) × (k : ℕ) × Spot o × (number_of o ≡ u) × (name_of o ≡ k ∷ name_of s)
  unfolding word
  on_child s u i g =
      ⊎_elim
      (λ e. let l = on_below recs g in let z : ⊥ = omega (arith, e, l) in absurd z)
      (λ w.
      let v = link_child (number_of s) (word c (number_of s) YOUNGEST) w.0 in
      let p : v.1 ≡ s = same_number xs (played_reached play) v.1 s v.4 i v.6 in
      by v.0 v.2 v.3 v.5 (v.7 ∙ ap (λ (x : Task). v.2 ∷ name_of x) p) g)
      (law.youngest_linked (number_of s) (inr (spot_unfinished m T xs h s i)))
    where
      by : (y : Task) (k : ℕ) → Spot y → number_of y ≡ load (recs (number_of s)) YOUNGEST → name_of y ≡ k ∷ name_of s
          → On recs (load (recs (number_of s)) YOUNGEST) u
          → (o : Task) × (k : ℕ) × Spot o × (number_of o ≡ u) × (name_of o ≡ k ∷ name_of s)
      by y k j e n (here l q) = (y, k, j, e ∙ q, n)
      by y k j e n (behind l r) =
          let v = on_older y _ u j (ap (λ (x : ℕ). load (recs x) OLDER) (sym e)) r in
          let w = older_says (name_of v.0) (name_of y) v.3 in
          let d : w.1 ∷ w.2 ≡ k ∷ name_of s = sym w.4 ∙ n in
          (v.0, w.0, v.1, v.2, w.3 ∙ ap (λ (x : Name). w.0 ∷ x) (tail-eq_of_cons-eq d))

  -- an older sibling stands behind on the list
  pub older_on : (s o : Task) → Spot s → Spot o → is_older (name_of o) (name_of s) ≡ true → On recs (load (recs (number_of s)) OLDER) (number_of o)
  older_on s o i j e =
      let w = older_says (name_of o) (name_of s) e in
      let v = kin.parent s w.1 w.2 i w.4 in
      let a = child_on v.0 s w.1 v.1 i (w.4 ∙ ap (λ (x : Name). w.1 ∷ x) (sym v.2)) in
      let b = child_on v.0 o w.0 v.1 j (w.3 ∙ ap (λ (x : Name). w.0 ∷ x) (sym v.2)) in
      ⊎_elim forward backward (on_linear recs a b)
    where
      same : number_of s ≡ number_of o → ⊥
      same d =
          older_apart (name_of o) (name_of s) e
          (subst (λ (x : Task). is_older (name_of s) (name_of x) ≡ true) (same_number xs (played_reached play) s o i j d)
          (subst (λ (x : Task). is_older (name_of x) (name_of s) ≡ true) (sym (same_number xs (played_reached play) s o i j d)) e))

      forward : On recs (number_of s) (number_of o) → On recs (load (recs (number_of s)) OLDER) (number_of o)
      forward (here l d) = absurd (same d)
      forward (behind l g) = g

      backward : On recs (number_of o) (number_of s) → On recs (load (recs (number_of s)) OLDER) (number_of o)
      backward (here l d) = absurd (same (sym d))
      backward (behind l g) =
          let v = on_older o _ (number_of s) j refl g in
          absurd (older_apart (name_of o) (name_of s) e
          (subst (λ (x : Task). is_older (name_of x) (name_of o) ≡ true) (same_number xs (played_reached play) v.0 s v.1 i v.2) v.3))
