-- THE TOUR AFTER A SPAWN: the child is entered just behind its spawner.
use Rattle.std.specs.Prelude.{◌≡◌, refl, true, ℕ, ◌+◌, ◌<◌}
use Rattle.std.proofs.Common.{ap, ap₂, sym, ◌∙◌, subst, ⊎_elim, arith}
use mathlib.Core.List.{List, [], ◌∷◌, ◌++◌, head-eq_of_cons-eq}
use Rattle.spec_lists.specs.Counting.{occurrences, occurs_here, occurs_append, occurs_first, occurs_later}
use Rattle.spec_layout.specs.Layout.{NONE, STATUS, RIGHTS, PARENT, OLDER, YOUNGER, YOUNGEST, task, rights_of, read}
use Rattle.spec_tree.specs.Rights.{subset}
use Rattle.spec_rules.specs.Contents.{Contents, decode, word}
use Rattle.spec_rules.specs.Rules.{Unfinished}
use Rattle.law_rules_tasks.specs.Marks.{Kin}
use Rattle.spec_order.specs.Steps.{Item}
use Rattle.law_links.specs.Row.{Leads, childless, child, oldest, older, Row, Each, row_keep, row_front}
use Rattle.law_links.specs.Linked.{Linked, word_is, rules}
use Rattle.law_links.specs.Marks.{mark_once, unfinished_entered, unfinished_exited}
use Rattle.law_links.specs.Spawn.{Spawned, AfterSpawn}

module _ (m n : List ℕ) (T : List ℕ) (xs : List Item) (h : Linked m T xs) (t r u : ℕ) (w : Spawned m n t r u) (stay : AfterSpawn m n t u)
    (b a : List ℕ) (here : T ≡ b ++ t ∷ a) (small : t < 128) (sub : subset r (rights_of m t) ≡ true) where
  open stay use {child_above, child_below, spawner, sibling, stays}

  abbrev c : Contents
  c = decode m

  abbrev d : Contents
  d = decode n

  abbrev o : ℕ
  o = read m (task t YOUNGEST)

  -- a word that is neither the youngest child nor the younger sibling
  link_stays : (x k : ℕ) → Unfinished c x → k < 6 → (k ≡ YOUNGEST → ⊥) → (k ≡ YOUNGER → ⊥) → word d x k ≡ word c x k
  link_stays x k e l f g = stays x k e l (λ q. absurd (f q)) (λ q. absurd (g q))

  kin_stays : (y p z : ℕ) → Unfinished c p → (y ≡ o → ⊥) → Kin c y p z → Kin d y p z
  kin_stays y p z v ne k =
      let e : Unfinished c y = (k.below, k.status) in
      record {
        above = k.above;
        below = k.below;
        status = link_stays y STATUS e (omega arith) (λ q. omega (arith, q)) (λ q. omega (arith, q)) ∙ k.status;
        parent = link_stays y PARENT e (omega arith) (λ q. omega (arith, q)) (λ q. omega (arith, q)) ∙ k.parent;
        younger = stays y YOUNGER e (omega arith) (λ q. let z : ⊥ = omega (arith, q) in absurd z) (λ q. ne) ∙ k.younger;
        rights = ap₂ subset
            (link_stays y RIGHTS e (omega arith) (λ q. omega (arith, q)) (λ q. omega (arith, q)))
            (link_stays p RIGHTS v (omega arith) (λ q. omega (arith, q)) (λ q. omega (arith, q))) ∙ k.rights;
      }

  -- the youngest child of before has no other parent, and no younger sibling
  not_child : (y v : ℕ) → (v ≡ t → ⊥) → Kin c y v NONE → y ≡ o → ⊥
  not_child y v n k e =
      ⊎_elim
      (λ z. let l = k.below in omega (arith, l, e, z))
      (λ s. let f = k.parent in let g = s.0.parent in let i = ap (λ (x : ℕ). word c x PARENT) e in n (sym f ∙ i ∙ g))
      sibling

  not_older : (y p v : ℕ) → v < 128 → Kin c y p v → y ≡ o → ⊥
  not_older y p v l k e =
      ⊎_elim
      (λ z. let b = k.below in omega (arith, b, e, z))
      (λ s. let f = k.younger in let g = s.0.younger in let i = ap (λ (x : ℕ). word c x YOUNGER) e in omega (arith, f, g, i, l))
      sibling

  leads_stay : (x y : ℕ) → 0 < occurrences x T → (x ≡ t → ⊥) → Leads c x y → Leads d x y
  leads_stay x y p n (childless {t = v} l e) =
      childless l (stays v YOUNGEST (unfinished_entered m T xs h v l p) (omega arith) (λ q. n) (λ q. let z : ⊥ = omega (arith, q) in absurd z) ∙ e)
  leads_stay x y p n (child {t = v} {y = z} l e k) =
      child l (stays v YOUNGEST (unfinished_entered m T xs h v l p) (omega arith) (λ q. n) (λ q. let f : ⊥ = omega (arith, q) in absurd f) ∙ e)
      (kin_stays z v NONE (unfinished_entered m T xs h v l p) (not_child z v n k) k)
  leads_stay x y p n (oldest {t = v} {p = q} g l e i f) =
      oldest g l
      (link_stays v PARENT (unfinished_exited m T xs h v p) (omega arith) (λ s. omega (arith, s)) (λ s. omega (arith, s)) ∙ e)
      i
      (link_stays v OLDER (unfinished_exited m T xs h v p) (omega arith) (λ s. omega (arith, s)) (λ s. omega (arith, s)) ∙ f)
  leads_stay x y p n (older {t = v} {y = z} {p = q} g l e i f k) =
      let up = (rules m T xs h).parents v q ((λ s. omega (arith, s, g)), (unfinished_exited m T xs h v p, e)) in
      older g l
      (link_stays v PARENT (unfinished_exited m T xs h v p) (omega arith) (λ s. omega (arith, s)) (λ s. omega (arith, s)) ∙ e)
      i
      (link_stays v OLDER (unfinished_exited m T xs h v p) (omega arith) (λ s. omega (arith, s)) (λ s. omega (arith, s)) ∙ f)
      (kin_stays z q v up (not_older z q v l k) k)

  each_stays : (l : List ℕ) → ((x : ℕ) → 0 < occurrences x l → (0 < occurrences x T) × (x ≡ t → ⊥)) → Each c d l
  each_stays [] f = tt
  each_stays (x ∷ l) f = (
    (λ y. let g = f x (occurs_first x l) in leads_stay x y g.0 g.1),
    each_stays l (λ y p. f y (occurs_later x y l p)),
  )

  counted : (x : ℕ) → occurrences x T ≡ occurrences x b + occurrences x (t ∷ a)
  counted x = ap (occurrences x) here ∙ occurs_append x b (t ∷ a)

  in_front : (x : ℕ) → 0 < occurrences x b → (0 < occurrences x T) × (x ≡ t → ⊥)
  in_front x p = (
    (let e = counted x in omega (arith, e, p)),
    (λ q. let e = counted x in let f = occurs_here t x a (sym q) in let g = mark_once m T xs h x in omega (arith, e, f, g, p)),
  )

  behind : (x : ℕ) → 0 < occurrences x a → (0 < occurrences x T) × (x ≡ t → ⊥)
  behind x p = (
    (let e = counted x in let f = occurs_later t x a p in omega (arith, e, f)),
    (λ q. let e = counted x in let f = occurs_here t x a (sym q) in let g = mark_once m T xs h x in omega (arith, e, f, g, p)),
  )

  -- THE NEW MARKS
  child_kin : Kin d u t NONE
  child_kin =
      record {
        above = child_above;
        below = child_below;
        status = word_is n u STATUS ∙ w.status;
        parent = word_is n u PARENT ∙ w.parent;
        younger = word_is n u YOUNGER ∙ w.younger;
        rights = ap₂ subset (word_is n u RIGHTS ∙ w.rights)
            (stays t RIGHTS spawner (omega arith) (λ q. let z : ⊥ = omega (arith, q) in absurd z) (λ q. let z : ⊥ = omega (arith, q) in absurd z)
            ∙ word_is m t RIGHTS)
            ∙ sub;
      }

  -- where the child is exited: its older sibling is entered, or its parent exited
  child_leads : (x y : ℕ) → x ≡ t → Leads c x y → Leads d (128 + u) y
  child_leads x y is (oldest g l e i f) = let z : ⊥ = omega (arith, is, small) in absurd z
  child_leads x y is (older g l e i f k) = let z : ⊥ = omega (arith, is, small) in absurd z
  child_leads x y is (childless l e) =
      subst (λ (v : ℕ). Leads d (128 + u) (128 + v)) (sym is)
      (oldest child_above child_below (word_is n u PARENT ∙ w.parent) small
      (word_is n u OLDER ∙ w.older_is ∙ sym (word_is m t YOUNGEST) ∙ ap (λ (v : ℕ). word c v YOUNGEST) (sym is) ∙ e))
  child_leads x y is (child {y = z} l e kin) =
      let k : Kin c z t NONE = subst (λ (v : ℕ). Kin c z v NONE) is kin in
      let q : z ≡ o = sym e ∙ ap (λ (v : ℕ). word c v YOUNGEST) is ∙ word_is m t YOUNGEST in
      let v : Unfinished c z = (k.below, k.status) in
      let some : o ≡ NONE → ⊥ = λ f. let g = k.below in omega (arith, f, g, q) in
      older child_above child_below (word_is n u PARENT ∙ w.parent) small (word_is n u OLDER ∙ w.older_is ∙ sym q)
      (record {
        above = k.above;
        below = k.below;
        status = stays z STATUS v (omega arith) (λ s. let f : ⊥ = omega (arith, s) in absurd f) (λ s. let f : ⊥ = omega (arith, s) in absurd f) ∙ k.status;
        parent = stays z PARENT v (omega arith) (λ s. let f : ⊥ = omega (arith, s) in absurd f) (λ s. let f : ⊥ = omega (arith, s) in absurd f) ∙ k.parent;
        younger = word_is n z YOUNGER ∙ ap (λ (x : ℕ). read n (task x YOUNGER)) q ∙ w.siblings_younger some;
        rights = ap₂ subset
            (stays z RIGHTS v (omega arith) (λ s. let f : ⊥ = omega (arith, s) in absurd f) (λ s. let f : ⊥ = omega (arith, s) in absurd f))
            (stays t RIGHTS spawner (omega arith) (λ s. let f : ⊥ = omega (arith, s) in absurd f) (λ s. let f : ⊥ = omega (arith, s) in absurd f)) ∙ k.rights;
      })

  new_part : (a : List ℕ) → Row c (t ∷ a) → Each c d a → Row d (t ∷ u ∷ (128 + u) ∷ a)
  new_part [] k s = let z : ⊥ = omega (arith, k, small) in absurd z
  new_part (y ∷ a) k s = (
    child small (word_is n t YOUNGEST ∙ w.parents_youngest) child_kin,
    (childless child_below (word_is n u YOUNGEST ∙ w.youngest), (child_leads t y refl k.0, row_keep c d (y ∷ a) s k.1)),
  )

  pub new_row : Row d (b ++ t ∷ u ∷ (128 + u) ∷ a)
  new_row = row_front c d b t a (u ∷ (128 + u) ∷ a) (each_stays b in_front) (λ k. new_part a k (each_stays a behind)) (subst (Row c) here h.row)

  pub new_first : (l : List ℕ) × (b ++ t ∷ u ∷ (128 + u) ∷ a ≡ 0 ∷ l)
  new_first = go b (sym here ∙ h.first.1)
    where
      go : (b : List ℕ) → b ++ t ∷ a ≡ 0 ∷ h.first.0 → (l : List ℕ) × (b ++ t ∷ u ∷ (128 + u) ∷ a ≡ 0 ∷ l)
      go [] e = (u ∷ (128 + u) ∷ a, ap (λ (x : ℕ). x ∷ u ∷ (128 + u) ∷ a) (head-eq_of_cons-eq e))
      go (y ∷ b) e = (b ++ t ∷ u ∷ (128 + u) ∷ a, ap (λ (x : ℕ). x ∷ (b ++ t ∷ u ∷ (128 + u) ∷ a)) (head-eq_of_cons-eq e))
