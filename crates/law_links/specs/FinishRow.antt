-- THE TOUR AFTER A FINISH: the two marks of the task, which stand side by side, are gone.
use Rattle.std.specs.Prelude.{◌≡◌, refl, ◌⊎◌, ℕ, ◌+◌, ◌<◌, ◌≤◌}
use Rattle.std.proofs.Common.{ap, ap₂, sym, ◌∙◌, subst, inl, inr, ⊎_elim, arith}
use mathlib.Core.List.{List, [], ◌∷◌, ◌++◌, head-eq_of_cons-eq, cons-ne-nil}
use Rattle.spec_lists.specs.Counting.{occurrences, equal?, occurs_here, occurs_past, occurs_append, occurs_first, occurs_later}
use Rattle.spec_layout.specs.Layout.{NONE, STATUS, RIGHTS, PARENT, OLDER, YOUNGER, YOUNGEST, task, read}
use Rattle.spec_tree.specs.Rights.{subset}
use Rattle.spec_rules.specs.Contents.{Contents, decode, word}
use Rattle.spec_rules.specs.Rules.{Child}
use Rattle.law_rules_tasks.specs.Marks.{Kin}
use Rattle.spec_order.specs.Steps.{Item}
use Rattle.law_links.specs.Row.{Leads, childless, child, oldest, older, Row}
use Rattle.law_links.specs.Linked.{Linked, word_is}
use Rattle.law_links.specs.Marks.{mark_once, unfinished_exited}
use Rattle.law_links.specs.Finish.{Finished, AfterFinish}

module _ (m n : List ℕ) (T : List ℕ) (xs : List Item) (h : Linked m T xs) (t : ℕ) (w : Finished m n t) (stay : AfterFinish m n t)
    (b a : List ℕ) (here : T ≡ b ++ t ∷ (128 + t) ∷ a) (small : t < 128) (above : 0 < t) (barren : (z : ℕ) → Child (decode m) t z → ⊥) where
  open stay use {there, parent_there, older_is, fixed, younger_stays, youngest_stays, older_stays}

  abbrev c : Contents
  c = decode m

  abbrev d : Contents
  d = decode n

  abbrev o : ℕ
  o = read m (task t OLDER)

  abbrev y : ℕ
  y = read m (task t YOUNGER)

  abbrev p : ℕ
  p = read m (task t PARENT)

  counted : (x : ℕ) → occurrences x T ≡ occurrences x b + occurrences x (t ∷ (128 + t) ∷ a)
  counted x = ap (occurrences x) here ∙ occurs_append x b (t ∷ (128 + t) ∷ a)

  -- the links of a task z with parent q, whose younger sibling is v
  kin_with : (z q v v' : ℕ) → (z ≡ t → ⊥) → q < 128 → (q ≡ t → ⊥) → word d z YOUNGER ≡ v' → Kin c z q v → Kin d z q v'
  kin_with z q v v' nz l nq e k =
      record {
        above = k.above;
        below = k.below;
        status = fixed z STATUS k.below (omega arith) nz ∙ k.status;
        parent = fixed z PARENT k.below (omega arith) nz ∙ k.parent;
        younger = e;
        rights = ap₂ subset (fixed z RIGHTS k.below (omega arith) nz) (fixed q RIGHTS l (omega arith) nq) ∙ k.rights;
      }

  -- MARKS THAT LEAD ON: x is no mark of t, and does not lead to t
  leads_stay : (x z : ℕ) → 0 < occurrences x T → (x ≡ t → ⊥) → (x ≡ 128 + t → ⊥) → (z ≡ t → ⊥) → Leads c x z → Leads d x z
  leads_stay x z q n1 n2 n3 (childless {t = v} l e) = childless l (youngest_stays v l n1 (λ f. omega (arith, e, f, small)) ∙ e)
  leads_stay x z q n1 n2 n3 (child {t = v} l e k) =
      child l (youngest_stays v l n1 (λ f. n3 (sym e ∙ f)) ∙ e)
      (kin_with z v NONE NONE n3 l n1 (younger_stays z k.below n3 not_older ∙ k.younger) k)
    where
      not_older : z ≡ o → ⊥
      not_older f =
          ⊎_elim
          (λ g. let i = k.below in omega (arith, f, g, i))
          (λ g. let i = k.younger in let j = g.1 in let s = ap (λ (x : ℕ). word c x YOUNGER) f in omega (arith, i, j, s, small))
          older_is
  leads_stay x z q n1 n2 n3 (oldest {t = v} {p = r} g l e i f) =
      let nv : v ≡ t → ⊥ = λ s. n2 (ap (λ (x : ℕ). 128 + x) s) in
      oldest g l (fixed v PARENT l (omega arith) nv ∙ e) i (older_stays v l nv (λ s. omega (arith, s, f, small)) ∙ f)
  leads_stay x z q n1 n2 n3 (older {t = v} {p = r} g l e i f k) =
      let nv : v ≡ t → ⊥ = λ s. n2 (ap (λ (x : ℕ). 128 + x) s) in
      older g l (fixed v PARENT l (omega arith) nv ∙ e) i (older_stays v l nv (λ s. n3 (sym f ∙ s)) ∙ f)
      (kin_with z r v v n3 i
      (λ s. barren v ((λ j. omega (arith, j, g)), (unfinished_exited m T xs h v q, e ∙ s)))
      (younger_stays z k.below n3 (not_older nv) ∙ k.younger) k)
    where
      not_older : (v ≡ t → ⊥) → z ≡ o → ⊥
      not_older nv s =
          ⊎_elim
          (λ j. let i = k.below in omega (arith, s, j, i))
          (λ j. nv (sym k.younger ∙ ap (λ (x : ℕ). word c x YOUNGER) s ∙ j.1))
          older_is

  not_self : (q : ℕ) → word c t PARENT ≡ q → q ≡ t → ⊥
  not_self q e f = barren t ((λ z. omega (arith, z, above)), (there, e ∙ f))

  -- what led to t leads to what came after t was exited
  abbrev After : ℕ → Type 0
  After z = ((o ≡ NONE) × (z ≡ 128 + p)) ⊎ ((z ≡ o) × (o ≡ NONE → ⊥) × Kin c o p t)

  after_exited : (x z : ℕ) → x ≡ 128 + t → Leads c x z → After z
  after_exited x z is (childless l e) = let f : ⊥ = omega (arith, is, l) in absurd f
  after_exited x z is (child l e k) = let f : ⊥ = omega (arith, is, l) in absurd f
  after_exited x z is (oldest {t = v} {p = q} g l e i f) =
      let s : v ≡ t = omega (arith, is) in
      inl (
        sym (word_is m t OLDER) ∙ ap (λ (u : ℕ). word c u OLDER) (sym s) ∙ f,
        ap (λ (u : ℕ). 128 + u) (sym e ∙ ap (λ (u : ℕ). word c u PARENT) s ∙ word_is m t PARENT),
      )
  after_exited x z is (older {t = v} {p = q} g l e i f k) =
      let s : v ≡ t = omega (arith, is) in
      let r : z ≡ o = sym f ∙ ap (λ (u : ℕ). word c u OLDER) s ∙ word_is m t OLDER in
      let b = k.below in
      let pq : q ≡ p = sym e ∙ ap (λ (u : ℕ). word c u PARENT) s ∙ word_is m t PARENT in
      inr (r, (λ n. omega (arith, n, r, b)), subst (λ (u : ℕ). Kin c o p u) s (subst (λ (u : ℕ). Kin c o u v) pq (subst (λ (u : ℕ). Kin c u q v) r k)))

  -- the older sibling is another task, since the tour goes on to it
  other_older : (z : ℕ) → 0 < occurrences z a → z ≡ t → ⊥
  other_older z q e =
      let f = counted z in
      let g = occurs_here t z ((128 + t) ∷ a) (sym e) in
      let i = occurs_past (128 + t) z a (λ s. omega (arith, s, e)) in
      let j = mark_once m T xs h z in
      omega (arith, f, g, i, j, q)

  -- with the younger sibling of t as its own
  older_kin : Kin c o p t → (o ≡ NONE → ⊥) → (o ≡ t → ⊥) → (v : ℕ) → y ≡ v → Kin d o p v
  older_kin k ne nt v e = kin_with o p t v nt parent_there.0 (not_self p (word_is m t PARENT)) (word_is n o YOUNGER ∙ w.older_younger ne ∙ e) k

  joins : (x u z : ℕ) → u ≡ t → (x ≡ 128 + t → ⊥) → (z ≡ o → o ≡ t → ⊥) → Leads c x u → After z → Leads d x z
  joins x u z is nx no-t (childless l e) k = let f : ⊥ = omega (arith, is, small) in absurd f
  joins x u z is nx no-t (oldest g l e i f) k = let j : ⊥ = omega (arith, is, small) in absurd j
  joins x u z is nx no-t (child {t = v} l e kin) k = go k
    where
      up : v ≡ p
      up = sym kin.parent ∙ ap (λ (s : ℕ). word c s PARENT) is ∙ word_is m t PARENT

      last : y ≡ NONE
      last = sym (word_is m t YOUNGER) ∙ ap (λ (s : ℕ). word c s YOUNGER) (sym is) ∙ kin.younger

      now : word d v YOUNGEST ≡ o
      now = word_is n v YOUNGEST ∙ ap (λ (s : ℕ). read n (task s YOUNGEST)) up ∙ w.parents_youngest last

      go : After z → Leads d v z
      go (inl s) = subst (Leads d v) (ap (λ (q : ℕ). 128 + q) up ∙ sym s.1) (childless l (now ∙ s.0))
      go (inr s) =
          subst (Leads d v) (sym s.0)
          (child l now (subst (λ (q : ℕ). Kin d o q NONE) (sym up) (older_kin s.2 s.1 (no-t s.0) NONE last)))
  joins x u z is nx no-t (older {t = v} {p = q} g l e i f kin) k = go k
    where
      up : q ≡ p
      up = sym kin.parent ∙ ap (λ (s : ℕ). word c s PARENT) is ∙ word_is m t PARENT

      young : y ≡ v
      young = sym (word_is m t YOUNGER) ∙ ap (λ (s : ℕ). word c s YOUNGER) (sym is) ∙ kin.younger

      some : y ≡ NONE → ⊥
      some s = let j = young in omega (arith, s, j, l)

      apart : v ≡ t → ⊥
      apart s = nx (ap (λ (r : ℕ). 128 + r) s)

      now : word d v OLDER ≡ o
      now = word_is n v OLDER ∙ ap (λ (s : ℕ). read n (task s OLDER)) (sym young) ∙ w.younger_older some

      go : After z → Leads d (128 + v) z
      go (inl s) = subst (Leads d (128 + v)) (ap (λ (r : ℕ). 128 + r) up ∙ sym s.1) (oldest g l (fixed v PARENT l (omega arith) apart ∙ e) i (now ∙ s.0))
      go (inr s) =
          subst (Leads d (128 + v)) (sym s.0)
          (older g l (fixed v PARENT l (omega arith) apart ∙ e) i now (subst (λ (r : ℕ). Kin d o r v) (sym up) (older_kin s.2 s.1 (no-t s.0) v young)))

  -- THE ROW without the two marks
  each : (x : ℕ) → 0 < occurrences x b → (0 < occurrences x T) × (x ≡ t → ⊥) × (x ≡ 128 + t → ⊥)
  each x q = (
    (let e = counted x in omega (arith, e, q)),
    (λ s. let e = counted x in let f = occurs_here t x ((128 + t) ∷ a) (sym s) in let g = mark_once m T xs h x in omega (arith, e, f, g, q)),
    (λ s.
        let e = counted x in
        let f = occurs_past t x ((128 + t) ∷ a) (λ r. omega (arith, r, s)) in
        let i = occurs_here (128 + t) x a (sym s) in
        let g = mark_once m T xs h x in
        omega (arith, e, f, i, g, q)),
  )

  abbrev Behind : List ℕ
  Behind = t ∷ (128 + t) ∷ a

  behind_counts : (x : ℕ)
      → (occurrences x a ≤ occurrences x Behind) × (x ≡ t → occurrences x a + 1 ≤ occurrences x Behind)
      × (x ≡ 128 + t → occurrences x a + 1 ≤ occurrences x Behind)
  behind_counts x =
      ⊎_elim
      (λ e.
      let f = occurs_here t x ((128 + t) ∷ a) e in
      let g = occurs_past (128 + t) x a (λ s. omega (arith, s, e)) in
      (omega (arith, f, g), (λ s. omega (arith, f, g)), (λ s. omega (arith, f, g))))
      (λ e.
      let f = occurs_past t x ((128 + t) ∷ a) e in
      ⊎_elim
      (λ s. let g = occurs_here (128 + t) x a s in (omega (arith, f, g), (λ r. omega (arith, f, g)), (λ r. omega (arith, f, g))))
      (λ s. let g = occurs_past (128 + t) x a s in (omega (arith, f, g), (λ r. absurd (e (sym r))), (λ r. absurd (s (sym r)))))
      (equal? (128 + t) x))
      (equal? t x)

  each_behind : (x : ℕ) → 0 < occurrences x a → (0 < occurrences x T) × (x ≡ t → ⊥) × (x ≡ 128 + t → ⊥)
  each_behind x q =
      let e = counted x in
      let g = mark_once m T xs h x in
      let f = behind_counts x in
      let f0 = f.0 in (
        omega (arith, e, f0, q),
        (λ s. let r = f.1 s in omega (arith, e, g, r, q)),
        (λ s. let r = f.2 s in omega (arith, e, g, r, q)),
      )

  -- what stands behind keeps its row
  rest_row : (l : List ℕ) → ((x : ℕ) → 0 < occurrences x l → 0 < occurrences x a) → Row c l → Row d l
  rest_row [] f k = absurd k
  rest_row (x ∷ []) f k = k
  rest_row (x ∷ z ∷ l) f k =
      let e = each_behind x (f x (occurs_first x (z ∷ l))) in
      let g = each_behind z (f z (occurs_later x z (z ∷ l) (occurs_first z l))) in
      (leads_stay x z e.0 e.1 e.2 g.1 k.0, rest_row (z ∷ l) (λ u q. f u (occurs_later x u (z ∷ l) q)) k.1)

  last_part : (x : ℕ) (a' : List ℕ) → a ≡ a' → (0 < occurrences x T) × (x ≡ t → ⊥) × (x ≡ 128 + t → ⊥) → Leads c x t → Row c ((128 + t) ∷ a') → Row d (x ∷ a')
  last_part x [] s e k r = let z : ⊥ = omega (arith, r, above) in absurd z
  last_part x (z ∷ l) s e k r =
      let inside : (u : ℕ) → 0 < occurrences u (z ∷ l) → 0 < occurrences u a = λ u q. subst (λ (i : List ℕ). 0 < occurrences u i) (sym s) q in
      let there = inside z (occurs_first z l) in (
        joins x t z refl e.2 (λ q f. other_older z there (q ∙ f)) k (after_exited (128 + t) z refl r.0),
        rest_row (z ∷ l) inside r.1,
      )

  cut : (l : List ℕ) → ((x : ℕ) → 0 < occurrences x l → 0 < occurrences x b) → (l ≡ [] → ⊥) → Row c (l ++ t ∷ (128 + t) ∷ a) → Row d (l ++ a)
  cut [] f ne k = absurd (ne refl)
  cut (x ∷ []) f ne k = last_part x a refl (each x (f x (occurs_first x []))) k.0 k.1.1
  cut (x ∷ z ∷ l) f ne k =
      let e = each x (f x (occurs_first x (z ∷ l))) in
      let g = each z (f z (occurs_later x z (z ∷ l) (occurs_first z l))) in
      (leads_stay x z e.0 e.1 e.2 g.1 k.0, cut (z ∷ l) (λ u q. f u (occurs_later x u (z ∷ l) q)) (cons-ne-nil z l) k.1)

  in_front : b ≡ [] → ⊥
  in_front e =
      let f : t ∷ (128 + t) ∷ a ≡ 0 ∷ h.first.0 = ap (λ (l : List ℕ). l ++ t ∷ (128 + t) ∷ a) (sym e) ∙ sym here ∙ h.first.1 in
      let g = head-eq_of_cons-eq f in
      omega (arith, g, above)

  pub cut_row : Row d (b ++ a)
  cut_row = cut b (λ x q. q) in_front (subst (Row c) here h.row)

  pub cut_first : (l : List ℕ) × (b ++ a ≡ 0 ∷ l)
  cut_first = go b (sym here ∙ h.first.1) in_front
    where
      go : (b : List ℕ) → b ++ t ∷ (128 + t) ∷ a ≡ 0 ∷ h.first.0 → (b ≡ [] → ⊥) → (l : List ℕ) × (b ++ a ≡ 0 ∷ l)
      go [] e f = absurd (f refl)
      go (x ∷ b) e f = (b ++ a, ap (λ (u : ℕ). u ∷ (b ++ a)) (head-eq_of_cons-eq e))
