-- The tests of tasks from their rules.
use Rattle.std.specs.Prelude.{◌≡◌, refl, true, List, ◌⊎◌, ℕ, zero, suc, ◌+◌, ◌<◌, ◌≤◌}
use Rattle.std.proofs.Common.{ap, sym, ◌∙◌, subst, inl, inr, ⊎_elim, arith, eq-zero-or-pos}
use Rattle.spec_lists.specs.Counting.{occurrences, total_ext}
use Rattle.spec_layout.specs.Layout.{NONE, FREE, UNFINISHED, FINISHED, STATUS, PARENT, OLDER, YOUNGER, YOUNGEST}
use Rattle.spec_tree.specs.Tour.{after, tour}
use Rattle.spec_rules.specs.Contents.{Contents, word}
use Rattle.spec_rules.specs.Rules.{Holder, TaskRules}
use Rattle.spec_rules.specs.Test.{tree_test}
use Rattle.law_rules_tasks.specs.Marks.{tree_none, tree_rest, entered_on, exited_on, after_childless, after_parent, after_oldest, after_younger}
use Rattle.law_rules_tasks.specs.Tested.{Top, Idle}
use Rattle.law_rules_tasks.specs.Tours.{tree_same, tour_length, tour_each, tour_once, tour_first, tour_after, tour_most}
use Rattle.law_rules_tasks.specs.Pairs.{pair, pairs, total_twos}
use Rattle.law_rules_tasks.specs.Visits.{count}
use Rattle.law_rules_tasks.specs.Leads.{holder_child, down, Leads, exited_leads, entered_leads, oldest}
use Rattle.law_rules_tasks.specs.Holders.{holder_below, child_above}

module _ (c : Contents) (r : TaskRules c) where
  pub rules_top : Top c
  rules_top = record { status = status; rights = r.top_rights; parent = r.top_alone.0; older = r.top_alone.1.0; younger = r.top_alone.1.1 }
    where
      status : (word c 0 STATUS ≡ UNFINISHED) ⊎ ((word c 0 STATUS ≡ FINISHED) × (word c 0 YOUNGEST ≡ NONE))
      status =
          ⊎_elim
          inl
          (λ f.
          ⊎_elim
          (λ q. inr (f, q))
          (λ w. inl (r.parents (word c 0 YOUNGEST) 0 w.0).1)
          (r.youngest_linked 0 (inl refl)))
          r.top_status

  -- a record on the stack is there once and free
  idle_one : (t : ℕ) → 0 < occurrences t c.idle → (word c t STATUS ≡ FREE) × (occurrences t c.idle ≡ 1)
  idle_one t p =
      let l = r.idle_below t p in
      ⊎_elim (λ w. let q = w.1 in let z : ⊥ = omega (arith, q, p) in absurd z) (λ w. w) (r.record_status t l.0 l.1)

  pub rules_idle : Idle c
  rules_idle =
      record {
        few = r.idle_few;
        apart = record { below = λ t p. (r.idle_below t p).1; once = once };
        above = λ t p. (r.idle_below t p).0;
        free = λ t p. (idle_one t p).0;
      }
    where
      once : (t : ℕ) → occurrences t c.idle ≤ 1
      once t = ⊎_elim (λ q. omega (arith, q)) (λ p. let q = (idle_one t p).1 in omega (arith, q)) (eq-zero-or-pos (occurrences t c.idle))

  -- x is where a task is entered or exited
  abbrev Mark : ℕ → Type 0
  Mark x = (t : ℕ) × Holder c t × ((x ≡ t) ⊎ (x ≡ 128 + t))

  mark_range : (k x : ℕ) → Mark x → x < 256
  mark_range k x (t, h, s) = let l = holder_below c t h in ⊎_elim (λ q. omega (arith, l, q)) (λ q. omega (arith, l, q)) s

  mark_next : (k x : ℕ) → Mark x → tree_test c (suc k) x ≡ true → (x ≡ 128 → ⊥) → Mark (after c.recs x)
  mark_next k x (t, h, s) e n = ⊎_elim entered exited s
    where
      entered : x ≡ t → Mark (after c.recs x)
      entered q =
          let a = ap (after c.recs) q in
          ⊎_elim
          (λ w. (t, h, inr (a ∙ w.1)))
          (λ w. let k = w.0 in (word c t YOUNGEST, inr (k.below, k.status), inl (a ∙ w.1)))
          (entered_on c k t (holder_below c t h) (rw q at e))

      exited : x ≡ 128 + t → Mark (after c.recs x)
      exited q =
          let a = ap (after c.recs) q in
          let g : 0 < t = omega (arith, q, n) in
          let u = r.parents t _ (holder_child c r t h g) in
          ⊎_elim
          (λ w. (word c t PARENT, inr u, inr (a ∙ w.1)))
          (λ w. let k = w.0 in (word c t OLDER, inr (k.below, k.status), inl (a ∙ w.1)))
          (exited_on c k t g u.0 (rw q at e))

  mark_leads : (x : ℕ) → Mark x → Leads c r x
  mark_leads x (t, h, s) =
      ⊎_elim
      (λ q. subst (λ (y : ℕ). Leads c r y) (sym q) (entered_leads c r t h))
      (λ q. subst (λ (y : ℕ). Leads c r y) (sym q) (exited_leads c r t h))
      s

  -- the mark before x
  abbrev Before : ℕ → Type 0
  Before x = (y : ℕ) × Mark y × (y ≡ 128 → ⊥) × (after c.recs y ≡ x)

  before_entered : (t : ℕ) → Holder c t → 0 < t → Before t
  before_entered t h g =
      let l = holder_below c t h in
      let k = holder_child c r t h g in
      ⊎_elim
      (λ w.
      let u = r.parents t _ k in
      let b = u.0 in
      let q = w.1 in
      (word c t PARENT, (word c t PARENT, inr u, inl refl), (λ z. omega (arith, z, b)), after_parent c (word c t PARENT) b (omega (arith, q, l)) ∙ q))
      (λ w.
      let q = w.1 in
      let a = child_above c _ _ w.0 in (
        128 + word c t YOUNGER,
        (word c t YOUNGER, inr w.0.1.0, inr refl),
        (λ z. omega (arith, z, a)),
        after_younger c (word c t YOUNGER) (omega (arith, q, l)) ∙ q,
      ))
      (r.younger_linked t _ k)

  before_exited : (t : ℕ) → Holder c t → Before (128 + t)
  before_exited t h =
      let l = holder_below c t h in
      ⊎_elim
      (λ q. (t, (t, h, inl refl), (λ z. omega (arith, z, l)), after_childless c t l q))
      (λ w.
      let m = r.no_sibling_ring _ t w.0 in
      let v = oldest c r m.0 _ t w.0 m.2 in
      let a = child_above c _ _ v.1 in
      let p = v.1.1.1 in (
        128 + v.0,
        (v.0, inr v.1.1.0, inr refl),
        (λ z. omega (arith, z, a)),
        after_oldest c v.0 (omega (arith, p, l)) v.2 ∙ ap (λ (y : ℕ). 128 + y) p,
      ))
      (down c r t h)

  before : (x : ℕ) → Mark x → 0 < x → Before x
  before x (t, h, s) g =
      ⊎_elim
      (λ q. subst (λ (y : ℕ). Before y) (sym q) (before_entered t h (omega (arith, q, g))))
      (λ q. subst (λ (y : ℕ). Before y) (sym q) (before_exited t h))
      s

  behind : (k x : ℕ) → Mark x → tree_test c k x ≡ true → 0 < x
      → (y : ℕ) × Mark y × (y ≡ 128 → ⊥) × (after c.recs y ≡ x) × (tree_test c (suc k) y ≡ true)
  behind k x m e g =
      let w = before x m g in
      let f = mark_leads w.0 w.1 in
      (w.0, w.1, w.2, w.3, one_more w.0 w.2 w.3 f.0 f.1)
    where
      one_more : (y : ℕ) → (y ≡ 128 → ⊥) → after c.recs y ≡ x → (j : ℕ) → tree_test c j y ≡ true → tree_test c (suc k) y ≡ true
      one_more y n q zero f = absurd (tree_none c y f)
      one_more y n q (suc j) f =
          let s = tree_same c j k x (ap (tree_test c j) (sym q) ∙ tree_rest c j y n f) e in
          ap (λ (i : ℕ). tree_test c (suc i) y) (sym s) ∙ f

  -- THE TOUR from the top, with as many marks as it has
  first : Mark 0
  first = (0, inl refl, inl refl)

  size : ℕ
  size = (mark_leads 0 first).0

  ends : tree_test c size 0 ≡ true
  unfolding size
  ends = (mark_leads 0 first).1

  abbrev marks : List ℕ
  marks = tour size c.recs 0

  abbrev Any : ℕ → ℕ → Type 0
  Any k x = Mark x

  -- it has each mark, since going back from one it comes to the first: further back there would be too many marks
  all_marks : (n k x : ℕ) → Mark x → tree_test c k x ≡ true → 256 ≤ k + n → 0 < occurrences x marks
  all_marks zero k x m e l =
      ⊎_elim
      (λ q. subst (λ (y : ℕ). 0 < occurrences y marks) (sym q) (tour_first c Any mark_range mark_next size 0 first ends))
      (λ g.
      let w = behind k x m e g in
      let a = tour_most c Any mark_range mark_next (suc k) w.0 w.1 w.4 in
      let z : ⊥ = omega (arith, a, l) in
      absurd z)
      (eq-zero-or-pos x)
  all_marks (suc n) k x m e l =
      ⊎_elim
      (λ q. subst (λ (y : ℕ). 0 < occurrences y marks) (sym q) (tour_first c Any mark_range mark_next size 0 first ends))
      (λ g.
      let w = behind k x m e g in
      subst (λ (y : ℕ). 0 < occurrences y marks) w.3
      (tour_after c Any mark_range mark_next size 0 first ends w.0 w.2 (all_marks n (suc k) w.0 w.1 w.4 (omega (arith, l)))))
      (eq-zero-or-pos x)

  has : (x : ℕ) → Mark x → occurrences x marks ≡ 1
  has x m =
      let f = mark_leads x m in
      let a = all_marks 256 f.0 x m f.1 (omega arith) in
      let b = tour_once c Any mark_range mark_next size 0 first ends x in
      omega (arith, a, b)

  mark_of : (x : ℕ) → 0 < occurrences x marks → Mark x
  mark_of x p = (tour_each c Any mark_range mark_next size 0 first ends x p).3

  -- and no other
  has_not : (t x : ℕ) → t < 128 → (x ≡ t) ⊎ (x ≡ 128 + t) → (Holder c t → ⊥) → occurrences x marks ≡ 0
  has_not t x l s n = ⊎_elim (λ q. q) (λ p. absurd (n (same s (mark_of x p)))) (eq-zero-or-pos (occurrences x marks))
    where
      same : (x ≡ t) ⊎ (x ≡ 128 + t) → Mark x → Holder c t
      same s (u, h, d) =
          let m = holder_below c u h in
          subst (λ (y : ℕ). Holder c y)
          (⊎_elim
          (λ a. ⊎_elim (λ b. omega (arith, a, b)) (λ b. omega (arith, a, b, l, m)) d)
          (λ a. ⊎_elim (λ b. omega (arith, a, b, l, m)) (λ b. omega (arith, a, b)) d)
          s)
          h

  two_held : (t : ℕ) → Holder c t → occurrences t c.idle ≡ 0 → pair marks c.idle t ≡ 2
  two_held t h q = let a = has t (t, h, inl refl) in let b = has (128 + t) (t, h, inr refl) in omega (arith, a, b, q)

  two : (t : ℕ) → t < 128 → pair marks c.idle t ≡ 2
  two t l =
      ⊎_elim
      (λ q. two_held t (inl q) (⊎_elim (λ z. z) (λ p. let a = (r.idle_below t p).0 in let z : ⊥ = omega (arith, a, q) in absurd z)
      (eq-zero-or-pos (occurrences t c.idle))))
      (λ g.
      ⊎_elim
      (λ w. two_held t (inr (l, w.0)) w.1)
      (λ w.
      let n : Holder c t → ⊥ = λ h. not_holder g w.0 h in
      let a = has_not t t l (inl refl) n in
      let b = has_not t (128 + t) l (inr refl) n in
      let d = w.1 in
      omega (arith, a, b, d))
      (r.record_status t g l))
      (eq-zero-or-pos t)
    where
      not_holder : 0 < t → word c t STATUS ≡ FREE → Holder c t → ⊥
      not_holder g s h = ⊎_elim (λ q. omega (arith, g, q)) (λ w. let q = w.1 in omega (arith, s, q)) h

  full : size ≡ count c
  full =
      let a = pairs marks c.idle (λ x p. mark_range 0 x (mark_of x p)) (λ t p. (r.idle_below t p).1) in
      let b = total_ext 128 (pair marks c.idle) (λ t. 2) two in
      let d = total_twos 128 in
      let f = tour_length c Any mark_range mark_next size 0 first ends in
      let g = r.idle_few in
      omega (arith, a, b, d, f, g)

  pub rules_tree : tree_test c (count c) 0 ≡ true
  rules_tree = ap (λ (k : ℕ). tree_test c k 0) (sym full) ∙ ends
