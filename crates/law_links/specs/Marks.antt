-- The marks of the tour: each stands in it once, and they are where unfinished tasks are entered and exited.
use Rattle.std.specs.Prelude.{◌≡◌, List, ◌⊎◌, ℕ, ◌+◌, ◌-◌, ◌*◌, ◌<◌, ◌≤◌, length}
use Rattle.std.proofs.Common.{sym, ◌∙◌, subst, ap, inl, inr, ⊎_elim, eq-zero-or-pos, arith}
use Rattle.spec_lists.specs.Counting.{occurrences}
use Rattle.spec_layout.specs.Layout.{FREE, STATUS, record_of}
use Rattle.spec_tree.specs.Tour.{tour, entered}
use Rattle.spec_rules.specs.Contents.{Contents, decode, word}
use Rattle.spec_rules.specs.Rules.{Unfinished}
use Rattle.law_rules_tasks.specs.Tested.{idle_says}
use Rattle.law_rules_tasks.specs.Visits.{marks_once}
use Rattle.law_rules_tasks.specs.Tasks.{tour_whole, marks_held, holders_exited}
use Rattle.law_rules_tasks.specs.Holders.{entered_count}
use Rattle.spec_order.specs.Steps.{Item, number_of}
use Rattle.law_links.specs.Linked.{Linked, tree, tour_is, holder_unfinished, unfinished_spot, says_back}

module _ (m : List ℕ) (T : List ℕ) (xs : List Item) (h : Linked m T xs) where
  abbrev c : Contents
  c = decode m

  whole : T ≡ tour (2 * (128 - length c.idle)) (record_of m) 0
  whole = sym (tour_is m T xs h) ∙ tour_whole c h.top h.idle (tree m T xs h)

  pub mark_once : (x : ℕ) → occurrences x T ≤ 1
  mark_once x = subst (λ (l : List ℕ). occurrences x l ≤ 1) (sym whole) (marks_once c (idle_says c h.idle) (tree m T xs h) x)

  pub mark_held : (x : ℕ) → 0 < occurrences x T → ((x < 128) × Unfinished c x) ⊎ ((128 ≤ x) × (x < 256) × Unfinished c (x - 128))
  mark_held x p =
      ⊎_elim
      (λ w. inl (w.0, holder_unfinished m T xs h x w.1))
      (λ w. inr (w.0, w.1, holder_unfinished m T xs h (x - 128) w.2))
      (marks_held c h.top h.idle (tree m T xs h) x (subst (λ (l : List ℕ). 0 < occurrences x l) whole p))

  -- the task that a mark meets, and the one that a mark leaves
  pub unfinished_entered : (x : ℕ) → x < 128 → 0 < occurrences x T → Unfinished c x
  unfinished_entered x l p = ⊎_elim (λ v. v.1) (λ v. let k = v.0 in let z : ⊥ = omega (arith, k, l) in absurd z) (mark_held x p)

  pub unfinished_exited : (x : ℕ) → 0 < occurrences (128 + x) T → Unfinished c x
  unfinished_exited x p =
      ⊎_elim
      (λ v. let k = v.0 in let z : ⊥ = omega (arith, k) in absurd z)
      (λ v. subst (Unfinished c) (let z : 128 + x - 128 ≡ x = omega arith in z) v.2)
      (mark_held (128 + x) p)

  -- a free record has no mark
  pub free_unmarked : (t : ℕ) → t < 128 → word c t STATUS ≡ FREE → (occurrences t T ≡ 0) × (occurrences (128 + t) T ≡ 0)
  free_unmarked t small e = (
    ⊎_elim (λ z. z) (λ p. absurd (busy (unfinished_entered t small p))) (eq-zero-or-pos (occurrences t T)),
    ⊎_elim (λ z. z) (λ p. absurd (busy (unfinished_exited t p))) (eq-zero-or-pos (occurrences (128 + t) T)),
  )
    where
      busy : Unfinished c t → ⊥
      busy u = let f = u.1 in omega (arith, e, f)

  -- an unfinished task is entered, and exited too
  pub mark_entered : (t : ℕ) → Unfinished c t → 0 < occurrences t T
  mark_entered t u =
      let w = unfinished_spot m T xs h t u in
      let a = says_back w.0 xs w.1 in
      let b = ap (occurrences (number_of w.0)) h.spots in
      let d = entered_count T t u.0 in
      let e = subst (λ (x : ℕ). 0 < occurrences x (entered T)) w.2 (omega (arith, a, b)) in
      omega (arith, d, e)

  pub mark_exited : (t : ℕ) → Unfinished c t → 0 < occurrences (128 + t) T
  mark_exited t u = subst (λ (l : List ℕ). 0 < occurrences (128 + t) l) (sym whole) (holders_exited c h.top h.idle (tree m T xs h) t (inr u))
