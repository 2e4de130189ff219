-- TASKS: their tests say exactly their rules; and what the tour then goes through.
use Rattle.std.specs.Prelude.{◌≡◌, true, ◌⊎◌, ℕ, ◌+◌, ◌-◌, ◌*◌, ◌<◌, ◌≤◌, length}
use Rattle.std.proofs.Common.{ap, sym, ◌∙◌, subst, inl, inr, ⊎_elim, arith, eq-zero-or-pos}
use Rattle.spec_lists.specs.Counting.{occurrences, below?}
use Rattle.spec_tree.specs.Tour.{MARKS, tour, entered}
use Rattle.spec_rules.specs.Contents.{Contents, holders}
use Rattle.spec_rules.specs.Rules.{Holder, TaskRules}
use Rattle.spec_rules.specs.Test.{top_test, idle_test, tree_test}
use Rattle.law_rules_tasks.specs.Marks.{after_top}
use Rattle.law_rules_tasks.specs.Tours.{tour_stops}
use Rattle.law_rules_tasks.specs.Reached.{Standing, standing_range, standing_next, reached_holder}
use Rattle.law_rules_tasks.specs.Tested.{top_says, says_top, idle_says, says_idle}
use Rattle.law_rules_tasks.specs.Visits.{count, start, busy, entered_once, exited_once, entered_reached, exited_reached, marks_below}
use Rattle.law_rules_tasks.specs.FromTest.{tested_rules}
use Rattle.law_rules_tasks.specs.FromRules.{rules_top, rules_idle, rules_tree}
use Rattle.law_rules_tasks.specs.Holders.{entered_count, entered_below, holder_once, holders_hold, holder?, holder_below}

module _ (c : Contents) where
  pub tasks_say : top_test c ≡ true → idle_test c ≡ true → tree_test c (2 * (128 - length c.idle)) 0 ≡ true → TaskRules c
  tasks_say a b e = tested_rules c (top_says c a) (idle_says c b) e

  pub says_tasks : TaskRules c → (top_test c ≡ true) × (idle_test c ≡ true) × (tree_test c (2 * (128 - length c.idle)) 0 ≡ true)
  says_tasks r = (says_top c (rules_top c r), says_idle c (rules_idle c r), rules_tree c r)

  module _ (a : top_test c ≡ true) (b : idle_test c ≡ true) (e : tree_test c (2 * (128 - length c.idle)) 0 ≡ true) where
    -- the tour is whole with as many marks as the test counts
    pub tour_whole : tour MARKS c.recs 0 ≡ tour (2 * (128 - length c.idle)) c.recs 0
    tour_whole =
        ap (λ (k : ℕ). tour k c.recs 0) (let z : 256 ≡ count c + (256 - count c) = omega arith in z)
        ∙ tour_stops c (Standing c (count c)) (standing_range c (count c)) (standing_next c (count c))
        (after_top c (top_says c a).parent (top_says c a).older) (256 - count c) (count c) 0 (start c (idle_says c b) e) e

    -- the tasks that it meets are the holders
    pub entered_holders : (t : ℕ) → occurrences t (entered (tour (2 * (128 - length c.idle)) c.recs 0)) ≡ occurrences t (holders c)
    entered_holders t =
        ⊎_elim
        (λ l.
        entered_count (tour (count c) c.recs 0) t l
        ∙ ⊎_elim
        (λ h. entered_once c (idle_says c b) e t l (busy c (idle_says c b) e t h) ∙ sym (holder_once c t h))
        (λ n. none_entered l n ∙ sym (none n))
        (holder? c t))
        (λ l. entered_below (tour (count c) c.recs 0) t l ∙ sym (none (λ h. ⊎_elim (λ q. omega (arith, q, l)) (λ w. let m = w.0 in omega (arith, m, l)) h)))
        (below? t 128)
      where
        none : (Holder c t → ⊥) → occurrences t (holders c) ≡ 0
        none n = ⊎_elim (λ q. q) (λ p. absurd (n (holders_hold c t p).1)) (eq-zero-or-pos (occurrences t (holders c)))

        none_entered : t < 128 → (Holder c t → ⊥) → occurrences t (tour (count c) c.recs 0) ≡ 0
        none_entered l n =
            ⊎_elim
            (λ q. q)
            (λ p. let w = entered_reached c (idle_says c b) e t l p in absurd (n (reached_holder c (count c) w.0 t w.2)))
            (eq-zero-or-pos (occurrences t (tour (count c) c.recs 0)))

    -- its marks are where holders are entered and exited
    pub marks_held : (x : ℕ) → 0 < occurrences x (tour (2 * (128 - length c.idle)) c.recs 0)
        → ((x < 128) × Holder c x) ⊎ ((128 ≤ x) × (x < 256) × Holder c (x - 128))
    marks_held x p =
        ⊎_elim
        (λ l. let w = entered_reached c (idle_says c b) e x l p in inl (l, reached_holder c (count c) w.0 x w.2))
        (λ l.
        let q : x ≡ 128 + (x - 128) = omega (arith, l) in
        let w = exited_reached c (idle_says c b) e (x - 128) (subst (λ (y : ℕ). 0 < occurrences y (tour (count c) c.recs 0)) q p) in
        inr (l, marks_below c (idle_says c b) e x p, reached_holder c (count c) w.2 (x - 128) w.4))
        (below? x 128)

    pub holders_exited : (t : ℕ) → Holder c t → 0 < occurrences (128 + t) (tour (2 * (128 - length c.idle)) c.recs 0)
    holders_exited t h =
        let i = idle_says c b in
        let a = exited_once c i e t (holder_below c t h) (busy c i e t h) in
        omega (arith, a)
