-- Where the marks are those of a whole tour: heads and tails are as often there as in the lists of the test of the rules,
-- and the words of the views are right of both or of neither.
use Rattle.std.specs.Prelude.{◌≡◌, true, false, List, [], ◌∷◌, ℕ, ◌+◌, ◌-◌, ◌*◌, ◌%◌, ◌<◌, ◌≤◌, drop}
use Rattle.std.proofs.Common.{ap, ◌∙◌, subst, ⊎_elim, arith, eq-zero-or-pos}
use Rattle.std.proofs.Math.Path.{sym}
use Rattle.spec_lists.specs.Counting.{occurrences, over, equal?, occurs_nil, occurs_here, occurs_past, over_same, below?}
use Rattle.spec_lists.specs.Sums.{over_plus, over_ext}
use Rattle.spec_lists.specs.Tests.{each}
use Rattle.spec_layout.specs.Layout.{NONE, NL, QUEUE_HEADS, TAILS, HEAD_WORDS, TAIL_WORDS, VIEW_WORDS, CHILDREN, USER, RIGHT}
use Rattle.spec_tree.specs.Rights.{uses}
use Rattle.spec_tree.specs.Tour.{entered}
use Rattle.spec_rules.specs.Contents.{Contents, word, locals, heads, tails, holders, task_rights}
use Rattle.spec_rules.specs.Rules.{Holder}
use Rattle.spec_rules.specs.Test.{view_word, views_test}
use Rattle.law_rules_tasks.specs.Holders.{entered_below, holder_below, holder_once, holders_hold, holder?}
use Rattle.law_rules_views.specs.Members.{entered_mark}
use Rattle.law_rules_views.specs.Toured.{Toured, over_heads, over_tails, holder_entered}
use Rattle.law_rules_views.specs.Tested.{word_none, word_head, word_right, words_say, says_words}
use Rattle.spec_view_events.specs.Events.{events}
use Rattle.law_view_events.specs.Good.{allowed, tails_of, heads_of}
use Rattle.law_view_events.specs.Tasks.{MayKind, MayQueues}
use Rattle.law_view_events.specs.Counts.{heads_count, tails_count}
use Rattle.law_view_events.specs.Marks.{exits, exits_here, exits_past, heads_entered, heads_exited, tails_entered, tails_exited, heads_marks, tails_marks, Allowed}
use Rattle.law_view_events.specs.Marks.{allowed_marks, marks_allowed}

exits_count : (xs : List ℕ) (t : ℕ) → occurrences t (exits xs) ≡ occurrences (128 + t) xs
exits_count [] t = unfold exits in occurs_nil t ∙ sym (occurs_nil (128 + t))
exits_count (x ∷ xs) t =
    ⊎_elim
    (λ l. ap (occurrences t) (exits_past x xs l) ∙ exits_count xs t ∙ sym (occurs_past x (128 + t) xs (λ z. omega (arith, z, l))))
    (λ l.
    ap (occurrences t) (exits_here x xs l)
    ∙ ⊎_elim
    (λ z.
    let a = occurs_here (x - 128) t (exits xs) (let k : x - 128 ≡ t = omega (arith, z, l) in k) in
    let b = occurs_here x (128 + t) xs z in
    let d = exits_count xs t in
    omega (arith, a, b, d))
    (λ z. occurs_past (x - 128) t (exits xs) (λ k. z (omega (arith, k, l))) ∙ exits_count xs t ∙ sym (occurs_past x (128 + t) xs z))
    (equal? x (128 + t)))
    (below? x 128)

module _ (c : Contents) (xs : List ℕ) (v : Toured c xs) (once : (y : ℕ) → occurrences y xs ≤ 1) where
  -- a task is exited as often as it is entered
  same_exited : (t : ℕ) → occurrences t (exits xs) ≡ occurrences t (entered xs)
  same_exited t = exits_count xs t ∙ ⊎_elim held none (holder? c t)
    where
      held : Holder c t → occurrences (128 + t) xs ≡ occurrences t (entered xs)
      held h =
          let a = v.exited t h in
          let b = once (128 + t) in
          let d = v.same t in
          let e = holder_once c t h in
          omega (arith, a, b, d, e)

      no_mark : (Holder c t → ⊥) → occurrences (128 + t) xs ≡ 0
      no_mark n =
          ⊎_elim
          (λ q. q)
          (λ p.
          ⊎_elim
          (λ w. let l = w.0 in let z : ⊥ = omega (arith, l) in absurd z)
          (λ w. absurd (n (subst (λ (k : ℕ). Holder c k) (let z : 128 + t - 128 ≡ t = omega arith in z) w.2)))
          (v.held (128 + t) p))
          (eq-zero-or-pos (occurrences (128 + t) xs))

      none : (Holder c t → ⊥) → occurrences (128 + t) xs ≡ occurrences t (entered xs)
      none n =
          no_mark n
          ∙ sym (v.same t ∙ ⊎_elim (λ q. q) (λ p. absurd (n (holders_hold c t p).1)) (eq-zero-or-pos (occurrences t (holders c))))

  entered_low : (t : ℕ) → 0 < occurrences t (entered xs) → t < 128
  entered_low t p = ⊎_elim (λ l. l) (λ l. let a = entered_below xs t l in let z : ⊥ = omega (arith, a, p) in absurd z) (below? t 128)

  pub over_exited : (g : ℕ → ℕ) → over (exits xs) g ≡ over (entered xs) g
  over_exited g = over_same 128 (exits xs) (entered xs) g same_exited entered_low

  -- what adds g where a task is entered and h where it is exited adds both for each task
  count_same : (g h k : ℕ → ℕ) → ((t : ℕ) → g t + h t ≡ k t) → over (entered xs) g + over (exits xs) h ≡ over (entered xs) k
  count_same g h k e =
      ap (λ (n : ℕ). over (entered xs) g + n) (over_exited h) ∙ sym (over_plus (entered xs) g h) ∙ over_ext (entered xs) (λ t. g t + h t) k e

  -- HEADS AND TAILS
  pub heads_same : (s : ℕ) → occurrences s (heads_of (events c xs)) ≡ occurrences s (heads c (entered xs))
  heads_same s =
      heads_marks c s xs
      ∙ count_same (heads_entered c s) (heads_exited c s) (λ t. occurrences s (locals HEAD_WORDS (drop QUEUE_HEADS (c.recs t))))
      (λ t. let a = heads_count s c t in omega (arith, a))
      ∙ sym (over_heads c s (entered xs))

  pub tails_same : (s : ℕ) → occurrences s (tails_of (events c xs)) ≡ occurrences s (tails c (entered xs))
  tails_same s =
      tails_marks c s xs
      ∙ count_same (tails_entered c s) (tails_exited c s) (λ t. occurrences s (locals TAIL_WORDS (drop TAILS (c.recs t))))
      (λ t. let a = tails_count s c t in omega (arith, a))
      ∙ sym (over_tails c s (entered xs))

  -- WORDS
  -- all view words of a holder
  abbrev pub Words : ℕ → Type 0
  Words t = (i : ℕ) → i < VIEW_WORDS → view_word (task_rights c t) i (word c t (QUEUE_HEADS + i)) ≡ true

  pub kinds_words : (t : ℕ) → MayQueues c t → MayKind c t CHILDREN → MayKind c t USER → MayKind c t RIGHT → Words t
  kinds_words t a b d e i l = word_right (task_rights c t) i (word c t (QUEUE_HEADS + i)) none local
    where
      -- head or tail of a view of a kind
      at_head : (k : ℕ) → MayKind c t k → 4 + k * 4 + i % 4 ≡ i → uses (task_rights c t) (i % 4) ≡ false → word c t (QUEUE_HEADS + i) ≡ NONE
      at_head k m z u = ap (word c t) (let y : 16 + i ≡ 20 + k * 4 + i % 4 = omega (arith, z) in y) ∙ m.heads (i % 4) (omega arith) u

      at_tail : (k : ℕ) → MayKind c t k → 16 + k * 4 + i % 4 ≡ i → uses (task_rights c t) (i % 4) ≡ false → word c t (QUEUE_HEADS + i) ≡ NONE
      at_tail k m z u = ap (word c t) (let y : 16 + i ≡ 32 + k * 4 + i % 4 = omega (arith, z) in y) ∙ m.tails (i % 4) (omega arith) u

      none : uses (task_rights c t) (i % 4) ≡ false → word c t (QUEUE_HEADS + i) ≡ NONE
      none u =
          ⊎_elim (λ x. ap (word c t) (let y : 16 + i ≡ 16 + i % 4 = omega (arith, x) in y) ∙ a.none (i % 4) (omega arith) u)
          (λ x4. ⊎_elim (λ x. at_head CHILDREN b (omega (arith, x4, x)) u)
          (λ x8. ⊎_elim (λ x. at_head USER d (omega (arith, x8, x)) u)
          (λ x12. ⊎_elim (λ x. at_head RIGHT e (omega (arith, x12, x)) u)
          (λ x16. ⊎_elim (λ x. at_tail CHILDREN b (omega (arith, x16, x)) u)
          (λ x20. ⊎_elim (λ x. at_tail USER d (omega (arith, x20, x)) u)
          (λ x24. at_tail RIGHT e (omega (arith, x24, l)) u)
          (below? i 24)) (below? i 20)) (below? i 16)) (below? i 12)) (below? i 8)) (below? i 4)

      local : i < 4 → word c t (QUEUE_HEADS + i) ≡ NL → ⊥
      local x z = a.local i x z

  words_kind : (t k : ℕ) → k < 3 → Words t → MayKind c t k
  words_kind t k m f =
      record {
        heads = λ q l u.
            ap (word c t) (let y : 20 + k * 4 + q ≡ 16 + (4 + k * 4 + q) = omega arith in y)
            ∙ word_none (task_rights c t) (4 + k * 4 + q) _ (f (4 + k * 4 + q) (omega arith))
            (ap (uses (task_rights c t)) (let y : (4 + k * 4 + q) % 4 ≡ q = omega (arith, l) in y) ∙ u);
        tails = λ q l u.
            ap (word c t) (let y : 32 + k * 4 + q ≡ 16 + (16 + k * 4 + q) = omega arith in y)
            ∙ word_none (task_rights c t) (16 + k * 4 + q) _ (f (16 + k * 4 + q) (omega arith))
            (ap (uses (task_rights c t)) (let y : (16 + k * 4 + q) % 4 ≡ q = omega (arith, l) in y) ∙ u);
      }

  words_queues : (t : ℕ) → Words t → MayQueues c t
  words_queues t f =
      record {
        none = λ q l u.
            word_none (task_rights c t) q _ (f q (omega arith)) (ap (uses (task_rights c t)) (let y : q % 4 ≡ q = omega (arith, l) in y) ∙ u);
        local = λ q l z. word_head (task_rights c t) q _ (f q (omega arith)) l z;
      }

  pub words_there : allowed (events c xs) ≡ true → each (views_test c) (entered xs) ≡ true
  words_there e = says_words c xs v (λ t i h l. words t h i l)
    where
      words : (t : ℕ) → Holder c t → Words t
      words t h =
          let a = (allowed_marks c xs e t (entered_mark xs t (holder_entered c xs v t h))).entered (holder_below c t h) in
          let b = (allowed_marks c xs e (128 + t) (v.exited t h)).exited (omega arith) in
          kinds_words t a.0 (subst (λ (k : ℕ). MayKind c k CHILDREN) (let z : 128 + t - 128 ≡ t = omega arith in z) b) a.2 a.1

  pub words_back : each (views_test c) (entered xs) ≡ true → allowed (events c xs) ≡ true
  words_back e = marks_allowed c xs (λ x p. ⊎_elim (entered x) (exited x) (v.held x p))
    where
      words : (t : ℕ) → Holder c t → Words t
      words t h i l = words_say c xs v e t i h l

      entered : (x : ℕ) → (x < 128) × Holder c x → Allowed c x
      entered x w =
          let f = words x w.1 in
          record {
            entered = λ m. (words_queues x f, words_kind x RIGHT (omega arith) f, words_kind x USER (omega arith) f);
            exited = λ m. let l = w.0 in let z : ⊥ = omega (arith, l, m) in absurd z;
          }

      exited : (x : ℕ) → (128 ≤ x) × (x < 256) × Holder c (x - 128) → Allowed c x
      exited x w =
          record {
            entered = λ m. let l = w.0 in let z : ⊥ = omega (arith, l, m) in absurd z;
            exited = λ m. words_kind (x - 128) CHILDREN (omega arith) (words (x - 128) w.2);
          }
