-- Of memory that represents program order: the tasks of the tour, what the words of their views mean, and the marks of
-- each queue's line.
use Rattle.std.specs.Prelude.{◌≡◌, refl, true, false, ◌⊎◌, List, [], ◌∷◌, ℕ, ◌+◌, ◌-◌, ◌<◌, ◌≤◌, ltb}
use Rattle.std.proofs.Math.Path.{ap}
use Rattle.std.proofs.Common.{sym, ◌∙◌, subst, inl, inr, arith}
use borrow.Author.Tests.{lt-ltb, ltb-true, le-ltb}
use Rattle.spec_words.specs.Words.{pick, both_true, both_on, pass, halt}
use Rattle.spec_lists.specs.Counting.{occurrences, occurs_first, occurs_later}
use Rattle.spec_layout.specs.Layout.{RIGHTS, QUEUE_HEADS, HEADS, TAILS, CHILDREN, USER, RIGHT}
use Rattle.spec_tree.specs.Rights.{uses}
use Rattle.spec_tree.specs.Tour.{entered}
use Rattle.spec_rules.specs.Contents.{Contents, decode, word, task_rights}
use Rattle.spec_rules.specs.Rules.{Unfinished}
use Rattle.law_rules_views.specs.Toured.{Toured, entered_holder}
use Rattle.law_rules_same.specs.Passed.{toured}
use Rattle.law_rules_same.specs.Same.{whole_tour}
use Rattle.spec_order.specs.Steps.{Item}
use Rattle.spec_lists.specs.Maps.{All}
use Rattle.law_gaps.specs.Line.{Extent, Mark, base, exited, pass as past, Line, marks, Fits}
use Rattle.law_gaps.specs.Line.Mark.{entered as entering}
use Rattle.law_links.specs.Linked.{tree, tour_is, word_is, holder_unfinished}
use Rattle.law_links.specs.Marks.{mark_held}
use Rattle.law_maps.specs.Meaning.{optional}
use Rattle.law_maps.specs.Reads.{head_at}
use Rattle.law_invariant.specs.Represents.{Represents, queue_memory, of_tasks, uses_in}
use Rattle.law_invariant.specs.Views.{unfinished_alive}
use Rattle.law_invariant_rules.specs.Words.{ViewWords, kind_words}

-- members of a list with y in front
later : {P : ℕ → Type 0} (y : ℕ) (l : List ℕ) → ((x : ℕ) → 0 < occurrences x (y ∷ l) → P x) → (x : ℕ) → 0 < occurrences x l → P x
later y l f x p = f x (occurs_later y x l p)

module _ (m : List ℕ) (xs : List Item) (r : Represents m xs) where
  abbrev c : Contents
  c = decode m

  -- THE TOUR of the memory test is that of the invariant.
  pub same_tour : toured c ≡ r.tour
  same_tour =
      sym (whole_tour c r.linked.top r.linked.idle (tree m r.tour xs r.linked)).whole
      ∙ tour_is m r.tour xs r.linked

  pub whole : Toured c r.tour
  whole = subst (λ (l : List ℕ). Toured c l) same_tour (whole_tour c r.linked.top r.linked.idle (tree m r.tour xs r.linked))

  -- its tasks are the unfinished ones
  pub entered_busy : (t : ℕ) → 0 < occurrences t (entered r.tour) → Unfinished c t
  entered_busy t p = holder_unfinished m r.tour xs r.linked t (entered_holder c r.tour whole t p)

  -- ONE QUEUE: the words of its views
  module _ (q : ℕ) (small : q < 4) where
    module _ (t : ℕ) (u : Unfinished c t) where
      pub children_words : (v : Extent) → (queue_memory m q).children t ≡ v → ViewWords v (word c t (HEADS + q)) (word c t (TAILS + q))
      unfolding queue_memory of_tasks
      children_words v e = kind_words m q CHILDREN t v small (omega arith) u.0 (sym (halt _ _ (unfinished_alive m t u)) ∙ e)

      pub user_words : (v : Extent) → (queue_memory m q).user t ≡ v → ViewWords v (word c t (24 + q)) (word c t (36 + q))
      unfolding queue_memory of_tasks
      user_words v e = kind_words m q USER t v small (omega arith) u.0 (sym (halt _ _ (unfinished_alive m t u)) ∙ e)

      pub right_words : (v : Extent) → (queue_memory m q).right t ≡ v → ViewWords v (word c t (28 + q)) (word c t (40 + q))
      unfolding queue_memory of_tasks
      right_words v e = kind_words m q RIGHT t v small (omega arith) u.0 (sym (halt _ _ (unfinished_alive m t u)) ∙ e)

      pub head_word : (queue_memory m q).store.heads t ≡ optional (word c t (QUEUE_HEADS + q))
      unfolding queue_memory of_tasks
      head_word = halt _ _ (unfinished_alive m t u) ∙ head_at m q t small u.0 ∙ ap optional (sym (word_is m t (QUEUE_HEADS + q)))

      pub uses_word : uses_in m q t ≡ uses (task_rights c t) q
      unfolding uses_in
      uses_word = both_on (lt-ltb t 128 u.0) ∙ ap (λ (k : ℕ). uses k q) (sym (word_is m t RIGHTS))

    -- What a mark of the line says of its task: a task with a right to the queue has marks of its own.
    abbrev pub Marked : Mark → Type 0
    Marked (base d) = Unit {0}
    Marked (exited t) = Unfinished c t × (uses (task_rights c t) q ≡ true)
    Marked (entering t d) = Unfinished c t × (uses (task_rights c t) q ≡ true)
    Marked (past x) =
        ((x < 128) × Unfinished c x × (uses (task_rights c x) q ≡ false))
        ⊎ ((128 ≤ x) × Unfinished c (x - 128) × (uses (task_rights c (x - 128)) q ≡ false))

    -- a mark of the tour is where an unfinished task is entered or exited
    abbrev Busy : ℕ → Type 0
    Busy x = ((x < 128) × Unfinished c x) ⊎ ((128 ≤ x) × (x < 256) × Unfinished c (x - 128))

    exited_mark : (t : ℕ) → uses_in m q t ≡ true → Busy (128 + t) → Unfinished c t × (uses (task_rights c t) q ≡ true)
    exited_mark t e (inl w) = let l = w.0 in let z : ⊥ = omega (arith, l) in absurd z
    exited_mark t e (inr w) =
        let u = subst (λ (k : ℕ). Unfinished c k) (let z : 128 + t - 128 ≡ t = omega arith in z) w.2 in
        (u, sym (uses_word t u) ∙ e)

    entered_mark : (t : ℕ) → uses_in m q t ≡ true → Busy t → Unfinished c t × (uses (task_rights c t) q ≡ true)
    entered_mark t e (inl w) = (w.1, sym (uses_word t w.1) ∙ e)
    entered_mark t e (inr w) =
        let l = w.0 in
        let k : t < 128 = unfold uses_in in ltb-true t 128 (both_true _ _ e).0 in
        let z : ⊥ = omega (arith, l, k) in
        absurd z

    past_mark : (x : ℕ) → uses_in m q (pick (ltb x 128) x (x - 128)) ≡ false → Busy x → Marked (past x)
    past_mark x e (inl w) = inl (w.0, w.1, sym (uses_word x w.1) ∙ ap (uses_in m q) (sym (halt x (x - 128) (lt-ltb x 128 w.0))) ∙ e)
    past_mark x e (inr w) =
        inr (w.0, w.2, sym (uses_word (x - 128) w.2) ∙ ap (uses_in m q) (sym (pass x (le-ltb x 128 w.0) refl)) ∙ e)

    line_marked : (l : Line) → All (Fits (uses_in m q)) l → ((x : ℕ) → 0 < occurrences x (marks l) → Busy x) → All Marked l
    line_marked [] h f = tt
    line_marked (base d ∷ l) h f = (tt, line_marked l h.1 f)
    line_marked (exited t ∷ l) h f = (exited_mark t h.0 (f (128 + t) (occurs_first (128 + t) (marks l))), line_marked l h.1 (later (128 + t) (marks l) f))
    line_marked (entering t d ∷ l) h f = (entered_mark t h.0 (f t (occurs_first t (marks l))), line_marked l h.1 (later t (marks l) f))
    line_marked (past x ∷ l) h f = (past_mark x h.0 (f x (occurs_first x (marks l))), line_marked l h.1 (later x (marks l) f))

    pub marked : All Marked (r.line q)
    marked =
        let Q = r.queue q small in
        line_marked (r.line q) Q.fits (λ x p. mark_held m r.tour xs r.linked x (subst (λ (l : List ℕ). 0 < occurrences x l) Q.marked p))
