-- ON MEMORY THAT PASSES THE RULES a search along the tour behind a task that has views comes to a task that has views: the top, at the latest.
use Rattle.std.specs.Prelude.{◌≡◌, refl, Bool, List, ℕ, zero, suc, ◌+◌, ◌-◌, ◌<◌, ◌≤◌}
use Rattle.std.proofs.Math.Path.{ap, subst}
use Rattle.std.proofs.Common.{sym, ◌∙◌, inl, inr, arith, lt-ltb, le-ltb}
use Rattle.std.proofs.Math.Bool.{true, false, false≢true}
use Rattle.std.proofs.lemmas.Bool.{lt-leb}
use Rattle.spec_words.specs.Words.{pick, pass, halt, true_both, true_left, true_right}
use Rattle.spec_layout.specs.Layout.{RIGHTS, rights_of}
use Rattle.spec_layout.proofs.Frame.{record_word}
use Rattle.spec_tree.specs.Rights.{uses}
use Rattle.spec_tree.specs.Queues.{all_used}
use Rattle.spec_tree.specs.Tour.{END, MARKS, after, seek}
use Rattle.spec_rules.specs.Contents.{Contents, decode, word}
use Rattle.spec_rules.specs.Rules.{Holder, TaskRules}
use Rattle.spec_rules.specs.Test.{tree_test}
use Rattle.law_rules_tasks.specs.Holders.{holder_below}
use Rattle.law_rules_tasks.specs.Marks.{tree_none, tree_rest}
use Rattle.law_rules_tasks.specs.Reached.{Reached, reached_tree, reached_holder, reached_below, Standing, standing_range, standing_next}
use Rattle.law_rules_tasks.specs.Tasks.{says_tasks}
use Rattle.law_rules_tasks.specs.Tested.{idle_says}
use Rattle.law_rules_tasks.specs.Visits.{count, holder_visit}
use Rattle.spec_outcomes.specs.Views.{task_at, has_part, stands_at, just_before}

-- the task of a mark
pub entered_task : (x : ℕ) → x < 128 → task_at x ≡ x
unfolding task_at
entered_task x l = halt _ _ (lt-ltb x 128 l)

pub exited_task : (x t : ℕ) → x ≡ 128 + t → task_at x ≡ t
unfolding task_at
exited_task x t e = pass _ (le-ltb x 128 (omega (arith, e))) (let z : x - 128 ≡ t = omega (arith, e) in z)

module _ (c : Contents) (f : ℕ → Bool) (top : f 128 ≡ true) where
  holds_at : (j x : ℕ) → Standing c (count c) j x → Holder c (task_at x)
  holds_at j x (inl r) = subst (Holder c) (sym (entered_task x (reached_below c (count c) j x r))) (reached_holder c (count c) j x r)
  holds_at j x (inr w) = subst (Holder c) (sym (exited_task x w.0 w.1)) (reached_holder c (count c) w.2 w.0 w.4)

  -- one step of the search
  step : (k j x : ℕ) → Standing c (count c) (suc j) x → tree_test c (suc j) x ≡ true
      → ((x ≡ 128 → ⊥) → Holder c (task_at (seek k f c.recs (after c.recs x)))) → Holder c (task_at (seek (suc k) f c.recs x))
  unfolding seek
  step k j x s e more =
      subst (λ (y : ℕ). Holder c (task_at y)) (sym (pass END (lt-leb END x (standing_range c (count c) (suc j) x s)) refl)) (go (f x) refl)
    where
      go : (b : Bool) → f x ≡ b → Holder c (task_at (pick (f x) x (seek k f c.recs (after c.recs x))))
      go true h = subst (λ (y : ℕ). Holder c (task_at y)) (sym (halt _ _ h)) (holds_at (suc j) x s)
      go false h = subst (λ (y : ℕ). Holder c (task_at y)) (sym (pass _ h refl)) (more (λ q. false≢true (sym h ∙ ap f q ∙ top)))

  -- from a mark where j are left, with k steps allowed
  along : (k j x : ℕ) → j ≤ k → Standing c (count c) j x → tree_test c j x ≡ true → Holder c (task_at (seek k f c.recs x))
  along k zero x l s e = absurd (tree_none c x e)
  along zero (suc j) x l s e = let z : ⊥ = omega (arith, l) in absurd z
  along (suc k) (suc j) x l s e =
      step k j x s e (λ n. along k j (after c.recs x) (omega (arith, l)) (standing_next c (count c) j x s e n) (tree_rest c j x n e))

  behind : (j t : ℕ) → t < 128 → j ≤ count c → Reached c (count c) j t → Holder c (task_at (seek MARKS f c.recs (after c.recs t)))
  behind zero t l m r = absurd (tree_none c t (reached_tree c (count c) 0 t r))
  behind (suc j) t l m r =
      let e = reached_tree c (count c) (suc j) t r in
      let n : t ≡ 128 → ⊥ = λ q. omega (arith, q, l) in
      along MARKS j (after c.recs t) (omega (arith, m)) (standing_next c (count c) j t (inl r) e n) (tree_rest c j t n e)

  pub search_behind : TaskRules c → (t : ℕ) → Holder c t → Holder c (task_at (seek MARKS f c.recs (after c.recs t)))
  search_behind r t h =
      let w = says_tasks c r in
      let v = holder_visit c (idle_says c w.1) w.2 t h in
      behind v.entered t (holder_below c t h) v.most v.reached

-- the top stands wherever a view is sought
top_stands : (m : List ℕ) (q : ℕ) → q < 4 → rights_of m 0 ≡ 255 → stands_at m q 128 ≡ true
unfolding stands_at has_part
top_stands m q small e =
    true_both (ap (λ (x : ℕ). uses (rights_of m x) q) (exited_task 128 0 refl) ∙ ap (λ (x : ℕ). uses x q) e ∙ all_used q small)
    (true_right _ (true_left _ refl))

-- THE VIEW JUST BEFORE is one of a task that has views
pub before_held : (m : List ℕ) (t q : ℕ) → TaskRules (decode m) → q < 4 → Holder (decode m) t → Holder (decode m) (task_at (just_before m q t))
unfolding just_before word
before_held m t q r small h =
    search_behind (decode m) (stands_at m q) (top_stands m q small (sym (record_word m 0 RIGHTS) ∙ r.top_rights)) r t h
