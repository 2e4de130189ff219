-- finish: it waits exactly where program order says so, and every reduction is one that the paper has.
use Rattle.std.specs.Prelude.{◌≡◌, Bool, true, List, ◌∷◌, ◌++◌, ℕ, ◌<◌, eqb}
use Rattle.std.proofs.Math.Path.{refl}
use Rattle.std.proofs.Common.{sym, ◌∙◌, subst, inl, inr, ⊎_elim, eq-zero-or-pos, eqb-true}
use Rattle.std.proofs.Math.Bool.{false}
use Rattle.std.proofs.lemmas.Bool.{eqb-false}
use Rattle.spec_words.specs.Words.{pick, halt, pass as skip, either}
use Rattle.spec_answers.specs.declared.Answer.TheVariants.{Moved, Waits}
use Rattle.spec_answers.specs.Answers.{outcome, answer_of, words_of}
use Rattle.spec_answers.specs.Calls.{finish_call}
use Rattle.spec_tree.specs.Rights.{each_queue}
use Rattle.spec_outcomes.specs.Sync.{syncs, when_reduced}
use Rattle.spec_outcomes.specs.Finish.{finishes as finishesIn, finished, top_finished, finish_tested}
use Rattle.spec_order.specs.Steps.{Task, Item, spot, finishes, number_of, advance, counted, noted}
use Rattle.spec_order.specs.Waits.{blocked, has_child}
use Rattle.spec_order.specs.Ordered.{for_task}
use Rattle.law_invariant.specs.Represents.{Represents}
use Rattle.law_order.specs.Reached.{Fresh}
use Rattle.law_order_waits.specs.Spots.{says_unfinished}
use Rattle.law_order_waits.specs.Played.{Asked, plays}
use Rattle.law_invariant.specs.At.{mine_spot}
use Rattle.law_invariant_finish.specs.Sync.{sync_allowed}
use Rattle.law_invariant_finish.specs.Finish.{finish_allowed, finish_represents}
use Rattle.law_in_order.proofs.Yields.{Yields, does_as}
use Rattle.law_in_order.proofs.Sync.{child_same, when_reduced_lem}
use Rattle.law_in_order.proofs.State.{State}
use Rattle.law_in_order.proofs.TopFinish.{top_ended}

-- the top, and any other task
unfoldable pub allowed : List ℕ → ℕ → Bool
allowed m t = pick (eqb t 0) (each_queue (syncs m t)) (each_queue (finishesIn m t))

unfoldable pub words : List ℕ → ℕ → List ℕ
words m t = pick (eqb t 0) (top_finished m) (finished m t)

pub tested_is : (m : List ℕ) (t : ℕ) → finish_tested m t ≡ when_reduced m t (allowed m t) (outcome (Moved 0) (words m t))
unfolding finish_tested allowed words
tested_is m t = go (eqb t 0)
  where
    go : (b : Bool)
        → pick b (when_reduced m t (each_queue (syncs m t)) (outcome (Moved 0) (top_finished m)))
        (when_reduced m t (each_queue (finishesIn m t)) (outcome (Moved 0) (finished m t)))
        ≡ when_reduced m t (pick b (each_queue (syncs m t)) (each_queue (finishesIn m t))) (outcome (Moved 0) (pick b (top_finished m) (finished m t)))
    go true = unfold pick in refl
    go false = unfold pick in refl

-- a task that is not the top
finish_task : (m : List ℕ) (ys zs : List Item) (s : Task) → Represents m (ys ++ spot s ∷ zs) → (number_of s ≡ 0 → ⊥)
    → blocked (number_of s) (ys ++ spot s ∷ zs) ≡ false → has_child (number_of s) (ys ++ spot s ∷ zs) ≡ false
    → (each_queue (finishesIn m (number_of s)) ≡ true) × Represents (finished m (number_of s)) (advance (number_of s) finishes (ys ++ spot s ∷ zs))
unfolding Fresh Asked
finish_task m ys zs s r n b c =
    let barren = child_same m ys zs s r ∙ c in
    let above : 0 < number_of s = ⊎_elim (λ e. absurd (n e)) (λ l. l) (eq-zero-or-pos (number_of s)) in (
      finish_allowed m ys zs s r barren above,
      finish_represents m ys zs s r barren above b
          (plays (number_of s) finishes r.played (says_unfinished (ys ++ spot s ∷ zs) s (mine_spot m ys zs s r)) tt b c),
    )

finishes_well : (m : List ℕ) (ys zs : List Item) (s : Task) → Represents m (ys ++ spot s ∷ zs) → blocked (number_of s) (ys ++ spot s ∷ zs) ≡ false
    → has_child (number_of s) (ys ++ spot s ∷ zs) ≡ false
    → (allowed m (number_of s) ≡ true) × Yields State (ys ++ spot s ∷ zs) (finish_call (number_of s)) (outcome (Moved 0) (words m (number_of s))) (Moved 0)
unfolding allowed words answer_of words_of noted counted
finishes_well m ys zs s r b c = go (eqb (number_of s) 0) refl
  where
    New : List Item
    New = advance (number_of s) finishes (ys ++ spot s ∷ zs)

    go : (d : Bool) → eqb (number_of s) 0 ≡ d
        → (pick (eqb (number_of s) 0) (each_queue (syncs m (number_of s))) (each_queue (finishesIn m (number_of s))) ≡ true)
        × Yields State (ys ++ spot s ∷ zs) (finish_call (number_of s)) (outcome (Moved 0) (pick (eqb (number_of s) 0) (top_finished m) (finished m (number_of s))))
        (Moved 0)
    go true e = (
      halt _ _ e ∙ sync_allowed m ys zs s r (child_same m ys zs s r ∙ c),
      record { answer = refl; holds = subst (λ (w : List ℕ). State w New) (sym (halt _ _ e)) (inr (top_ended m ys zs s r (eqb-true (number_of s) 0 e) b c)) },
    )
    go false e =
        let w = finish_task m ys zs s r (eqb-false (number_of s) 0 e) b c in (
          skip _ e w.0,
          record { answer = refl; holds = subst (λ (w : List ℕ). State w New) (sym (skip _ e refl)) (inl w.1) },
        )

pub finish_does : (m : List ℕ) (xs : List Item) (t : ℕ) → Represents m xs
    → Yields State xs (finish_call t) (finish_tested m t) (for_task t xs (pick (either (blocked t xs) (has_child t xs)) Waits (Moved 0)))
finish_does m xs t r =
    does_as State _ _ _ _ (tested_is m t) refl (when_reduced_lem State (λ m xs r. inl r) finish_call (allowed m) (words m) m (finishes_well m) xs t r)
