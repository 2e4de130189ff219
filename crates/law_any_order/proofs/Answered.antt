-- What program order answers to the core call of a step, once the step's own tests have passed: the task is unfinished, no older
-- sibling blocks it, and the job gave it the right.
use Rattle.std.specs.Prelude.{◌≡◌, Bool, List, [], ◌∷◌, ◌⊎◌, ℕ, ◌<◌, eqb}
use Rattle.std.proofs.Math.Path.{refl}
use Rattle.std.proofs.Common.{ap, ◌∙◌, inr, eqb-true}
use Rattle.std.proofs.Math.Bool.{true, false}
use Rattle.std.proofs.Math.Logic.{inl}
use Rattle.std.proofs.lemmas.Bool.{lt-leb}
use Rattle.spec_words.specs.Words.{pick, pass, halt, both, either, both_true, true_left, neither}
use Rattle.spec_tree.specs.Rights.{pushes as mayPush, pops as mayPop, subset}
use Rattle.spec_answers.specs.declared.Answer.{Answer}
use Rattle.spec_answers.specs.declared.Answer.TheVariants.{Moved, Waits, Refused}
use Rattle.spec_answers.specs.Answers.{status_of, value_of}
use Rattle.spec_answers.specs.Calls.{spawn_call, push_call, take_call, sync_call, finish_call}
use Rattle.spec_order.specs.Steps.{Item}
use Rattle.spec_order.specs.Waits.{unfinished, blocked, has_child}
use Rattle.spec_order.specs.Finding.{finding}
use Rattle.spec_order.specs.Ordered.{rights_at, spots, for_task, for_queue, take_answer, ordered}
use Rattle.spec_outcomes.specs.Segments.{has_none_free}
use Rattle.spec_outcomes.specs.Push.{needs_segment}
use Rattle.law_in_order.specs.Answered.{segments_run_out, next_task, decided, answered}

module _ (m : List ℕ) (xs : List Item) (t : ℕ) (there : unfinished t xs ≡ true) (free : blocked t xs ≡ false) where
  queue_passes : (q : ℕ) (held : Bool) (a : Answer) → q < 4 → held ≡ true → for_task t xs (for_queue q held a) ≡ a
  unfolding for_task for_queue
  queue_passes q held a small e = halt _ _ there ∙ pass _ (lt-leb 4 q small) (halt _ _ e)

  -- a push moves, or is refused with 9: it needs a segment and none is free
  pub push_answer : (q v : ℕ) → q < 4 → mayPush (rights_at t xs) q ≡ true
      → (answered (push_call t q (v ∷ [])) m xs ≡ Moved v)
      ⊎ ((answered (push_call t q (v ∷ [])) m xs ≡ Refused 9) × (needs_segment m t q ≡ true) × (has_none_free m q ≡ true))
  push_answer q v small e = go (both (needs_segment m t q) (has_none_free m q)) refl
    where
      is : (a : Answer) → decided (push_call t q (v ∷ [])) m ≡ a → answered (push_call t q (v ∷ [])) m xs ≡ pick (eqb (status_of a) 9) (Refused 9) (Moved v)
      is a d = unfold answered ordered in queue_passes q _ _ small e ∙ pass _ free (ap (λ (b : Answer). pick (eqb (status_of b) 9) (Refused 9) (Moved v)) d)

      -- a run of one runs out where its value needs a segment and none is free
      out : (b : Bool) → both (needs_segment m t q) (has_none_free m q) ≡ b → segments_run_out m t q (v ∷ []) ≡ b
      out true d = unfold segments_run_out in true_left _ d
      out false d = unfold segments_run_out in neither d refl

      go : (b : Bool) → both (needs_segment m t q) (has_none_free m q) ≡ b
          → (answered (push_call t q (v ∷ [])) m xs ≡ Moved v)
          ⊎ ((answered (push_call t q (v ∷ [])) m xs ≡ Refused 9) × (needs_segment m t q ≡ true) × (has_none_free m q ≡ true))
      go true d =
          let w = both_true _ _ d in
          inr (is (Refused 9) (unfold decided in halt _ _ (out true d)) ∙ (unfold status_of in halt _ _ refl), w.0, w.1)
      go false d = inl (is (Moved v) (unfold decided in pass _ (out false d) refl) ∙ (unfold status_of in pass _ refl refl))

  pub take_answer_lem : (q : ℕ) (keep : Bool) → q < 4 → mayPop (rights_at t xs) q ≡ true → answered (take_call t q keep) m xs ≡ take_answer (finding t q xs)
  unfolding answered ordered
  take_answer_lem q keep small e = queue_passes q _ _ small e

  -- a spawn moves, or is refused with 8: 128 tasks are unfinished
  pub spawn_answer : (r : ℕ) → subset r (rights_at t xs) ≡ true
      → (answered (spawn_call t r) m xs ≡ Moved (next_task m)) ⊎ ((answered (spawn_call t r) m xs ≡ Refused 8) × (spots xs ≡ 128))
  unfolding answered ordered decided value_of for_task
  spawn_answer r e = go (eqb (spots xs) 128) refl
    where
      is : answered (spawn_call t r) m xs ≡ pick (eqb (spots xs) 128) (Refused 8) (Moved (next_task m))
      is = unfold answered ordered decided value_of for_task in halt _ _ there ∙ halt _ _ e ∙ pass _ free refl

      go : (b : Bool) → eqb (spots xs) 128 ≡ b
          → (answered (spawn_call t r) m xs ≡ Moved (next_task m)) ⊎ ((answered (spawn_call t r) m xs ≡ Refused 8) × (spots xs ≡ 128))
      go true d = inr (is ∙ halt _ _ d, eqb-true _ _ d)
      go false d = inl (is ∙ pass _ d refl)

  -- sync and finish move, or wait for a child
  alone_answer : (a : Answer) → a ≡ for_task t xs (pick (either (blocked t xs) (has_child t xs)) Waits (Moved 0))
      → ((has_child t xs ≡ false) × (a ≡ Moved 0)) ⊎ ((has_child t xs ≡ true) × (a ≡ Waits))
  unfolding for_task either
  alone_answer a e = go (has_child t xs) refl
    where
      is : a ≡ pick (pick (blocked t xs) true (has_child t xs)) Waits (Moved 0)
      is = e ∙ unfold for_task either in halt _ _ there

      go : (b : Bool) → has_child t xs ≡ b → ((has_child t xs ≡ false) × (a ≡ Moved 0)) ⊎ ((has_child t xs ≡ true) × (a ≡ Waits))
      go true d = inr (d, is ∙ halt _ _ (pass _ free d))
      go false d = inl (d, is ∙ pass _ (pass _ free d) refl)

  pub sync_answer : ((has_child t xs ≡ false) × (answered (sync_call t) m xs ≡ Moved 0)) ⊎ ((has_child t xs ≡ true) × (answered (sync_call t) m xs ≡ Waits))
  unfolding answered ordered
  sync_answer = alone_answer _ refl

  pub finish_answer : ((has_child t xs ≡ false) × (answered (finish_call t) m xs ≡ Moved 0)) ⊎ ((has_child t xs ≡ true) × (answered (finish_call t) m xs ≡ Waits))
  unfolding answered ordered
  finish_answer = alone_answer _ refl
