-- DEMAND 2, PROVED: every call in every state answers as the statement says, and leads to a state.
use Rattle.std.specs.Prelude.{◌≡◌, Bool, true, false, List, [], ◌∷◌, ℕ, eqb}
use Rattle.std.proofs.Math.Path.{refl}
use Rattle.std.proofs.Common.{ap, sym, ◌∙◌, subst, inl, inr, arith}
use Rattle.spec_words.specs.Words.{pick, pass as skip}
use Rattle.spec_lists.specs.Maps.{last_of}
use Rattle.spec_answers.specs.declared.Answer.{Answer}
use Rattle.spec_answers.specs.declared.Answer.TheVariants.{Moved, Waits, Refused}
use Rattle.spec_answers.specs.Answers.{Outcome, answer_of, words_of, status_of, value_of}
use Rattle.spec_answers.specs.Calls.{Call, open_call, spawn_call, push_call, take_call, sync_call, finish_call, left_call}
use Rattle.spec_tree.specs.Rights.{pushes as mayPush}
use Rattle.spec_outcomes.specs.Waits.{tested, test_passes}
use Rattle.spec_outcomes.specs.Open.{open_outcome}
use Rattle.spec_outcomes.specs.Spawn.{spawn_tested, spawn_outcome}
use Rattle.spec_outcomes.specs.Push.{push_tested, push_outcome}
use Rattle.spec_outcomes.specs.Take.{pop_allowed, take_tested, take_outcome}
use Rattle.spec_outcomes.specs.Sync.{when_reduced, sync_tested, sync_outcome}
use Rattle.spec_outcomes.specs.Finish.{finish_tested, finish_outcome}
use Rattle.spec_outcomes.specs.Left.{left_tested, left_outcome}
use Rattle.spec_outcomes.specs.Outcomes.{outcome_of, words_after}
use Rattle.spec_order.specs.Steps.{Item, begin, noted}
use Rattle.spec_order.specs.Waits.{unfinished, blocked}
use Rattle.spec_order.specs.Ordered.{rights_at, for_task, for_queue, ordered}
use Rattle.law_invariant.specs.Represents.{Represents}
use Rattle.law_in_order.specs.Answered.{segments_run_out, decided, answered}
use Rattle.law_in_order.proofs.Yields.{Yields, does_as}
use Rattle.law_in_order.proofs.State.{Ended, State, state_rules, state_size}
use Rattle.law_in_order.proofs.Open.{open_does, opens}
use Rattle.law_in_order.proofs.Spawn.{spawn_does, fresh_task}
use Rattle.law_in_order.proofs.Run.{push_does}
use Rattle.law_in_order.proofs.Take.{take_does}
use Rattle.law_in_order.proofs.Sync.{sync_does}
use Rattle.law_in_order.proofs.Finish.{tested_is as finish-tested, finish_does}
use Rattle.law_in_order.proofs.Left.{left_waits, left_ended, ended_refuses}
use Rattle.law_in_order.proofs.NotTwo.{never_two}
use Rattle.law_in_order.specs.Statement.{steps_after, Promise}

runs : (m : List ℕ) (xs : List Item) → Represents m xs → State m xs
runs m xs r = inl r

-- the tests that every call makes first pass
module _ (m : List ℕ) (xs : List Item) (st : State m xs) where
  pub tested_is : (o : Outcome) → tested m o ≡ o
  tested_is = test_passes m (state_size m xs st) (state_rules m xs st)

  through : {c : Call} {a : Answer} (o : Outcome) → Yields State xs c o a → Yields State xs c (tested m o) a
  through {c} {a} o d = subst (λ (x : Outcome). Yields State xs c x a) (sym (tested_is o)) d

-- 9 where it is decided
nine : (b : Bool) (v : ℕ) → pick (eqb (status_of (pick b (Refused 9) (Moved v))) 9) (Refused 9) (Moved v) ≡ pick b (Refused 9) (Moved v)
unfolding status_of pick
nine true v = refl
nine false v = refl

-- the same once the top has finished
module _ (m : List ℕ) (xs : List Item) (e : Ended m xs) where
  spawn_ended : (t u : ℕ) → (a : Answer) → Yields State xs (spawn_call t u) (spawn_tested m t u) (for_task t xs a)
  unfolding spawn_tested
  spawn_ended t u a = ended_refuses m xs e (spawn_call t u) _ a t

  push_ended : (t q : ℕ) (vs : List ℕ) → (a : Answer) → Yields State xs (push_call t q vs) (push_tested m t q vs) (for_task t xs a)
  unfolding push_tested
  push_ended t q vs a = ended_refuses m xs e (push_call t q vs) _ a t

  take_ended : (t q : ℕ) (keep : Bool) → (a : Answer) → Yields State xs (take_call t q keep) (take_tested m t q keep) (for_task t xs a)
  unfolding take_tested pop_allowed
  take_ended t q keep a = ended_refuses m xs e (take_call t q keep) _ a t

  sync_ended : (t : ℕ) → (a : Answer) → Yields State xs (sync_call t) (sync_tested m t) (for_task t xs a)
  unfolding sync_tested when_reduced
  sync_ended t a = ended_refuses m xs e (sync_call t) _ a t

  finish_ended : (t : ℕ) → (a : Answer) → Yields State xs (finish_call t) (finish_tested m t) (for_task t xs a)
  unfolding when_reduced
  finish_ended t a = does_as State _ _ _ _ (finish-tested m t) refl (ended_refuses m xs e (finish_call t) _ a t)

-- A CALL IN A STATE
pub call_does : (c : Call) (m : List ℕ) (xs : List Item) → State m xs → Yields State xs c (outcome_of c m) (answered c m xs)
unfolding outcome_of answered ordered decided value_of spawn_outcome push_outcome take_outcome sync_outcome finish_outcome left_outcome
call_does (open_call l n) m xs st = open_does m xs l n (state_size m xs st) st
call_does (spawn_call t u) m xs (inl r) = through m xs (inl r) (spawn_tested m t u) (spawn_does State runs m xs t u r)
call_does (spawn_call t u) m xs (inr e) = through m xs (inr e) (spawn_tested m t u) (spawn_ended m xs e t u _)
call_does (push_call t q vs) m xs (inl r) =
    through m xs (inl r) (push_tested m t q vs)
    (does_as State _ _ _ _ refl
    (ap (λ (a : Answer). for_task t xs (for_queue q (mayPush (rights_at t xs) q) (pick (blocked t xs) Waits a)))
    (nine (segments_run_out m t q vs) (last_of 0 vs)))
    (push_does State runs m xs t q vs r))
call_does (push_call t q vs) m xs (inr e) = through m xs (inr e) (push_tested m t q vs) (push_ended m xs e t q vs _)
call_does (take_call t q keep) m xs (inl r) = through m xs (inl r) (take_tested m t q keep) (take_does State runs m xs t q keep r)
call_does (take_call t q keep) m xs (inr e) = through m xs (inr e) (take_tested m t q keep) (take_ended m xs e t q keep _)
call_does (sync_call t) m xs (inl r) = through m xs (inl r) (sync_tested m t) (sync_does State runs m xs t r)
call_does (sync_call t) m xs (inr e) = through m xs (inr e) (sync_tested m t) (sync_ended m xs e t _)
call_does (finish_call t) m xs (inl r) = through m xs (inl r) (finish_tested m t) (finish_does m xs t r)
call_does (finish_call t) m xs (inr e) = through m xs (inr e) (finish_tested m t) (finish_ended m xs e t _)
call_does (left_call q i) m xs (inl r) = through m xs (inl r) (left_tested m q i) (left_waits m xs q i r)
call_does (left_call q i) m xs (inr e) = through m xs (inr e) (left_tested m q i) (left_ended m xs e q i)

-- A LIST OF CALLS leads from a state to a state.
pub calls_do : (cs : List Call) (m : List ℕ) (xs : List Item) → State m xs → State (words_after cs m) (steps_after cs m xs)
unfolding words_after steps_after
calls_do [] m xs st = st
calls_do (c ∷ cs) m xs st =
    let d = call_does c m xs st in
    calls_do cs (words_of (outcome_of c m)) (noted c (answer_of (outcome_of c m)) xs)
    (subst (λ (a : Answer). State (words_of (outcome_of c m)) (noted c a xs)) (sym d.answer) d.holds)

-- the number of a new task, in a state
pub fresh : (m : List ℕ) (xs : List Item) (st : State m xs) (t u v : ℕ) → answered (spawn_call t u) m xs ≡ Moved v → unfinished v xs ≡ false
unfolding answered ordered decided value_of for_task
fresh m xs (inl r) t u v e = fresh_task m xs t u v r (unfold for_task in e)
fresh m xs (inr d) t u v e = let f : Refused 4 ≡ Moved v = sym (skip _ (d.none_left t) refl) ∙ e in let z : ◌≡◌ {A = ℕ} 0 1 = cc in absurd (omega (arith, z))

-- THE PROMISE HOLDS.
pub in_order : Promise
in_order w l n e cs c =
    let st = calls_do cs (words_of (open_outcome w l n)) begin (opens w l n e) in
    let d = call_does c _ _ st in
    record {
      rules = state_rules _ _ st;
      answer = d.answer;
      not_two = λ z. never_two c _ _ (ap status_of (sym d.answer) ∙ z);
      fresh =
          λ t u v i j. fresh _ _ st t u v
          (sym (ap (λ (x : Call). answered x (words_after cs (words_of (open_outcome w l n))) (steps_after cs (words_of (open_outcome w l n)) begin)) i)
          ∙ sym d.answer ∙ j);
    }
