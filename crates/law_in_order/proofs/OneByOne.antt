-- A RUN IS THE PUBLIC PUSHES OF ITS VALUES, one after another, in memory opened by the core and written by nothing else since: the same answer,
-- a refusal and a wait included, and the same words; where one of them does not move the words are those that the first found.
use Rattle.std.specs.Prelude.{◌≡◌, Bool, ℕ, ◌<◌, leb}
use Rattle.std.proofs.Math.Path.{refl, ap, sym, subst}
use Rattle.std.proofs.Common.{◌∙◌, inl, inr, arith}
use Rattle.std.proofs.Math.Bool.{true, false, not}
use mathlib.Core.List.{List, [], ◌∷◌, ◌++◌}
use borrow.Author.Tests.{leb-false, lt-leb}
use Rattle.spec_words.specs.Words.{pass, halt}
use Rattle.spec_tree.specs.Rights.{pushes as mayPush}
use Rattle.spec_answers.specs.declared.Answer.{Answer}
use Rattle.spec_answers.specs.declared.Answer.TheVariants.{Moved, Waits, Refused}
use Rattle.spec_answers.specs.Answers.{Outcome, outcome, answer_of, words_of, when_moved}
use Rattle.spec_answers.specs.Calls.{Call, push_call}
use Rattle.spec_outcomes.specs.Push.{pushed, pushed_all, pushed_run, push_tested, push_outcome}
use Rattle.spec_outcomes.proofs.RunOfOne.{run_of_one}
use Rattle.spec_outcomes.specs.Open.{open_outcome}
use Rattle.spec_outcomes.specs.Outcomes.{outcome_of, words_after}
use Rattle.spec_outcomes.proofs.Keeps.{Keeps, keeps}
use Rattle.spec_order.specs.Steps.{Task, Item, begin, step, spot, pushes, name_of, number_of, rights_of}
use Rattle.spec_order.specs.Waits.{unfinished, blocked}
use Rattle.spec_order.specs.Ordered.{rights_at, for_task, for_queue, ordered}
use Rattle.law_order.specs.Items.{in_split}
use Rattle.law_order_waits.specs.Spots.{unfinished_says, says_unfinished}
use Rattle.law_order_waits.specs.Played.{played_reached}
use Rattle.law_links.specs.Waits.{same_unfinished}
use Rattle.law_invariant.specs.Represents.{Represents}
use Rattle.law_invariant.specs.At.{mine_spot}
use Rattle.law_in_order.specs.Answered.{answered}
use Rattle.law_in_order.proofs.Refusals.{rights_are, rights_same, blocked_same}
use Rattle.law_in_order.proofs.State.{State}
use Rattle.law_in_order.proofs.Open.{opens}
use Rattle.law_in_order.proofs.Run.{by_answer, After, Ways, either_way, pushable, same_run}
use Rattle.law_in_order.proofs.InOrder.{tested_is, call_does, calls_do}

-- pushes of one value each, from the words m on; o are the words that the first found, w the last value pushed
unfoldable pub one_by_one : List ℕ → List ℕ → ℕ → ℕ → ℕ → List ℕ → Outcome
one_by_one o m t q w [] = outcome (Moved w) m
one_by_one o m t q w (v ∷ vs) = when_moved o (outcome_of (push_call t q (v ∷ [])) m) (λ x n. one_by_one o n t q x vs)

-- a call that is refused or waits, by its answer
module _ (c : Call) (m : List ℕ) where
  refused_is : (k : ℕ) → answer_of (outcome_of c m) ≡ Refused k → outcome_of c m ≡ outcome (Refused k) m
  refused_is k e =
      let d = by_answer (outcome_of c m) e in d ∙ ap (outcome (Refused k)) (subst (Keeps m) d (keeps c m))

  waits_is : answer_of (outcome_of c m) ≡ Waits → outcome_of c m ≡ outcome Waits m
  waits_is e = let d = by_answer (outcome_of c m) e in d ∙ ap (outcome Waits) (subst (Keeps m) d (keeps c m))

-- the tests pass
module _ (zs : List Item) (s : Task) (q : ℕ) (small : q < 4) (may : mayPush (rights_of s) q ≡ true) where
  abbrev t : ℕ
  t = number_of s

  behind_tests : (m : List ℕ) (ys : List Item) (r : Represents m (ys ++ spot s ∷ zs)) → blocked t (ys ++ spot s ∷ zs) ≡ false → (vs : List ℕ)
      → outcome_of (push_call t q vs) m ≡ pushed_run m t q vs
  unfolding outcome_of push_outcome push_tested
  behind_tests m ys r free vs =
      tested_is m Old (inl r) _
      ∙ pass _ (ap not (same_unfinished m r.tour Old r.played r.linked t ∙ says_unfinished Old s (mine_spot m ys zs s r)))
      (pass _ (lt-leb 4 q small)
      (pass _ (ap not (ap (λ (x : ℕ). mayPush x q) (rights_same m ys zs s r ∙ rights_are m ys zs s r) ∙ may))
      (pass _ (blocked_same m ys zs s r ∙ free) refl)))
    where
      Old : List Item
      Old = ys ++ spot s ∷ zs

  one_is : (m : List ℕ) (ys : List Item) (r : Represents m (ys ++ spot s ∷ zs)) (free : blocked t (ys ++ spot s ∷ zs) ≡ false) (v : ℕ)
      → outcome_of (push_call t q (v ∷ [])) m ≡ pushed m t q v
  one_is m ys r free v =
      behind_tests m ys r free (v ∷ []) ∙ run_of_one m t q (λ x. ((pushable zs s q small may m ys r free).lengths x).0) v

  all_are : (vs o m : List ℕ) (w : ℕ) (ys : List Item) → Represents m (ys ++ spot s ∷ zs) → blocked t (ys ++ spot s ∷ zs) ≡ false
      → one_by_one o m t q w vs ≡ pushed_all o m t q w vs
  unfolding one_by_one pushed_all
  all_are [] o m w ys r free = refl
  all_are (v ∷ vs) o m w ys r free =
      ap (λ (x : Outcome). when_moved o x (λ y n. one_by_one o n t q y vs)) (one_is m ys r free v)
      ∙ go (either_way zs s q small may m ys r v free) (λ n. all_are vs o n v (ys ++ step (name_of s) (pushes q v) ∷ []))
    where
      same : {a : Answer} {n : List ℕ} → pushed m t q v ≡ outcome a n
          → when_moved o (outcome a n) (λ y l. one_by_one o l t q y vs) ≡ when_moved o (outcome a n) (λ y l. pushed_all o l t q y vs)
          → when_moved o (pushed m t q v) (λ y l. one_by_one o l t q y vs) ≡ when_moved o (pushed m t q v) (λ y l. pushed_all o l t q y vs)
      same is e = subst (λ (x : Outcome). when_moved o x (λ y l. one_by_one o l t q y vs) ≡ when_moved o x (λ y l. pushed_all o l t q y vs)) (sym is) e

      go : Ways zs s q small may m ys v
          → ((n : List ℕ) → Represents n (After zs s q small may ys v) → blocked t (After zs s q small may ys v) ≡ false → one_by_one o n t q v vs ≡ pushed_all o n t q v vs)
          → when_moved o (pushed m t q v) (λ y n. one_by_one o n t q y vs) ≡ when_moved o (pushed m t q v) (λ y n. pushed_all o n t q y vs)
      go (inl c) more = unfold when_moved in same c.1 refl
      go (inr c) more = unfold when_moved in same c.1 (more (words_of (pushed m t q v)) c.2 c.3)

  passed : (m : List ℕ) (ys : List Item) (r : Represents m (ys ++ spot s ∷ zs)) (free : blocked t (ys ++ spot s ∷ zs) ≡ false) (vs : List ℕ)
      → outcome_of (push_call t q vs) m ≡ one_by_one m m t q 0 vs
  passed m ys r free vs = behind_tests m ys r free vs ∙ same_run zs s q small may m ys r free vs ∙ sym (all_are vs m m 0 ys r free)

module _ (m : List ℕ) (xs : List Item) (st : State m xs) (t q v : ℕ) (vs : List ℕ) where
  abbrev Goal : Type 0
  Goal = outcome_of (push_call t q (v ∷ vs)) m ≡ one_by_one m m t q 0 (v ∷ vs)

  -- the same refusal, and the same wait, for every run
  refuses_all : (k : ℕ) → ((ws : List ℕ) → answered (push_call t q ws) m xs ≡ Refused k) → Goal
  unfolding one_by_one when_moved
  refuses_all k f =
      let is : (ws : List ℕ) → outcome_of (push_call t q ws) m ≡ outcome (Refused k) m
      = λ ws. refused_is (push_call t q ws) m k ((call_does (push_call t q ws) m xs st).answer ∙ f ws) in
      is (v ∷ vs) ∙ sym (ap (λ (x : Outcome). when_moved m x (λ y n. one_by_one m n t q y vs)) (is (v ∷ [])))

  waits_all : ((ws : List ℕ) → answered (push_call t q ws) m xs ≡ Waits) → Goal
  unfolding one_by_one when_moved
  waits_all f =
      let is : (ws : List ℕ) → outcome_of (push_call t q ws) m ≡ outcome Waits m
      = λ ws. waits_is (push_call t q ws) m ((call_does (push_call t q ws) m xs st).answer ∙ f ws) in
      is (v ∷ vs) ∙ sym (ap (λ (x : Outcome). when_moved m x (λ y n. one_by_one m n t q y vs)) (is (v ∷ [])))

  unfinished_not : unfinished t xs ≡ false → Goal
  unfolding answered ordered for_task
  unfinished_not e = refuses_all 4 (λ ws. pass _ e refl)

  -- a task that is unfinished, by the tests behind that
  by_tests : Represents m xs → unfinished t xs ≡ true → (a b c : Bool) → leb 4 q ≡ a → mayPush (rights_at t xs) q ≡ b → blocked t xs ≡ c → Goal
  unfolding answered ordered for_task for_queue
  by_tests r e true b c ea eb ec = refuses_all 5 (λ ws. halt _ _ e ∙ halt _ _ ea)
  by_tests r e false false c ea eb ec = refuses_all 6 (λ ws. halt _ _ e ∙ pass _ ea (pass _ eb refl))
  by_tests r e false true true ea eb ec = waits_all (λ ws. halt _ _ e ∙ pass _ ea (halt _ _ eb ∙ halt _ _ ec))
  by_tests r e false true false ea eb ec =
      let w = unfinished_says xs (played_reached r.played) t e in
      let u = in_split (spot w.0) xs w.1 in
      at u.0 u.1 w.0 u.2 w.2 (let l = leb-false 4 q ea in omega (arith, l))
    where
      at : (ys zs : List Item) (s : Task) → xs ≡ ys ++ spot s ∷ zs → number_of s ≡ t → q < 4 → Goal
      at ys zs s is number small =
          let h = subst (Represents m) is r in
          let may : mayPush (rights_of s) q ≡ true
          = ap (λ (x : ℕ). mayPush x q)
          (sym (rights_are m ys zs s h) ∙ ap (λ (l : List Item). rights_at (number_of s) l) (sym is) ∙ ap (λ (n : ℕ). rights_at n xs) number)
          ∙ eb in
          subst (λ (n : ℕ). outcome_of (push_call n q (v ∷ vs)) m ≡ one_by_one m m n q 0 (v ∷ vs)) number
          (passed zs s q small may m ys h (ap (blocked (number_of s)) (sym is) ∙ ap (λ (n : ℕ). blocked n xs) number ∙ ec) (v ∷ vs))

-- THE LAW, for every run of at least one value
pub run_is_calls : (m : List ℕ) (xs : List Item) → State m xs → (t q v : ℕ) (vs : List ℕ)
    → outcome_of (push_call t q (v ∷ vs)) m ≡ one_by_one m m t q 0 (v ∷ vs)
run_is_calls m xs (inr e) t q v vs = unfinished_not m xs (inr e) t q v vs (e.none_left t)
run_is_calls m xs (inl r) t q v vs = go (unfinished t xs) refl
  where
    go : (b : Bool) → unfinished t xs ≡ b → outcome_of (push_call t q (v ∷ vs)) m ≡ one_by_one m m t q 0 (v ∷ vs)
    go true e = by_tests m xs (inl r) t q v vs r e _ _ _ refl refl refl
    go false e = unfinished_not m xs (inl r) t q v vs e

-- the same after an opening and any list of calls
pub runs_are_calls : (w : List ℕ) (l n : ℕ) → answer_of (open_outcome w l n) ≡ Moved 0 → (cs : List Call) (t q v : ℕ) (vs : List ℕ)
    → let m = words_after cs (words_of (open_outcome w l n)) in
    outcome_of (push_call t q (v ∷ vs)) m ≡ one_by_one m m t q 0 (v ∷ vs)
runs_are_calls w l n e cs t q v vs = run_is_calls _ _ (calls_do cs (words_of (open_outcome w l n)) begin (opens w l n e)) t q v vs
