-- A PUSH OF A RUN is its values one after another, each pushed as Push.antt says; the whole run gets 9 where one of them would.
use Rattle.std.proofs.Math.Path.{◌≡◌, refl, ap, subst, fun_ext}
use Rattle.std.proofs.Common.{sym, ◌∙◌, inl, ⊎_elim, arith}
use Rattle.std.specs.Prelude.{Bool, not, ◌⊎◌, ℕ, ◌<◌, leb, eqb}
use Rattle.std.proofs.Math.Bool.{true, false}
use Rattle.std.proofs.lemmas.Bool.{false≢true}
use mathlib.Core.List.{List, [], ◌∷◌, ◌++◌, append_assoc}
use Rattle.std.proofs.Math.Logic.{inr}
use Rattle.spec_words.specs.Words.{pick, pass, halt, both, either, true_left}
use Rattle.spec_lists.specs.Maps.{last_of}
use Rattle.spec_layout.specs.Layout.{rights_of as rights_in}
use Rattle.spec_tree.specs.Rights.{pushes as mayPush}
use Rattle.spec_answers.specs.declared.Answer.{Answer}
use Rattle.spec_answers.specs.declared.Answer.TheVariants.{Moved, Waits, Refused}
use Rattle.spec_answers.specs.Answers.{Outcome, outcome, answer_of, words_of, when_moved}
use Rattle.spec_answers.specs.Calls.{push_call}
use Rattle.spec_outcomes.specs.Waits.{blocked as blockedIn}
use Rattle.spec_outcomes.specs.Segments.{has_none_free}
use Rattle.spec_outcomes.specs.Push.{needs_segment, pushed, pushed_all, pushed_run, push_tested}
use Rattle.spec_order.specs.Steps.{Task, Item, step, spot, task, Act, pushes, tests, name_of, number_of, rights_of, made}
use Rattle.spec_order.specs.Steps.{advance, pushes_all, pushes_run, counted, noted}
use Rattle.spec_order.specs.Waits.{some_spot, some_pair, blocked}
use Rattle.spec_order.specs.Ordered.{rights_at, for_task, for_queue}
use Rattle.law_order.specs.Numbers.{advance_at}
use Rattle.law_order.specs.Reached.{Fresh}
use Rattle.law_order_waits.specs.Spots.{says_unfinished}
use Rattle.law_order_waits.specs.Played.{Asked, plays}
use Rattle.law_links.specs.Waits.{same_unfinished}
use Rattle.law_invariant.specs.Represents.{Represents}
use Rattle.law_invariant.specs.At.{mine_spot, single_spot, task_unfinished}
use Rattle.law_invariant.specs.Test.{test_represents}
use Rattle.law_invariant_rules.specs.RulesHold.{rules_hold_lem}
use Rattle.law_push_runs.specs.Pushable.{Pushable, rules_pushable}
use Rattle.law_push_runs.specs.Statement.{NineFirst, run_is_pushes}
use Rattle.law_in_order.specs.Answered.{segments_run_out}
use Rattle.law_in_order.proofs.Yields.{Yields, refuses, waits, chooses, does_as}
use Rattle.law_in_order.proofs.Refusals.{for_task_lem, for_queue_lem, rights_are, rights_same, blocked_same}
use Rattle.law_in_order.proofs.Push.{pushes_well}

-- a step leaves the spots, so it leaves the waits
spots_kept : (f : Task → Bool) (ys zs : List Item) (p : List ℕ) (a : Act) → some_spot f (ys ++ step p a ∷ zs) ≡ some_spot f (ys ++ zs)
unfolding some_spot
spots_kept f [] zs p a = refl
spots_kept f (step r b ∷ ys) zs p a = spots_kept f ys zs p a
spots_kept f (spot s ∷ ys) zs p a = ap (either (f s)) (spots_kept f ys zs p a)

pub still_free : (t : ℕ) (ys zs : List Item) (p : List ℕ) (a : Act) → blocked t (ys ++ step p a ∷ zs) ≡ blocked t (ys ++ zs)
unfolding blocked some_pair
still_free t ys zs p a =
    spots_kept _ ys zs p a ∙ ap (λ (f : Task → Bool). some_spot f (ys ++ zs)) (fun_ext (λ s. ap (both (eqb (number_of s) t)) (spots_kept _ ys zs p a)))

-- where the task stands that pushes: its step stands before its spot
pub stepped : (m : List ℕ) (ys zs : List Item) (s : Task) (r : Represents m (ys ++ spot s ∷ zs)) (q v : ℕ)
    → advance (number_of s) (pushes q v) (ys ++ spot s ∷ zs) ≡ (ys ++ step (name_of s) (pushes q v) ∷ []) ++ spot s ∷ zs
stepped m ys zs s r q v =
    advance_at ys zs s (pushes q v) (single_spot m ys zs s r)
    ∙ ap (λ (l : List Item). ys ++ l) (go s)
    ∙ sym (append_assoc ys (step (name_of s) (pushes q v) ∷ []) (spot s ∷ zs))
  where
    go : (s : Task) → made s (pushes q v) ++ zs ≡ step (name_of s) (pushes q v) ∷ spot s ∷ zs
    go (task p t u k) = unfold made name_of in refl

-- an outcome by its answer
pub by_answer : (o : Outcome) {a : Answer} → answer_of o ≡ a → o ≡ outcome a (words_of o)
unfolding answer_of words_of
by_answer (outcome b n) e = ap (λ (x : Answer). outcome x n) e

module _ (zs : List Item) (s : Task) (q : ℕ) (small : q < 4) (may : mayPush (rights_of s) q ≡ true) where
  abbrev t : ℕ
  t = number_of s

  -- ONE VALUE: it needs a segment that is not there, or it moves
  pub one_value : (m : List ℕ) (ys : List Item) (r : Represents m (ys ++ spot s ∷ zs)) (v : ℕ) → blocked t (ys ++ spot s ∷ zs) ≡ false
      → Yields Represents (ys ++ spot s ∷ zs) (push_call t q (v ∷ [])) (pushed m t q v)
      (pick (both (needs_segment m t q) (has_none_free m q)) (Refused 9) (Moved v))
  one_value m ys r v free = pushes_well Represents (λ n xs h. h) m ys zs s r q v small may free

  -- the same as two ways: refused, or the value is stored, the step stands before the spot, and the task is still free
  abbrev pub After : List Item → ℕ → List Item
  After ys v = (ys ++ step (name_of s) (pushes q v) ∷ []) ++ spot s ∷ zs

  abbrev pub Ways : List ℕ → List Item → ℕ → Type 0
  Ways m ys v =
      ((both (needs_segment m t q) (has_none_free m q) ≡ true) × (pushed m t q v ≡ outcome (Refused 9) (words_of (pushed m t q v))))
      ⊎ ((both (needs_segment m t q) (has_none_free m q) ≡ false) × (pushed m t q v ≡ outcome (Moved v) (words_of (pushed m t q v)))
      × (Represents (words_of (pushed m t q v)) (After ys v)) × (blocked t (After ys v) ≡ false))

  pub either_way : (m : List ℕ) (ys : List Item) (r : Represents m (ys ++ spot s ∷ zs)) (v : ℕ) → blocked t (ys ++ spot s ∷ zs) ≡ false → Ways m ys v
  either_way m ys r v free = go (both (needs_segment m t q) (has_none_free m q)) refl (one_value m ys r v free)
    where
      go : (b : Bool) → both (needs_segment m t q) (has_none_free m q) ≡ b
          → Yields Represents (ys ++ spot s ∷ zs) (push_call t q (v ∷ [])) (pushed m t q v)
          (pick (both (needs_segment m t q) (has_none_free m q)) (Refused 9) (Moved v))
          → Ways m ys v
      go true e d = inl (e, by_answer (pushed m t q v) (d.answer ∙ halt _ _ e))
      go false e d = unfold noted counted pushes_run pushes_all in
          let a = pass (Refused 9) e refl in
          let n = words_of (pushed m t q v) in
          let h = subst (λ (x : Answer). Represents n (noted (push_call t q (v ∷ [])) x (ys ++ spot s ∷ zs))) a d.holds in
          inr (
            e,
            by_answer (pushed m t q v) (d.answer ∙ a),
            subst (Represents n) (stepped m ys zs s r q v) h,
            ap (blocked t) (append_assoc ys (step (name_of s) (pushes q v) ∷ []) (spot s ∷ zs)) ∙ still_free t ys (spot s ∷ zs) (name_of s) (pushes q v) ∙ free,
          )

  -- A RUN from the words m on; o are those that the run found
  pub record Runs (o m : List ℕ) (w : ℕ) (vs : List ℕ) (xs : List Item) : Type 0 where
    pub out : segments_run_out m t q vs ≡ true → pushed_all o m t q w vs ≡ outcome (Refused 9) o
    pub done : segments_run_out m t q vs ≡ false
        → (n : List ℕ) × (pushed_all o m t q w vs ≡ outcome (Moved (last_of w vs)) n) × Represents n (pushes_all t q vs xs)

  pub runs : (vs o m : List ℕ) (w : ℕ) (ys : List Item) → Represents m (ys ++ spot s ∷ zs) → blocked t (ys ++ spot s ∷ zs) ≡ false
      → Runs o m w vs (ys ++ spot s ∷ zs)
  unfolding pushed_all segments_run_out pushes_all
  runs [] o m w ys r free = record { out = λ e. absurd (false≢true e); done = λ e. (m, refl, r) }
  runs (v ∷ vs) o m w ys r free = go (either_way m ys r v free) (λ n. runs vs o n v (ys ++ step (name_of s) (pushes q v) ∷ []))
    where
      go : Ways m ys v → ((n : List ℕ) → Represents n (After ys v) → blocked t (After ys v) ≡ false → Runs o n v vs (After ys v))
          → Runs o m w (v ∷ vs) (ys ++ spot s ∷ zs)
      go (inl c) more = unfold when_moved in
          record {
            out = λ f. ap (λ (x : Outcome). when_moved o x (λ y n. pushed_all o n t q y vs)) c.1;
            done = λ f. absurd (false≢true (sym f ∙ true_left _ c.0));
          }
      go (inr c) more = unfold when_moved either in
          let h = more (words_of (pushed m t q v)) c.2 c.3 in
          let on = ap (λ (x : Outcome). when_moved o x (λ y l. pushed_all o l t q y vs)) c.1 in
          record {
            out = λ f. on ∙ h.out (sym (pass true c.0 refl) ∙ f);
            done = λ f.
                let k = h.done (sym (pass true c.0 refl) ∙ f) in
                (k.0, on ∙ k.1, subst (λ (l : List Item). Represents k.0 (pushes_all t q vs l)) (sym (stepped m ys zs s r q v)) k.2);
          }

  -- THE RUN is the single pushes: the first of them gets no 2
  module _ (m : List ℕ) (ys : List Item) (r : Represents m (ys ++ spot s ∷ zs)) (free : blocked t (ys ++ spot s ∷ zs) ≡ false) where
    abbrev Old : List Item
    Old = ys ++ spot s ∷ zs

    pub pushable : Pushable m t q
    pushable =
        rules_pushable m t q r.linked.sized (rules_hold_lem m Old r)
        (same_unfinished m r.tour Old r.played r.linked t ∙ says_unfinished Old s (mine_spot m ys zs s r)) small

    never_two : (v : ℕ) → pushed m t q v ≡ outcome (Refused 2) m → ⊥
    unfolding answer_of
    never_two v e = go (both (needs_segment m t q) (has_none_free m q)) (sym (ap answer_of e) ∙ (one_value m ys r v free).answer)
      where
        go : (b : Bool) → Refused 2 ≡ pick b (Refused 9) (Moved v) → ⊥
        go true d = unfold pick in let z : ◌≡◌ {A = ℕ} 2 9 = cc in omega (arith, z)
        go false d = unfold pick in let z : ◌≡◌ {A = ℕ} 0 1 = cc in omega (arith, z)

    pub same_run : (vs : List ℕ) → pushed_run m t q vs ≡ pushed_all m m t q 0 vs
    same_run vs = ⊎_elim (λ e. e) (go vs) (run_is_pushes t q (task_unfinished m ys zs s r).0 small m pushable vs)
      where
        go : (vs : List ℕ) → NineFirst m t q vs → pushed_run m t q vs ≡ pushed_all m m t q 0 vs
        go [] e = absurd e
        go (v ∷ vs) e = absurd (never_two v e.0)

    module _ (P : List ℕ → List Item → Type 0) (holds_of : (m : List ℕ) (xs : List Item) → Represents m xs → P m xs) where
      abbrev Answers : List ℕ → Answer
      Answers vs = pick (segments_run_out m t q vs) (Refused 9) (Moved (last_of 0 vs))

      run_none : Yields P Old (push_call t q []) (pushed_all m m t q 0 []) (Answers [])
      unfolding pushed_all segments_run_out pick answer_of words_of noted counted pushes_run Fresh Asked
      run_none =
          record {
            answer = refl;
            holds = holds_of m _ (test_represents m ys zs s r q
                (plays t (tests q) r.played (says_unfinished Old s (mine_spot m ys zs s r)) tt free tt));
          }

      run_some : (v : ℕ) (vs : List ℕ) → Yields P Old (push_call t q (v ∷ vs)) (pushed_all m m t q 0 (v ∷ vs)) (Answers (v ∷ vs))
      run_some v vs = go (segments_run_out m t q (v ∷ vs)) refl (runs (v ∷ vs) m m 0 ys r free)
        where
          go : (b : Bool) → segments_run_out m t q (v ∷ vs) ≡ b → Runs m m 0 (v ∷ vs) Old
              → Yields P Old (push_call t q (v ∷ vs)) (pushed_all m m t q 0 (v ∷ vs)) (Answers (v ∷ vs))
          go true e d = does_as P _ _ _ _ (d.out e) (halt _ _ e) (refuses P m Old (push_call t q (v ∷ vs)) 9 (holds_of m Old r))
          go false e d = unfold answer_of words_of noted counted pushes_run in
              let k = d.done e in
              does_as P _ _ _ _ k.1 (pass (Refused 9) e refl) (record { answer = refl; holds = holds_of k.0 _ k.2 })

      pub runs_well : (vs : List ℕ) → Yields P Old (push_call t q vs) (pushed_run m t q vs) (Answers vs)
      runs_well [] = does_as P _ _ _ _ (same_run []) refl run_none
      runs_well (v ∷ vs) = does_as P _ _ _ _ (same_run (v ∷ vs)) refl (run_some v vs)

module _ (P : List ℕ → List Item → Type 0) (holds_of : (m : List ℕ) (xs : List Item) → Represents m xs → P m xs) where
  pub push_does : (m : List ℕ) (xs : List Item) (t q : ℕ) (vs : List ℕ) → Represents m xs
      → Yields P xs (push_call t q vs) (push_tested m t q vs)
      (for_task t xs (for_queue q (mayPush (rights_at t xs) q)
      (pick (blocked t xs) Waits (pick (segments_run_out m t q vs) (Refused 9) (Moved (last_of 0 vs))))))
  unfolding push_tested
  push_does m xs t q vs =
      for_task_lem P holds_of (λ t. push_call t q vs)
      (λ t. pick (leb 4 q) (outcome (Refused 5) m)
      (pick (not (mayPush (rights_in m t) q)) (outcome (Refused 6) m) (pick (blockedIn m t) (outcome Waits m) (pushed_run m t q vs))))
      (λ t xs. for_queue q (mayPush (rights_at t xs) q) (pick (blocked t xs) Waits (pick (segments_run_out m t q vs) (Refused 9) (Moved (last_of 0 vs))))) m
      (λ ys zs s r.
      for_queue_lem P holds_of m q (mayPush (rights_in m (number_of s)) q) (mayPush (rights_at (number_of s) (ys ++ spot s ∷ zs)) q)
      (ap (λ (x : ℕ). mayPush x q) (rights_same m ys zs s r)) (holds_of m (ys ++ spot s ∷ zs) r) (λ small may.
      chooses P (blockedIn m (number_of s)) (blocked (number_of s) (ys ++ spot s ∷ zs)) (blocked_same m ys zs s r)
      (λ b. waits P m (ys ++ spot s ∷ zs) (push_call (number_of s) q vs) (holds_of m (ys ++ spot s ∷ zs) r))
      (λ b. runs_well zs s q small (ap (λ (x : ℕ). mayPush x q) (sym (rights_are m ys zs s r)) ∙ may) m ys r b P holds_of vs)))
      xs t
