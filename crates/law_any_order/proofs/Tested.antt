-- The tests that every call of the runner makes first pass in every state that it reaches.
use Rattle.std.specs.Prelude.{◌≡◌, Bool, ℕ, ◌<◌}
use Rattle.std.proofs.Math.Path.{refl, ap, sym, subst}
use Rattle.std.proofs.Common.{◌∙◌, eq-eqb, lt-ltb}
use Rattle.std.proofs.Math.Bool.{true, false, not}
use Rattle.std.proofs.lemmas.Bool.{false≢true}
use mathlib.Core.List.{List, [], ◌∷◌, ◌++◌}
use Rattle.spec_words.specs.Words.{pass, halt, true_both}
use Rattle.spec_lists.specs.Tests.{says_upto}
use Rattle.spec_lists.specs.Maps.{All, all_behind}
use Rattle.spec_layout.specs.Layout.{rights_of as rights_in}
use Rattle.spec_answers.specs.declared.Answer.TheVariants.{Moved}
use Rattle.spec_outcomes.specs.Waits.{unfinished as unfinished_in}
use Rattle.spec_order.specs.Steps.{Item as Mark, number_of, rights_of as rights_with}
use Rattle.spec_order.specs.Waits.{unfinished}
use Rattle.law_invariant.specs.Represents.{Represents}
use Rattle.law_in_order.proofs.State.{State, state_rules, state_size}
use Rattle.law_in_order.proofs.Refusals.{rights_same, rights_are}
use Rattle.spec_job.specs.Fields.{procedures, count, rights}
use Rattle.spec_job.specs.Test.{job_answer}
use Rattle.spec_plain.specs.Stack.{Stands, rights_of}
use Rattle.spec_line.specs.Line.{Item, value, spot, finished, gave}
use Rattle.law_job_order.specs.Beside.{Numbered, standing, task_of, Beside}
use Rattle.law_job_order.specs.Points.{standing_append}
use Rattle.law_job_order.specs.Located.{located, stands_unfinished, unfinished_stands}
use Rattle.spec_runner.specs.Words.{position_of}
use Rattle.spec_runner.specs.Answers.{Outcome}
use Rattle.spec_runner.specs.Rules.{task_holds, zeros, record_holds, runner_holds, tested}
use Rattle.spec_runner.proofs.Laws.{job_passes}
use Rattle.law_any_order.proofs.States.{state_unfinished, still}
use Rattle.law_any_order.proofs.Written.{Holds, Other, Written}

-- the parts of a line at a task
pub stands_at : (P : Numbered → Type 0) (a b : List (Item Numbered)) (n : Numbered) → All P (standing (a ++ spot n ∷ b)) → All P (standing a ++ n ∷ standing b)
unfolding standing
stands_at P a b n h = subst (All P) (standing_append a (spot n ∷ b)) h

-- a number that no spot of a line has
other_numbers : (t : ℕ) (l : List (Item Numbered)) → ((a b : List (Item Numbered)) (n : Numbered) → l ≡ a ++ spot n ∷ b → n.number ≡ t → ⊥)
    → All (Other t) (standing l)
unfolding standing
other_numbers t [] g = tt
other_numbers t (x ∷ l) g = go x g (other_numbers t l (λ a b n e. g (x ∷ a) b n (ap (λ (k : List (Item Numbered)). x ∷ k) e)))
  where
    go : (x : Item Numbered) → ((a b : List (Item Numbered)) (n : Numbered) → x ∷ l ≡ a ++ spot n ∷ b → n.number ≡ t → ⊥) → All (Other t) (standing l)
        → All (Other t) (standing (x ∷ l))
    go (value q v) g rest = rest
    go (finished n) g rest = rest
    go (gave q) g rest = rest
    go (spot n) g rest = (g [] l n refl, rest)

-- where task number t is not unfinished, nobody on the line has its number
pub nobody : (j : List ℕ) (xs : List Mark) (l : List (Item Numbered)) (t : ℕ) → Beside j xs l → unfinished t xs ≡ false → All (Other t) (standing l)
nobody j xs l t h f =
    other_numbers t l (λ a b n d g. false≢true (sym f ∙ subst (λ (k : ℕ). unfinished k xs ≡ true) g (stands_unfinished j a b n (subst (Beside j xs) d h))))

-- A task that stands on the line, in a core that represents the steps: the core's rights are those of its procedure.
pub rights_held : (j m : List ℕ) (xs : List Mark) (a b : List (Item Numbered)) (n : Numbered) → Represents m xs → Beside j xs (a ++ spot n ∷ b)
    → rights_in m n.number ≡ rights_of j n.runner.task
unfolding task_of number_of rights_with
rights_held j m xs a b n p h =
    let w = located j a b n h in
    let r = subst (Represents m) w.here p in
    rights_same m w.before w.behind (task_of j n) r ∙ rights_are m w.before w.behind (task_of j n) r

module _ (j m r : List ℕ) (xs : List Mark) (l : List (Item Numbered)) (st : State m xs) (h : Beside j xs l) (w : Written r (standing l))
    (stood : All (λ n. Stands j n.runner.task) (standing l)) where
  -- an unfinished task
  task_holds_lem : (a b : List (Item Numbered)) (n : Numbered) → l ≡ a ++ spot n ∷ b → Represents m xs → task_holds j m r n.number ≡ true
  unfolding task_holds rights_of
  task_holds_lem a b n e p =
      let held = (all_behind (Holds r) (standing a) (n ∷ standing b)
      (stands_at (Holds r) a b n (subst (λ (k : List (Item Numbered)). All (Holds r) (standing k)) e w.held))).0.words in
      let stands = (all_behind (λ n. Stands j n.runner.task) (standing a) (n ∷ standing b)
      (stands_at (λ n. Stands j n.runner.task) a b n
      (subst (λ (k : List (Item Numbered)). All (λ n. Stands j n.runner.task) (standing k)) e stood))).0 in
      let same = rights_held j m xs a b n p (subst (Beside j xs) e h) in
      let one = held.procedure in
      let two = held.position in
      let x = stands.procedure in
      let y = stands.position in
      true_both (lt-ltb _ _ (subst (λ (k : ℕ). k < procedures j) (sym one) x))
      (true_both
      (lt-ltb _ _ (subst (λ (k : ℕ). position_of r n.number < count j k) (sym one)
      (subst (λ (k : ℕ). k < count j n.runner.task.procedure) (sym two) y)))
      (eq-eqb _ _ (same ∙ ap (rights j) (sym one))))

  record_holds_lem : (t : ℕ) → record_holds j m r t ≡ true
  unfolding record_holds zeros
  record_holds_lem t = go (unfinished_in m t) refl
    where
      go : (b : Bool) → unfinished_in m t ≡ b → record_holds j m r t ≡ true
      go true e =
          let u = sym (state_unfinished m xs st t) ∙ e in
          let o = unfinished_stands j h t u in
          halt _ _ e ∙ subst (λ (k : ℕ). task_holds j m r k ≡ true) o.number (task_holds_lem o.before o.behind o.who o.here (still m xs st t u))
      go false e =
          let f = sym (state_unfinished m xs st t) ∙ e in
          let z = w.free t (nobody j xs l t h f) in
          pass _ e (true_both (eq-eqb _ _ z.procedure) (true_both (eq-eqb _ _ z.position) (eq-eqb _ _ z.register)))

  -- ALL TESTS PASS
  pub tests_pass : job_answer j ≡ Moved 0 → (o : Outcome) → tested j m r o ≡ o
  unfolding tested runner_holds
  tests_pass e o =
      job_passes j m r e (state_size m xs st) w.sized _
      ∙ pass _ (ap not (true_both (state_rules m xs st) (says_upto (record_holds j m r) 128 0 (λ t a b. record_holds_lem t)))) refl
