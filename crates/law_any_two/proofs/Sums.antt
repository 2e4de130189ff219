-- SUMS OVER EVENTS do not depend on the order of the tasks: events that agree task by task have one sum. So a run in which all have
-- finished has the sums of the plain machine's run.
use Rattle.std.specs.Prelude.{◌≡◌, refl, ℕ, ◌+◌, length}
use Rattle.std.proofs.Common.{ap, sym, ◌∙◌, subst, ⊎_elim, arith}
use mathlib.Core.List.{List, [], ◌∷◌, ◌++◌, nil≢cons, head-eq_of_cons-eq, tail-eq_of_cons-eq}
use Rattle.spec_words.specs.Words.{size, pass, halt}
use Rattle.spec_lists.specs.Counting.{over, over_append}
use Rattle.spec_layout.specs.Layout.{WORDS}
use Rattle.spec_answers.specs.declared.Answer.TheVariants.{Moved}
use Rattle.spec_order.specs.Steps.{Name}
use Rattle.law_order.specs.Names.{same?, same_yes, same_no}
use Rattle.spec_job.specs.Test.{job_answer}
use Rattle.spec_plain.specs.Machine.{Event}
use Rattle.spec_plain.specs.Run.{stack_of, run, events, answers_of}
use Rattle.spec_plain.proofs.Laws.{answers_join}
use Rattle.spec_runner.specs.Words.{RUNNER}
use Rattle.law_any_order.specs.Statement.{after_calls, fresh, AllFinished}
use Rattle.law_any_order.proofs.AnyOrder.{any_order}
use Rattle.law_any_two.proofs.Determined.{termination}

-- an event is an answer of the task that it names, and of no other
answers_here : (p : Name) (x : Event) (xs : List Event) → x.name ≡ p → answers_of p (x ∷ xs) ≡ x ∷ answers_of p xs
unfolding answers_of
answers_here p x xs e = halt _ _ (same_yes x.name p e)

answers_past : (p : Name) (x : Event) (xs : List Event) → (x.name ≡ p → ⊥) → answers_of p (x ∷ xs) ≡ answers_of p xs
unfolding answers_of
answers_past p x xs n = pass _ (same_no x.name p n) refl

-- where x stands in ys, with no answer of p before it
record First (p : Name) (x : Event) (ys : List Event) : Type 0 where
  pub before : List Event
  pub behind : List Event
  pub here : ys ≡ before ++ x ∷ behind
  pub none : answers_of p before ≡ []

first : (p : Name) (x : Event) (more ys : List Event) → x ∷ more ≡ answers_of p ys → First p x ys
unfolding answers_of
first p x more [] e = absurd (nil≢cons (sym e))
first p x more (y ∷ ys) e =
    let rest = first p x more ys in
    ⊎_elim
    (λ i. record { before = []; behind = ys; here = ap (λ (z : Event). z ∷ ys) (sym (head-eq_of_cons-eq (e ∙ answers_here p y ys i))); none = refl })
    (λ n.
    let w = rest (e ∙ answers_past p y ys n) in
    record {
      before = y ∷ w.before;
      behind = w.behind;
      here = ap (λ (l : List Event). y ∷ l) w.here;
      none = answers_past p y w.before n ∙ w.none;
    })
    (same? y.name p)

-- The first answer of its task is taken out of both.
module _ (x : Event) (xs a b : List Event) (none : answers_of x.name a ≡ [])
    (same : (p : Name) → answers_of p (x ∷ xs) ≡ answers_of p (a ++ x ∷ b)) where
  out_own : answers_of x.name xs ≡ answers_of x.name (a ++ b)
  out_own =
      let p = x.name in
      let front : (l : List Event) → answers_of p (a ++ l) ≡ answers_of p l = λ l. answers_join p a l ∙ ap (λ (k : List Event). k ++ answers_of p l) none in
      tail-eq_of_cons-eq (sym (answers_here p x xs refl) ∙ same p ∙ front (x ∷ b) ∙ answers_here p x b refl) ∙ sym (front b)

  out_other : (p : Name) → (x.name ≡ p → ⊥) → answers_of p xs ≡ answers_of p (a ++ b)
  out_other p n =
      sym (answers_past p x xs n)
      ∙ same p
      ∙ answers_join p a (x ∷ b)
      ∙ ap (λ (k : List Event). answers_of p a ++ k) (answers_past p x b n)
      ∙ sym (answers_join p a b)

  out : (p : Name) → answers_of p xs ≡ answers_of p (a ++ b)
  out p = ⊎_elim (λ e. subst (λ (q : Name). answers_of q xs ≡ answers_of q (a ++ b)) e out_own) (out_other p) (same? x.name p)

over_out : (f : Event → ℕ) (x : Event) (a b : List Event) → over (a ++ x ∷ b) f ≡ f x + over (a ++ b) f
unfolding over
over_out f x a b = let h = over_append f a (x ∷ b) in let k = over_append f a b in omega (arith, h, k)

-- EVENTS THAT AGREE NAME BY NAME have one sum
pub same_sum : (xs ys : List Event) → ((p : Name) → answers_of p xs ≡ answers_of p ys) → (f : Event → ℕ) → over xs f ≡ over ys f
unfolding over answers_of
same_sum [] [] same f = refl
same_sum [] (y ∷ ys) same f = absurd (nil≢cons (same y.name ∙ answers_here y.name y ys refl))
same_sum (x ∷ xs) ys same f =
    let w = first x.name x (answers_of x.name xs) ys (sym (answers_here x.name x xs refl) ∙ same x.name) in
    let moved : (p : Name) → answers_of p (x ∷ xs) ≡ answers_of p (w.before ++ x ∷ w.behind) = λ p. same p ∙ ap (answers_of p) w.here in
    ap (λ (k : ℕ). f x + k) (same_sum xs (w.before ++ w.behind) (out x xs w.before w.behind w.none moved) f)
    ∙ sym (over_out f x w.before w.behind)
    ∙ ap (λ (l : List Event). over l f) (sym w.here)

-- A RUN IN WHICH ALL HAVE FINISHED: the plain machine ends after as many steps, and every sum over its events is that over the run's
pub run_sum : (j : List ℕ) → job_answer j ≡ Moved 0 → (w v : List ℕ) → size w ≡ WORDS → size v ≡ RUNNER → (ts : List ℕ)
    → (let s = after_calls j ts (fresh j w v) in
    let n = length s.events in AllFinished s → (stack_of (run n j) ≡ []) × ((f : Event → ℕ) → over s.events f ≡ over (events n j) f))
run_sum j accept w v sw sv ts f =
    let s = after_calls j ts (fresh j w v) in
    let n = length s.events in
    let end = termination j accept w v sw sv ts f in
    (end, same_sum s.events (events n j) ((any_order j accept n end w v sw sv ts).all f))
