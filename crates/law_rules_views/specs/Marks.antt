-- The test of order goes through the marks of the tour: it is broken where the ends of a view are no pair, and where all
-- are pairs its state is that of the views passed.
use Rattle.std.specs.Prelude.{◌≡◌, Bool, true, false, ◌⊎◌, ℕ, ◌+◌, ◌-◌, ◌*◌, ◌<◌, ltb}
use Rattle.std.proofs.Math.Path.{refl, ap}
use Rattle.std.proofs.Common.{sym, ◌∙◌, inl, inr, arith}
use mathlib.Core.List.{List, [], ◌∷◌}
use Rattle.std.proofs.Math.Logic.{⊎_elim}
use Rattle.spec_words.specs.Words.{pass, halt}
use Rattle.spec_lists.specs.Counting.{occurrences, equal?, occurs_nil, occurs_cons, occurs_here, occurs_past}
use Rattle.spec_layout.specs.Layout.{HEADS, TAILS, CHILDREN, USER, RIGHT}
use Rattle.spec_tree.specs.Rights.{uses}
use Rattle.spec_rules.specs.Contents.{Contents, word, task_rights}
use Rattle.spec_rules.specs.Views.{View, view_at, more, views_at, views_of}
use Rattle.spec_rules.specs.Test.{passed_at, order_at, order_of}
use Rattle.law_rules_views.specs.Order.{Pair, passed_pair, passed_broken, state, passed_state}

pub yes_no : (b : Bool) → (b ≡ true) ⊎ (b ≡ false)
yes_no true = inl refl
yes_no false = inr refl

module _ (c : Contents) (q : ℕ) where
  -- the two ends of view k of task t
  abbrev pub PairAt : ℕ → ℕ → Type 0
  PairAt t k = Pair (word c t (HEADS + k * 4 + q)) (word c t (TAILS + k * 4 + q))

  passed_at_broken : (t k : ℕ) → passed_at c q t k 2 ≡ 2
  unfolding passed_at
  passed_at_broken t k = passed_broken (word c t (HEADS + k * 4 + q)) (word c t (TAILS + k * 4 + q))

  passed_at_pair : (t k o : ℕ) → (passed_at c q t k o ≡ 2 → ⊥) → PairAt t k
  unfolding passed_at
  passed_at_pair t k o f = passed_pair (word c t (HEADS + k * 4 + q)) (word c t (TAILS + k * 4 + q)) o f

  passed_at_state : (t k : ℕ) (vs : List View) → PairAt t k → passed_at c q t k (state vs) ≡ state (more (view_at c q t k) vs)
  unfolding passed_at view_at
  passed_at_state t k vs w = passed_state (word c t (HEADS + k * 4 + q)) (word c t (TAILS + k * 4 + q)) vs w

  -- the views at mark x have pairs of ends
  pub record Fine (x : ℕ) : Type 0 where
    pub entered : ltb x 128 ≡ true → uses (task_rights c x) q ≡ true → PairAt x USER × PairAt x RIGHT
    pub exited : ltb x 128 ≡ false → uses (task_rights c (x - 128)) q ≡ true → PairAt (x - 128) CHILDREN

  module _ (x : ℕ) where
    pub at_entered : (o : ℕ) → ltb x 128 ≡ true → uses (task_rights c x) q ≡ true → order_at c q x o ≡ passed_at c q x USER (passed_at c q x RIGHT o)
    unfolding order_at
    at_entered o a b = halt _ _ a ∙ halt _ _ b

    pub at_entered_none : (o : ℕ) → ltb x 128 ≡ true → uses (task_rights c x) q ≡ false → order_at c q x o ≡ o
    unfolding order_at
    at_entered_none o a b = halt _ _ a ∙ pass _ b refl

    pub at_exited : (o : ℕ) → ltb x 128 ≡ false → uses (task_rights c (x - 128)) q ≡ true → order_at c q x o ≡ passed_at c q (x - 128) CHILDREN o
    unfolding order_at
    at_exited o a b = pass _ a (halt _ _ b)

    pub at_exited_none : (o : ℕ) → ltb x 128 ≡ false → uses (task_rights c (x - 128)) q ≡ false → order_at c q x o ≡ o
    unfolding order_at
    at_exited_none o a b = pass _ a (pass _ b refl)

    order_at_broken : order_at c q x 2 ≡ 2
    order_at_broken =
        ⊎_elim
        (λ a.
        ⊎_elim
        (λ b. at_entered 2 a b ∙ ap (passed_at c q x USER) (passed_at_broken x RIGHT) ∙ passed_at_broken x USER)
        (λ b. at_entered_none 2 a b)
        (yes_no (uses (task_rights c x) q)))
        (λ a.
        ⊎_elim
        (λ b. at_exited 2 a b ∙ passed_at_broken (x - 128) CHILDREN)
        (λ b. at_exited_none 2 a b)
        (yes_no (uses (task_rights c (x - 128)) q)))
        (yes_no (ltb x 128))

    order_at_fine : (o : ℕ) → (order_at c q x o ≡ 2 → ⊥) → Fine x
    order_at_fine o f =
        record {
          entered = λ a b. (
            passed_at_pair x USER (passed_at c q x RIGHT o) (λ e. f (at_entered o a b ∙ e)),
            passed_at_pair x RIGHT o (λ e. f (at_entered o a b ∙ ap (passed_at c q x USER) e ∙ passed_at_broken x USER)),
          );
          exited = λ a b. passed_at_pair (x - 128) CHILDREN o (λ e. f (at_exited o a b ∙ e));
        }

    order_at_state : (vs : List View) → Fine x → order_at c q x (state vs) ≡ state (views_at c q x vs)
    unfolding views_at
    order_at_state vs w =
        ⊎_elim
        (λ a.
        ⊎_elim
        (λ b.
        at_entered (state vs) a b
        ∙ ap (passed_at c q x USER) (passed_at_state x RIGHT vs (w.entered a b).1)
        ∙ passed_at_state x USER (more (view_at c q x RIGHT) vs) (w.entered a b).0
        ∙ ap state (sym (halt _ _ a ∙ halt _ _ b)))
        (λ b. at_entered_none (state vs) a b ∙ ap state (sym (halt _ _ a ∙ pass _ b refl)))
        (yes_no (uses (task_rights c x) q)))
        (λ a.
        ⊎_elim
        (λ b. at_exited (state vs) a b ∙ passed_at_state (x - 128) CHILDREN vs (w.exited a b) ∙ ap state (sym (pass _ a (halt _ _ b))))
        (λ b. at_exited_none (state vs) a b ∙ ap state (sym (pass _ a (pass _ b refl))))
        (yes_no (uses (task_rights c (x - 128)) q)))
        (yes_no (ltb x 128))

  order_broken : (xs : List ℕ) → order_of c q xs 2 ≡ 2
  unfolding order_of
  order_broken [] = refl
  order_broken (x ∷ xs) = ap (order_of c q xs) (order_at_broken x) ∙ order_broken xs

  -- where the test is not broken all marks are fine
  pub order_fine : (xs : List ℕ) (o : ℕ) → (order_of c q xs o ≡ 2 → ⊥) → (x : ℕ) → 0 < occurrences x xs → Fine x
  unfolding order_of
  order_fine [] o f x p = let a = occurs_nil x in let z : ⊥ = omega (arith, a, p) in absurd z
  order_fine (y ∷ xs) o f x p =
      ⊎_elim
      (λ e. rw e at (order_at_fine y o (λ b. f (ap (order_of c q xs) b ∙ order_broken xs))))
      (λ n. order_fine xs (order_at c q y o) f x (let a = occurs_past y x xs n in omega (arith, a, p)))
      (equal? y x)

  pub order_state : (xs : List ℕ) (vs : List View) → ((x : ℕ) → 0 < occurrences x xs → Fine x) → order_of c q xs (state vs) ≡ state (views_of c q xs vs)
  unfolding order_of views_of
  order_state [] vs f = refl
  order_state (x ∷ xs) vs f =
      ap (order_of c q xs) (order_at_state x vs (f x (let a = occurs_here x x xs refl in omega (arith, a))))
      ∙ order_state xs (views_at c q x vs) (λ y p. f y (let a = occurs_cons x y xs in omega (arith, a, p)))
