-- What finish decides of a queue, in the order in which the code decides it.
use Rattle.std.specs.Prelude.{◌≡◌, Bool, List, ℕ, eqb}
use Rattle.std.proofs.Math.Path.{refl, ap, sym}
use Rattle.std.proofs.Common.{◌∙◌, arith, ne_eqb, eqb-true, ltb-true}
use Rattle.std.proofs.Math.Bool.{true, false}
use Rattle.std.proofs.Math.Dec.{ltb}
use Rattle.spec_words.specs.Words.{pick, both, either, pass, halt, both_true, both_off}
use Rattle.spec_layout.specs.Layout.{NONE, NL, CHILDREN, USER, RIGHT}
use Rattle.spec_rules.specs.Views.{View, view}
use Rattle.spec_outcomes.specs.Views.{view_of, is_empty, head_of, tail_of, reducible, frees, behind, reduced, merged, task_at, kind_at, returned_to}
use Rattle.spec_outcomes.specs.Finish.{returned, finishes}

-- the view that stands where v goes
unfoldable pub target : List ℕ → ℕ → ℕ → View → View
target m t q v = let x = returned_to m q t v in view_of m q (task_at x) (kind_at x)

-- v can be reduced into it
unfoldable pub fits : List ℕ → ℕ → ℕ → View → Bool
fits m t q v = either (is_empty v) (reducible (target m t q v) v)

-- what is left to decide once children view c and user view u can be reduced
unfoldable pub right_fits : List ℕ → ℕ → ℕ → View → View → Bool
right_fits m t q c u =
    let a = reduced m c u in
    let r = behind m c u (view_of m q t RIGHT) in
    both (reducible a r) (fits m t q (reduced m a r))

-- task t has nothing to return for queue q
unfoldable pub no_views : List ℕ → ℕ → ℕ → Bool
no_views m t q = both (is_empty (view_of m q t USER)) (both (is_empty (view_of m q t CHILDREN)) (is_empty (view_of m q t RIGHT)))

-- the children view of t, after its reduction with the others, goes to one of two marks by its head
unfoldable pub view_returned : List ℕ → ℕ → ℕ → ℕ → ℕ → List ℕ
view_returned m t q nonlocal local =
    let v = view_of m q t CHILDREN in
    let x = pick (eqb (head_of v) NL) nonlocal local in
    pick (is_empty v) m (merged m q (task_at x) (kind_at x) t CHILDREN)

local_full : (h e : ℕ) → ltb h NL ≡ true → is_empty (view h e) ≡ false
unfolding is_empty
local_full h e l = both_off _ (ne_eqb h NONE (λ z. let a = ltb-true h NL l in omega (arith, a, z)))

-- what is freed before a view changes neither that it is empty or not, nor its tail
module _ (m : List ℕ) (a b : View) where
  pub behind_empty : (w : View) → is_empty (behind m a b w) ≡ is_empty w
  unfolding behind frees head_of tail_of
  behind_empty (view h e) = go (both (frees m a b) (eqb h (tail_of a))) refl
    where
      go : (x : Bool) → both (frees m a b) (eqb h (tail_of a)) ≡ x → is_empty (pick x (view (head_of b) e) (view h e)) ≡ is_empty (view h e)
      go true f =
          let g = both_true _ _ f in
          let l = both_true _ _ (both_true _ _ (both_true _ _ g.0).1).0 in
          ap is_empty (halt _ _ refl) ∙ local_full _ _ l.1 ∙ sym (local_full _ _ (ap (λ (y : ℕ). ltb y NL) (eqb-true h (tail_of a) g.1) ∙ l.0))
      go false f = ap is_empty (pass _ refl refl)

  behind_tail : (w : View) → tail_of (behind m a b w) ≡ tail_of w
  unfolding behind tail_of head_of
  behind_tail (view h e) = go (both (frees m a b) (eqb h (tail_of a)))
    where
      go : (x : Bool) → tail_of (pick x (view (head_of b) e) (view h e)) ≡ e
      go true = ap tail_of (halt _ _ refl)
      go false = ap tail_of (pass _ refl refl)

  -- so it can be reduced with v or not as it stands
  behind_reducible : (w v : View) → reducible (behind m a b w) v ≡ reducible w v
  unfolding reducible
  behind_reducible w v = rw (behind_empty w, behind_tail w) refl

module _ (m : List ℕ) (t q : ℕ) where
  abbrev C : View
  C = view_of m q t CHILDREN

  abbrev U : View
  U = view_of m q t USER

  pub finishes_parts : both (reducible C U) (right_fits m t q C U) ≡ finishes m t q
  unfolding finishes right_fits fits target returned
  finishes_parts =
      ap (λ (x : Bool). both (reducible C U) (both (reducible a r) (either (is_empty (reduced m a r)) x)))
      (sym (behind_reducible m a r (behind m C U y) v ∙ behind_reducible m C U y v))
    where
      a : View
      a = reduced m C U

      r : View
      r = behind m C U (view_of m q t RIGHT)

      v : View
      v = reduced m a r

      y : View
      y = target m t q v
