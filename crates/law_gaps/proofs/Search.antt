-- A SEARCH OF THE TOUR FINDS THE PLACE: the walks back of a push and of a finish end at the first mark with a certain test.
use Rattle.std.specs.Prelude.{◌≡◌, Bool, true, List, [], ◌∷◌, ◌++◌, ℕ, ◌+◌, ◌-◌, ◌<◌, ltb, eqb}
use Rattle.std.proofs.Math.Path.{refl, ap, sym, subst}
use Rattle.std.proofs.Common.{◌∙◌, ⊎_elim, arith, eq-eqb, ne_eqb, lt-ltb, le-ltb}
use Rattle.std.proofs.Math.Bool.{false}
use Rattle.std.proofs.lemmas.Bool.{false≢true}
use Rattle.spec_words.specs.Words.{pick, halt, both, either, both_on, both_off, true_both, true_left, true_right}
use Rattle.spec_lists.specs.Counting.{equal?}
use Rattle.spec_tree.specs.Tour.{END}
use Rattle.spec_lists.specs.Maps.{All}
use Rattle.law_gaps.specs.Line.{Extent, vacant, extent, base, exited, entered, pass, Line, marks, entries, Fits, Mode, Views, queue, exiting, entering, passing}
use Rattle.law_gaps.specs.Moves.{Place, children_of, right_of}
use Rattle.law_gaps.specs.Places.{Latest, Target}

-- the first mark of a list that f holds of; END where there is none
unfoldable pub first_of : (ℕ → Bool) → List ℕ → ℕ
first_of f [] = END
first_of f (x ∷ l) = let rest = first_of f l in pick (f x) x rest

-- the task of a mark, and the place there
unfoldable pub task_at : ℕ → ℕ
task_at x = pick (ltb x 128) x (x - 128)

unfoldable pub place_at : ℕ → Place
place_at x = pick (ltb x 128) (right_of x) (children_of (x - 128))

unfoldable pub occupied : Extent → Bool
occupied vacant = false
occupied (extent h x) = true

-- the task of mark x has a right to the queue
unfoldable pub has_part : (ℕ → Bool) → ℕ → Bool
has_part uses x = uses (task_at x)

-- and a right view, the top's children view, or a children view that is not vacant stands there
unfoldable pub stands_at : (ℕ → Bool) → (ℕ → Extent) → ℕ → Bool
stands_at uses children x = both (has_part uses x) (either (ltb x 128) (either (eqb (x - 128) 0) (occupied (children (x - 128)))))

-- the children view matters only where a task is exited
pub same_views : (x : ℕ) (v w : Extent) → (ltb x 128 ≡ false → v ≡ w)
    → either (ltb x 128) (either (eqb (x - 128) 0) (occupied v)) ≡ either (ltb x 128) (either (eqb (x - 128) 0) (occupied w))
same_views x v w f = go (ltb x 128) refl
  where
    go : (b : Bool) → ltb x 128 ≡ b
        → either (ltb x 128) (either (eqb (x - 128) 0) (occupied v)) ≡ either (ltb x 128) (either (eqb (x - 128) 0) (occupied w))
    go true e = unfold either in halt _ _ e ∙ sym (halt _ _ e)
    go false e = ap (λ (u : Extent). either (ltb x 128) (either (eqb (x - 128) 0) (occupied u))) (f e)

-- The last mark is that where the top is exited, 128, and 128 stands nowhere else.
abbrev pub Ends : List ℕ → Type 0
Ends [] = ⊥
Ends (x ∷ []) = x ≡ 128
Ends (x ∷ (y ∷ l)) = (x ≡ 128 → ⊥) × Ends (y ∷ l)

pub ends_behind : (a : List ℕ) (x : ℕ) (l : List ℕ) → Ends (a ++ (x ∷ l)) → Ends (x ∷ l)
ends_behind [] x l h = h
ends_behind (y ∷ []) x l h = h.1
ends_behind (y ∷ (z ∷ a)) x l h = ends_behind (z ∷ a) x l h.1

ends_tail : (x : ℕ) (l : List ℕ) → (x ≡ 128 → ⊥) → Ends (x ∷ l) → Ends l
ends_tail x [] n h = n h
ends_tail x (y ∷ l) n h = h.1

ends_last : (x : ℕ) (l : List ℕ) → x ≡ 128 → Ends (x ∷ l) → l ≡ []
ends_last x [] e h = refl
ends_last x (y ∷ l) e h = absurd (h.0 e)

-- MARKS OF TASKS
later : (t : ℕ) → ltb (128 + t) 128 ≡ false
later t = le-ltb (128 + t) 128 (omega arith)

minus : (t : ℕ) → 128 + t - 128 ≡ t
minus t = omega arith

pub task_entered : (t : ℕ) → t < 128 → task_at t ≡ t
unfolding task_at pick
task_entered t h = rw (lt-ltb t 128 h) refl

pub task_exited : (t : ℕ) → task_at (128 + t) ≡ t
unfolding task_at pick
task_exited t = rw (later t) (minus t)

pub place_entered : (t : ℕ) → t < 128 → place_at t ≡ right_of t
unfolding place_at pick
place_entered t h = rw (lt-ltb t 128 h) refl

pub place_exited : (t : ℕ) → place_at (128 + t) ≡ children_of t
unfolding place_at pick
place_exited t = rw (later t) (ap children_of (minus t))

either_off : {a b : Bool} → a ≡ false → either a b ≡ b
unfolding either pick
either_off e = rw e refl

here : (f : ℕ → Bool) (x : ℕ) (l : List ℕ) → f x ≡ true → first_of f (x ∷ l) ≡ x
unfolding first_of pick
here f x l e = rw e refl

further : (f : ℕ → Bool) (x : ℕ) (l : List ℕ) → f x ≡ false → first_of f (x ∷ l) ≡ first_of f l
unfolding first_of pick
further f x l e = rw e refl

module _ (uses : ℕ → Bool) (top_uses : uses 0 ≡ true) where
  takes_entered : (t : ℕ) → t < 128 → uses t ≡ true → has_part uses t ≡ true
  unfolding has_part
  takes_entered t h u = ap uses (task_entered t h) ∙ u

  takes_exited : (t : ℕ) → uses t ≡ true → has_part uses (128 + t) ≡ true
  unfolding has_part
  takes_exited t u = ap uses (task_exited t) ∙ u

  -- a mark without a right is not the top's
  not_top : (x : ℕ) → has_part uses x ≡ false → x ≡ 128 → ⊥
  not_top x u e = false≢true (sym u ∙ (ap (has_part uses) e ∙ takes_exited 0 top_uses))

  -- THE WALK TO THE VIEW JUST BEFORE
  pub latest_found : {children user right : ℕ → Extent} {n : Mode} (a : Line) → Views children user right a n → All (Fits uses) a
      → All (λ t. t < 128) (entries a) → Ends (marks a) → Latest a (place_at (first_of (has_part uses) (marks a)))
  unfolding has_part task_at
  latest_found [] v fits small ends = elim v [ ]
  latest_found (base c ∷ l) (queue e) fits small ends = absurd ends
  latest_found (exited t ∷ l) (exiting v e i r) fits small ends =
      subst (Latest (exited t ∷ l)) (sym (ap place_at (here (has_part uses) (128 + t) (marks l) (takes_exited t fits.0)) ∙ place_exited t))
      Latest.at_exited
  latest_found (entered t c ∷ l) (entering v w e i f b r) fits small ends =
      subst (Latest (entered t c ∷ l)) (sym (ap place_at (here (has_part uses) t (marks l) (takes_entered t small.0 fits.0)) ∙ place_entered t small.0))
      Latest.at_entered
  latest_found (pass x ∷ l) (passing r) fits small ends =
      subst (Latest (pass x ∷ l)) (ap place_at (sym (further (has_part uses) x (marks l) fits.0)))
      (Latest.over (latest_found l r fits.1 small (ends_tail x (marks l) (not_top x fits.0) ends)))

  module _ (children : ℕ → Extent) where
    stands_entered : (t : ℕ) → t < 128 → uses t ≡ true → stands_at uses children t ≡ true
    unfolding stands_at
    stands_entered t h u = true_both (takes_entered t h u) (true_left _ (lt-ltb t 128 h))

    stands_top : (t : ℕ) → uses t ≡ true → t ≡ 0 → stands_at uses children (128 + t) ≡ true
    unfolding stands_at
    stands_top t u e = true_both (takes_exited t u) (true_right _ (true_left _ (eq-eqb _ _ (minus t ∙ e))))

    stands_exited : (t : ℕ) → uses t ≡ true → occupied (children t) ≡ true → stands_at uses children (128 + t) ≡ true
    unfolding stands_at
    stands_exited t u e = true_both (takes_exited t u) (true_right _ (true_right _ (ap (λ (k : ℕ). occupied (children k)) (minus t) ∙ e)))

    stands_not : (t : ℕ) → (t ≡ 0 → ⊥) → uses t ≡ true → occupied (children t) ≡ false → stands_at uses children (128 + t) ≡ false
    unfolding stands_at
    stands_not t n u e =
        both_on (takes_exited t u)
        ∙ (either_off (later t) ∙ (either_off (ne_eqb _ _ (λ q. n (sym (minus t) ∙ q))) ∙ (ap (λ (k : ℕ). occupied (children k)) (minus t) ∙ e)))

    stands_pass : (x : ℕ) → has_part uses x ≡ false → stands_at uses children x ≡ false
    unfolding stands_at
    stands_pass x e = both_off _ e

    -- the bottom of a line, where no mark is left
    bare : {user right : ℕ → Extent} {n : Mode} (t : ℕ) (l : Line) → Views children user right l n → marks l ≡ []
        → Target children (exited t ∷ l) (children_of t)
    bare t [] v h = elim v [ ]
    bare t (base c ∷ l) (queue e) h = Target.top
    bare t (exited u ∷ l) (exiting v e i r) h = let z : ◌≡◌ {A = ℕ} 0 1 = cc in absurd (omega (arith, z))
    bare t (entered u c ∷ l) (entering v w e i f b r) h = let z : ◌≡◌ {A = ℕ} 0 1 = cc in absurd (omega (arith, z))
    bare t (pass x ∷ l) (passing r) h = let z : ◌≡◌ {A = ℕ} 0 1 = cc in absurd (omega (arith, z))

    -- THE WALK PAST VACANT CHILDREN VIEWS
    pub target_found : {user right : ℕ → Extent} {n : Mode} (a : Line) → Views children user right a n → All (Fits uses) a
        → All (λ t. t < 128) (entries a) → Ends (marks a) → Target children a (place_at (first_of (stands_at uses children) (marks a)))
    unfolding has_part task_at occupied
    target_found [] v fits small ends = elim v [ ]
    target_found (base c ∷ l) (queue e) fits small ends = absurd ends
    target_found (entered t c ∷ l) (entering v w e i f b r) fits small ends =
        subst (Target children (entered t c ∷ l))
        (sym (ap place_at (here (stands_at uses children) t (marks l) (stands_entered t small.0 fits.0)) ∙ place_entered t small.0)) Target.at_entered
    target_found (pass x ∷ l) (passing r) fits small ends =
        subst (Target children (pass x ∷ l)) (ap place_at (sym (further (stands_at uses children) x (marks l) (stands_pass x fits.0))))
        (Target.over (target_found l r fits.1 small (ends_tail x (marks l) (not_top x fits.0) ends)))
    target_found (exited t ∷ l) (exiting v e i r) fits small ends =
        go (children t) refl (λ n. target_found l r fits.1 small (ends_tail (128 + t) (marks l) (λ q. n (omega (arith, q))) ends))
      where
        Found : Type 0
        Found = Target children (exited t ∷ l) (place_at (first_of (stands_at uses children) ((128 + t) ∷ marks l)))

        stops : stands_at uses children (128 + t) ≡ true → Target children (exited t ∷ l) (children_of t) → Found
        stops q o =
            subst (Target children (exited t ∷ l)) (sym (ap place_at (here (stands_at uses children) (128 + t) (marks l) q) ∙ place_exited t)) o

        go : (v : Extent) → children t ≡ v → ((t ≡ 0 → ⊥) → Target children l (place_at (first_of (stands_at uses children) (marks l)))) → Found
        go (extent h x) f earlier = stops (stands_exited t fits.0 (ap occupied f)) (Target.at_exited h x f)
        go vacant f earlier =
            ⊎_elim
            (λ z. stops (stands_top t fits.0 z) (bare t l r (ends_last (128 + t) (marks l) (omega (arith, z)) ends)))
            (λ n. subst (Target children (exited t ∷ l)) (ap place_at (sym (further (stands_at uses children) (128 + t) (marks l)
            (stands_not t n fits.0 (ap occupied f))))) (Target.up f (earlier n)))
            (equal? t 0)
