-- The views that a task returns of a queue: none of them, or those at the mark that is sought before a word changes.
use mathlib.Core.Path.{◌≡◌, refl, ap, sym, ◌∙◌}
use mathlib.Core.Bool.{true}
use mathlib.Core.List.{List}
use Prim.Native.Nat.{ℕ}
use native.Mathlib.Omega.{arith}
use lib.Dec.{eqb}
use lib.ListN.{set}
use lib.Seq.{set-get_or}
use borrow.Author.Tests.{eq-eqb, ne_eqb, eqb-true}
use Rattle.spec_words.specs.Words.{load, store, pick, pass, halt, both_true}
use Rattle.spec_layout.specs.Layout.{Field, NONE, NL, CHILDREN, USER, RIGHT, head, tail, address, read, write}
use Rattle.spec_rules.specs.Views.{View, view}
use Rattle.spec_outcomes.specs.Views.{view_of, is_empty, head_of, set_view, joined, merged, task_at, kind_at, returned_to}
use Rattle.spec_outcomes.specs.Finish.{views_returned}
use Rattle.core_return.specs.Returning.{no_views, view_returned}

-- a word that is stored where it stands already
write_same : (m : List ℕ) (f : Field) (v : ℕ) → read m f ≡ v → write m f v ≡ m
unfolding read write load store
write_same m f v e = ap (set m (address f)) (sym e) ∙ set-get_or m (address f) 0

-- a view that is empty becomes empty
empty_again : (m : List ℕ) (q t k : ℕ) → is_empty (view_of m q t k) ≡ true → set_view m q t k (view NONE NONE) ≡ m
unfolding set_view view_of is_empty
empty_again m q t k e =
    let w = both_true _ _ e in
    ap (λ (x : List ℕ). write x (tail k t q) NONE) (write_same m (head k t q) NONE (eqb-true _ _ w.0)) ∙ write_same m (tail k t q) NONE (eqb-true _ _ w.1)

merge_nothing : (m : List ℕ) (q t k j : ℕ) → is_empty (view_of m q t j) ≡ true → merged m q t k t j ≡ m
unfolding merged joined
merge_nothing m q t k j e = ap (λ (x : List ℕ). set_view x q t j (view NONE NONE)) (halt _ _ e) ∙ empty_again m q t j e

pub nothing_returned : (m : List ℕ) (t q : ℕ) → no_views m t q ≡ true → views_returned m t q ≡ m
unfolding no_views views_returned
nothing_returned m t q f =
    let w = both_true _ _ f in
    let z = both_true _ _ w.1 in
    let m1 = merged m q t CHILDREN t USER in
    let m2 = merged m1 q t CHILDREN t RIGHT in
    let e1 : m1 ≡ m = merge_nothing m q t CHILDREN USER w.0 in
    let e2 : m2 ≡ m = ap (λ (x : List ℕ). merged x q t CHILDREN t RIGHT) e1 ∙ merge_nothing m q t CHILDREN RIGHT z.1 in
    halt _ _ (ap (λ (x : List ℕ). is_empty (view_of x q t CHILDREN)) e2 ∙ z.0) ∙ e2

-- of the two marks, v goes to the one of its head
either_mark : (m : List ℕ) (q t : ℕ) (v : View) → pick (eqb (head_of v) NL) (returned_to m q t (view NL NONE)) (returned_to m q t (view NONE NONE)) ≡ returned_to
    m q t v
unfolding returned_to head_of
either_mark m q t (view h e) =
    ap (λ (x : ℕ). pick (eqb h NL) x (returned_to m q t (view NONE NONE))) (halt _ _ (eq-eqb NL NL refl))
    ∙ ap (pick (eqb h NL) _) (pass _ (ne_eqb NONE NL (λ z. omega (arith, z))) refl)

pub views_go : (m m1 m2 m3 : List ℕ) (t q nonlocal local : ℕ) → nonlocal ≡ returned_to m q t (view NL NONE) → local ≡ returned_to m q t (view NONE NONE)
    → m1 ≡ merged m q t CHILDREN t USER → m2 ≡ merged m1 q t CHILDREN t RIGHT → m3 ≡ view_returned m2 t q nonlocal local → m3 ≡ views_returned m t q
unfolding view_returned views_returned
views_go m m1 m2 m3 t q nonlocal local ef en e1 e2 e3 =
    e3
    ∙ ap (λ (x : ℕ). gone m2 x) (ap (λ (x : ℕ). pick (eqb (head_of (view_of m2 q t CHILDREN)) NL) x local) ef
    ∙ ap (pick (eqb (head_of (view_of m2 q t CHILDREN)) NL) _) en ∙ either_mark m q t (view_of m2 q t CHILDREN))
    ∙ ap (λ (x : List ℕ). gone x (returned_to m q t (view_of x q t CHILDREN))) (e2 ∙ ap (λ (x : List ℕ). merged x q t CHILDREN t RIGHT) e1)
  where
    gone : List ℕ → ℕ → List ℕ
    gone n x = pick (is_empty (view_of n q t CHILDREN)) n (merged n q (task_at x) (kind_at x) t CHILDREN)
