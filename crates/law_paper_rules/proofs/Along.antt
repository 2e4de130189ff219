-- Places along a line: the later a view stands the greater its place.
use Rattle.std.specs.Prelude.{◌≡◌, refl, ℕ, ◌+◌, ◌*◌, ◌<◌, ◌≤◌}
use Rattle.std.proofs.Common.{ap, sym, ◌∙◌, subst, ⊎_elim}
use mathlib.Core.List.{List, [], ◌∷◌, ◌++◌, append_assoc}
use native.Mathlib.Omega.{arith}
use Rattle.std.proofs.Math.ListN.{length}
use Rattle.spec_lists.specs.Counting.{occurrences, occurs_nil, occurs_past, equal?}
use Rattle.spec_lists.specs.Maps.{All, all_behind}
use Rattle.law_gaps.specs.Line.{base, exited, entered, pass, Line, marks, exits, entries}
use Rattle.law_paper_rules.specs.Order.{ViewName, children, user, right, behind, place_in, behind_at}
use Rattle.law_paper_rules.specs.Slots.{Slot, slot, slots}

-- a view stands among slots
pub record Stands (v : ViewName) (S : List Slot) : Type 0 where
  pub later : List Slot
  pub chain : List ℕ
  pub earlier : List Slot
  pub here : S ≡ later ++ slot v chain ∷ earlier

pub stands_first : (v : ViewName) (c : List ℕ) (S : List Slot) → Stands v (slot v c ∷ S)
stands_first v c S = record { later = []; chain = c; earlier = S; here = refl }

pub stands_more : (v : ViewName) (s : Slot) (S : List Slot) → Stands v S → Stands v (s ∷ S)
stands_more v s S w = record { later = s ∷ w.later; chain = w.chain; earlier = w.earlier; here = ap (λ (e : List Slot). s ∷ e) w.here }

-- what holds of all slots
pub slot_at : (P : Slot → Type 0) (v : ViewName) (S : List Slot) → All P S → (w : Stands v S) → P (slot v w.chain)
slot_at P v S h w = (all_behind P w.later (slot v w.chain ∷ w.earlier) (subst (All P) w.here h)).0

-- the views of the tasks that a line meets and leaves
none_in : (t : ℕ) {A : Type 0} → 0 < occurrences t [] → A
none_in t p = let a = occurs_nil t in let z : ⊥ = omega (arith, a, p) in absurd z

pub children_stands : (t : ℕ) (l : Line) → 0 < occurrences t (exits l) → Stands (children t) (slots l)
children_stands t [] p = none_in t p
children_stands t (base c ∷ l) p = children_stands t l p
children_stands t (exited u ∷ l) p =
    ⊎_elim
    (λ e. subst (λ (k : ℕ). Stands (children t) (slot (children k) [] ∷ slots l)) (sym e) (stands_first (children t) [] (slots l)))
    (λ n. stands_more (children t) (slot (children u) []) (slots l) (children_stands t l (let a = occurs_past u t (exits l) n in omega (arith, a, p))))
    (equal? u t)
children_stands t (entered u c ∷ l) p =
    stands_more (children t) (slot (right u) c) (slot (user u) [] ∷ slots l) (stands_more (children t) (slot (user u) []) (slots l) (children_stands t l p))
children_stands t (pass x ∷ l) p = children_stands t l p

-- the user view and the right view
pub entered_stands : (t : ℕ) (l : Line) → 0 < occurrences t (entries l) → Stands (user t) (slots l) × Stands (right t) (slots l)
entered_stands t [] p = none_in t p
entered_stands t (base c ∷ l) p = entered_stands t l p
entered_stands t (exited u ∷ l) p =
    let w = entered_stands t l p in (stands_more (user t) (slot (children u) []) (slots l) w.0, stands_more (right t) (slot (children u) []) (slots l) w.1)
entered_stands t (entered u c ∷ l) p =
    ⊎_elim
    (λ e.
    subst (λ (k : ℕ). Stands (user t) (slots (entered k c ∷ l)) × Stands (right t) (slots (entered k c ∷ l))) (sym e) (
      stands_more (user t) (slot (right t) c) (slot (user t) [] ∷ slots l) (stands_first (user t) [] (slots l)),
      stands_first (right t) c (slot (user t) [] ∷ slots l),
    ))
    (λ n.
    let w = entered_stands t l (let a = occurs_past u t (entries l) n in omega (arith, a, p)) in (
      stands_more (user t) (slot (right u) c) (slot (user u) [] ∷ slots l) (stands_more (user t) (slot (user u) []) (slots l) w.0),
      stands_more (right t) (slot (right u) c) (slot (user u) [] ∷ slots l) (stands_more (right t) (slot (user u) []) (slots l) w.1),
    ))
    (equal? u t)
entered_stands t (pass x ∷ l) p = entered_stands t l p

-- ALONG A TOUR T, each mark once
module _ (T : List ℕ) where
  abbrev pub Below : ℕ → Slot → Type 0
  Below n (slot v c) = place_in T v < n

  -- each view stands later than those that follow it in the list
  abbrev pub Falling : List Slot → Type 0
  Falling [] = Unit {0}
  Falling (slot v c ∷ e) = All (Below (place_in T v)) e × Falling e

  below_more : (n k : ℕ) (S : List Slot) → n ≤ k → All (Below n) S → All (Below k) S
  below_more n k [] h f = tt
  below_more n k (slot v c ∷ S) h f = let a = f.0 in (omega (arith, a, h), below_more n k S h f.1)

  module _ (once : (x : ℕ) → occurrences x T ≤ 1) where
    behind_mark : (a : List ℕ) (x : ℕ) (e : List ℕ) → T ≡ a ++ x ∷ e → behind x T ≡ length e
    behind_mark a x e i = ap (behind x) i ∙ behind_at a x e (subst (λ (l : List ℕ). occurrences x l ≤ 1) i (once x))

    next_part : (a : List ℕ) (x : ℕ) (e : List ℕ) → T ≡ a ++ x ∷ e → T ≡ (a ++ x ∷ []) ++ e
    next_part a x e i = i ∙ sym (append_assoc a (x ∷ []) e)

    below_line : (a : List ℕ) (l : Line) → T ≡ a ++ marks l → All (Below (2 * length (marks l))) (slots l)
    unfolding place_in
    below_line a [] i = tt
    below_line a (base c ∷ l) i = below_line a l i
    below_line a (exited t ∷ l) i =
        let b = behind_mark a (128 + t) (marks l) i in
        let j = next_part a (128 + t) (marks l) i in (
          omega (arith, b),
          below_more (2 * length (marks l)) (2 * length (marks (exited t ∷ l))) (slots l) (omega arith) (below_line (a ++ (128 + t) ∷ []) l j),
        )
    below_line a (entered t c ∷ l) i =
        let b = behind_mark a t (marks l) i in let j = next_part a t (marks l) i in (
          omega (arith, b),
          (omega (arith, b), below_more (2 * length (marks l)) (2 * length (marks (entered t c ∷ l))) (slots l) (omega arith) (below_line (a ++ t ∷ []) l j)),
        )
    below_line a (pass x ∷ l) i =
        below_more (2 * length (marks l)) (2 * length (marks (pass x ∷ l))) (slots l) (omega arith) (below_line (a ++ x ∷ []) l (next_part a x (marks l) i))

    falling_line : (a : List ℕ) (l : Line) → T ≡ a ++ marks l → Falling (slots l)
    unfolding place_in
    falling_line a [] i = tt
    falling_line a (base c ∷ l) i = falling_line a l i
    falling_line a (exited t ∷ l) i =
        let b = behind_mark a (128 + t) (marks l) i in
        let j = next_part a (128 + t) (marks l) i in
        (below_more (2 * length (marks l)) _ (slots l) (omega (arith, b)) (below_line (a ++ (128 + t) ∷ []) l j), falling_line (a ++ (128 + t) ∷ []) l j)
    falling_line a (entered t c ∷ l) i =
        let b = behind_mark a t (marks l) i in
        let j = next_part a t (marks l) i in
        let r = below_line (a ++ t ∷ []) l j in (
          (omega arith, below_more (2 * length (marks l)) _ (slots l) (omega (arith, b)) r),
          (below_more (2 * length (marks l)) _ (slots l) (omega (arith, b)) r, falling_line (a ++ t ∷ []) l j),
        )
    falling_line a (pass x ∷ l) i = falling_line (a ++ x ∷ []) l (next_part a x (marks l) i)

    pub falling : (l : Line) → marks l ≡ T → Falling (slots l)
    falling l i = falling_line [] l (sym i)

  -- what stands before a view, and what after it
  pub falling_before : (a : List Slot) (v : ViewName) (c : List ℕ) (e : List Slot) → Falling (a ++ slot v c ∷ e) → All (Below (place_in T v)) e
  falling_before [] v c e f = f.0
  falling_before (slot u d ∷ a) v c e f = falling_before a v c e f.1

  abbrev pub Above : ℕ → Slot → Type 0
  Above n (slot u d) = n < place_in T u

  pub falling_after : (a : List Slot) (v : ViewName) (c : List ℕ) (e : List Slot) → Falling (a ++ slot v c ∷ e) → All (Above (place_in T v)) a
  falling_after [] v c e f = tt
  falling_after (slot u d ∷ a) v c e f = ((all_behind (Below (place_in T u)) a (slot v c ∷ e) f.0).0, falling_after a v c e f.1)
