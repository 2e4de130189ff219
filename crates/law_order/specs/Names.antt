-- Names of tasks: which name is that of a descendant.
use Rattle.std.specs.Prelude.{◌≡◌, refl, Bool, true, false, ◌⊎◌, ℕ, ◌≤◌, length}
use Rattle.std.proofs.Common.{ap, sym, ◌∙◌, inl, inr, arith, length-append, eqb-true, eq-eqb}
use Rattle.std.proofs.lemmas.Bool.{false≢true}
use mathlib.Core.List.{List, [], ◌∷◌, ◌++◌, append_assoc, head-eq_of_cons-eq, tail-eq_of_cons-eq}
use Rattle.spec_words.specs.Words.{both_true, true_both}
use Rattle.spec_order.specs.Steps.{Name}
use Rattle.spec_order.specs.Waits.{same_name}

-- The name q is c, or that of a descendant of c: names grow at the front.
abbrev pub Under : Name → Name → Type 0
Under c q = (path : List ℕ) × (q ≡ path ++ c)

pub under_self : (c : Name) → Under c c
under_self c = ([], refl)

pub under_trans : {c d e : Name} → Under c d → Under d e → Under c e
under_trans {c} u v = (v.0 ++ u.0, v.1 ∙ ap (λ (n : Name). v.0 ++ n) u.1 ∙ sym (append_assoc v.0 u.0 c))

pub under_parent : {i : ℕ} {p q : Name} → Under (i ∷ p) q → Under p q
under_parent {i} u = under_trans (i ∷ [], refl) u

under_length : {c q : Name} → Under c q → length c ≤ length q
under_length {c} {q} u = let a = ap (λ (n : Name). length n) u.1 in let b = length-append u.0 c in omega (arith, a, b)

-- no task is a descendant of its child
pub not_under_child : {i : ℕ} {p q : Name} → Under p q → Under (i ∷ q) p → ⊥
not_under_child {i} {p} {q} u v = let a = under_length u in let b = under_length v in omega (arith, a, b)

-- a task descends from one child only
pub one_branch : {i j : ℕ} {p q : Name} → Under (i ∷ p) q → Under (j ∷ p) q → i ≡ j
one_branch {i} {j} {p} {q} u v = go u.0 v.0 (sym u.1 ∙ v.1)
  where
    far : (b : List ℕ) (k : ℕ) → p ≡ b ++ (k ∷ p) → ⊥
    far b k e = not_under_child (under_self p) (b, e)

    go : (a b : List ℕ) → a ++ (i ∷ p) ≡ b ++ (j ∷ p) → i ≡ j
    go [] [] e = head-eq_of_cons-eq e
    go [] (y ∷ b) e = absurd (far b j (tail-eq_of_cons-eq e))
    go (x ∷ a) [] e = absurd (far a i (sym (tail-eq_of_cons-eq e)))
    go (x ∷ a) (y ∷ b) e = go a b (tail-eq_of_cons-eq e)

-- the test of names says that they are equal
pub same_true : (p q : Name) → same_name p q ≡ true → p ≡ q
unfolding same_name
same_true [] [] e = refl
same_true [] (j ∷ q) e = absurd (false≢true e)
same_true (i ∷ p) [] e = absurd (false≢true e)
same_true (i ∷ p) (j ∷ q) e =
    let w = both_true _ _ e in
    ap (λ (k : ℕ). k ∷ p) (eqb-true i j w.0) ∙ ap (λ (n : Name). j ∷ n) (same_true p q w.1)

same_self : (p : Name) → same_name p p ≡ true
unfolding same_name
same_self [] = refl
same_self (i ∷ p) = true_both (eq-eqb i i refl) (same_self p)

pub same? : (p q : Name) → (p ≡ q) ⊎ (p ≡ q → ⊥)
same? p q = go (same_name p q) refl
  where
    go : (b : Bool) → same_name p q ≡ b → (p ≡ q) ⊎ (p ≡ q → ⊥)
    go true e = inl (same_true p q e)
    go false e = inr (λ w. false≢true (sym e ∙ ap (λ (n : Name). same_name p n) (sym w) ∙ same_self p))

pub same_yes : (p q : Name) → p ≡ q → same_name p q ≡ true
same_yes p q e = ap (λ (n : Name). same_name p n) (sym e) ∙ same_self p

pub same_no : (p q : Name) → (p ≡ q → ⊥) → same_name p q ≡ false
same_no p q n = go (same_name p q) refl
  where
    go : (b : Bool) → same_name p q ≡ b → same_name p q ≡ false
    go true e = absurd (n (same_true p q e))
    go false e = e
