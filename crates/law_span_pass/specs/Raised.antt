-- THE LATEST OF SOME FINISHES, raised one by one: by a test of who has finished.
use Rattle.std.specs.Prelude.{◌≡◌, Bool, ℕ, ◌≤◌}
use Rattle.std.proofs.Math.Path.{refl, ap}
use Rattle.std.proofs.Common.{sym, ◌∙◌, inl, inr, le_antisymm, arith}
use Rattle.std.proofs.Math.Bool.{true, false}
use mathlib.Core.List.{List, [], ◌∷◌, ◌++◌}
use Rattle.spec_words.specs.Words.{pick, both, either}
use Rattle.spec_line.specs.Later.{later, later_bounds, later_least}
use Rattle.law_serial_times.specs.Ended.{Over, over, Among}

-- LATER: what is below both, and two that have the same bounds
below_both : (a b k : ℕ) → later a b ≤ k → (a ≤ k) × (b ≤ k)
below_both a b k h = let l = later_bounds a b in (omega (arith, l.0), omega (arith, l.1))

pub same_bounds : (x y : ℕ) → ((k : ℕ) → x ≤ k → y ≤ k) → ((k : ℕ) → y ≤ k → x ≤ k) → x ≡ y
same_bounds x y f g = le_antisymm (g y (omega arith)) (f x (omega arith))

pub later_assoc : (a b c : ℕ) → later (later a b) c ≡ later a (later b c)
later_assoc a b c =
    same_bounds _ _
    (λ k h. let p = below_both (later a b) c k h in let q = below_both a b k p.0 in later_least a _ k q.0 (later_least b c k q.1 p.1))
    (λ k h. let p = below_both a (later b c) k h in let q = below_both b c k p.1 in later_least _ c k (later_least a b k p.0 q.0) q.1)

pub later_comm : (a b : ℕ) → later a b ≡ later b a
later_comm a b =
    same_bounds _ _ (λ k h. let p = below_both a b k h in later_least b a k p.1 p.0) (λ k h. let p = below_both b a k h in later_least a b k p.1 p.0)

pub later_self : (a : ℕ) → later a a ≡ a
later_self a = same_bounds _ _ (λ k h. (below_both a a k h).0) (λ k h. later_least a a k h h)

pub later_zero : (a : ℕ) → later a 0 ≡ a
later_zero a = same_bounds _ _ (λ k h. (below_both a 0 k h).0) (λ k h. later_least a 0 k h (omega arith))

-- two pairs, joined the other way
pub later_cross : (a b c d : ℕ) → later (later a b) (later c d) ≡ later (later a c) (later b d)
later_cross a b c d =
    later_assoc a b (later c d)
    ∙ ap (later a) (sym (later_assoc b c d) ∙ ap (λ (x : ℕ). later x d) (later_comm b c) ∙ later_assoc c b d)
    ∙ sym (later_assoc a c (later b d))

-- a raised to t where b says so
unfoldable pub raise : Bool → ℕ → ℕ → ℕ
raise b t a = pick b (later a t) a

-- by one of two tests: each raises its own part
pub raise_either : (x y : Bool) (t a b : ℕ) → raise (either x y) t (later a b) ≡ later (raise x t a) (raise y t b)
unfolding raise either pick
raise_either true true t a b = ap (later (later a b)) (sym (later_self t)) ∙ later_cross a b t t
raise_either true false t a b = later_assoc a b t ∙ ap (later a) (later_comm b t) ∙ sym (later_assoc a t b)
raise_either false true t a b = later_assoc a b t
raise_either false false t a b = refl

module _ {S : Type 0} where
  unfoldable pub latest_by : (S → Bool) → ℕ → List (Over S) → ℕ
  latest_by P a [] = a
  latest_by P a (over t s ∷ F) = latest_by P (raise (P s) t a) F

  -- one more at the end
  pub latest_more : (P : S → Bool) (a : ℕ) (F : List (Over S)) (d : ℕ) (x : S) → latest_by P a (F ++ over d x ∷ []) ≡ raise (P x) d (latest_by P a F)
  unfolding latest_by
  latest_more P a [] d x = refl
  latest_more P a (over t s ∷ F) d x = latest_more P (raise (P s) t a) F d x

  -- by one of two tests
  pub latest_either : (P Q : S → Bool) (a b : ℕ) (F : List (Over S)) → latest_by (λ s. either (P s) (Q s)) (later a b) F ≡ later (latest_by P a F) (latest_by Q b F)
  unfolding latest_by
  latest_either P Q a b [] = refl
  latest_either P Q a b (over t s ∷ F) =
      ap (λ (x : ℕ). latest_by (λ s. either (P s) (Q s)) x F) (raise_either (P s) (Q s) t a b) ∙ latest_either P Q (raise (P s) t a) (raise (Q s) t b) F

  pub latest_two : (P Q : S → Bool) (F : List (Over S)) → latest_by (λ s. either (P s) (Q s)) 0 F ≡ later (latest_by P 0 F) (latest_by Q 0 F)
  latest_two P Q F = ap (λ (x : ℕ). latest_by (λ s. either (P s) (Q s)) x F) (sym (later_zero 0)) ∙ latest_either P Q 0 0 F

  -- by tests that say the same of these
  pub latest_same : (P Q : S → Bool) (a : ℕ) (F : List (Over S)) → ((t : ℕ) (s : S) → Among F t s → P s ≡ Q s) → latest_by P a F ≡ latest_by Q a F
  unfolding latest_by
  latest_same P Q a [] h = refl
  latest_same P Q a (over t s ∷ F) h =
      ap (λ (b : Bool). latest_by P (raise b t a) F) (h t s (inl (refl, refl))) ∙ latest_same P Q (raise (Q s) t a) F (λ z x i. h z x (inr i))

  pub latest_never : (a : ℕ) (F : List (Over S)) → latest_by (λ s. false) a F ≡ a
  unfolding latest_by raise pick
  latest_never a [] = refl
  latest_never a (over t s ∷ F) = latest_never a F

  -- by a test and a condition
  pub latest_both : (P : S → Bool) (b : Bool) (F : List (Over S)) → latest_by (λ s. both (P s) b) 0 F ≡ pick b (latest_by P 0 F) 0
  latest_both P true F = latest_same (λ s. both (P s) true) P 0 F (λ t s i. right (P s)) ∙ (unfold pick in refl)
    where
      right : (x : Bool) → both x true ≡ x
      right true = unfold both pick in refl
      right false = unfold both pick in refl
  latest_both P false F = latest_same (λ s. both (P s) false) (λ s. false) 0 F (λ t s i. right (P s)) ∙ latest_never 0 F ∙ (unfold pick in refl)
    where
      right : (x : Bool) → both x false ≡ false
      right true = unfold both pick in refl
      right false = unfold both pick in refl
