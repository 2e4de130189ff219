-- A memory is a list of words. Reading a word, writing a word, the number of words, and a choice,
-- under names that stay shut, with the laws that proofs use instead of the clauses.
use Rattle.std.specs.Prelude.{◌≡◌, refl, Bool, true, false, ◌⊎◌, List, ℕ, suc, ◌<◌, length, get_or, set}
use Rattle.std.proofs.Common.{sym, ◌∙◌, inl, inr, arith, length-set, get_or-set_other, get_or-set_same}
use Rattle.std.proofs.lemmas.Bool.{false≢true}

-- the word at address a; 0 past the end
unfoldable pub load : List ℕ → ℕ → ℕ
load m a = get_or m a 0

-- the memory with v at address a; unchanged where a is past the end
unfoldable pub store : List ℕ → ℕ → ℕ → List ℕ
store m a v = set m a v

-- the number of words
unfoldable pub size : List ℕ → ℕ
size m = length m

-- if b then x else y
unfoldable pub pick : {A : Type 0} → Bool → A → A → A
pick true x y = x
pick false x y = y

-- both hold; one of the two holds. The second is computed only where the first does not decide
unfoldable pub both : Bool → Bool → Bool
both a b = pick a b false

unfoldable pub either : Bool → Bool → Bool
either a b = pick a true b

pub pick_true : {A : Type 0} (x y : A) → pick true x y ≡ x
unfolding pick
pick_true x y = refl

pub pick_false : {A : Type 0} (x y : A) → pick false x y ≡ y
unfolding pick
pick_false x y = refl

-- a rung of a ladder of tests that is passed
pub pass : {A : Type 0} {b : Bool} {y z : A} (x : A) → b ≡ false → y ≡ z → pick b x y ≡ z
unfolding pick
pass x e h = rw e h

-- a rung that stops
pub halt : {A : Type 0} {b : Bool} (x y : A) → b ≡ true → pick b x y ≡ x
unfolding pick
halt x y e = rw e

-- a ladder of numbers other than 0 that gives 0 has passed each rung
pub rung : (b : Bool) (k n : ℕ) → pick b (suc k) n ≡ 0 → (b ≡ false) × (n ≡ 0)
unfolding pick
rung true k n e = let z : ⊥ = omega (arith, e) in absurd z
rung false k n e = (refl, e)

pub size_store : (m : List ℕ) (a v : ℕ) → size (store m a v) ≡ size m
unfolding size store
size_store m a v = length-set m a v

pub load_same : (m : List ℕ) (a v : ℕ) → a < size m → load (store m a v) a ≡ v
unfolding load store size
load_same m a v h = get_or-set_same m a v 0 h

pub load_other : (m : List ℕ) (a b v : ℕ) → (b ≡ a → ⊥) → load (store m a v) b ≡ load m b
unfolding load store
load_other m a b v n = get_or-set_other m a b v 0 n

no : {A : Type 0} → false ≡ true → A
no e = absurd (false≢true e)

pub both_true : (a b : Bool) → both a b ≡ true → (a ≡ true) × (b ≡ true)
unfolding both pick
both_true true b e = (refl, e)
both_true false b e = no e

pub true_both : {a b : Bool} → a ≡ true → b ≡ true → both a b ≡ true
unfolding both
true_both {a} {b} e f = halt b false e ∙ f

-- a conjunction where the first part is known
pub both_on : {a b : Bool} → a ≡ true → both a b ≡ b
unfolding both pick
both_on e = rw e refl

pub both_off : {a : Bool} (b : Bool) → a ≡ false → both a b ≡ false
unfolding both pick
both_off b e = rw e refl

-- and where the second part is known
pub both_right_on : (a : Bool) {b : Bool} → b ≡ true → both a b ≡ a
unfolding both pick
both_right_on true e = e
both_right_on false e = refl

pub both_right_off : (a : Bool) {b : Bool} → b ≡ false → both a b ≡ false
unfolding both pick
both_right_off true e = e
both_right_off false e = refl

-- two tests that say the same
pub same_test : (a b : Bool) → (a ≡ true → b ≡ true) → (b ≡ true → a ≡ true) → a ≡ b
same_test true b f g = sym (f refl)
same_test false true f g = g refl
same_test false false f g = refl

-- a test that cannot say true
pub refuted : (b : Bool) → (b ≡ true → ⊥) → b ≡ false
refuted true h = absurd (h refl)
refuted false h = refl

pub either_true : (a b : Bool) → either a b ≡ true → (a ≡ true) ⊎ (b ≡ true)
unfolding either pick
either_true true b e = inl refl
either_true false b e = inr e

pub neither : {a b : Bool} → a ≡ false → b ≡ false → either a b ≡ false
unfolding either
neither e f = pass true e f

pub neither_true : (a b : Bool) → either a b ≡ false → (a ≡ false) × (b ≡ false)
unfolding either pick
neither_true true b e = no (sym e)
neither_true false b e = (refl, e)

pub true_left : {a : Bool} (b : Bool) → a ≡ true → either a b ≡ true
unfolding either
true_left b e = halt true b e

pub true_right : (a : Bool) {b : Bool} → b ≡ true → either a b ≡ true
unfolding either pick
true_right true e = refl
true_right false e = e
