-- Maps on numbers that are written at one place, properties of all members of a list, and the last of a list.
use Rattle.std.specs.Prelude.{◌≡◌, refl, List, [], ◌∷◌, ◌++◌, ℕ, ◌<◌, ◌≤◌, eqb}
use Rattle.std.proofs.Common.{◌∙◌, subst, ⊎_elim, arith, eq-eqb, ne_eqb}
use Rattle.spec_words.specs.Words.{pick, pass, halt}
use Rattle.spec_lists.specs.Counting.{one_yes, occurrences, equal?, occurs_nil, occurs_past, occurs_first, occurs_later}

abbrev pub All : {A : Type 0} → (A → Type 0) → List A → Type 0
All P [] = Unit {0}
All P (x ∷ xs) = P x × All P xs

-- the map f, with x at k
unfoldable pub put : {A : Type 0} → (ℕ → A) → ℕ → A → ℕ → A
put f k x j = pick (eqb j k) x (f j)

pub put_same : {A : Type 0} (f : ℕ → A) (k : ℕ) (x : A) → put f k x k ≡ x
unfolding put
put_same f k x = halt _ _ (eq-eqb k k refl)

pub put_other : {A : Type 0} (f : ℕ → A) (k : ℕ) (x : A) (j : ℕ) → (j ≡ k → ⊥) → put f k x j ≡ f j
unfolding put
put_other f k x j n = pass _ (ne_eqb j k n) refl

-- x does not stand in l
abbrev pub Off : ℕ → List ℕ → Type 0
Off x l = All (λ y. y ≡ x → ⊥) l

-- the maps f and g agree on l
abbrev pub Agree : {A : Type 0} → (ℕ → A) → (ℕ → A) → List ℕ → Type 0
Agree f g l = All (λ x. g x ≡ f x) l

-- the last of s ∷ c
abbrev pub last_of : ℕ → List ℕ → ℕ
last_of s [] = s
last_of s (t ∷ c) = last_of t c

module _ {A : Type 0} (P : A → Type 0) where
  pub all_append : (a b : List A) → All P a → All P b → All P (a ++ b)
  all_append [] b h k = k
  all_append (x ∷ a) b h k = (h.0, all_append a b h.1 k)

  pub all_front : (a b : List A) → All P (a ++ b) → All P a
  all_front [] b h = tt
  all_front (x ∷ a) b h = (h.0, all_front a b h.1)

  pub all_behind : (a b : List A) → All P (a ++ b) → All P b
  all_behind [] b h = h
  all_behind (x ∷ a) b h = all_behind a b h.1

  pub all_map : (Q : A → Type 0) (a : List A) → ((x : A) → P x → Q x) → All P a → All Q a
  all_map Q [] f h = tt
  all_map Q (x ∷ a) f h = (f x h.0, all_map Q a f h.1)

module _ {A : Type 0} where
  pub agree_refl : (f : ℕ → A) (l : List ℕ) → Agree f f l
  agree_refl f [] = tt
  agree_refl f (x ∷ l) = (refl, agree_refl f l)

  pub agree_trans : (f g h : ℕ → A) (l : List ℕ) → Agree f g l → Agree g h l → Agree f h l
  agree_trans f g h [] a b = tt
  agree_trans f g h (x ∷ l) a b = (b.0 ∙ a.0, agree_trans f g h l a.1 b.1)

  -- a map agrees with itself written elsewhere
  pub agree_put : (f : ℕ → A) (k : ℕ) (x : A) (l : List ℕ) → Off k l → Agree f (put f k x) l
  agree_put f k x [] h = tt
  agree_put f k x (y ∷ l) h = (put_other f k x y h.0, agree_put f k x l h.1)

-- what holds of all numbers of a list holds of each that occurs in it, and the other way round
module _ (P : ℕ → Type 0) where
  pub all_at : (l : List ℕ) (x : ℕ) → All P l → 0 < occurrences x l → P x
  all_at [] x h p = let e = occurs_nil x in let z : ⊥ = omega (arith, e, p) in absurd z
  all_at (y ∷ l) x h p =
      ⊎_elim
      (λ e. subst P e h.0)
      (λ n. let e = occurs_past y x l n in all_at l x h.1 (omega (arith, e, p)))
      (equal? y x)

  pub all_in : (l : List ℕ) → ((x : ℕ) → 0 < occurrences x l → P x) → All P l
  all_in [] f = tt
  all_in (y ∷ l) f = (f y (occurs_first y l), all_in l (λ x p. f x (occurs_later y x l p)))

-- what does not occur in a list does not stand there
pub off : (x : ℕ) (l : List ℕ) → occurrences x l ≡ 0 → Off x l
unfolding occurrences
off x [] h = tt
off x (y ∷ l) h = (λ e. omega (arith, h, one_yes y x e), off x l (omega (arith, h)))

pub last_append : (s : ℕ) (b : List ℕ) (t : ℕ) (c : List ℕ) → last_of s (b ++ (t ∷ c)) ≡ last_of t c
last_append s [] t c = refl
last_append s (x ∷ b) t c = last_append x b t c

pub last_off : (x s : ℕ) (c : List ℕ) → Off x (s ∷ c) → last_of s c ≡ x → ⊥
last_off x s [] h = h.0
last_off x s (t ∷ c) h = last_off x t c h.1

pub last_in : (s : ℕ) (c : List ℕ) → 1 ≤ occurrences (last_of s c) (s ∷ c)
unfolding occurrences
last_in s [] = omega (arith, one_yes s s refl)
last_in s (t ∷ c) = omega (arith, last_in t c)
