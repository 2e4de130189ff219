-- More of maps that are written at one place.
use Rattle.std.specs.Prelude.{◌≡◌, refl, ℕ}
use Rattle.std.proofs.Common.{ap, sym, ◌∙◌, ⊎_elim}
use Rattle.std.proofs.Math.Path.{fun_ext}
use Rattle.spec_lists.specs.Counting.{equal?}
use Rattle.spec_lists.specs.Maps.{put, put_same, put_other}

-- a map that differs at one place only
pub put_path : {A : Type 0} (f g : ℕ → A) (k : ℕ) (x : A) → g k ≡ x → ((j : ℕ) → (j ≡ k → ⊥) → g j ≡ f j) → g ≡ put f k x
put_path f g k x e h =
    fun_ext λ j. ⊎_elim (λ q. ap g q ∙ e ∙ sym (put_same f k x) ∙ ap (put f k x) (sym q)) (λ n. h j n ∙ sym (put_other f k x j n)) (equal? j k)

-- what is at the place anyway; and a place written twice
pub put_self : {A : Type 0} (f : ℕ → A) (k : ℕ) (x : A) → f k ≡ x → put f k x ≡ f
put_self f k x e = sym (put_path f f k x e (λ j n. refl))

pub put_twice : {A : Type 0} (f : ℕ → A) (k : ℕ) (x y : A) → put (put f k x) k y ≡ put f k y
put_twice f k x y = put_path f (put (put f k x) k y) k y (put_same (put f k x) k y) (λ j n. put_other (put f k x) k y j n ∙ put_other f k x j n)

-- two places written
pub put_swap : {A : Type 0} (f : ℕ → A) (k j : ℕ) (x y : A) → (j ≡ k → ⊥) → put (put f k x) j y ≡ put (put f j y) k x
put_swap f k j x y n =
    put_path (put f j y) (put (put f k x) j y) k x
    (put_other (put f k x) j y k (λ e. n (sym e)) ∙ put_same f k x)
    (λ i d. ⊎_elim
    (λ e. ap (put (put f k x) j y) e ∙ put_same (put f k x) j y ∙ sym (put_same f j y) ∙ ap (put f j y) (sym e))
    (λ c. put_other (put f k x) j y i c ∙ put_other f k x i d ∙ sym (put_other f j y i c))
    (equal? i j))

-- three places written
pub three_path : {A : Type 0} (f g : ℕ → A) (i j k : ℕ) (x y w : A) → (j ≡ i → ⊥) → (k ≡ i → ⊥) → (k ≡ j → ⊥) → g i ≡ x → g j ≡ y → g k ≡ w
    → ((n : ℕ) → (n ≡ i → ⊥) → (n ≡ j → ⊥) → (n ≡ k → ⊥) → g n ≡ f n) → g ≡ put (put (put f i x) j y) k w
three_path f g i j k x y w ji ki kj ex ey ew h =
    put_path (put (put f i x) j y) g k w ew (λ n dk. ⊎_elim
    (λ e. ap g e ∙ ey ∙ sym (put_same (put f i x) j y) ∙ ap (put (put f i x) j y) (sym e))
    (λ dj. ⊎_elim
    (λ e. ap g e ∙ ex ∙ sym (put_same f i x) ∙ ap (put f i x) (sym e))
    (λ di. h n di dj dk ∙ sym (put_other f i x n di))
    (equal? n i) ∙ sym (put_other (put f i x) j y n dj))
    (equal? n j))
