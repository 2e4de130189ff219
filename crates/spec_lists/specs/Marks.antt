-- Marks of the numbers of a list, made in a scratch list: a number below its length is marked where it stands in the list.
use Rattle.std.specs.Prelude.{◌≡◌, refl, List, [], ◌∷◌, ℕ, zero, suc, ◌<◌, eqb, replicate}
use Rattle.std.proofs.Common.{ap, sym, ◌∙◌, ⊎_elim, arith, eq-eqb, ne_eqb}
use Rattle.std.proofs.lemmas.List.{length-replicate}
use Rattle.spec_words.specs.Words.{load, store, size, size_store, load_same, load_other, both, both_on, both_off, both_right_on, both_right_off}
use Rattle.spec_lists.specs.Counting.{occurrences, equal?, occurs_nil, occurs_here, occurs_past}

-- the marks d with those of the numbers of a list
unfoldable pub marking : List ℕ → List ℕ → List ℕ
marking [] d = d
marking (x ∷ xs) d = marking xs (store d x 1)

-- a scratch list of zeros has no marks
pub zeros : (k s : ℕ) → load (replicate k 0) s ≡ 0
unfolding load
zeros zero s = refl
zeros (suc k) zero = refl
zeros (suc k) (suc s) = zeros k s

-- y has no mark where it had none before and does not stand in the list
unmarked : (xs d : List ℕ) (y : ℕ) → y < size d → eqb (load (marking xs d) y) 0 ≡ both (eqb (load d y) 0) (eqb (occurrences y xs) 0)
unfolding marking
unmarked [] d y l = sym (both_right_on (eqb (load d y) 0) (eq-eqb _ _ (occurs_nil y)))
unmarked (x ∷ xs) d y l =
    unmarked xs (store d x 1) y (rw (size_store d x 1) l)
    ∙ ⊎_elim
    (λ e.
    let m = ap (load (store d x 1)) (sym e) ∙ load_same d x 1 (omega (arith, e, l)) in
    let o = occurs_here x y xs e in
    both_off _ (ne_eqb (load (store d x 1) y) 0 (λ q. omega (arith, m, q)))
    ∙ sym (both_right_off (eqb (load d y) 0) (ne_eqb (occurrences y (x ∷ xs)) 0 (λ q. omega (arith, o, q)))))
    (λ n. ap (λ (k : ℕ). both (eqb k 0) (eqb (occurrences y xs) 0)) (load_other d x y 1 (λ q. n (sym q)))
    ∙ ap (λ (k : ℕ). both (eqb (load d y) 0) (eqb k 0)) (sym (occurs_past x y xs n)))
    (equal? x y)

-- made in k zeros, the marks tell for each number below k whether it stands in the list
pub marked_occurs : (k : ℕ) (xs : List ℕ) (y : ℕ) → y < k → eqb (load (marking xs (replicate k 0)) y) 0 ≡ eqb (occurrences y xs) 0
unfolding size
marked_occurs k xs y l = unmarked xs (replicate k 0) y (rw length-replicate l) ∙ both_on (eq-eqb _ _ (zeros k y))
