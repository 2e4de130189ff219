-- A list with the numbers of four others: sums over it.
use Rattle.std.specs.Prelude.{◌≡◌, refl, List, [], ◌++◌, ℕ, zero, suc, ◌+◌, ◌<◌}
use Rattle.std.proofs.Common.{ap, sym, ◌∙◌, arith}
use Rattle.spec_lists.specs.Counting.{occurrences, over, total, over_append, over_same, total_ext}
use Rattle.spec_lists.specs.Sums.{total_some, occurs_over}

-- the lists f 0, .., f (n - 1) one behind the other
unfoldable pub joined : (ℕ → List ℕ) → ℕ → List ℕ
joined f zero = []
joined f (suc n) = joined f n ++ f n

over_joined : (f : ℕ → List ℕ) (n : ℕ) (g : ℕ → ℕ) → over (joined f n) g ≡ total n (λ q. over (f q) g)
unfolding joined over total
over_joined f zero g = refl
over_joined f (suc n) g = over_append g (joined f n) (f n) ∙ ap (λ (k : ℕ). k + over (f n) g) (over_joined f n g)

count_joined : (f : ℕ → List ℕ) (n s : ℕ) → occurrences s (joined f n) ≡ total n (λ q. occurrences s (f q))
count_joined f n s = occurs_over s (joined f n) ∙ over_joined f n _ ∙ total_ext n _ _ (λ q l. sym (occurs_over s (f q)))

-- A list in which each number stands as often as in the four together has the sums of the four.
pub over_four : (k : ℕ) (hs : List ℕ) (f : ℕ → List ℕ) → ((s : ℕ) → occurrences s hs ≡ total 4 (λ q. occurrences s (f q)))
    → ((q s : ℕ) → q < 4 → 0 < occurrences s (f q) → s < k) → (g : ℕ → ℕ) → over hs g ≡ total 4 (λ q. over (f q) g)
over_four k hs f e low g = over_same k hs (joined f 4) g (λ s. e s ∙ sym (count_joined f 4 s)) below ∙ over_joined f 4 g
  where
    below : (s : ℕ) → 0 < occurrences s (joined f 4) → s < k
    below s p =
        let a = count_joined f 4 s in
        let w = total_some 4 (λ q. occurrences s (f q)) (omega (arith, a, p)) in
        low w.0 s w.1 w.2
