-- Counting two marks for each task.
use Rattle.std.specs.Prelude.{◌≡◌, refl, List, ℕ, zero, suc, ◌+◌, ◌*◌, ◌<◌, length}
use Rattle.std.proofs.Common.{arith}
use Rattle.spec_lists.specs.Counting.{occurrences, total, total_plus, length_total}
use Rattle.spec_lists.specs.Sums.{total_split}

-- the marks of task t among xs, and twice how often it stands in ys
abbrev pub pair : List ℕ → List ℕ → ℕ → ℕ
pair xs ys t = (occurrences t xs + occurrences (128 + t) xs) + (occurrences t ys + occurrences t ys)

pub pairs : (xs ys : List ℕ) → ((x : ℕ) → 0 < occurrences x xs → x < 256) → ((t : ℕ) → 0 < occurrences t ys → t < 128)
    → total 128 (pair xs ys) ≡ length xs + 2 * length ys
pairs xs ys h g =
    let a = length_total 256 xs h in
    let b = length_total 128 ys g in
    let d = total_split 128 128 (λ x. occurrences x xs) in
    let e = total_plus 128 (λ t. occurrences t xs) (λ t. occurrences (128 + t) xs) in
    let f = total_plus 128 (λ t. occurrences t ys) (λ t. occurrences t ys) in
    let i = total_plus 128 (λ t. occurrences t xs + occurrences (128 + t) xs) (λ t. occurrences t ys + occurrences t ys) in
    omega (arith, a, b, d, e, f, i)

pub total_twos : (n : ℕ) → total n (λ y. 2) ≡ 2 * n
unfolding total
total_twos zero = refl
total_twos (suc n) = let a = total_twos n in omega (arith, a)
