-- What is done to a memory for each queue below n, one after the other.
use Rattle.std.specs.Prelude.{◌≡◌, refl, List, ℕ, zero, suc, ◌+◌}
use Rattle.std.proofs.Common.{add-one}

unfoldable pub done_below : (List ℕ → ℕ → List ℕ) → ℕ → List ℕ → List ℕ
done_below f zero m = m
done_below f (suc n) m = f (done_below f n m) n

pub none_done : (f : List ℕ → ℕ → List ℕ) (m : List ℕ) → done_below f 0 m ≡ m
unfolding done_below
none_done f m = refl

pub one_more_done : (f : List ℕ → ℕ → List ℕ) (n : ℕ) (m : List ℕ) → done_below f (n + 1) m ≡ f (done_below f n m) n
unfolding done_below
one_more_done f n m = rw add-one refl
