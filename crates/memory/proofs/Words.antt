-- Words stored one after the other.
use mathlib.Core.Path.{◌≡◌, refl, ap, sym, ◌∙◌}
use mathlib.Core.List.{List, [], ◌∷◌}
use Prim.Native.Nat.{ℕ, zero, suc, ◌+◌, ◌<◌, ◌≤◌}
use native.Mathlib.Omega.{arith}
use Rattle.std.proofs.Common.{length, get_or, take, le_of_suc-le-suc}
use Rattle.std.proofs.lemmas.List.{take_more as take_one_more, length-take-le}
use Rattle.spec_words.specs.Words.{store}
use Rattle.spec_words.specs.Blocks.{store_all, store_none, store_more, store_append}

pub none_stored : (m : List ℕ) (a : ℕ) → m ≡ store_all m a []
none_stored m a = sym (store_none m a)

one : (m : List ℕ) (a w : ℕ) → store_all m a (w ∷ []) ≡ store m a w
one m a w = store_more m a w [] ∙ store_none _ _

pub more : (m m1 m2 : List ℕ) (a i : ℕ) (ws : List ℕ) → i < length ws → m1 ≡ store_all m a (take i ws) → m2 ≡ store m1 (a + i) (get_or ws i 0)
    → m2 ≡ store_all m a (take (i + 1) ws)
more m m1 m2 a i ws l e1 e2 =
    e2
    ∙ ap (λ (x : List ℕ). store x (a + i) (get_or ws i 0)) e1
    ∙ sym (one (store_all m a (take i ws)) (a + i) (get_or ws i 0))
    ∙ ap (λ (k : ℕ). store_all (store_all m a (take i ws)) (a + k) (get_or ws i 0 ∷ [])) (sym (length-take-le i ws (omega (arith, l))))
    ∙ sym (store_append (take i ws) m a (get_or ws i 0 ∷ []))
    ∙ ap (store_all m a) (sym (take_one_more ws i 0 l))

-- past the end nothing is stored
pub past_end : (m : List ℕ) (a : ℕ) (ws : List ℕ) → length m ≤ a → m ≡ store_all m a ws
unfolding store_all
past_end [] a ws h = refl
past_end (x ∷ m) zero ws h = let z : ⊥ = omega arith in absurd z
past_end (x ∷ m) (suc a) ws h = ap (λ (l : List ℕ). x ∷ l) (past_end m a ws (le_of_suc-le-suc h))
