-- TEXT as a list of bytes: a quoted text, and a number in decimal digits.
use Rattle.std.specs.Prelude.{◌≡◌, refl, List, [], ◌∷◌, ◌++◌, ℕ, zero, suc, ◌+◌, ◌/◌, ◌%◌, ltb}
use Prim.Native.Char.{code}
use Prim.Native.String.{String, [] as nothing, ◌∷◌ as ◌then◌}
use Rattle.spec_words.specs.Words.{pick}

-- the codes of a text's characters, which are its bytes where each is below 128
unfoldable pub ascii : String → List ℕ
ascii nothing = []
ascii (c then s) = code c ∷ ascii s

-- the digits of n, where n is below f
unfoldable pub digits : ℕ → ℕ → List ℕ
digits zero n = []
digits (suc f) n = let front = digits f (n / 10) in pick (ltb n 10) ((48 + n) ∷ []) (front ++ ((48 + n % 10) ∷ []))

unfoldable pub decimal : ℕ → List ℕ
decimal n = digits (suc n) n

-- the least word, one with a 0 inside, and the greatest
pub record Cases : Type 0 where
  pub least : decimal 0 ≡ ascii "0"
  pub inner : decimal 1203 ≡ ascii "1203"
  pub most : decimal 4294967295 ≡ ascii "4294967295"

pub cases : Cases
unfolding ascii digits decimal pick
cases = record { least = refl; inner = refl; most = refl }
