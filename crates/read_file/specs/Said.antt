-- The line that says why something failed.
use Rattle.std.specs.Prelude.{List, [], ◌∷◌, ◌++◌, ℕ, Option}
use Rattle.std.specs.Io.KnownBytes.{Appends}

-- known bytes grow by what failed, a colon, a space, words, and the end of the line
abbrev pub Says : Option (List ℕ) → Option (List ℕ) → List ℕ → Type 0
Says old new what = (words : List ℕ) × Appends old new (what ++ (58 ∷ 32 ∷ []) ++ words ++ (10 ∷ []))
