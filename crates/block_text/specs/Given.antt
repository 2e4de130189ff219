-- What a block is made of, as the caller gives it one by one.
use Rattle.std.specs.Prelude.{◌≡◌, List, ℕ, ◌+◌, ◌<◌, Option, Some as known, None as unknown}
use Rattle.std.proofs.Math.Option.{Option as Left, none, some}
use Rattle.run_text.specs.Lines.{line}
use Rattle.block_text.specs.declared.Row.{Row}

-- a value left, as the definitions have it
unfoldable pub left_of : Option ℕ → Left ℕ
left_of (known v) = some v
left_of unknown = none

-- the first n rows given print the lines f, where c calls were made before
abbrev pub Prints : (ℕ → Row → Type 0) → ℕ → ℕ → (ℕ → List ℕ) → Type 0
Prints P c n f = (i : ℕ) (x : Row) → i < n → P i x → f i ≡ line (c + i + 1) x.task x.answer x.value

-- the first n values given are those of f
abbrev pub Finds : (ℕ → Option ℕ → Type 0) → ℕ → (ℕ → Left ℕ) → Type 0
Finds P n f = (i : ℕ) (o : Option ℕ) → i < n → P i o → f i ≡ left_of o
