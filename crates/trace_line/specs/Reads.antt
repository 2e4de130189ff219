-- What the code reads at the front of bytes, in the words of the definition.
use Rattle.std.specs.Prelude.{◌≡◌, List, [], ℕ, ◌<◌, ◌≤◌, Option, Some as known, None as unknown, Result as Checked, MatchOption, MatchResult, drop}
use Rattle.std.proofs.Math.Option.{Option as Left, none, some}
use Rattle.std.proofs.Common.{Bor}
use Rattle.spec_trace.specs.declared.Line.{Line}
use Rattle.spec_trace.specs.Read.{Numbered, numbered, front, digit_of, below, LineRead}

-- the digit at the front, and what stands behind it
abbrev pub Digit : List ℕ → Option (ℕ × Bor (List ℕ)) → Type 0
Digit bs o = MatchOption o (10 ≤ digit_of (front bs)) (λ x. (x.0 < 10) × (x.0 ≡ digit_of (front bs)) × (x.1.now ≡ drop 1 bs))

-- what stands behind a text; nothing does where the bytes are of another form
unfoldable pub rest_of : Option (Bor (List ℕ)) → List ℕ
rest_of unknown = []
rest_of (known r) = r.now

-- what stands behind a line feed, if there is one
unfoldable pub left_behind : Option (Bor (List ℕ)) → Left (List ℕ)
left_behind unknown = none
left_behind (known r) = some r.now

-- a number, and what stands behind it
unfoldable pub number_of : Option (ℕ × Bor (List ℕ)) → Numbered
number_of unknown = numbered 0 []
number_of (known x) = numbered x.0 x.1.now

-- the number x and what stands behind it, if it is below k
abbrev pub Below : ℕ → Numbered → Option (ℕ × Bor (List ℕ)) → Type 0
Below k x o = MatchOption o (below k x ≡ []) (λ r. (r.0 < k) × (numbered r.0 r.1.now ≡ x))

-- a line, and what stands behind it, if it is whole
abbrev pub IsWhole : Option (Line × Bor (List ℕ)) → LineRead → Type 0
IsWhole o x = MatchOption o (x.rest ≡ none) (λ r. (r.0 ≡ x.line) × (some r.1.now ≡ x.rest))

-- a line, and what stands behind it; where there is none, as much of it as was read
abbrev pub IsRead : Checked (Line × Bor (List ℕ)) Line → LineRead → Type 0
IsRead o x = MatchResult o (λ r. (r.0 ≡ x.line) × (some r.1.now ≡ x.rest)) (λ l. (l ≡ x.line) × (x.rest ≡ none))
