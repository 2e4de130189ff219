-- THE FORM OF A TRACE: lines one behind the other, first those of calls, then those of the end. "It refuses with 13 .. a line of another
-- form ("job refused" too), a call line after "left" or "open", or more lines" than 65,535.
use Rattle.std.specs.Prelude.{◌≡◌, Bool, true, false, not, List, [], ◌∷◌, ℕ, zero, suc, ◌≤◌, length}
use Rattle.std.proofs.Math.Option.{Option, none, some}
use Rattle.spec_words.specs.Words.{pick, both}
use Rattle.spec_lists.specs.Maps.{All}
use Rattle.spec_trace.specs.declared.Line.{Line}
use Rattle.spec_trace.specs.declared.Line.TheVariants.{Call, Left, Open}
use Rattle.spec_trace.specs.Line.{render_all, Valid}
use Rattle.spec_trace.specs.Read.{line_at}

unfoldable pub is_call : Line → Bool
is_call (Call n t k v) = true
is_call (Left q v) = false
is_call (Open n) = false

-- a line in front of those that follow
unfoldable pub in_front : Line → Option (List Line) → Option (List Line)
in_front l none = none
in_front l (some ls) = some (l ∷ ls)

-- a line l that was read, and what follows it in bytes; e says whether a line of the end stands before it
unfoldable pub followed : Bool → Line → Option (List ℕ) → (List ℕ → Option (List Line)) → Option (List Line)
followed e l none more = none
followed e l (some bs) more = pick (both e (is_call l)) none (in_front l (more bs))

-- at most f lines
unfoldable pub lines_in : ℕ → Bool → List ℕ → Option (List Line)
lines_in zero e [] = some []
lines_in zero e (b ∷ bs) = none
lines_in (suc f) e [] = some []
lines_in (suc f) e (b ∷ bs) = let x = line_at (b ∷ bs) in followed e x.line x.rest (lines_in f (not (is_call x.line)))

-- THE LINES OF A TRACE, none where it is of another form
unfoldable pub trace_lines : List ℕ → Option (List Line)
trace_lines bs = lines_in 65535 false bs

unfoldable pub there : Option (List Line) → Bool
there none = false
there (some ls) = true

-- WHAT THE READER ACCEPTS, in words of text alone (`reads`, `read`, crates/law_trace/specs/Whole.antt). No call stands behind a line of the
-- end; e says whether one stands before.
abbrev pub CallsFirst : Bool → List Line → Type 0
CallsFirst e [] = Unit {0}
CallsFirst e (l ∷ ls) = (both e (is_call l) ≡ false) × CallsFirst (not (is_call l)) ls

-- bs are at most f lines ls, printed one behind the other
pub record Lined (f : ℕ) (e : Bool) (bs : List ℕ) (ls : List Line) : Type 0 where
  pub text : render_all ls ≡ bs
  pub valid : All Valid ls
  pub order : CallsFirst e ls
  pub few : length ls ≤ f

abbrev pub Trace : List ℕ → List Line → Type 0
Trace bs ls = Lined 65535 false bs ls
