-- One line more of the form: what the test of a trace goes by.
use Rattle.std.specs.Prelude.{◌≡◌, Bool, true, false, not, length}
use Rattle.std.proofs.Math.Path.{refl, ap, sym}
use Rattle.std.proofs.Common.{◌∙◌, arith, eqb, true≢false}
use borrow.Author.Tests.{eqb-true}
use mathlib.Core.List.{List, [], ◌∷◌}
use Rattle.std.proofs.Math.Option.{Option, none, some}
use Prim.Native.Nat.{ℕ, zero, suc, ◌+◌, ◌-◌, ◌<◌, ◌≤◌}
use Rattle.spec_words.specs.Words.{both, pick, halt, pass}
use Rattle.spec_lists.specs.Tests.{turn_left, turns_over}
use Rattle.spec_trace.specs.declared.Line.{Line}
use Rattle.spec_trace.specs.Read.{line_at}
use Rattle.spec_trace.specs.Form.{is_call, in_front, followed, lines_in, trace_lines, there}

-- THE TEST: the bytes ds are left behind n lines, and e says whether a line of the end stands before them
pub record Tested (bs ds : List ℕ) (e : Bool) (n : ℕ) : Type 0 where
  pub same : there (trace_lines bs) ≡ there (lines_in (65535 - n) e ds)

pub start : (bs : List ℕ) → Tested bs bs false 0
unfolding trace_lines
start bs = record { same = refl }

there_behind : (l : Line) (x : Option (List Line)) → there (in_front l x) ≡ there x
unfolding there in_front
there_behind l none = refl
there_behind l (some ls) = refl

first_line : (f : ℕ) (e : Bool) (ds : List ℕ) → (length ds ≡ 0 → ⊥)
    → lines_in (suc f) e ds ≡ followed e (line_at ds).line (line_at ds).rest (lines_in f (not (is_call (line_at ds).line)))
unfolding lines_in
first_line f e [] n = absurd (n refl)
first_line f e (b ∷ bs) n = refl

none_more : (f : ℕ) (e : Bool) (ds : List ℕ) → length ds ≡ 0 → there (lines_in f e ds) ≡ true
unfolding lines_in there
none_more zero e [] h = refl
none_more (suc f) e [] h = refl
none_more f e (b ∷ bs) h = let z : ⊥ = omega (arith, h) in absurd z

too_many : (e : Bool) (ds : List ℕ) → (length ds ≡ 0 → ⊥) → there (lines_in 0 e ds) ≡ false
unfolding lines_in there
too_many e [] n = absurd (n refl)
too_many e (b ∷ bs) n = refl

pub off_both : (a b : Bool) → b ≡ false → both a b ≡ false
unfolding both pick
off_both true b e = e
off_both false b e = refl

pub empty : (ds : List ℕ) → true ≡ eqb (length ds) 0 → length ds ≡ 0
empty ds e = eqb-true (length ds) 0 (sym e)

pub not_empty : (ds : List ℕ) → false ≡ eqb (length ds) 0 → length ds ≡ 0 → ⊥
not_empty ds e z = true≢false (sym (e ∙ ap (λ (k : ℕ). eqb k 0) z))

module _ {bs ds : List ℕ} {e : Bool} {n : ℕ} (t : Tested bs ds e n) where
  pub over : length ds ≡ 0 → true ≡ there (trace_lines bs)
  over h = sym (t.same ∙ none_more (65535 - n) e ds h)

  -- no line more may stand there
  pub no_room : 65535 ≤ n → (b : Bool) → b ≡ eqb (length ds) 0 → b ≡ there (trace_lines bs)
  no_room h true z = over (empty ds z)
  no_room h false z =
      sym (t.same ∙ ap (λ (k : ℕ). there (lines_in k e ds)) (turns_over 65535 n h) ∙ too_many e ds (not_empty ds z))

  module _ (h : n < 65535) (z : length ds ≡ 0 → ⊥) where
    turned : there (trace_lines bs) ≡ there (followed e (line_at ds).line (line_at ds).rest (lines_in (65535 - (n + 1)) (not (is_call (line_at ds).line))))
    turned = t.same ∙ ap (λ (k : ℕ). there (lines_in k e ds)) (turn_left 65535 n h) ∙ ap there (first_line (65535 - (n + 1)) e ds z)

    pub other_form : (line_at ds).rest ≡ none → false ≡ there (trace_lines bs)
    unfolding followed there
    other_form f =
        sym (turned
        ∙ ap (λ (r : Option (List ℕ)). there (followed e (line_at ds).line r (lines_in (65535 - (n + 1)) (not (is_call (line_at ds).line))))) f)

    module _ {l : Line} {rs : List ℕ} (x : (l ≡ (line_at ds).line) × (some rs ≡ (line_at ds).rest)) {b : Bool} (q : b ≡ is_call l) where
      turned_to : there (trace_lines bs) ≡ there (followed e l (some rs) (lines_in (65535 - (n + 1)) (not (is_call l))))
      turned_to =
          turned
          ∙ ap (λ (r : Option (List ℕ)). there (followed e (line_at ds).line r (lines_in (65535 - (n + 1)) (not (is_call (line_at ds).line))))) (sym x.1)
          ∙ ap (λ (l : Line). there (followed e l (some rs) (lines_in (65535 - (n + 1)) (not (is_call l))))) (sym x.0)

      pub call_behind : both e b ≡ true → false ≡ there (trace_lines bs)
      unfolding followed there
      call_behind o = sym (turned_to ∙ ap there (halt _ _ (ap (both e) (sym q) ∙ o)))

      pub one_more : both e b ≡ false → Tested bs rs (not b) (n + 1)
      unfolding followed
      one_more o =
          record {
            same =
                turned_to
                ∙ ap there (pass _ (ap (both e) (sym q) ∙ o) refl)
                ∙ there_behind l (lines_in (65535 - (n + 1)) (not (is_call l)) rs)
                ∙ ap (λ (c : Bool). there (lines_in (65535 - (n + 1)) (not c) rs)) (sym q);
          }
