-- Whole lines, from their parts.
use mathlib.Core.Path.{◌≡◌, refl, ap, sym, ◌∙◌}
use mathlib.Core.List.{List}
use Prim.Native.Nat.{ℕ, ◌<◌, ◌≤◌}
use borrow.Author.Tests.{lt-ltb, le-ltb}
use Rattle.spec_words.specs.Words.{halt, pass}
use Rattle.text.specs.Text.{ascii, decimal}
use Rattle.text.specs.Puts.{Puts, named, puts_then, puts_first}
use Rattle.run_text.specs.Lines.{answered, call_line, spaced, ended, line, left_line, refused_line, end_line}
use Rattle.spec_serial.specs.declared.End.{End}
use Rattle.spec_serial.specs.declared.End.TheVariants.{Ended, Spent, Refused}

pub whole_line : {m m1 m2 m3 : List ℕ} {p0 p1 p2 p3 : ℕ} (n t k v : ℕ) → Puts m p0 (spaced (decimal n)) m1 p1 → Puts m1 p1 (spaced (decimal t)) m2 p2
    → Puts m2 p2 (answered k v) m3 p3 → Puts m p0 (line n t k v) m3 p3
unfolding line call_line answered
whole_line n t k v a b c = puts_then (puts_then a b) c

pub whole_left : {m ws m1 m2 m3 : List ℕ} {p0 p1 p2 p3 : ℕ} (q v : ℕ) → ws ≡ ascii "left " → Puts m p0 ws m1 p1 → Puts m1 p1 (spaced (decimal q)) m2 p2
    → Puts m2 p2 (ended (decimal v)) m3 p3 → Puts m p0 (left_line q v) m3 p3
unfolding left_line
whole_left q v e a b c = puts_then (puts_then (named e a) b) c

module _ {m m1 : List ℕ} {p1 : ℕ} (e : End) where
  pub end_spent : {ws : List ℕ} → e ≡ Spent → ws ≡ ascii "spent\n" → Puts m 0 ws m1 p1 → Puts m 0 (end_line e) m1 p1
  unfolding end_line
  end_spent h f p = named (f ∙ ap end_line (sym h)) p

  pub end_refused : (k : ℕ) → e ≡ Refused k → k < 10 → Puts m 0 (refused_line k) m1 p1 → Puts m 0 (end_line e) m1 p1
  unfolding end_line
  end_refused k h l p = named (sym (halt _ _ (lt-ltb k 10 l)) ∙ ap end_line (sym h)) p

  pub end_job : {ws m0 : List ℕ} {p0 : ℕ} (k : ℕ) → e ≡ Refused k → 10 ≤ k → ws ≡ ascii "job " → Puts m 0 ws m0 p0 → Puts m0 p0 (refused_line k) m1 p1
      → Puts m 0 (end_line e) m1 p1
  unfolding end_line
  end_job k h l f p q = named (sym (pass _ (le-ltb k 10 l) refl) ∙ ap end_line (sym h)) (puts_then (named f p) q)

pub end_ended : (m : List ℕ) (e : End) → e ≡ Ended → Puts m 0 (end_line e) m 0
unfolding end_line
end_ended m e h = named (ap end_line (sym h)) (puts_first m 0)
