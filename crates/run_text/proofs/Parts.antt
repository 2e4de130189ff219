-- The parts of a line: numbers, and an answer with its value.
use mathlib.Core.Path.{◌≡◌, ap, sym, ◌∙◌}
use mathlib.Core.List.{List}
use Prim.Native.Nat.{ℕ, ◌+◌, ◌^◌, ◌<◌, ◌≤◌}
use native.Mathlib.Omega.{arith}
use lib.ListN.{length}
use Rattle.spec_words.specs.Words.{pick}
use Rattle.spec_job.specs.Effects.{Word, refused}
use Rattle.spec_job.specs.Numbers.{word_numbered}
use Rattle.text.specs.Text.{ascii, decimal}
use Rattle.text.specs.Puts.{Puts, named, puts_then}
use Rattle.run_text.specs.Few.{number_ends, long_ends}
use Rattle.run_text.specs.Lines.{word_row, answer_text, printed_number, answered, spaced, ended, refused_line}

one_more : {m ws m1 m2 : List ℕ} {a b r : ℕ} (n : ℕ) → n < 2 ^ 32 → length ws ≡ 1 → Puts m a (decimal n) m1 b → Puts m1 b ws m2 r → r ≤ a + 11
one_more n h l p q = let f = number_ends n h p in let e = q.end in omega (arith, f, e, l)

-- the answer that has number i, and that of any other number
pub said : {m ws m1 : List ℕ} {a r : ℕ} (k i v : ℕ) → k ≡ i → ws ≡ answered i v → Puts m a ws m1 r → Puts m a (answered k v) m1 r
said k i v e f p = named (f ∙ ap (λ (j : ℕ). answered j v) (sym e)) p

pub said_refused : {m m1 : List ℕ} {a r : ℕ} (k v : ℕ) → word_numbered k ≡ refused → Puts m a (refused_line k) m1 r → Puts m a (answered k v)
    m1 r
unfolding answered answer_text word_row printed_number spaced refused_line ascii pick
said_refused k v e p = named (ap (λ (w : Word). answer_text w (printed_number w k v)) (sym e)) p

-- a number and one byte behind it
pub spaced_few : {m ws m1 m2 : List ℕ} {a b r : ℕ} (n : ℕ) → n < 2 ^ 32 → ws ≡ ascii " " → Puts m a (decimal n) m1 b → Puts m1 b ws m2 r
    → Puts m a (spaced (decimal n)) m2 r × (r ≤ a + 11)
unfolding spaced ascii
spaced_few n h e p q = (puts_then p (named e q), one_more n h (ap length e) p q)

pub spaced_long : {m ws m1 m2 : List ℕ} {a b r : ℕ} (n : ℕ) → n < 2 ^ 64 → ws ≡ ascii " " → Puts m a (decimal n) m1 b → Puts m1 b ws m2 r
    → Puts m a (spaced (decimal n)) m2 r × (r ≤ a + 21)
unfolding spaced ascii
spaced_long n h e p q = (puts_then p (named e q), let f = long_ends n h p in let g = q.end in let l = ap length e in omega (arith, f, g, l))

pub ended_few : {m ws m1 m2 : List ℕ} {a b r : ℕ} (n : ℕ) → n < 2 ^ 32 → ws ≡ ascii "\n" → Puts m a (decimal n) m1 b → Puts m1 b ws m2 r
    → Puts m a (ended (decimal n)) m2 r × (r ≤ a + 11)
unfolding ended ascii
ended_few n h e p q = (puts_then p (named e q), one_more n h (ap length e) p q)
