-- A block of lines at the start of lent bytes.
use Rattle.std.specs.Prelude.{◌≡◌, List, ℕ, ◌+◌, ◌*◌, ◌≤◌, length, take}
use Rattle.std.proofs.Common.{sym, le_antisymm, arith, length-take-le}
use Rattle.text.specs.Puts.{Puts, puts_then, puts_first, puts_whole}
use Rattle.block_text.specs.Lines.{lines_from, lines_more}

-- the first r bytes of m, or words, are ws
pub record Block (m : List ℕ) (r : ℕ) (ws : List ℕ) : Type 0 where
  pub inside : r ≤ length m
  pub counted : r ≡ length (take r m)
  pub text : take r m ≡ ws

-- text at the start of bytes that hold all of it
pub block : {m ws m' : List ℕ} {r : ℕ} → length m' ≡ length m → r ≤ length m → Puts m 0 ws m' r → Block m' r ws
block {m} {ws} {m'} {r} e h p =
    record {
      inside = omega (arith, e, h);
      counted = sym (length-take-le r m' (omega (arith, e, h)));
      text = puts_whole p (let f = p.end in omega (arith, f, h));
    }

-- no line, and one line more
pub no_lines : (f : ℕ → List ℕ) (m : List ℕ) (i : ℕ) → Puts m 0 (lines_from f i 0) m 0
unfolding lines_from
no_lines f m i = puts_first m 0

pub one_line : (f : ℕ → List ℕ) (i n : ℕ) {m m1 m2 : List ℕ} {a b : ℕ} → Puts m 0 (lines_from f i n) m1 a → Puts m1 a (f (i + n)) m2 b
    → Puts m 0 (lines_from f i (n + 1)) m2 b
one_line f i n p q = rw (lines_more f n i) (puts_then p q)

-- all lines of a block
pub all_lines : (f : ℕ → List ℕ) (first i n : ℕ) {m m1 : List ℕ} {a : ℕ} → length m1 ≡ length m → 65536 ≤ length m → n ≤ 1024 → i ≤ n → n ≤ i → a ≤ i * 52
    → Puts m 0 (lines_from f first i) m1 a → Block m1 a (lines_from f first n)
all_lines f first i n e h k l g b p = rw (← le_antisymm l g) (block e (omega arith) p)
