-- How long the numbers of a line are at most, by their bits.
use Rattle.std.specs.Prelude.{List, ℕ, ◌+◌, ◌^◌, ◌<◌, ◌≤◌, length}
use Rattle.std.proofs.Common.{arith}
use Rattle.text.specs.Text.{decimal}
use Rattle.text.specs.Decimal.{decimal_few, decimal_long}
use Rattle.text.specs.Puts.{Puts}

-- the position behind a text of at most b bytes
pub behind : {m ws m1 : List ℕ} {a r : ℕ} (b : ℕ) → length ws ≤ b → Puts m a ws m1 r → r ≤ a + b
behind b h p = let e = p.end in omega (arith, e, h)

pub number_ends : {m m1 : List ℕ} {a r : ℕ} (n : ℕ) → n < 2 ^ 32 → Puts m a (decimal n) m1 r → r ≤ a + 10
number_ends n h p = behind 10 (decimal_few n h) p

pub long_ends : {m m1 : List ℕ} {a r : ℕ} (n : ℕ) → n < 2 ^ 64 → Puts m a (decimal n) m1 r → r ≤ a + 20
long_ends n h p = behind 20 (decimal_long n h) p
