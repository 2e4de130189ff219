-- Each task's word, written along the list of its siblings from the oldest on: the rights of those that came before.
use Rattle.std.specs.Prelude.{◌≡◌, refl, Bool, not, List, ℕ, zero, suc, ◌<◌, ◌≤◌, leb, ltb}
use Rattle.std.specs.Int.Bits.{bit_or}
use Rattle.std.proofs.Common.{le-leb}
use Rattle.std.proofs.lemmas.Bool.{lt-leb}
use Rattle.spec_words.specs.Words.{store, pick, pass, halt, both}
use Rattle.spec_layout.specs.Layout.{OLDER, YOUNGER, task, rights_of, read}
use Rattle.spec_outcomes.specs.Waits.{unfinished}

-- c and its younger siblings, at most n of them, where w has the rights of the older ones
unfoldable pub noted : ℕ → List ℕ → ℕ → ℕ → List ℕ → List ℕ
noted zero m c w a = a
noted (suc n) m c w a =
    let rest = noted n m (read m (task c YOUNGER)) (bit_or (rights_of m c) w) (store a c w) in
    pick (leb 128 c) a rest

pub noted_step : (n : ℕ) (m : List ℕ) (c w : ℕ) (a : List ℕ) → c < 128
    → noted (suc n) m c w a ≡ noted n m (read m (task c YOUNGER)) (bit_or (rights_of m c) w) (store a c w)
unfolding noted
noted_step n m c w a l = pass _ (lt-leb 128 c l) refl

pub noted_past : (n : ℕ) (m : List ℕ) (c w : ℕ) (a : List ℕ) → 128 ≤ c → noted n m c w a ≡ a
unfolding noted
noted_past zero m c w a l = refl
noted_past (suc n) m c w a l = halt _ _ (le-leb 128 c l)

-- t is the oldest of several siblings
unfoldable pub is_oldest : List ℕ → ℕ → Bool
is_oldest m t = both (unfinished m t) (both (not (ltb (read m (task t OLDER)) 128)) (ltb (read m (task t YOUNGER)) 128))

unfoldable pub family_noted : List ℕ → ℕ → List ℕ → List ℕ
family_noted m t a = pick (is_oldest m t) (noted 128 m t 0 a) a

-- the families whose oldest is below n
unfoldable pub all_noted : ℕ → List ℕ → List ℕ → List ℕ
all_noted zero m a = a
all_noted (suc n) m a = family_noted m n (all_noted n m a)
