-- What a replay hands to a host: the packed answer; of the words that were lent only that a refusal leaves them as they were.
use Rattle.std.specs.Prelude.{◌≡◌, List, ℕ, ◌+◌, ◌*◌, ◌<◌}
use Rattle.std.proofs.Common.{sym, ◌∙◌, subst}
use Rattle.spec_replay.specs.declared.Replayed.{Replayed}
use Rattle.spec_replay.specs.declared.Replayed.TheVariants.{Agrees, Differs, Refused}
use Rattle.spec_replay.specs.Replay.{replay_answer}
use Rattle.replay.specs.Judged.{Replays}

-- numbers that no refusal has
abbrev pub DIFFERS : ℕ
DIFFERS = 36

abbrev pub AGREES : ℕ
AGREES = 37

-- the status in the high half, the number of a line in the low half
abbrev pub status_of : Replayed → ℕ
status_of Agrees = AGREES
status_of (Differs n) = DIFFERS
status_of (Refused k) = k

abbrev pub line_of : Replayed → ℕ
line_of Agrees = 0
line_of (Differs n) = n
line_of (Refused k) = 0

-- the number p is answer a; the line's number fits its half, so that it can be taken apart again
pub record PacksReplay (a : Replayed) (p : ℕ) : Type 0 where
  pub whole : p ≡ status_of a * 4294967296 + line_of a
  pub line : line_of a < 4294967296

pub packs : (b : Replayed) {a : Replayed} {p : ℕ} → a ≡ b → p ≡ status_of b * 4294967296 + line_of b → line_of b < 4294967296 → PacksReplay a p
packs b {a} {p} e f h = subst (λ (x : Replayed). PacksReplay x p) (sym e) (record { whole = f; line = h })

-- a host is handed the number p, and the words m' and r' in place of m and r
pub record ReplayHanded (p : ℕ) (m' r' j bs m r : List ℕ) : Type 0 where
  pub answer : PacksReplay (replay_answer j bs m r) p
  pub refused : (k : ℕ) → replay_answer j bs m r ≡ Refused k → (m' ≡ m) × (r' ≡ r)

pub replay_handed : {a : Replayed} {p : ℕ} {m' r' j bs m r : List ℕ} → Replays j bs m r a m' r' → PacksReplay a p → ReplayHanded p m' r' j bs m r
replay_handed {a} {p} e f = record { answer = subst (λ (x : Replayed). PacksReplay x p) e.answer f; refused = λ k z. e.refused k (e.answer ∙ z) }
