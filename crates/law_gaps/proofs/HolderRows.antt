-- NO MARK CHANGES: the queue view goes to another task; what the line does not have is written.
use Rattle.std.specs.Prelude.{◌≡◌, ℕ}
use Rattle.std.proofs.Math.Path.{refl}
use Rattle.law_gaps.specs.Line.{Line, first_chain}
use Rattle.law_gaps.specs.Store.{head_of, Memory, Laid, timeline}
use Rattle.law_gaps.specs.Moves.{queue_passed}
use Rattle.law_gaps.proofs.Heads.{only_moved, only_still}
use Rattle.law_gaps.proofs.After.{After}

module _ (own : ℕ → ℕ) (m : Memory) (l : Line) where
  -- the line, the segments and their values are the same
  unmoved : (m' : Memory) (holder : ℕ) → m'.store.next ≡ m.store.next → m'.store.contents ≡ m.store.contents → Laid own m' holder l
      → After own m.store m' holder l (timeline m.store.contents l)
  unmoved m' holder e f r = record { line = l; laid = r; outlined = refl; points = rw f refl; kept = λ x k. (rw e refl, rw f refl) }

  module _ (t c : ℕ) (n : c ≡ t → ⊥) where
    -- THE QUEUE VIEW goes from its holder t to c.
    pub queue_row : Laid own m t l → After own m.store (queue_passed t c m) c l (timeline m.store.contents l)
    unfolding queue_passed
    queue_row r =
        unmoved (queue_passed t c m) c refl refl
        (record {
          views = r.views;
          dist = r.dist;
          held = record { chains = r.held.chains; head = only_moved m.store.heads t c (head_of (first_chain l)) n r.held.head };
          closed = r.closed;
        })

    -- neither t nor c is its holder
    pub queue_still_row : (holder : ℕ) → (t ≡ holder → ⊥) → (c ≡ holder → ⊥) → Laid own m holder l
        → After own m.store (queue_passed t c m) holder l (timeline m.store.contents l)
    unfolding queue_passed
    queue_still_row holder p q r =
        unmoved (queue_passed t c m) holder refl refl
        (record {
          views = r.views;
          dist = r.dist;
          held = record { chains = r.held.chains; head = only_still m.store.heads t c (head_of (first_chain l)) n holder p q r.held.head };
          closed = r.closed;
        })
