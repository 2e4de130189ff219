-- What the code of the rings knows of a queue from the words that it has read.
use mathlib.Core.Path.{◌≡◌, ap, sym, ◌∙◌}
use mathlib.Core.List.{List}
use Rattle.std.specs.Prelude.{Some as known, None as unknown, slice_get}
use Rattle.std.proofs.lemmas.Option.{slice_get-get_or, slice_get_past}
use Prim.Native.Nat.{ℕ, ◌+◌, ◌<◌, ◌≤◌}
use native.Mathlib.Omega.{arith}
use lib.ListN.{length, get_or, set}
use lib.Seq.{set_out}
use Rattle.spec_words.specs.Words.{load}
use Rattle.spec_plain.specs.Machine.{queue}
use Rattle.spec_serial.specs.Working.{place_at, first_at, count_at, ring, lists}
use Rattle.serial_queues.specs.Rings.{queue_ring, queue_length, queue_there, ring_at}

-- the count of a queue that is not empty
pub counted : (w : List ℕ) (q : ℕ) {n : ℕ} → n ≡ length (queue (lists w) q) → (n ≡ 0 → ⊥) → n ≡ load w (count_at q)
counted w q {n} e x = e ∙ queue_length w q (queue_there w q n e x)

-- value number i of a queue, and none
pub value_there : (w : List ℕ) (q : ℕ) {n h v : ℕ} (i : ℕ) → n ≡ length (queue (lists w) q) → i < n → h ≡ load w (first_at q) → v ≡ load w (place_at q (h + i))
    → known v ≡ slice_get (queue (lists w) q) i
unfolding ring
value_there w q {n} i e l eh ev =
    ap known
    (ev
    ∙ ap (λ (k : ℕ). load w (place_at q (k + i))) eh
    ∙ sym (ring_at w q (load w (first_at q)) (load w (count_at q)) i (let z = counted w q e held in omega (arith, z, l)))
    ∙ ap (λ (xs : List ℕ). get_or xs i 0) (sym (queue_ring w q (queue_there w q n e held))))
    ∙ sym (slice_get-get_or (queue (lists w) q) i 0 (omega (arith, e, l)))
  where
    held : n ≡ 0 → ⊥
    held z = omega (arith, z, l)

pub value_none : (w : List ℕ) (q : ℕ) {n : ℕ} (i : ℕ) → n ≡ length (queue (lists w) q) → n ≤ i → unknown ≡ slice_get (queue (lists w) q) i
value_none w q i e l = sym (slice_get_past (queue (lists w) q) i (omega (arith, e, l)))

-- there is no list to add to
pub no_queue : (w : List ℕ) (q : ℕ) (xs : List ℕ) → 4 ≤ q → lists w ≡ set (lists w) q xs
unfolding lists
no_queue w q xs h = sym (set_out (lists w) q xs h)

-- room for one value more
pub fewer : (w : List ℕ) (q : ℕ) {n : ℕ} → q < 4 → n ≡ load w (count_at q) → length (queue (lists w) q) < 4096 → n < 4096
fewer w q l e h = let z = queue_length w q l in omega (arith, z, e, h)
