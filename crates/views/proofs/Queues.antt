-- Sync goes over the queues.
use mathlib.Core.Path.{◌≡◌, refl}
use mathlib.Core.List.{List}
use Prim.Native.Nat.{ℕ}
use Rattle.memory.specs.Queues.{done_below}
use Rattle.spec_outcomes.specs.Sync.{synced_queue, synced}

pub all_synced : (m : List ℕ) (t : ℕ) → synced m t ≡ done_below (λ m q. synced_queue m t q) 4 m
unfolding done_below synced
all_synced m t = refl
