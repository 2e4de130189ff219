-- What goes over the queues: a test of each, and what finish returns of them before the task leaves.
use mathlib.Core.Path.{◌≡◌, refl, sym}
use mathlib.Core.Bool.{Bool, true, false, ◌&&◌}
use mathlib.Core.List.{List}
use Prim.Native.Nat.{ℕ}
use Rattle.std.specs.List.{list_all, range_with_len}
use Rattle.memory.specs.Queues.{done_below}
use Rattle.spec_words.specs.Words.{both, pick}
use Rattle.spec_tree.specs.Rights.{each_queue}
use Rattle.spec_outcomes.specs.Finish.{finished_queue, unlinked, freed_record, finished}

queues_finished : (m : List ℕ) (t : ℕ) → finished m t ≡ freed_record (unlinked (done_below (λ m q. finished_queue m t q) 4 m) t) t
unfolding done_below finished
queues_finished m t = refl

pub all_finished : (m m1 m2 m3 : List ℕ) (t q : ℕ) → m1 ≡ done_below (λ m q. finished_queue m t q) q m → q ≡ 4 → m2 ≡ unlinked m1 t → m3 ≡ freed_record m2 t → m3 ≡ finished m t
all_finished m m1 m2 m3 t q e1 l e2 e3 = rw (e3, e2, e1, l) (sym (queues_finished m t))

pub each_of_four : (f : ℕ → Bool) → list_all f (range_with_len 0 4) ≡ each_queue f
unfolding each_queue both pick
each_of_four f = go (f 0) (f 1) (f 2) (f 3)
  where
    go : (a b c d : Bool) → (a && (b && (c && (d && true)))) ≡ pick a (pick b (pick c d false) false) false
    go false b c d = refl
    go true false c d = refl
    go true true false d = refl
    go true true true false = refl
    go true true true true = refl
