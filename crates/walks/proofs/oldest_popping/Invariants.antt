-- d is the oldest so far; going on from c gives what going through all siblings gives.
use mathlib.Core.Path.{◌≡◌}
use Prim.Native.Nat.{◌-◌}
use mathlib.Core.Bool.{not}
use lib.Dec.{eqb}
use Rattle.spec_words.specs.Words.{both}
use Rattle.spec_layout.specs.Layout.{rights_of, record_of}
use Rattle.spec_tree.specs.Tour.{oldest}
use Rattle.spec_tree.specs.Rights.{pops}
use Rattle.walks.proofs.oldest_popping.Given as goal

abbrev pub invariant-loop : goal.invariant-loop
invariant-loop l = oldest (128 - l.counter) (λ c. both (not (eqb c l.t)) (pops (rights_of l.m c) l.q)) (record_of l.m) l.c l.d ≡ oldest 128 (λ c. both (not (eqb c l.t)) (pops (rights_of l.m c) l.q))
    (record_of l.m) l.from l.p
