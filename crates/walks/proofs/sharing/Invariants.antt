-- No sibling before c shares a right, so seeking from c gives what seeking from the first gives.
use mathlib.Core.Path.{◌≡◌}
use Prim.Native.Nat.{◌-◌}
use Rattle.spec_layout.specs.Layout.{rights_of, record_of}
use Rattle.spec_tree.specs.Tour.{sibling}
use Rattle.spec_tree.specs.Rights.{shares_pop}
use Rattle.walks.proofs.sharing.Given as goal

abbrev pub invariant-loop : goal.invariant-loop
invariant-loop l = sibling (128 - l.counter) (λ c. shares_pop (rights_of l.m c) l.a) (record_of l.m) l.c ≡ sibling 128 (λ c. shares_pop (rights_of l.m c) l.a) (record_of l.m) l.from
