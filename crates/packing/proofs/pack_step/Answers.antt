-- Each arm is one case of `packed_step`; a value of 32 bits fits its half.
use mathlib.Core.Path.{◌≡◌, ap, sym, ◌∙◌}
use Prim.Native.Nat.{ℕ, ◌<◌}
use native.Mathlib.Omega.{arith}
use Rattle.spec_runner.specs.declared.StepAnswer.{StepAnswer}
use Rattle.spec_runner.specs.Answers.{value_of}
use Rattle.spec_runner.specs.Packed.{packed_step, Packs}
use Rattle.packing.proofs.pack_step.Goals as goal

packs : (b : StepAnswer) {a : StepAnswer} {p : ℕ} → a ≡ b → p ≡ packed_step b → value_of b < 4294967296 → Packs a p
packs b e f h = record { whole = f ∙ sym (ap packed_step e); value = rw (e) h }

pub returns-in-Spawned : goal.returns-in-Spawned
returns-in-Spawned c = unfold value_of in packs _ c.in-Spawned.is c.pack.ensures (omega arith)

pub returns-in-Pushed : goal.returns-in-Pushed
returns-in-Pushed c = unfold value_of in packs _ c.in-Pushed.is c.pack-in-Pushed.ensures (omega arith)

pub returns-in-Took : goal.returns-in-Took
returns-in-Took c = unfold value_of in packs _ c.in-Took.is c.pack-in-Took.ensures (omega arith)

pub returns-in-Finished : goal.returns-in-Finished
returns-in-Finished c = unfold value_of in packs _ c.in-Finished.is c.pack-in-Finished.ensures (omega arith)

pub returns-in-Moved : goal.returns-in-Moved
returns-in-Moved c = unfold value_of in packs _ c.in-Moved.is c.pack-in-Moved.ensures (omega arith)

pub returns-in-Empty : goal.returns-in-Empty
returns-in-Empty c = unfold value_of in packs _ c.in-Empty.is c.pack-in-Empty.ensures (omega arith)

pub returns-in-NotEmpty : goal.returns-in-NotEmpty
returns-in-NotEmpty c = unfold value_of in packs _ c.in-NotEmpty.is c.pack-in-NotEmpty.ensures (omega arith)

pub returns-in-Waits : goal.returns-in-Waits
returns-in-Waits c = unfold value_of in packs _ c.in-Waits.is c.pack-in-Waits.ensures (omega arith)

pub returns-in-Refused : goal.returns-in-Refused
returns-in-Refused c = unfold value_of in packs _ c.in-Refused.is c.pack-in-Refused.ensures (omega arith)
