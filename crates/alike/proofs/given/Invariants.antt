use Rattle.alike.specs.Slots.{Slotted}
use Rattle.alike.proofs.given.Given as goal

-- the first b bytes have their slots
abbrev pub invariant-loop-b : goal.invariant-loop-b
invariant-loop-b l = Slotted l.ws l.free l.owners l.of l.b
