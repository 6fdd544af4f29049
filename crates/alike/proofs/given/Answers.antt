use mathlib.Core.Path.{refl}
use native.Mathlib.Omega.{arith}
use Rattle.alike.proofs.Holding.{zero_at}
use Rattle.alike.proofs.Giving.{slotted_none, slotted_same, slotted_more, slotted_given}
use Rattle.alike.proofs.given.Goals.{in-Some, in_default}
use Rattle.alike.proofs.given.Goals as goal

pub loop-b-init : goal.loop-b-init
loop-b-init c = slotted_none _ _ _ _ refl refl (zero_at 256)

pub loop-b-preserved : goal.loop-b-preserved
loop-b-preserved c =
    let l = c.loop-b in
    elim c.match-place_for.branch [
      | in-Some w ↦ rw (w.of-is, w.owners-is) (slotted_more _ _ _ _ _ l.invariant w.in-Some.k w.in-Some.ensures (omega arith))
      | in_default w ↦ rw (w.of-is, w.owners-is) (slotted_same _ _ _ _ _ l.invariant)
    ]

pub returns : goal.returns
returns c = slotted_given _ _ _ _ _ c.loop-b.invariant

pub invariant_of-result : goal.invariant_of-result
invariant_of-result c = record { small = c.loop-b.invariant.below }
