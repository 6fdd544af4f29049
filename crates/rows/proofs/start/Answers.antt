use mathlib.Core.Path.{◌∙◌}
use native.Mathlib.Omega.{arith}
use Rattle.workspace.proofs.Bits.{length_set_bit}
use Rattle.rows.proofs.ReachLaws.{started_more}
use Rattle.rows.proofs.start.Goals as goal

pub loop-q-init : goal.loop-q-init
loop-q-init c = (omega arith, c.requires.1)

pub loop-q-preserved : goal.loop-q-preserved
loop-q-preserved c =
    let l = c.loop-q in
    rw c.set.ensures (length_set_bit l.out l.q l.q ∙ l.invariant.0, started_more l.q l.out (omega arith) (omega (arith, l.invariant.0)) l.invariant.1)
