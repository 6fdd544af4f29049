use Prim.Native.Nat.{◌+◌}
use Rattle.chart.proofs.Filling.{filled_more, filled_level}
use native.Mathlib.Omega.{arith}
use Rattle.chart.proofs.level.Goals as goal

pub loop-i-preserved : goal.loop-i-preserved
loop-i-preserved c =
    let l = c.loop-i in
    filled_more _ _ _ l.i _ _ l.invariant c.cell.ensures

pub returns-2 : goal.returns-2
returns-2 c =
    let l = c.loop-i in
    filled_level _ _ _ (l.i + 1) _ (omega arith) (filled_more _ _ _ l.i _ _ l.invariant c.cell.ensures)
