use Prim.Native.Nat.{◌+◌}
use native.Mathlib.Omega.{arith}
use Rattle.chart.specs.Cells.{emptied}
use Rattle.chart.proofs.Filling.{filled_more, filled_level}
use Rattle.chart.proofs.Charting.{empty_cell}
use Rattle.chart.proofs.empties.Goals as goal

pub loop-i-preserved : goal.loop-i-preserved
loop-i-preserved c =
    let a = c.args in
    let l = c.loop-i in
    filled_more (emptied a.empty.now) a.n 0 l.i l.work _ l.invariant (empty_cell a.empty.now l.work _ _ l.i c.span-sp.ensures.0 (omega arith) (omega arith) c.copy.ensures)

pub returns-2 : goal.returns-2
returns-2 c =
    let a = c.args in
    let l = c.loop-i in
    filled_level (emptied a.empty.now) a.n 0 (l.i + 1) _ (omega arith)
    (filled_more (emptied a.empty.now) a.n 0 l.i l.work _ l.invariant (empty_cell a.empty.now l.work _ _ l.i c.span-sp.ensures.0 (omega arith) (omega arith) c.copy.ensures))
