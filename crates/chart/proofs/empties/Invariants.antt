use Rattle.chart.specs.Cells.{emptied, Filled}
use Rattle.chart.proofs.empties.Given as goal

-- the empty spans before i are filled
abbrev pub invariant-loop-i : goal.invariant-loop-i
invariant-loop-i l = Filled (emptied l.empty) l.n 0 l.i l.work
