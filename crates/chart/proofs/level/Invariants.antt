use lib.ListN.{length}
use Rattle.chart.specs.Cells.{derivable, Filled}
use Rattle.chart.proofs.level.Given as goal

-- the spans of m places before i are filled
abbrev pub invariant-loop-i : goal.invariant-loop-i
invariant-loop-i l = Filled (derivable l.g.sheet.now.bytes.now l.places) (length l.places) l.m l.i l.work
