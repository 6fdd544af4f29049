use lib.ListN.{length}
use Rattle.chart.specs.Cells.{derivable, Filled}
use Rattle.chart.proofs.fill.Given as goal

-- the spans of fewer than m places are filled
abbrev pub invariant-loop-m : goal.invariant-loop-m
invariant-loop-m l = Filled (derivable l.g.sheet.now.bytes.now l.places) (length l.places) l.m 0 l.work
