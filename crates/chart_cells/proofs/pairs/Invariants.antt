use Rattle.chart_cells.specs.Steps.{Adds, listed, paired}
use Rattle.chart_cells.proofs.pairs.Given as goal

-- the rows that the pairs before this one split over the two spans are added
abbrev pub invariant-loop-pair : goal.invariant-loop-pair
invariant-loop-pair l = Adds l.sp (paired (listed l.g) l.initial.work l.left l.right l.pair-index) l.initial.work l.work
