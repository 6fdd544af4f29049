use Rattle.chart_cells.proofs.Carrying.{Carrying}
use Rattle.chart_cells.proofs.carry.Given as goal

-- the rows that reach one of the first q that the span held are added
abbrev pub invariant-loop-q : goal.invariant-loop-q
invariant-loop-q l = Carrying l.g.reach.now l.sp l.g.sheet.now.rows.count l.initial.work l.work l.q
