use native.Mathlib.Omega.{arith}
use Rattle.chart.proofs.Charting.{cell_of}
use Rattle.chart.proofs.cell.Goals as goal

pub returns : goal.returns
returns c =
    let p = c.requires in
    cell_of c.args.g.now _ p.0 _ _ _ _ _ _ _ _ _ (omega arith) p.1 p.2 c.span-sp.ensures.0 p.3
    c.wipe.ensures c.singles.ensures c.texts.ensures c.splits.ensures c.carry.ensures
