use Rattle.chart.proofs.Charting.{empties_right}
use Rattle.chart.proofs.fill.Goals as goal

pub loop-m-init : goal.loop-m-init
loop-m-init c = empties_right c.args.g.now _ _ c.empties.ensures
