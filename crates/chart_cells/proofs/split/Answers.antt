use mathlib.Core.Path.{sym, ◌∙◌}
use lib.ListN.{length}
use Rattle.chart_cells.specs.Steps.{listed}
use Rattle.chart_cells.proofs.Splitting.{over_left, over_right}
use Rattle.chart_cells.proofs.split.Goals.{then-none-via-then-none, then-none-via-else-none+then-none-2}
use Rattle.chart_cells.proofs.split.Goals as goal

pub returns-then-none : goal.returns-then-none
returns-then-none c =
    let a = c.args in
    let p = listed a.g.now in
    elim c.then-none.branch [
      | then-none-via-then-none w ↦ over_left p a.left a.right a.sp (length p) a.work.now (sym c.none.ensures ∙ w.if-none.true)
      | then-none-via-else-none+then-none-2 w ↦ over_right p a.left a.right a.sp (length p) a.work.now (sym w.none-else-none.ensures ∙ w.if-none-2.true)
    ]
