use mathlib.Core.Path.{sym, ◌∙◌}
use native.Mathlib.Omega.{arith}
use Rattle.chart_cells.proofs.Adding.{adds_joined}
use Rattle.chart_cells.proofs.Carrying.{bring_none, bring_all}
use Rattle.chart_cells.proofs.bring.Goals as goal

pub returns-then-test : goal.returns-then-test
returns-then-test c =
    let a = c.args in
    rw c.join.ensures
    (bring_all a.g.now.reach.now a.sp a.work.now _ a.q (sym c.test.ensures ∙ c.if-test.true)
    (adds_joined a.work.now a.sp a.g.now.reach.now a.q (omega arith)))

pub returns-else-test : goal.returns-else-test
returns-else-test c =
    let a = c.args in
    bring_none a.g.now.reach.now a.sp a.work.now a.q (sym c.test.ensures ∙ c.if-test.false)
