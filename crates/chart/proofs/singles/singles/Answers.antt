use Rattle.sheet.proofs.Rows.{rows_all}
use Rattle.chart_cells.proofs.Adding.{adds_none, adds_same, adds_joined}
use Rattle.chart.proofs.Owning.{long_range}
use Rattle.chart.proofs.Rows.{known_single, unknown_single}
use native.Mathlib.Omega.{arith}
use Rattle.chart.proofs.singles.singles.Goals as goal

pub returns-then-m-ne1 : goal.returns-then-m-ne1
returns-then-m-ne1 c = adds_none _ _ _ (λ r. long_range _ _ _ _ r c.if-m-ne1.true)

pub returns-in-Some : goal.returns-in-Some
returns-in-Some c =
    adds_same _ _ _ _ _ c.ranges-in-Some.ensures (λ r h. known_single _ c.args.places.now _ (rows_all c.args.g.now.sheet.now.rows_at) _ _ _ c.if-m-ne1.false c.in-Some.is r)

pub returns-in-None : goal.returns-in-None
returns-in-None c =
    let a = c.args in
    rw c.join.ensures
    (adds_same _ _ _ _ _ (adds_joined a.work.now a.sp a.g.now.ranges 0 (omega arith)) (λ r h. unknown_single a.g.now a.places.now _ _ c.if-m-ne1.false c.in-None.is r h))
