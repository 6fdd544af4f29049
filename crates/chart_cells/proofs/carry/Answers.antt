use mathlib.Core.Path.{sym, ◌∙◌}
use native.Mathlib.Omega.{arith}
use Rattle.chart_cells.proofs.Grounding.{row_below, chained}
use Rattle.chart_cells.proofs.Carrying.{carry_turn, carry_done, carry_none}
use Rattle.chart_cells.proofs.carry.Goals as goal

pub returns-then-none : goal.returns-then-none
returns-then-none c =
    let a = c.args in
    carry_none a.g.now.reach.now a.sp a.g.now.sheet.now.rows.count a.work.now (sym c.none.ensures ∙ c.if-none.true)

pub bring-requires : goal.bring-requires
bring-requires c = (row_below c.args.g.now c.loop-q.q c.loop-q-test.true, c.requires)

pub loop-q-preserved : goal.loop-q-preserved
loop-q-preserved c =
    let a = c.args in
    let l = c.loop-q in
    carry_turn a.g.now.reach.now a.sp a.g.now.sheet.now.rows.count a.work.now l.work _ l.q (chained a.g.now) (row_below a.g.now l.q c.loop-q-test.true) c.loop-q-test.true l.invariant c.bring.ensures

pub returns : goal.returns
returns c =
    let a = c.args in
    let l = c.loop-q in
    carry_done a.g.now.reach.now a.sp a.g.now.sheet.now.rows.count a.work.now l.work l.q (omega arith) l.invariant
