use mathlib.Core.Path.{sym, ◌∙◌}
use native.Mathlib.Omega.{arith}
use Rattle.sheet.proofs.Rows.{rows_few, rows_all}
use Rattle.rows.proofs.NullLaws.{null_yes, null_no}
use Rattle.rows.proofs.EmptiesRule4.turn.Goals as goal

pub returns-then-null_row : goal.returns-then-null_row
returns-then-null_row c =
    let sheet = c.args.self.now.sheet.now in
    let m = c.mark.ensures in
    null_yes _ _ _ c.row-row.ensures.same _ (omega (arith, rows_all sheet.rows_at)) (omega (arith, rows_few sheet.good sheet.rows_at)) (omega arith)
    (sym c.null_row.ensures ∙ c.if-null_row.true) m.0 m.1

pub returns-else-null_row : goal.returns-else-null_row
returns-else-null_row c = rw c.if-null_row.false (null_no _ _ _ c.row-row.ensures.same _ (sym c.null_row.ensures ∙ c.if-null_row.false))
