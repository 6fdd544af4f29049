use Rattle.sheet.proofs.Rows.{rows_all}
use Rattle.rows.proofs.NullLaws.{null_start, null_end}
use native.Mathlib.Omega.{arith}
use Rattle.rows.proofs.nulls.Goals as goal

pub returns : goal.returns
returns c =
    let p = c.settle.ensures in
    null_end _ _ (p.sound (null_start _ 4)) (λ r h. p.rows r (omega (arith, h, rows_all c.args.sheet.now.rows_at)))
