use mathlib.Core.Path.{sym, ◌∙◌}
use native.Mathlib.Omega.{arith}
use Rattle.sheet.proofs.Contents.{row_here}
use Rattle.sheet.proofs.Records.{record_room, record_below}
use Rattle.sheet.proofs.accepted.Sheet.row.Goals as goal

pub overflow_mul-i : goal.overflow_mul-i
overflow_mul-i c = omega (arith, record_room _ 2 (omega arith) _ _ c.args.self.now.good c.args.self.now.rows_at c.requires)

pub overflow_add-self : goal.overflow_add-self
overflow_add-self c = omega (arith, record_room _ 2 (omega arith) _ _ c.args.self.now.good c.args.self.now.rows_at c.requires)

pub row_at-requires : goal.row_at-requires
row_at-requires c = record_room _ 2 (omega arith) _ _ c.args.self.now.good c.args.self.now.rows_at c.requires

pub returns : goal.returns
returns c =
    let l = record_below c.args.self.now.rows_at c.requires in
    let e = rw c.args.self.now.rows_at.begins at c.row_at.ensures in
    record { same = e ∙ sym (row_here _ _ l); sound = rw e (c.args.self.now.good.rows c.args.i l) }
