use mathlib.Core.Path.{refl}
use native.Mathlib.Omega.{arith}
use Rattle.sheet.proofs.Rows.{rows_all, row_wide}
use Rattle.rows.proofs.ByKind.{steps_in}
use Rattle.rows.proofs.ReachLaws.{steps_null, reach_turned}
use Rattle.rows.proofs.ReachingRule1024.turn.Goals as goal

pub returns : goal.returns
returns c =
    let sheet = c.args.self.now.sheet.now in
    let one = c.pass_on-x in
    let two = c.pass_on-y in
    let to = steps_in _ _ _ _ c.steps_of-a.ensures (row_wide sheet.good c.row.ensures) in
    reach_turned _ _ _ c.row.ensures.same (omega (arith, rows_all sheet.rows_at)) (steps_null _ c.args.self.now.empties c.steps_of-a.ensures)
    (λ p h. omega (arith, to.0 p h)) (λ p h. omega (arith, to.1 p h)) one.ensures.0 two.ensures.0
    one.result two.result one.ensures.1 two.ensures.1 refl
