use native.Mathlib.Omega.{arith}
use Rattle.sheet.proofs.Rows.{rows_all}
use Rattle.groundwork.proofs.Laying.{lengths_done}
use Rattle.groundwork.proofs.lengths.Goals as goal

pub returns : goal.returns
returns c = lengths_done _ c.loop-q.q _ (omega (arith, rows_all c.args.sheet.now.rows_at)) c.loop-q.invariant
