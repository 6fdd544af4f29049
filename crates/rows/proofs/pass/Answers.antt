use Rattle.rows.proofs.Passes.{pass_done}
use native.Mathlib.Omega.{arith}
use Rattle.rows.proofs.pass.Goals as goal

pub returns : goal.returns
returns g c = rw (← c.count-n.ensures) (pass_done _ _ _ _ c.loop-j.invariant (omega arith))
