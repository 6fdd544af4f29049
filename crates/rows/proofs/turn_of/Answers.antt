use native.Mathlib.Omega.{arith}
use Rattle.rows.proofs.turn_of.Goals as goal

pub returns-then-down : goal.returns-then-down
returns-then-down c = (rw c.if-down.true, omega arith)
