use mathlib.Core.Path.{◌≡◌}
use lib.ListN.{length}
use Rattle.rows.specs.Sets.{Started}
use Rattle.rows.proofs.start.Given as goal

-- of the first q entries each holds its own row alone
abbrev pub invariant-loop-q : goal.invariant-loop-q
invariant-loop-q l = (length l.out ≡ 1024) × Started l.q l.out
