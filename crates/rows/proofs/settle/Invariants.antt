use Rattle.workspace.specs.Room.{room}
use Rattle.rows.proofs.settle.Given as goal

-- what was sound still is
abbrev pub invariant-loop-down : goal.invariant-loop-down
invariant-loop-down g l = let rule = g.R.Rule in rule.sound l.rule l.initial.out → rule.sound l.rule l.out

abbrev pub decreases-loop-down : goal.decreases-loop-down
decreases-loop-down g l = room l.out
