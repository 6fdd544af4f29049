use Rattle.alike.specs.Slots.{between, Added}
use Rattle.alike.proofs.ranges.hold.Given as goal

-- row r is in the entries of the bytes from lo on that are below b
abbrev pub invariant-loop-b : goal.invariant-loop-b
invariant-loop-b l = Added (between l.lo l.b) l.r l.initial.ws l.ws
