use Rattle.walk_state.proofs.Ranges.{JoinedTo}
use Rattle.walk_state.proofs.Letters.with.Given as goal

-- the bytes from low up to b are letters now, the others as they were
abbrev pub invariant-loop-b : goal.invariant-loop-b
invariant-loop-b l = JoinedTo l.initial.self.of l.low l.high l.b l.self.of
