use Rattle.judge.proofs.Judging.{Upto}
use Rattle.judge.proofs.opens_on.Given as goal

-- the first i assertions are possible, and the workspace holds what it is said to hold
abbrev pub invariant-loop-i : goal.invariant-loop-i
invariant-loop-i l = Upto l.g.sheet.now.bytes.now l.v l.i l.held.run l.held.work.now
