use Rattle.paper.specs.Sheet.{sheet_of}
use Rattle.judge.proofs.Claiming.{NoneBefore}
use Rattle.judge.proofs.claims.can_contain.Given as goal

-- the constant stands at no place from which it ends before `end`
abbrev pub invariant-loop-end : goal.invariant-loop-end
invariant-loop-end l = NoneBefore (sheet_of l.g.sheet.now.bytes.now) l.places l.a l.b l.end
