use Rattle.terms.proofs.Joining.{InsideTo}
use Rattle.terms.proofs.inside.Given as goal

-- no cut of the first i parts reaches past n
abbrev pub invariant-loop-i : goal.invariant-loop-i
invariant-loop-i l = InsideTo l.sheet.bytes.now l.r.first l.n l.i
