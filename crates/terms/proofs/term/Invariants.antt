use Rattle.sheet_contents.specs.Read.{as_run}
use Rattle.terms.proofs.Joining.{Joined}
use Rattle.terms.proofs.term.Given as goal

-- p has the places of the first i parts
abbrev pub invariant-loop-i : goal.invariant-loop-i
invariant-loop-i l = Joined l.sheet.bytes.now l.v (as_run l.r) l.i l.p
