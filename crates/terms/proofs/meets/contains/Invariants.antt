use Rattle.paper.specs.Sheet.{sheet_of}
use Rattle.terms.proofs.Meeting.{NowhereTo}
use Rattle.terms.proofs.meets.contains.Given as goal

-- the places of q stand over those of p nowhere where they would end before e
abbrev pub invariant-loop-e : goal.invariant-loop-e
invariant-loop-e l = NowhereTo (sheet_of l.g.sheet.now.bytes.now) l.p l.q l.e
