use Rattle.paper.specs.Sheet.{grammar_of}
use Rattle.groundwork.specs.Laying.{LengthsBelow}
use Rattle.groundwork.proofs.lengths.Given as goal

-- the mask holds the lengths of the text rows below q
abbrev pub invariant-loop-q : goal.invariant-loop-q
invariant-loop-q l = LengthsBelow (grammar_of l.sheet.bytes.now) l.q l.mask
