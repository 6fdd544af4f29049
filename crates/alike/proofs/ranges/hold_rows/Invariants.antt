use Rattle.paper.specs.Sheet.{grammar_of}
use Rattle.alike.specs.Slots.{Holders}
use Rattle.alike.proofs.ranges.hold_rows.Given as goal

-- the rows below r are in the entries of the bytes that they hold
abbrev pub invariant-loop-r : goal.invariant-loop-r
invariant-loop-r l = Holders (grammar_of l.sheet.bytes.now) l.r l.ws
