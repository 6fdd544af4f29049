use Rattle.paper.specs.Sheet.{sheet_of}
use Rattle.alike.specs.Slots.{Letters}
use Rattle.alike.proofs.letters.Given as goal

-- of the bytes below b letters alone may have a slot
abbrev pub invariant-loop-b : goal.invariant-loop-b
invariant-loop-b l = Letters (sheet_of l.sheet.bytes.now) l.b l.may-items
