use Rattle.paper.specs.Sheet.{grammar_of}
use Rattle.maker_options.specs.Prepared.{Given}
use Rattle.maker_options.proofs.ready.give.Given as goal

-- the lengths below m have their entries
abbrev pub invariant-loop-m : goal.invariant-loop-m
invariant-loop-m l = Given (grammar_of l.sheet.bytes.now) l.m-counter l.initial.ws l.ws
