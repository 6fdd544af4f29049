use Rattle.maker_options.specs.Prepared.{Turned}
use Rattle.maker_options.proofs.ready.turn.Given as goal

-- the rows below r have their entries
abbrev pub invariant-loop-r : goal.invariant-loop-r
invariant-loop-r l = Turned l.from l.n l.r-counter l.ws
