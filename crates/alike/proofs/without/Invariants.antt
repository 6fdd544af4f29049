use Rattle.alike.specs.Slots.{Without}
use Rattle.alike.proofs.without.Given as goal

-- none of the text's bytes so far may have one
abbrev pub invariant-loop-b : goal.invariant-loop-b
invariant-loop-b l = Without l.text l.initial.free l.free l.b-index
