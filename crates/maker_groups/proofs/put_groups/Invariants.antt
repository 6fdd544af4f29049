use Rattle.paper.specs.Cuts.{groups}
use Rattle.maker_options.specs.Planned.{grammar}
use Rattle.numbers.specs.Put.{Put}
use Rattle.maker_groups.proofs.put_groups.Given as goal

-- the groups below m are written
abbrev pub invariant-loop-m : goal.invariant-loop-m
invariant-loop-m l = Put (groups (grammar l.plan) l.m) 0 l.initial.list l.list l.p
