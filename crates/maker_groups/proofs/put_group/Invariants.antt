use Rattle.paper.specs.Tests.{gather}
use Rattle.paper.specs.Cuts.{entry}
use Rattle.maker_options.specs.Planned.{grammar}
use Rattle.numbers.specs.Put.{Put}
use Rattle.maker_groups.proofs.put_group.Given as goal

-- the entries of the rows below r are written
abbrev pub invariant-loop-r : goal.invariant-loop-r
invariant-loop-r l = Put (gather 0 l.r (entry (grammar l.plan) l.m)) l.o l.initial.list l.list l.p
