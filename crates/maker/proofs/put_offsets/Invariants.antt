use Rattle.paper.specs.Tests.{gather}
use Rattle.numbers.specs.Put.{Put}
use Rattle.maker.specs.Trailer.{offset_bytes}
use Rattle.maker.proofs.put_offsets.Given as goal

-- the offsets below the index are written
abbrev pub invariant-loop-x : goal.invariant-loop-x
invariant-loop-x l = Put (gather 0 l.x-index (offset_bytes l.offsets)) l.o l.initial.list l.list l.p
