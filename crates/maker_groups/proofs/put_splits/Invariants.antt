use Rattle.paper.specs.Cuts.{splits, all_bytes}
use Rattle.numbers.specs.Put.{Put}
use Rattle.maker_groups.proofs.put_splits.Given as goal

-- the splits below k are written
abbrev pub invariant-loop-k : goal.invariant-loop-k
invariant-loop-k l = Put (all_bytes (splits l.k l.a l.b)) l.o l.initial.list l.list l.p
