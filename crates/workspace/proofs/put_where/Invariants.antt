use Rattle.workspace.specs.Where.{PutWhere}
use Rattle.workspace.proofs.put_where.Given as goal

-- the rows below q that pass are in
abbrev pub invariant-loop-q : goal.invariant-loop-q
invariant-loop-q g l = PutWhere (goal.F-post g l.test) l.s l.q l.initial.ws l.ws
