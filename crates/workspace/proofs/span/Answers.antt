use Prim.Native.Nat.{◌+◌}
use native.Mathlib.Omega.{arith}
use Rattle.workspace.specs.Spans.{span_at}
use Rattle.workspace.proofs.Spans.{tri_is, span_lt}
use Rattle.workspace.proofs.span.Goals as goal

pub returns : goal.returns
unfolding span_at
returns c = omega (arith, tri_is (c.args.i + c.args.m), span_lt c.args.i c.args.m c.requires)
