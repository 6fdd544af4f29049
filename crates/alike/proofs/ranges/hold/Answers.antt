use native.Mathlib.Omega.{arith}
use Prim.Native.Nat.{◌+◌}
use mathlib.Core.Path.{◌≡◌}
use Rattle.alike.proofs.Holding.{added_more, added_range}
use Rattle.alike.proofs.ranges.hold.Goals as goal

pub loop-b-preserved : goal.loop-b-preserved
loop-b-preserved c =
    let l = c.loop-b in
    rw c.set.ensures (added_more c.args.lo l.b c.args.r c.args.ws.now l.ws (omega arith) (omega arith) c.requires.0 (omega arith) l.invariant)

pub returns : goal.returns
returns c =
    let l = c.loop-b in
    let e : l.b ≡ c.args.hi + 1 = omega arith in
    added_range _ _ _ _ _ (rw e at l.invariant)
