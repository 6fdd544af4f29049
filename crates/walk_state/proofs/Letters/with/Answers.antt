use Prim.Native.Nat.{◌+◌}
use native.Mathlib.Omega.{arith}
use mathlib.Core.Path.{refl}
use Rattle.walk_state.proofs.Ranges.{joined_start, joined_more, joined_end}
use Rattle.walk_state.proofs.Letters.with.Goals as goal

pub loop-b-init : goal.loop-b-init
loop-b-init c = joined_start _ _ _ _ refl

pub loop-b-preserved : goal.loop-b-preserved
loop-b-preserved c =
    let l = c.loop-b in
    rw (c.set.ensures, c.from.ensures) (joined_more _ _ _ l.b l.self.of (omega arith) (omega arith) (omega arith) (omega arith) l.invariant)

-- the last letter was high
pub returns-2 : goal.returns-2
returns-2 c =
    let l = c.loop-b in
    rw (c.set.ensures, c.from.ensures)
    (joined_end _ _ _ (l.b + 1) _ (omega arith) (joined_more _ _ _ l.b l.self.of (omega arith) (omega arith) (omega arith) (omega arith) l.invariant))

-- there was none
pub returns : goal.returns
returns c = joined_end _ _ _ c.loop-b.b c.loop-b.self.of (omega arith) c.loop-b.invariant
