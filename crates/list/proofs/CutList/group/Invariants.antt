use Rattle.paper.specs.Gate.{head_at, entry_ok}
use mathlib.Core.Bool.{true}
use mathlib.Core.Path.{◌≡◌}
use Prim.Native.Nat.{◌≤◌}
use Rattle.paper.specs.Tests.{all_below}
use Rattle.list.proofs.CutList.group.Given as goal

-- the heads of the first r rows obey, and o is where the next one begins
abbrev pub invariant-loop-r : goal.invariant-loop-r
invariant-loop-r l =
    (l.o ≡ head_at l.self.bytes.now l.m l.r) × (l.o ≤ l.self.t.base) × (all_below l.r (entry_ok l.self.bytes.now l.self.text l.m) ≡ true)
