use mathlib.Core.Bool.{true}
use mathlib.Core.Path.{◌≡◌}
use Prim.Native.Nat.{◌≤◌}
use Rattle.paper.specs.Gate.{group_ok, group_begin}
use Rattle.paper.specs.Tests.{all_below}
use Rattle.list.proofs.CutList.groups.Given as goal

-- the first m groups obey and meet, and `at` is where the next one begins
abbrev pub invariant-loop-m : goal.invariant-loop-m
invariant-loop-m l =
    (l.at ≡ group_begin l.self.bytes.now l.m) × (l.at ≤ l.self.t.base) × (all_below l.m (group_ok l.self.bytes.now l.self.text) ≡ true)
