use Prim.Native.Nat.{◌≤◌, ◌-◌}
use mathlib.Core.Path.{◌≡◌}
use lib.ListN.{length}
use Rattle.maker_options.specs.Giving.{from_below}
use Rattle.maker_options.specs.Planned.{grammar}
use Rattle.maker_options.proofs.plan.Plan.option_count.Given as goal

-- the options of the rows below p are counted
abbrev pub invariant-loop-q : goal.invariant-loop-q
invariant-loop-q l = (l.p ≤ l.self.sheet.now.rows.count) × (l.c ≡ length (from_below (grammar l.self) l.m l.r l.p))

abbrev pub decreases-loop-q : goal.decreases-loop-q
decreases-loop-q l = l.self.sheet.now.rows.count - l.p
