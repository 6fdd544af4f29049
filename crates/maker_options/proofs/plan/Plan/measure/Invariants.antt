use mathlib.Core.Path.{◌≡◌}
use lib.ListN.{length}
use Rattle.paper.specs.Cuts.{groups}
use Rattle.maker_options.specs.Prepared.{Offsets}
use Rattle.maker_options.specs.Planned.{grammar}
use Rattle.maker_options.proofs.plan.Plan.measure.Given as goal

-- the groups below m are counted, and each one's start is noted
abbrev pub invariant-loop-m : goal.invariant-loop-m
invariant-loop-m l = (length l.offsets ≡ 61) × (l.total ≡ length (groups (grammar l.self) l.m)) × Offsets (grammar l.self) l.m l.offsets
