use Prim.Native.Nat.{◌≤◌, ◌-◌}
use Rattle.paper.specs.Cuts.{all_bytes}
use Rattle.maker_options.specs.Planned.{grammar}
use Rattle.maker_options.specs.Giving.{from_below}
use Rattle.numbers.specs.Put.{Put}
use Rattle.maker_groups.proofs.put_options.Given as goal

-- the options of the rows below p are written
abbrev pub invariant-loop-q : goal.invariant-loop-q
invariant-loop-q l = (l.p ≤ l.plan.sheet.now.rows.count) × Put (all_bytes (from_below (grammar l.plan) l.m l.r l.p)) l.o l.initial.list l.list l.end

abbrev pub decreases-loop-q : goal.decreases-loop-q
decreases-loop-q l = l.plan.sheet.now.rows.count - l.p
