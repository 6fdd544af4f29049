use mathlib.Core.Path.{◌≡◌}
use native.Mathlib.Omega.{arith}
use Rattle.paper.specs.Cuts.{group, groups}
use Rattle.maker_options.specs.Planned.{grammar}
use Rattle.maker_options.proofs.Turns.{groups_inside}
use Rattle.maker_groups.proofs.Writing.{gather_none, gather_turn}
use Rattle.maker_groups.proofs.put_groups.Goals as goal

pub loop-m-init : goal.loop-m-init
unfolding groups
loop-m-init c = gather_none (group (grammar c.args.plan.now)) 0 c.args.list.now

pub put_group-p-requires : goal.put_group-p-requires
unfolding groups
put_group-p-requires c =
    let a = c.args in
    let l = c.loop-m in
    (omega arith, omega (arith, groups_inside (grammar a.plan.now) l.m a.plan.now.n (omega arith), l.invariant.stop))

pub loop-m-preserved : goal.loop-m-preserved
unfolding groups
loop-m-preserved c = gather_turn (group (grammar c.args.plan.now)) c.loop-m.m c.loop-m.invariant c.put_group-p.ensures

pub returns-2 : goal.returns-2
unfolding groups
returns-2 c =
    let last : c.args.plan.now.n ≡ c.loop-m.m = omega arith in
    rw last (gather_turn (group (grammar c.args.plan.now)) c.loop-m.m c.loop-m.invariant c.put_group-p.ensures)
