use Prim.Native.Nat.{ℕ}
use mathlib.Core.Path.{◌≡◌, ap}
use native.Mathlib.Omega.{arith}
use lib.ListN.{length}
use Rattle.paper.specs.Tests.{gather}
use Rattle.paper.specs.Cuts.{entry, group}
use Rattle.maker_options.specs.Planned.{grammar}
use Rattle.maker_options.proofs.Turns.{entry_within, plan_rows}
use Rattle.numbers.proofs.Stores.{put_same}
use Rattle.maker_groups.proofs.Writing.{gather_none, gather_turn}
use Rattle.maker_groups.proofs.put_group.Goals as goal

pub loop-r-init : goal.loop-r-init
loop-r-init c =
    let a = c.args in
    gather_none (entry (grammar a.plan.now) a.m) a.o a.list.now

pub put_entry-p-requires : goal.put_entry-p-requires
put_entry-p-requires c =
    let a = c.args in
    let p = c.requires in
    let l = c.loop-r in
    (p.0, omega arith, omega (arith, entry_within a.plan.now a.m l.r (omega arith), l.invariant.stop))

pub loop-r-preserved : goal.loop-r-preserved
loop-r-preserved c =
    let a = c.args in
    gather_turn (entry (grammar a.plan.now) a.m) c.loop-r.r c.loop-r.invariant c.put_entry-p.ensures

pub returns : goal.returns
unfolding group
returns c =
    let a = c.args in
    let l = c.loop-r in
    let e : l.r ≡ length (grammar a.plan.now).rows = omega (arith, plan_rows a.plan.now) in
    put_same (ap (λ (z : ℕ). gather 0 z (entry (grammar a.plan.now) a.m)) e) l.invariant
