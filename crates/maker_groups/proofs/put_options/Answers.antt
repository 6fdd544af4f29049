use mathlib.Core.Path.{sym, ap}
use native.Mathlib.Omega.{arith}
use lib.ListN.{length}
use Rattle.paper.specs.Cuts.{Nil, all_bytes}
use Rattle.paper.proofs.Encoding.{length_options}
use Rattle.maker_options.specs.Planned.{grammar}
use Rattle.maker_options.specs.Giving.{from_below}
use Rattle.maker_options.proofs.Options.{below_none, options_nil}
use Rattle.maker_options.proofs.Turns.{plan_few, met_turn, met_all, met_inside}
use Rattle.numbers.proofs.Stores.{put_same}
use Rattle.maker_groups.proofs.Writing.{options_none, options_more, options_one}
use Rattle.maker_groups.proofs.put_options.Goals as goal

pub put_option-requires : goal.put_option-requires
put_option-requires c =
    let a = c.args in
    omega (arith, ap length (options_nil (grammar a.plan.now) a.m a.r c.if-m-eq0.true c.if-is_nullable.ensures))

pub returns-then-is_nullable : goal.returns-then-is_nullable
returns-then-is_nullable c =
    let a = c.args in
    rw (options_nil (grammar a.plan.now) a.m a.r c.if-m-eq0.true c.if-is_nullable.ensures) (options_one Nil c.put_option.ensures)

pub returns-else-is_nullable : goal.returns-else-is_nullable
returns-else-is_nullable c =
    let a = c.args in
    rw (options_nil (grammar a.plan.now) a.m a.r c.if-m-eq0.true c.if-is_nullable.ensures) (options_none a.o a.list.now)

pub loop-q-init : goal.loop-q-init
loop-q-init c =
    let a = c.args in
    (omega arith, put_same (ap all_bytes (sym (below_none (grammar a.plan.now) a.m a.r))) (options_none a.o a.list.now))

pub put_own-end-requires : goal.put_own-end-requires
put_own-end-requires c =
    let a = c.args in
    let p = c.requires in
    let l = c.loop-q in (
      omega arith,
      omega (arith, a.plan.now.short),
      omega (
        arith,
        met_inside a.plan.now a.m a.r (omega arith) p.0 p.1 l.p _ _ c.in-Some.ensures c.row.ensures,
        length_options (from_below (grammar a.plan.now) a.m a.r l.p),
        l.invariant.1.stop,
      ),
    )

pub overflow_add-p : goal.overflow_add-p
overflow_add-p c = omega (arith, c.in-Some.ensures.0, plan_few c.args.plan.now)

pub loop-q-preserved : goal.loop-q-preserved
loop-q-preserved c =
    let a = c.args in
    let p = c.requires in
    let l = c.loop-q in
    let e = met_turn a.plan.now a.m a.r (omega arith) p.0 p.1 l.p _ _ c.in-Some.ensures c.row.ensures in
    (omega (arith, c.in-Some.ensures.0), put_same (ap all_bytes (sym e)) (options_more (from_below (grammar a.plan.now) a.m a.r l.p) _ l.invariant.1 c.put_own-end.ensures))

pub returns : goal.returns
returns c =
    let a = c.args in
    let p = c.requires in
    let l = c.loop-q in
    put_same (ap all_bytes (sym (met_all a.plan.now a.m a.r (omega arith) p.0 p.1 l.p c.in_default.ensures))) l.invariant.1
