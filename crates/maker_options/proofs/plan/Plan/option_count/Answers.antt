use mathlib.Core.Path.{sym, ap, ◌∙◌}
use native.Mathlib.Omega.{arith}
use lib.ListN.{length}
use Rattle.paper.specs.Cuts.{Nil}
use Rattle.maker_options.specs.Planned.{grammar}
use Rattle.maker_options.proofs.Options.{one_if, below_none, options_nil}
use Rattle.maker_options.proofs.Turns.{plan_few, options_bound, met_length, met_all, met_inside}
use Rattle.maker_options.proofs.plan.Plan.option_count.Goals as goal

pub returns-then-m-eq0 : goal.returns-then-m-eq0
returns-then-m-eq0 c =
    let a = c.args in
    rw c.from.ensures (sym (ap length (options_nil (grammar a.self.now) a.m a.r c.if-m-eq0.true c.is_nullable.ensures) ∙ one_if c.is_nullable.result Nil))

pub loop-q-init : goal.loop-q-init
loop-q-init c =
    let a = c.args in
    (omega arith, sym (ap length (below_none (grammar a.self.now) a.m a.r)))

pub overflow_add-c : goal.overflow_add-c
overflow_add-c c =
    let a = c.args in
    let p = c.requires in
    let l = c.loop-q in
    omega (
      arith,
      met_inside a.self.now a.m a.r (omega arith) p.0 p.1 l.p _ _ c.in-Some.ensures c.row.ensures,
      c.own_count-c.ensures c.in-Some.q,
      options_bound a.self.now a.m a.r p.0,
    )

pub overflow_add-p : goal.overflow_add-p
overflow_add-p c = omega (arith, c.in-Some.ensures.0, plan_few c.args.self.now)

pub loop-q-preserved : goal.loop-q-preserved
loop-q-preserved c =
    let a = c.args in
    let p = c.requires in
    let l = c.loop-q in (
      omega (arith, c.in-Some.ensures.0),
      omega (arith, met_length a.self.now a.m a.r (omega arith) p.0 p.1 l.p _ _ c.in-Some.ensures c.row.ensures, c.own_count-c.ensures c.in-Some.q),
    )

pub returns : goal.returns
returns c =
    let a = c.args in
    let p = c.requires in
    let l = c.loop-q in
    l.invariant.1 ∙ sym (ap length (met_all a.self.now a.m a.r (omega arith) p.0 p.1 l.p c.in_default.ensures))
