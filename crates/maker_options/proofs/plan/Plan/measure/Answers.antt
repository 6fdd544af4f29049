use mathlib.Core.Path.{◌≡◌, refl, ◌∙◌}
use native.Mathlib.Omega.{arith}
use lib.ListN.{length-set}
use Rattle.maker_options.specs.Planned.{grammar}
use Rattle.maker_options.proofs.Turns.{groups_none, groups_more, groups_inside, groups_bound, offset_more}
use Rattle.maker_options.proofs.plan.Plan.measure.Goals as goal

pub loop-m-init : goal.loop-m-init
loop-m-init c = (refl, groups_none (grammar c.args.self.now), record { each = λ k l. absurd (omega arith) })

pub overflow_add-total : goal.overflow_add-total
overflow_add-total c =
    let a = c.args in
    let l = c.loop-m in
    omega (arith, groups_inside (grammar a.self.now) l.m a.self.now.n (omega arith), l.invariant.1, c.group_length-total.ensures, groups_bound a.self.now)

pub loop-m-preserved : goal.loop-m-preserved
loop-m-preserved c =
    let g = grammar c.args.self.now in
    let l = c.loop-m in (
      length-set l.offsets l.m l.total ∙ l.invariant.0,
      omega (arith, groups_more g l.m, l.invariant.1, c.group_length-total.ensures),
      offset_more g l.m l.offsets l.total (omega (arith, c.args.self.now.short, l.invariant.0)) l.invariant.1 l.invariant.2,
    )

pub returns-2-clause-end : goal.returns-2-clause-end
returns-2-clause-end c =
    let g = grammar c.args.self.now in
    let l = c.loop-m in
    let last : c.args.self.now.n ≡ l.m = omega arith in
    rw last (omega (arith, groups_more g l.m, l.invariant.1, c.group_length-total.ensures))
