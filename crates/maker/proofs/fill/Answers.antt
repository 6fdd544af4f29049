use Prim.Native.Nat.{◌≤◌, ◌<◌}
use native.Mathlib.Omega.{arith}
use lib.ListN.{length}
use Rattle.paper.specs.Trailer.{count_of}
use Rattle.paper.specs.Refusals.{plain}
use Rattle.paper.specs.Cuts.{cut_list}
use Rattle.sheet.specs.declared.Fault.TheVariants as case
use Rattle.sheet.proofs.Telling.{told_back}
use Rattle.maker_options.specs.Planned.{grammar}
use Rattle.maker_options.proofs.Turns.{plan_rows, groups_bound}
use Rattle.maker.proofs.Answers.{list_length, refused_space, not_refused, answer_refused, answer_written, written_list}
use Rattle.maker.proofs.fill.Goals as goal

pub overflow_add-total-2 : goal.overflow_add-total-2
overflow_add-total-2 c =
    let plan = c.args.plan.now in
    omega (arith, groups_bound plan, c.measure-end.ensures.end, plan.short)

pub returns-then-list-total : goal.returns-then-list-total
returns-then-list-total c =
    let plan = c.args.plan.now in
    let s = plan.sheet.now.bytes.now in
    let long = list_length (grammar plan) plan.root plan.n in
    let inside : plan.root < count_of s 2 = omega (arith, plan.inside, plan.sheet.now.rows_at.counts) in
    answer_refused s plan.root plan.n c.args.list.now (plain 22) (refused_space s plan.root plan.n _ c.requires inside plan.short (omega (arith, long, c.measure-end.ensures.end)))
    (told_back case.List)

pub returns : goal.returns
returns c =
    let plan = c.args.plan.now in
    let list = c.args.list.now in
    let s = plan.sheet.now.bytes.now in
    let g = grammar plan in
    let long = list_length g plan.root plan.n in
    let told = c.measure-end.ensures in
    let inside : plan.root < count_of s 2 = omega (arith, plan.inside, plan.sheet.now.rows_at.counts) in
    let fits : length (cut_list g plan.root plan.n) ≤ length list = omega (arith, long, told.end) in
    answer_written s plan.root plan.n list _ _ (not_refused s plan.root plan.n _ c.requires inside plan.short fits) (omega (arith, long, told.end))
    (written_list g plan.root plan.n _ _ _ _ _ _ _ told.starts (plan_rows plan) fits c.put_groups-p.ensures c.put_trailer.ensures)
