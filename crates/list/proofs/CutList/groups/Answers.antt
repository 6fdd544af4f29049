use native.Mathlib.Omega.{arith}
use mathlib.Core.Bool.{true}
use mathlib.Core.Path.{◌≡◌, sym, ◌∙◌}
use Prim.Native.Nat.{suc, ◌+◌, ◌≤◌, ◌<◌}
use Rattle.list.proofs.ListLaws.{ends_at, ends_nowhere, group_none, group_before}
use Rattle.list.proofs.Each.{all_more}
use Rattle.paper.proofs.Tests.{all_none, all_but}
use Rattle.paper.specs.Gate.{n_of, rows_of, group_ok}
use Rattle.paper.specs.Tests.{all_below}
use Rattle.list.proofs.CutList.groups.Goals as goal

pub loop-m-init : goal.loop-m-init
loop-m-init c = (group_none _, omega arith, all_none _)

pub returns-in_err-at : goal.returns-in_err-at
returns-in_err-at c =
    let l = c.args.self.now.bytes.now in
    let bad = ends_nowhere (group_ok l c.args.self.now.text c.loop-m.m) _ (sym c.group.ensures ∙ c.in_err-at.was) in
    let h : c.loop-m.m < suc (n_of l) = omega arith in
    c.from_residual.ensures ∙ rw (all_but _ _ _ h bad)

pub loop-m-preserved : goal.loop-m-preserved
loop-m-preserved c =
    let l = c.args.self.now.bytes.now in
    let p = ends_at (group_ok l c.args.self.now.text c.loop-m.m) _ _ (sym c.group.ensures ∙ c.in_ok-at.was) in
    let some : 1 ≤ rows_of l = omega arith in
    (sym p.1, omega (arith, group_before l c.loop-m.m c.args.self.now.text some p.0, p.1), all_more _ _ c.loop-m.invariant.2 p.0)

pub returns-in_ok-at : goal.returns-in_ok-at
returns-in_ok-at c =
    let l = c.args.self.now.bytes.now in
    let p = ends_at (group_ok l c.args.self.now.text c.loop-m.m) _ _ (sym c.group.ensures ∙ c.in_ok-at.was) in
    let e : c.loop-m.m + 1 ≡ suc (n_of l) = omega arith in
    let b : all_below (suc (n_of l)) (group_ok l c.args.self.now.text) ≡ true = rw e at (all_more _ _ c.loop-m.invariant.2 p.0) in
    rw (b, ← e, p.1)
