use native.Mathlib.Omega.{arith}
use mathlib.Core.Bool.{true}
use mathlib.Core.Path.{◌≡◌, sym, ap, ◌∙◌}
use Prim.Native.Nat.{◌<◌}
use Rattle.list.proofs.ListLaws.{ends_at, ends_nowhere, head_first, head_next, entry_before, group_read, group_next, group_apart, group_is}
use Rattle.list.proofs.Each.{all_more}
use Rattle.paper.proofs.Tests.{all_none, all_but}
use Rattle.paper.specs.Gate.{rows_of, group_at, head_end, entry_ok, group_begin}
use Rattle.paper.specs.Tests.{all_below}
use Rattle.list.proofs.CutList.group.Goals.{Else-u32_at-at}
use Rattle.list.proofs.CutList.group.Goals as goal

-- the group's stored offset is where it is to begin
met : (p : Else-u32_at-at) → group_at p.args.self.now.bytes.now p.args.m ≡ group_begin p.args.self.now.bytes.now p.args.m
met p = sym (group_read _ _ _ p.args.self.now.trailed.base_is) ∙ sym p.u32_at.ensures.0 ∙ p.if-u32_at-at.false ∙ p.requires.1

pub returns-then-u32_at-at : goal.returns-then-u32_at-at
returns-then-u32_at-at c =
    let a = c.args in
    rw (group_apart a.self.now.bytes.now a.m a.self.now.text (λ e. c.if-u32_at-at.true (c.u32_at.ensures.0 ∙ group_read _ _ _ c.args.self.now.trailed.base_is ∙ e ∙ sym c.requires.1)))

pub loop-r-init : goal.loop-r-init
loop-r-init c =
    (c.requires.1 ∙ sym (met (goal.at.loop-r-init c).Else-u32_at-at) ∙ head_first _ _, c.requires.2, all_none _)

pub returns-in_err-o : goal.returns-in_err-o
returns-in_err-o c =
    let a = c.args in
    let b = ends_nowhere (entry_ok a.self.now.bytes.now a.self.now.text a.m c.loop-r.r) _ (sym c.entry.ensures ∙ c.in_err-o.was) in
    let l : c.loop-r.r < rows_of a.self.now.bytes.now = omega arith in
    c.from_residual.ensures ∙ rw (group_is a.self.now.bytes.now a.m a.self.now.text (met (goal.at.returns-in_err-o c).Else-u32_at-at), all_but _ _ _ l b)

pub loop-r-preserved : goal.loop-r-preserved
loop-r-preserved c =
    let a = c.args in
    let p = ends_at (entry_ok a.self.now.bytes.now a.self.now.text a.m c.loop-r.r) _ _ (sym c.entry.ensures ∙ c.in_ok-o.was) in
    let b = entry_before _ _ _ _ _ c.loop-r.invariant.0 p.0 in
    (sym p.1 ∙ ap (λ x. head_end a.self.now.bytes.now x) c.loop-r.invariant.0 ∙ sym (head_next _ _ _), omega arith, all_more _ _ c.loop-r.invariant.2 p.0)

pub returns : goal.returns
returns c =
    let a = c.args in
    let e : c.loop-r.r ≡ rows_of a.self.now.bytes.now = omega arith in
    let b : all_below (rows_of a.self.now.bytes.now) (entry_ok a.self.now.bytes.now a.self.now.text a.m) ≡ true = rw e at c.loop-r.invariant.2 in
    rw (group_is a.self.now.bytes.now a.m a.self.now.text (met (goal.at.returns c).Else-u32_at-at), b, group_next, c.loop-r.invariant.0, e)
