use Prim.Native.Nat.{◌<◌}
use native.Mathlib.Omega.{arith}
use mathlib.Core.Path.{sym, ap, ◌∙◌}
use Rattle.list.proofs.Formed.{head_inside}
use Rattle.reading.proofs.Stages.{turn_none, turn_more}
use Rattle.list.proofs.ListLaws.{head_first, head_next}
use Rattle.reading.specs.Marks.{in_turn, mark_head, mark_group}
use Rattle.paper.specs.Gate.{rows_of, head_end, head_at}
use Rattle.reading.proofs.Reading.mark_group.Goals as goal

pub loop-r-init : goal.loop-r-init
loop-r-init c = (c.requires.1 ∙ head_first _ _, sym (turn_none _ _))

pub mark_head-o-requires : goal.mark_head-o-requires
mark_head-o-requires c =
    let p = c.args.self.now in
    let e = c.loop-r.invariant.0 in
    let u : c.loop-r.r < rows_of p.list.now = omega (arith, p.trailed.rows_are) in
    (c.requires.0, u, e, head_inside _ _ p.formed _ _ _ c.requires.0 u e)

pub loop-r-preserved : goal.loop-r-preserved
loop-r-preserved c =
    let a = c.args in
    let p = a.self.now in
    let t = c.mark_head-o in
    let l = c.loop-r in
    (t.ensures.0 ∙ ap (λ x. head_end p.list.now x) l.invariant.0 ∙ sym (head_next _ _ _), t.ensures.1 ∙ ap (λ v. mark_head p.list.now p.text.now p.word.now a.m l.r v) l.invariant.1 ∙ sym (turn_more _ _ _))

pub returns : goal.returns
unfolding mark_group
returns c =
    let a = c.args in
    let p = a.self.now in
    (c.loop-r.invariant.0 ∙ ap (λ k. head_at p.list.now a.m k) (omega arith), c.loop-r.invariant.1 ∙ ap (λ k. in_turn k (mark_head p.list.now p.text.now p.word.now a.m) a.work.now) (omega arith))
