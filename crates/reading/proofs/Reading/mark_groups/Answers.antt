use Prim.Native.Nat.{suc, ◌+◌, ◌≤◌}
use native.Mathlib.Omega.{arith}
use mathlib.Core.Path.{◌≡◌, sym, ap, ◌∙◌}
use Rattle.reading.proofs.Stages.{turn_none, turn_more}
use Rattle.list.proofs.Formed.{begins}
use Rattle.list.proofs.ListLaws.{group_none, group_next}
use Rattle.reading.specs.Marks.{in_turn, mark_group, marked}
use Rattle.paper.specs.Gate.{n_of, head_at}
use Rattle.reading.proofs.Reading.mark_groups.Goals as goal

pub loop-m-init : goal.loop-m-init
loop-m-init c = (group_none _, sym (turn_none _ _))

pub mark_group-at-requires : goal.mark_group-at-requires
mark_group-at-requires c =
    let p = c.args.self.now in
    let m : c.loop-m.m ≤ n_of p.list.now = omega (arith, p.fit) in
    (m, c.loop-m.invariant.0 ∙ begins _ _ p.formed _ m)

pub loop-m-preserved : goal.loop-m-preserved
loop-m-preserved c =
    let p = c.args.self.now in
    let t = c.mark_group-at in
    let l = c.loop-m in
    (t.ensures.0 ∙ ap (λ k. head_at p.list.now l.m k) p.trailed.rows_are ∙ sym (group_next _ _), t.ensures.1 ∙ ap (λ v. mark_group p.list.now p.text.now p.word.now l.m v) l.invariant.1 ∙ sym (turn_more _ _ _))

pub returns-2 : goal.returns-2
unfolding marked
returns-2 c =
    let p = c.args.self.now in
    let l = c.loop-m in
    let e : l.m + 1 ≡ suc (n_of p.list.now) = omega (arith, p.fit) in
    c.mark_group-at.ensures.1 ∙ ap (λ v. mark_group p.list.now p.text.now p.word.now l.m v) l.invariant.1 ∙ sym (turn_more _ _ _) ∙ ap (λ k. in_turn k (mark_group p.list.now p.text.now p.word.now) c.args.work.now) e
