use mathlib.Core.Path.{sym, ap, ◌∙◌}
use native.Mathlib.Omega.{arith}
use Rattle.list.specs.Read.{option_of}
use Rattle.reading.proofs.Stages.{turn_none, turn_more}
use Rattle.reading.specs.Marks.{in_turn, mark_start, mark_option}
use Rattle.reading.proofs.Reading.mark_option.Goals.{then-holds, else-holds}
use Rattle.reading.proofs.Reading.mark_option.Goals as goal

pub loop-i-init : goal.loop-i-init
loop-i-init c = sym (turn_none _ _)

pub loop-i-preserved : goal.loop-i-preserved
unfolding mark_start
loop-i-preserved c =
    let a = c.args in
    let l = c.loop-i in
    let more = turn_more (mark_start a.self.now.text.now a.self.now.word.now a.m a.r (option_of a.x)) l.i a.work.now in
    elim c.if-holds.branch [
      | then-holds w ↦ rw (more, ← l.invariant, ← c.holds.ensures, w.if-holds.true, ← w.span.ensures.0) (w.work-is ∙ w.set.ensures)
      | else-holds w ↦ rw (more, ← l.invariant, ← c.holds.ensures, w.if-holds.false) w.work-is
    ]

pub returns : goal.returns
unfolding mark_option
returns c =
    let a = c.args in
    c.loop-i.invariant ∙ ap (λ k. in_turn k (mark_start a.self.now.text.now a.self.now.word.now a.m a.r (option_of a.x)) a.work.now) (omega arith)
