use mathlib.Core.Path.{◌≡◌}
use Rattle.reading.specs.Marks.{in_turn, mark_head}
use Rattle.paper.specs.Gate.{head_at}
use Rattle.reading.proofs.Reading.mark_group.Given as goal

-- the heads of the first r rows are marked, and o is where the next one begins
abbrev pub invariant-loop-r : goal.invariant-loop-r
invariant-loop-r l =
    (l.o ≡ head_at l.self.list.now l.m l.r) × (l.work ≡ in_turn l.r (mark_head l.self.list.now l.self.text.now l.self.word.now l.m) l.initial.work)
