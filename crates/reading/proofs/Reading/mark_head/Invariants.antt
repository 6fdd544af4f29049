use mathlib.Core.Path.{◌≡◌}
use Rattle.reading.specs.Marks.{in_turn, mark_at}
use Rattle.reading.proofs.Reading.mark_head.Given as goal

-- the first j options are marked
abbrev pub invariant-loop-j : goal.invariant-loop-j
invariant-loop-j l =
    (l.work ≡ in_turn l.j (mark_at l.self.list.now l.self.text.now l.self.word.now l.m l.r) l.initial.work)
