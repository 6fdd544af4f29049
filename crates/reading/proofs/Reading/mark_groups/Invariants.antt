use mathlib.Core.Path.{◌≡◌}
use Rattle.reading.specs.Marks.{in_turn, mark_group}
use Rattle.paper.specs.Gate.{group_begin}
use Rattle.reading.proofs.Reading.mark_groups.Given as goal

-- the first m groups are marked, and `at` is where the next one begins
abbrev pub invariant-loop-m : goal.invariant-loop-m
invariant-loop-m l =
    (l.at ≡ group_begin l.self.list.now l.m) × (l.work ≡ in_turn l.m (mark_group l.self.list.now l.self.text.now l.self.word.now) l.initial.work)
