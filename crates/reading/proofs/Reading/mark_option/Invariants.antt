use mathlib.Core.Path.{◌≡◌}
use Rattle.reading.specs.Marks.{in_turn, mark_start}
use Rattle.list.specs.Read.{option_of}
use Rattle.reading.proofs.Reading.mark_option.Given as goal

-- the option is marked at the first i starts
abbrev pub invariant-loop-i : goal.invariant-loop-i
invariant-loop-i l =
    (l.work ≡ in_turn l.i (mark_start l.self.text.now l.self.word.now l.m l.r (option_of l.x)) l.initial.work)
