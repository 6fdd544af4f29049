use Rattle.search.proofs.Lettered.{RangesTo}
use Rattle.search.proofs.letters.letters_of.Given as goal

-- the letters are those of the first i ranges
abbrev pub invariant-loop-i : goal.invariant-loop-i
invariant-loop-i l = RangesTo l.sheet.bytes.now l.i l.l.of
