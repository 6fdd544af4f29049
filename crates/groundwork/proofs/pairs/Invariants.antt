use mathlib.Core.Path.{◌≡◌}
use lib.ListN.{length, take}
use Rattle.paper.specs.Sheet.{grammar_of}
use Rattle.groundwork.specs.Laying.{pairs_below}
use Rattle.groundwork.proofs.pairs.Given as goal

-- the first j words are the pairs of the rows below q
abbrev pub invariant-loop-q : goal.invariant-loop-q
invariant-loop-q l = (length l.pairs ≡ 256) × (l.j ≡ length (pairs_below (grammar_of l.sheet.bytes.now) l.q)) × (take l.j l.pairs ≡ pairs_below (grammar_of l.sheet.bytes.now) l.q)
