use Prim.Native.Nat.{◌-◌}
use Rattle.paper.specs.Sheet.{sheet_of}
use Rattle.paper.specs.Opens.{opens}
use Rattle.walk_state.specs.Letters.{has_letter}
use Rattle.walk.proofs.Seek.{Seeking}
use Rattle.search.proofs.seek.Given as goal

-- the walk has come to the prefix q.prefix at length n, which is about to be judged
abbrev pub invariant-loop-q : goal.invariant-loop-q
invariant-loop-q l =
    let sheet = l.g.sheet.now in
    Seeking (has_letter l.walk.letters.of) l.walk.slots.now.of (opens (sheet_of sheet.bytes.now)) l.shortest sheet.longest l.budget l.n l.q l.counts

abbrev pub decreases-loop-q : goal.decreases-loop-q
decreases-loop-q l = l.budget - l.q.trials
