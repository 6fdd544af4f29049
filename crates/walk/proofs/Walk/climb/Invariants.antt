use Rattle.walk_state.specs.Letters.{has_letter}
use Rattle.walk.proofs.Climbs.{Climbing, to_go}
use Rattle.walk.proofs.Walk.climb.Given as goal

-- the prefix at hand and its extensions are done, those of the alike letters passed over too, within the budget
abbrev pub invariant-loop-q : goal.invariant-loop-q
invariant-loop-q l = Climbing (has_letter l.self.letters.of) l.self.slots.now.of l.budget l.initial.q l.initial.counts l.q l.counts

-- the places left, and the letters left in the last of them
abbrev pub decreases-loop-q : goal.decreases-loop-q
decreases-loop-q l = to_go l.q
