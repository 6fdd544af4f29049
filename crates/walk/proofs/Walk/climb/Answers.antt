use native.Mathlib.Omega.{arith}
use Rattle.std.specs.Prelude.{Some}
use Rattle.walk_state.specs.Letters.{has_letter, FirstFrom}
use Rattle.walk_state.specs.Moves.{last_of}
use Prim.Native.Nat.{◌+◌}
use Rattle.walk.proofs.Climbs.{Climbing, climb_note, climb_skip, climb_over, climb_next, climb_back}
use Rattle.walk.proofs.Walk.climb.Goals.{After-recall, In-Some}
use Rattle.walk.proofs.Walk.climb.Goals as goal

-- there is a letter at or after the last one
first : (c : In-Some) → FirstFrom (has_letter c.args.self.now.letters.of) (last_of c.loop-q.q.prefix + 1) (Some c.in-Some.b)
first c = rw (c.from.ensures, c.last.ensures) at c.in-Some.ensures

-- the trials of the last letter are noted
noted : (c : After-recall) → Climbing (has_letter c.args.self.now.letters.of) c.args.self.now.slots.now.of c.args.budget c.args.p c.args.counts.now c.loop-q.q c.recall.new.counts
noted c = rw c.recall.ensures.noted (climb_note _ _ _ _ _ c.loop-q.q c.loop-q.counts c.loop-q.invariant c.loop-q-test.true (omega arith))

pub loop-q-preserved-in_default : goal.loop-q-preserved-in_default
loop-q-preserved-in_default c =
    rw c.back-q.ensures (climb_back _ _ _ _ _ c.loop-q.q _ c.loop-q.invariant c.loop-q-test.true (rw (c.from.ensures, c.last.ensures) at c.in_default.ensures))

pub returns-in_default-recall : goal.returns-in_default-recall
returns-in_default-recall c =
    let at = goal.at.returns-in_default-recall c in
    rw c.next.ensures (climb_next _ _ _ _ _ c.loop-q.q _ (noted at.After-recall) c.loop-q-test.true _ (first at.In-Some))

pub returns-then-budget-q : goal.returns-then-budget-q
returns-then-budget-q c =
    let at = goal.at.returns-then-budget-q c in
    climb_over _ _ _ _ _ c.loop-q.q _ (noted at.After-recall) c.loop-q-test.true _ (first at.In-Some) _ c.in-Some-recall.ensures.seen c.if-budget-q.true

pub loop-q-preserved : goal.loop-q-preserved
loop-q-preserved c =
    let at = goal.at.loop-q-preserved c in
    rw (c.counted-q.ensures, c.next-in-loop-q.ensures)
    (climb_skip _ _ _ _ _ c.loop-q.q _ (noted at.After-recall) c.loop-q-test.true _ (first at.In-Some) _ c.in-Some-recall.ensures.seen c.if-budget-q.false)
