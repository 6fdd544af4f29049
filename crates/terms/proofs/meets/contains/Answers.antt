use Prim.Native.Nat.{◌+◌, ◌-◌}
use mathlib.Core.Path.{◌≡◌, sym, ◌∙◌}
use native.Mathlib.Omega.{arith}
use Rattle.paper.specs.Sheet.{sheet_of}
use Rattle.terms.proofs.Meeting.{stands, nowhere_none, nowhere_more, stands_here, stands_nowhere}
use Rattle.terms.proofs.meets.contains.Goals.{After-meet_all}
use Rattle.terms.proofs.meets.contains.Goals as goal

-- the places of q were laid over those of p that end before e
laid : (c : After-meet_all) → c.meet_all.result ≡ stands (sheet_of c.args.g.now.sheet.now.bytes.now) c.args.p.now c.args.q.now (c.loop-e.e - c.args.q.now.len)
laid c =
    let z : c.loop-e.e - (c.loop-e.e - c.args.q.now.len) ≡ c.args.q.now.len = omega arith in
    rw (z, c.places.ensures.0) at c.meet_all.ensures

pub loop-e-init : goal.loop-e-init
loop-e-init c = nowhere_none _ c.args.p.now c.args.q.now

pub returns-then-meet_all : goal.returns-then-meet_all
returns-then-meet_all c = stands_here _ c.args.p.now c.args.q.now (c.loop-e.e - c.args.q.now.len) (omega arith) (sym (laid (goal.at.returns-then-meet_all c).After-meet_all) ∙ c.if-meet_all.true)

pub loop-e-preserved : goal.loop-e-preserved
loop-e-preserved c = nowhere_more _ c.args.p.now c.args.q.now c.loop-e.e c.loop-e.auto.e c.loop-e.invariant (sym (laid (goal.at.loop-e-preserved c).After-meet_all) ∙ c.if-meet_all.false)

pub returns-else-meet_all : goal.returns-else-meet_all
returns-else-meet_all c =
    stands_nowhere _ c.args.p.now c.args.q.now (c.loop-e.e + 1) (omega arith)
    (nowhere_more _ c.args.p.now c.args.q.now c.loop-e.e c.loop-e.auto.e c.loop-e.invariant (sym (laid (goal.at.returns-else-meet_all c).After-meet_all) ∙ c.if-meet_all.false))

pub returns : goal.returns
returns c = stands_nowhere _ c.args.p.now c.args.q.now c.loop-e.e c.loop-e-test.false c.loop-e.invariant
