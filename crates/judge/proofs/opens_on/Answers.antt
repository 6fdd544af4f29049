use native.Mathlib.Omega.{arith}
use Rattle.judge.proofs.Judging.{upto_shut, upto_all}
use Rattle.judge.proofs.opens_on.Goals as goal

pub returns-then-not-possible : goal.returns-then-not-possible
returns-then-not-possible c =
    upto_shut _ _ _ _ _ _ c.loop-i.invariant _ c.assertion.ensures.same _ _ c.possible.ensures (omega (arith, c.args.g.now.sheet.now.assertions_at.counts)) c.if-not-possible.true

pub returns : goal.returns
returns c = upto_all _ _ _ _ _ c.loop-i.invariant (omega (arith, c.args.g.now.sheet.now.assertions_at.counts))
