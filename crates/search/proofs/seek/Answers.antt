use mathlib.Core.Path.{sym, ◌∙◌}
use native.Mathlib.Omega.{arith}
use Rattle.walk.proofs.Seek.{seek_start, seek_found, seek_spent, seek_over, seek_none, seek_length}
use Rattle.search.proofs.Tellings.{tells_found, tells_none, tells_spent}
use Rattle.search.proofs.seek.Goals as goal

pub loop-q-init : goal.loop-q-init
loop-q-init c =
    let s = c.args.g.now.sheet.now in
    let h = s.good in
    seek_start _ _ _ _ _ _ c.start-q.result _ c.start-q.ensures c.requires.0 (omega (arith, h.short, s.longest_is))

pub returns-then-p-n : goal.returns-then-p-n
returns-then-p-n c =
    let i = c.loop-q.invariant in
    tells_found _ _ c.loop-q.q.prefix _ (omega (arith, i.within, i.range)) i.frame.letters (seek_found _ _ _ _ _ _ _ _ _ i c.loop-q-test.true c.if-p-n.true (sym c.opens-ok.ensures ∙ c.if-ok.true))

pub returns-in_default : goal.returns-in_default
returns-in_default c =
    tells_spent _ _ _ (seek_over _ _ _ _ _ _ _ _ _ c.loop-q.invariant c.requires.1 _ (sym c.opens-ok.ensures) c.in_default.ensures)

pub returns-then-n-g : goal.returns-then-n-g
returns-then-n-g c =
    tells_none _ _ _ (seek_none _ _ _ _ _ _ _ _ _ c.loop-q.invariant c.requires.1 _ (sym c.opens-ok.ensures) _ _ c.in-Some.ensures c.if-q-eq0.true c.if-n-g.true)

pub loop-q-preserved-then-q-eq0 : goal.loop-q-preserved-then-q-eq0
loop-q-preserved-then-q-eq0 c =
    rw c.again-q.ensures (seek_length _ _ _ _ _ _ _ _ _ c.loop-q.invariant c.requires.1 _ (sym c.opens-ok.ensures) _ _ c.in-Some.ensures c.if-q-eq0.true c.if-n-g.false)

pub returns : goal.returns
returns c = tells_spent _ _ _ (seek_spent _ _ _ _ _ _ _ _ _ c.loop-q.invariant c.loop-q-test.false)
