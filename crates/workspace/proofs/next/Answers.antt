use native.Mathlib.Omega.{arith}
use borrow.Author.Count.{below_more}
use Rattle.workspace.proofs.Scan.{here, not_here, passed}
use Rattle.workspace.proofs.next.Goals as goal

pub returns-then-x-eq1 : goal.returns-then-x-eq1
returns-then-x-eq1 c =
    let l = c.loop-q in
    (omega arith, record { low = l.invariant.0; high = omega arith; hit = λ h. here _ _ _ l.q (omega arith) c.if-x-eq1.true; gap = l.invariant.1 })

-- words with no row left are passed over
pub loop-q-preserved-then-x-eq0 : goal.loop-q-preserved-then-x-eq0
loop-q-preserved-then-x-eq0 c =
    let l = c.loop-q in
    (omega arith, passed _ _ _ _ l.q (omega arith) c.if-x-eq0.true l.invariant.1)

pub loop-q-preserved : goal.loop-q-preserved
loop-q-preserved c =
    let l = c.loop-q in
    (omega arith, below_more _ _ l.invariant.1 (λ h. not_here _ _ _ l.q (omega arith) c.if-x-eq1.false))
