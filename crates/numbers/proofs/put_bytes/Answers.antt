use mathlib.Core.Path.{◌≡◌, refl}
use native.Mathlib.Omega.{arith}
use lib.ListN.{length, length-set}
use lib.Seq.{take_all}
use Rattle.numbers.proofs.Stores.{put_next, put_same}
use Rattle.numbers.proofs.put_bytes.Goals as goal

pub loop-i-init : goal.loop-i-init
loop-i-init c = (record { bytes = refl; stop = omega arith }, refl)

pub loop-i-preserved : goal.loop-i-preserved
loop-i-preserved c =
    let l = c.loop-i in
    (put_next c.args.x.now l.i c.loop-i-test.true l.invariant.0, simp length-set l.invariant.1)

pub returns : goal.returns
returns c =
    let e : c.loop-i.i ≡ length c.args.x.now = omega arith in
    rw e at (put_same (take_all c.loop-i.i _ (omega arith)) c.loop-i.invariant.0)
