use native.Mathlib.Omega.{arith}
use Rattle.maker_groups.proofs.Writing.{splits_start, splits_turn, splits_size}
use Rattle.maker_groups.proofs.put_splits.Goals as goal

pub loop-k-init : goal.loop-k-init
loop-k-init c =
    let a = c.args in
    splits_start a.a a.b a.o a.list.now

pub put_option-p-requires : goal.put_option-p-requires
put_option-p-requires c =
    let a = c.args in
    let l = c.loop-k in
    omega (arith, splits_size l.k a.a a.b, l.invariant.stop)

pub loop-k-preserved : goal.loop-k-preserved
loop-k-preserved c =
    let a = c.args in
    let l = c.loop-k in
    splits_turn l.k a.a a.b (omega arith) l.invariant c.put_option-p.ensures
