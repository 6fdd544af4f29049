use Prim.Native.Nat.{◌+◌}
use native.Mathlib.Omega.{arith}
use Rattle.std.proofs.lemmas.List.{get_or-take}
use Rattle.maker_groups.proofs.Writing.{gather_none, gather_turn}
use Rattle.maker.specs.Trailer.{offset_bytes}
use Rattle.maker.proofs.Answers.{offsets_size}
use Rattle.maker.proofs.put_offsets.Goals as goal

pub loop-x-init : goal.loop-x-init
loop-x-init c = gather_none (offset_bytes c.args.offsets.now) c.args.o c.args.list.now

pub put_u32-p-requires : goal.put_u32-p-requires
put_u32-p-requires c =
    let l = c.loop-x in
    omega (arith, offsets_size c.args.offsets.now l.x-index, l.invariant.stop)

pub loop-x-preserved : goal.loop-x-preserved
unfolding offset_bytes
loop-x-preserved c =
    let a = c.args in
    let l = c.loop-x in
    gather_turn (offset_bytes a.offsets.now) l.x-index l.invariant (rw (get_or-take (a.plan.now.n + 1) a.offsets.now l.x-index 0 (omega arith)) at c.put_u32-p.ensures.0)
