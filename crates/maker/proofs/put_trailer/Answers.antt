use Prim.Native.Nat.{◌+◌}
use native.Mathlib.Omega.{arith}
use Rattle.numbers.proofs.Stores.{put_more}
use Rattle.maker.specs.Trailer.{trailer_bytes}
use Rattle.maker.proofs.Answers.{offsets_size}
use Rattle.maker.proofs.put_trailer.Goals as goal

pub put_ending-requires : goal.put_ending-requires
put_ending-requires c =
    let a = c.args in
    omega (arith, offsets_size a.offsets.now (a.plan.now.n + 1), c.put_offsets-p.ensures.stop)

pub returns : goal.returns
unfolding trailer_bytes
returns c = put_more c.put_offsets-p.ensures c.put_ending.ensures
