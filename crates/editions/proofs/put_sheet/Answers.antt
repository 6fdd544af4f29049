use Prim.Native.Nat.{◌+◌, ◌*◌, ◌≤◌}
use mathlib.Core.Path.{◌≡◌}
use mathlib.Core.List.{◌++◌}
use native.Mathlib.Omega.{arith}
use lib.ListN.{length, take}
use lib.Seq.{length-take-le}
use Rattle.paper.specs.Trailer.{base}
use Rattle.paper.specs.Editions.{zeros, in_edition}
use Rattle.numbers.proofs.Stores.{put_more, put_same, put_written}
use Rattle.editions.specs.Puts.{ending}
use Rattle.editions.proofs.Moved.{moved_length, zeros_length}
use Rattle.editions.proofs.put_sheet.Goals.{After-base-at}
use Rattle.editions.proofs.put_sheet.Goals as goal

-- where the trailer begins
begins : (c : After-base-at) → c.base-at.result ≡ base c.args.sheet.now.bytes.now
begins c = rw c.trailer.ensures at c.base-at.ensures

-- what stands before the new bytes is in the sheet
within : (c : After-base-at) → length (take (c.base-at.result + 24) c.args.sheet.now.bytes.now) ≡ c.base-at.result + 24
unfolding base
within c = length-take-le _ _ (omega (arith, begins c, c.args.sheet.now.good.trailed))

-- and the sheet moved in the space
room : (c : After-base-at) → c.base-at.result + (28 + 4 * c.args.e) ≤ length c.args.out.now
room c = omega (arith, begins c, c.requires.2, moved_length c.args.sheet.now.bytes.now c.args.sheet.now.good.trailed c.args.e c.requires.0 c.requires.1)

pub put_bytes-p-requires : goal.put_bytes-p-requires
put_bytes-p-requires c = omega (arith, within (goal.at.put_bytes-p-requires c).After-base-at, room (goal.at.put_bytes-p-requires c).After-base-at)

pub put_zeros-z-requires : goal.put_zeros-z-requires
put_zeros-z-requires c = omega (arith, c.put_bytes-p.ensures.stop, c.put_bytes-p.auto, within (goal.at.put_zeros-z-requires c).After-base-at, room (goal.at.put_zeros-z-requires c).After-base-at)

pub put_ending-requires : goal.put_ending-requires
put_ending-requires c =
    let a = c.args in
    let p = c.requires in
    (p.1, omega (arith, c.put_bytes-p.ensures.stop, c.put_bytes-p.auto, c.put_zeros-z.ensures.stop, c.put_zeros-z.auto, zeros_length a.e p.0 p.1, within (goal.at.put_ending-requires c).After-base-at, room (goal.at.put_ending-requires c).After-base-at))

pub returns : goal.returns
unfolding in_edition
returns c =
    let a = c.args in
    let at = c.base-at in
    let same : take (at.result + 24) a.sheet.now.bytes.now ++ (zeros a.e ++ ending (at.result + c.trailer_size.result) a.e) ≡ in_edition a.e a.sheet.now.bytes.now = rw (c.trailer_size.ensures, begins (goal.at.returns c).After-base-at) in
    put_written c.requires.2 (put_same same (put_more c.put_bytes-p.ensures (put_more c.put_zeros-z.ensures c.put_ending.ensures)))
