use Prim.Native.Nat.{◌+◌, ◌*◌, ◌/◌, ◌%◌, ◌^◌, ◌<◌}
use native.Mathlib.Nat.{le_of_lt}
use native.Mathlib.Omega.{arith}
use lib.ListN.{get_or}
use lib.Bits.{bit_or, or_lt}
use borrow.Author.Rules.{rules}
use Rattle.workspace.proofs.Bits.{set_is}
use Rattle.workspace.proofs.Room.{or_le, mark_still, mark_new}
use Rattle.workspace.proofs.mark.Goals as goal

pub returns-then-x-old : goal.returns-then-x-old
returns-then-x-old c =
    let a = c.args in
    mark_still a.ws.now a.s a.r _ (set_is a.ws.now a.s a.r) c.if-x-old.true

pub returns : goal.returns
returns c =
    let a = c.args in
    let old = get_or a.ws.now (4 * a.s + a.r / 64) 0 in
    let old_fits : old < 2 ^ 64 = search rules in
    let mask = (1 * 2 ^ (a.r % 64)) % 2 ^ 64 in
    mark_new a.ws.now a.s a.r (bit_or old mask) (set_is a.ws.now a.s a.r) c.if-x-old.false (or_le old mask)
    (le_of_lt (or_lt 64 old mask old_fits (omega arith))) (search rules)
