use Prim.Native.Nat.{◌+◌, ◌≤◌}
use mathlib.Core.Path.{ap}
use lib.ListN.{length}
use native.Mathlib.Omega.{arith}
use borrow.Author.Rules.{rules}
use Rattle.sheet.proofs.Contents.{text_length}
use Rattle.terms.proofs.constant.Goals as goal

pub overflow_add-a : goal.overflow_add-a
overflow_add-a c = omega (arith, (c.args.sheet.now.good.counts 1 (omega arith)).1, c.requires.1)

pub slice_bounds-known-end : goal.slice_bounds-known-end
slice_bounds-known-end c =
    let h : c.args.a + c.args.b ≤ length c.args.sheet.now.text.now = omega (arith, ap length c.args.sheet.now.text_is, text_length _ c.args.sheet.now.good, c.requires.1) in
    search rules
