use Prim.Native.Nat.{◌+◌, ◌≤◌}
use mathlib.Core.Path.{ap, ◌∙◌}
use lib.ListN.{length}
use native.Mathlib.Omega.{arith}
use Rattle.sheet.proofs.Contents.{text_length, text_is}
use Rattle.chart.proofs.Rows.{part_fits}
use Rattle.judge.proofs.claims.holds_at.Goals.{Start}
use Rattle.judge.proofs.claims.holds_at.Goals as goal

-- the stretch lies in the text
inside : (c : Start) → c.args.a + c.args.b ≤ length c.args.g.now.sheet.now.text.now
inside c =
    let s = c.args.g.now.sheet.now in
    omega (arith, ap length s.text_is, text_length _ s.good, c.requires.0)

pub overflow_add-a : goal.overflow_add-a
overflow_add-a c = omega (arith, (c.args.g.now.sheet.now.good.counts 1 (omega arith)).1, c.requires.0)

pub slice_bounds-can_hold_all-end : goal.slice_bounds-can_hold_all-end
slice_bounds-can_hold_all-end c = omega (arith, inside (goal.at.slice_bounds-can_hold_all-end c).Start)

pub returns : goal.returns
returns c =
    let s = c.args.g.now.sheet.now in
    c.can_hold_all.ensures ∙ part_fits _ _ _ _ _ (inside (goal.at.returns c).Start) ∙ rw (s.text_is, text_is s.bytes.now)
