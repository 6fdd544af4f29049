use Prim.Native.Nat.{◌+◌, ◌≤◌}
use mathlib.Core.Path.{ap, ◌∙◌}
use lib.ListN.{length}
use borrow.Author.Tests.{eq-eqb}
use Rattle.sheet.proofs.Contents.{text_length}
use Rattle.sheet.proofs.Rows.{row_wide}
use Rattle.chart.specs.Cells.{fitting}
use Rattle.chart.proofs.Rows.{part_fits}
use native.Mathlib.Omega.{arith}
use Rattle.chart.proofs.singles.text_fits.Goals.{In-Text}
use Rattle.chart.proofs.singles.text_fits.Goals as goal

-- the row's bytes lie in the text
inside : (c : In-Text) → c.in-Text.a + c.in-Text.len ≤ length c.args.g.now.sheet.now.text.now
inside c =
    let s = c.args.g.now.sheet.now in
    omega (arith, rw c.in-Text.is at c.row.ensures.sound, ap length s.text_is, text_length _ s.good)

pub overflow_add-a : goal.overflow_add-a
overflow_add-a c = omega (arith, rw c.in-Text.is at (row_wide c.args.g.now.sheet.now.good c.row.ensures))

pub slice_bounds-can_hold_all-end : goal.slice_bounds-can_hold_all-end
slice_bounds-can_hold_all-end c = inside (goal.at.slice_bounds-can_hold_all-end c).In-Text

pub returns-then-len-m : goal.returns-then-len-m
unfolding fitting
returns-then-len-m c =
    let s = c.args.g.now.sheet.now in
    rw (← c.row.ensures.same, c.in-Text.is, eq-eqb _ _ c.if-len-m.true)
    (c.can_hold_all.ensures ∙ part_fits _ _ _ _ _ (inside (goal.at.returns-then-len-m c).In-Text) ∙ rw s.text_is)
