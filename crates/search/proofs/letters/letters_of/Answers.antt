use Prim.Native.Nat.{◌+◌, ◌*◌, ◌≤◌}
use native.Mathlib.Omega.{arith}
use lib.ListN.{length}
use Rattle.sheet.proofs.Records.{record_room}
use Rattle.search.proofs.Lettered.{ranges_start, ranges_more, ranges_end}
use Rattle.search.proofs.letters.letters_of.Goals.{In-loop-i}
use Rattle.search.proofs.letters.letters_of.Goals as goal

-- range i lies in the sheet
inside : (c : In-loop-i) → c.args.sheet.now.letters.at + 2 * c.loop-i.i + 2 ≤ length c.args.sheet.now.bytes.now
inside c = record_room _ 0 (omega arith) _ _ c.args.sheet.now.good c.args.sheet.now.letters_at c.loop-i-test.true

pub loop-i-init : goal.loop-i-init
loop-i-init c = ranges_start c.args.sheet.now.bytes.now _ c.none-l.ensures

pub overflow_mul-o : goal.overflow_mul-o
overflow_mul-o c = omega (arith, inside (goal.at.overflow_mul-o c).In-loop-i)

pub overflow_add-o : goal.overflow_add-o
overflow_add-o c = omega (arith, inside (goal.at.overflow_add-o c).In-loop-i)

pub bounds-sheet-o : goal.bounds-sheet-o
bounds-sheet-o c = omega (arith, inside (goal.at.bounds-sheet-o c).In-loop-i)

pub overflow_add-o-in-loop-i : goal.overflow_add-o-in-loop-i
overflow_add-o-in-loop-i c = omega (arith, inside (goal.at.overflow_add-o-in-loop-i c).In-loop-i)

pub bounds-sheet-o-in-loop-i : goal.bounds-sheet-o-in-loop-i
bounds-sheet-o-in-loop-i c = omega (arith, inside (goal.at.bounds-sheet-o-in-loop-i c).In-loop-i)

pub loop-i-preserved : goal.loop-i-preserved
loop-i-preserved c = ranges_more c.args.sheet.now.bytes.now _ _ _ c.loop-i.invariant (rw c.args.sheet.now.letters_at.begins at c.with-l.ensures)

pub returns : goal.returns
returns c = ranges_end _ _ _ (omega (arith, c.args.sheet.now.letters_at.counts)) c.loop-i.invariant
