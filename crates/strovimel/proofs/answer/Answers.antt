use Prim.Native.Nat.{◌≤◌}
use mathlib.Core.Path.{sym}
use native.Mathlib.Omega.{arith}
use lib.Seq.{length-take-le}
use Rattle.solver.proofs.Short.{found_short}
use Rattle.strovimel.proofs.answer.Goals.{In-Ok-Found}
use Rattle.strovimel.proofs.answer.Goals as goal

-- the word found has at most 60 bytes
short : (g : _) (c : In-Ok-Found g) → c.in-Ok-Found.length ≤ 60
short g c = found_short _ _ _ _ _ _ _ _ (rw c.in-Ok-Found.field-0-is at c.in-Ok-Found.ensures)

pub slice_bounds-out-end : goal.slice_bounds-out-end
slice_bounds-out-end g c = omega (arith, short g (goal.at.slice_bounds-out-end g c).In-Ok-Found)

pub slice_bounds-println-end : goal.slice_bounds-println-end
slice_bounds-println-end g c =
    let s = short g (goal.at.slice_bounds-println-end g c).In-Ok-Found in
    sym (length-take-le c.in-Ok-Found.length c.solve.new.out (omega (arith, s)))
