use mathlib.Core.Path.{◌≡◌}
use Prim.Native.Nat.{◌-◌}
use Rattle.workspace.specs.Spans.{span_at}
use Rattle.chart_cells.specs.Steps.{Adds, listed, parted}
use Rattle.chart_cells.proofs.splits.Given as goal

-- the rows of the splits before e are added, and `left` is the span from i to e
abbrev pub invariant-loop-e : goal.invariant-loop-e
invariant-loop-e l = (l.left ≡ span_at l.i (l.e - l.i)) × Adds l.sp (parted (listed l.g) l.initial.work l.i l.m (l.e - l.i - 1)) l.initial.work l.work
