use native.Mathlib.Nat.{add_assoc}
use Rattle.paper.specs.Sheet.{row_at}
use Rattle.sheet_contents.proofs.OfKind.{row_is}
use Rattle.sheet_contents.proofs.row_at.Goals as goal

pub returns : goal.returns
unfolding row_at
returns c =
    let pair = rw (add_assoc c.args.o 2 2) at c.pair_at-a.ensures in
    rw (c.unwrap_or.ensures, ← pair.0, ← pair.1) (row_is _ _ _ _ c.row_of.ensures)
