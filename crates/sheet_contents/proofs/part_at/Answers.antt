use native.Mathlib.Nat.{add_assoc}
use Rattle.paper.specs.Sheet.{part_at}
use Rattle.sheet_contents.proofs.OfKind.{part_is, part_small}
use Rattle.sheet_contents.proofs.part_at.Goals as goal

pub returns : goal.returns
unfolding part_at
returns c =
    let pair = rw (add_assoc c.args.o 2 2) at c.pair_at-a.ensures in
    record {
      same = rw (c.unwrap_or.ensures, ← pair.0, ← pair.1) (part_is _ _ _ _ c.part_of.ensures);
      small = rw c.unwrap_or.ensures (part_small _ _ _ _ c.part_of.ensures pair.2 pair.3);
    }
