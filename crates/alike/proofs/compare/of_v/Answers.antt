use Rattle.std.proofs.Common.{arith}
use Rattle.std.proofs.lemmas.Grind.{common_steps}
use native.Mathlib.Omega.{arith}
use Rattle.sheet.proofs.Records.{record_below}
use Rattle.alike.specs.Untold.{of_v}
use Rattle.alike.proofs.Comparing.{part_told}
use Rattle.alike.proofs.compare.of_v.Goals as goal

pub returns-in-Const : goal.returns-in-Const
unfolding of_v
returns-in-Const c = let told = part_told _ _ _ (record_below c.args.sheet.now.parts_at c.requires) c.part.ensures in rw (← told) (grind (arith, common_steps))

pub returns-in-All : goal.returns-in-All
unfolding of_v
returns-in-All c = let told = part_told _ _ _ (record_below c.args.sheet.now.parts_at c.requires) c.part.ensures in rw (← told) (grind (arith, common_steps))
