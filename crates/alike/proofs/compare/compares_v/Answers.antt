use Rattle.std.proofs.Common.{arith}
use Rattle.std.proofs.lemmas.Grind.{common_steps}
use Rattle.sheet.proofs.Records.{record_below}
use Rattle.alike.specs.Untold.{compares_v}
use Rattle.alike.proofs.Comparing.{assertion_told}
use Rattle.alike.proofs.compare.compares_v.Goals as goal

pub returns-then-uses_v : goal.returns-then-uses_v
unfolding compares_v
returns-then-uses_v c = let told = assertion_told _ _ _ (record_below c.args.sheet.now.assertions_at c.requires) c.assertion-a.ensures in rw (← told) (grind (arith, common_steps))

pub returns-else-uses_v : goal.returns-else-uses_v
unfolding compares_v
returns-else-uses_v c = let told = assertion_told _ _ _ (record_below c.args.sheet.now.assertions_at c.requires) c.assertion-a.ensures in rw (← told) (grind (arith, common_steps))
