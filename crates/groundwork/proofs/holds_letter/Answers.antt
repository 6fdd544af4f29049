use Rattle.std.proofs.Common.{arith}
use Rattle.std.proofs.lemmas.Grind.{common_steps}
use Rattle.groundwork.specs.Laying.{some_letter}
use Rattle.groundwork.proofs.holds_letter.Goals as goal

pub returns-in-Empty : goal.returns-in-Empty
unfolding some_letter
returns-in-Empty c = let same = c.row.ensures.same in rw (← same) (grind (arith, common_steps))
