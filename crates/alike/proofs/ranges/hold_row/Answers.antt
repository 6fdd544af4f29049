use Rattle.std.proofs.lemmas.Grind.{common_steps}
use Rattle.sheet_contents.specs.Ranges.{holds_byte}
use native.Mathlib.Omega.{arith}
use Rattle.alike.proofs.Holding.{added_none}
use Rattle.alike.proofs.ranges.hold_row.Goals as goal

pub returns-in-Empty : goal.returns-in-Empty
unfolding holds_byte
returns-in-Empty c = let same = c.row.ensures.same in added_none _ _ _ (λ b. rw (← same) (grind (arith, common_steps)))
