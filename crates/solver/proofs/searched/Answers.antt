use Rattle.walk_state.specs.Letters.{has_letter}
use Rattle.solver.proofs.Walking.{tells_walk}
use Rattle.solver.proofs.searched.Goals as goal

pub of-g-requires : goal.of-g-requires
unfolding has_letter
of-g-requires c = c.letters_of-letters.ensures

pub returns : goal.returns
unfolding has_letter
returns c = tells_walk c.args.sheet.now c.letters_of-letters.result.of _ _ c.letters_of-letters.ensures (rw c.of-g.ensures at c.seek.ensures)
