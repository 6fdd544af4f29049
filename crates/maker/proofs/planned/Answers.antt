use Rattle.maker.proofs.planned.Goals as goal

pub fill-requires : goal.fill-requires
fill-requires c = rw c.of.ensures.0 c.requires.0

pub returns : goal.returns
returns c = rw (c.of.ensures.0, c.of.ensures.1, c.of.ensures.2) at c.fill.ensures
