use mathlib.Core.Path.{◌∙◌}
use borrow.Author.Tests.{ne_eqb}
use Rattle.terms.proofs.Meeting.{lengths_differ, lengths_same}
use Rattle.terms.proofs.meets.equal.Goals as goal

pub returns-then-p-q : goal.returns-then-p-q
returns-then-p-q c = lengths_same _ _ _ c.if-p-q.true _ (rw (c.places.ensures.0, c.places-then-p-q.ensures.0) at c.meet_all.ensures)

pub returns-else-p-q : goal.returns-else-p-q
returns-else-p-q c a b = ne_eqb c.args.p.now.len c.args.q.now.len c.if-p-q.false ∙ lengths_differ _ _ _ c.if-p-q.false a b
