use native.Mathlib.Nat.{add_assoc}
use Rattle.paper.specs.Sheet.{assertion_at}
use Rattle.sheet_contents.proofs.OfKind.{claim_is}
use Rattle.sheet_contents.proofs.assertion_at.Goals as goal

pub returns : goal.returns
unfolding assertion_at
returns c =
    let run = rw (add_assoc c.args.o 2 2) at c.pair_at-first.ensures in
    let pair = rw (add_assoc c.args.o 6 2) at c.pair_at-a.ensures in
    rw (c.unwrap_or-claim.ensures, claim_is _ _ _ _ c.claim_of.ensures, run.0, run.1, pair.0, pair.1)
