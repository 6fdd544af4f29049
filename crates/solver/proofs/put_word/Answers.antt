use mathlib.Core.Path.{◌≡◌}
use lib.ListN.{length}
use lib.Seq.{length-take-le}
use native.Mathlib.Omega.{arith}
use borrow.Author.Rules.{rules}
use Rattle.paper.specs.Answers.{written}
use Rattle.solver.proofs.put_word.Goals as goal

pub returns : goal.returns
unfolding written
returns c =
    let long : length c.args.p.bytes ≡ 60 = search rules in
    rw (c.copy_from_slice.ensures.after, length-take-le c.args.p.len c.args.p.bytes (omega (arith, c.requires.0)))
