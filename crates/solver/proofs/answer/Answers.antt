use Prim.Native.Nat.{◌≤◌}
use lib.Seq.{length-take-le}
use native.Mathlib.Omega.{arith}
use Rattle.search.specs.Tells.{said_by}
use Rattle.solver.proofs.answer.Goals.{In-Found}
use Rattle.solver.proofs.answer.Goals as goal

-- no length of the sheet is above 60
word_short : (c : In-Found) → c.in-Found.word.len ≤ 60
word_short c =
    let s = c.args.sheet.now in
    omega (arith, c.in-Found.ensures.within.0, s.good.short, s.longest_is)

pub put_word-requires : goal.put_word-requires
put_word-requires c = (word_short (goal.at.put_word-requires c).In-Found, omega (arith, c.in-Found.ensures.within.0, c.requires))

pub returns-in-Found : goal.returns-in-Found
unfolding said_by
returns-in-Found c =
    let told = c.in-Found.ensures in
    let short = length-take-le c.in-Found.word.len c.in-Found.word.bytes (omega (arith, word_short (goal.at.returns-in-Found c).In-Found, told.within.1)) in
    record { said = rw (told.said, short); cleared = c.clear.ensures; wrote = rw told.said c.put_word.ensures }

pub returns-in-None : goal.returns-in-None
unfolding said_by
returns-in-None c = record { said = rw c.in-None.ensures.said; cleared = c.clear.ensures; wrote = rw c.in-None.ensures.said }

pub returns-in-Spent : goal.returns-in-Spent
unfolding said_by
returns-in-Spent c = record { said = rw c.in-Spent.ensures.said; cleared = c.clear.ensures; wrote = rw c.in-Spent.ensures.said }
