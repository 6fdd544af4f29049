use native.Mathlib.Omega.{arith}
use Rattle.std.proofs.lemmas.Grind.{common_steps}
use Rattle.list.proofs.ListLaws.{entry_is}
use Rattle.paper.specs.Gate.{head_ok}
use Rattle.list.proofs.CutList.entry.Goals as goal

pub returns-then-o-self : goal.returns-then-o-self
unfolding head_ok
returns-then-o-self c =
    let a = c.args in
    let e = entry_is a.self.now.bytes.now a.m a.self.now.text a.r a.o c.requires.0 in
    grind (arith, common_steps)

pub returns : goal.returns
unfolding head_ok
returns c =
    let a = c.args in
    let e = entry_is a.self.now.bytes.now a.m a.self.now.text a.r a.o c.requires.0 in
    grind (arith, common_steps)
