use native.Mathlib.Omega.{arith}
use Rattle.paper.specs.Opens.{opens}
use Rattle.judge.proofs.opens.Goals as goal

pub all_of_v-v-requires : goal.all_of_v-v-requires
all_of_v-v-requires c =
    let s = c.args.g.now.sheet.now in
    (c.requires.0, omega (arith, c.requires.1, s.longest_is, s.good.short))

pub returns : goal.returns
unfolding opens
returns c =
    let v = c.all_of_v-v.ensures in
    rw (v.0, v.1) at c.opens_on.ensures
