use mathlib.Core.Path.{◌≡◌, refl}
use native.Mathlib.Omega.{arith}
use Rattle.std.proofs.Common.{rules, tests, Some}
use Rattle.judge.proofs.Holding.{charts_filled, derived}
use Rattle.judge.proofs.claims.can_derive.Goals as goal
use Rattle.judge.proofs.claims.can_derive.Goals.{then-ne, else-ne}

pub derives-requires : goal.derives-requires
derives-requires c = (c.requires.1, omega (arith, c.requires.0, (c.args.g.now.sheet.now.good.counts 2 (omega arith)).1))

pub returns : goal.returns
returns c =
    let few = (c.args.g.now.sheet.now.good.counts 2 (omega arith)).1 in
    elim c.if-ne.branch [
      | then-ne w ↦
          let chart = charts_filled _ _ _ w.fill.ensures in
          rw w.held-is (derived _ _ _ _ _ (omega (arith, c.requires.0)) chart (rw w.held-is at c.derives.ensures), chart, refl)
      | else-ne w ↦
          let same : c.args.held.now.run ≡ Some c.args.term = search (rules, tests) in
          let chart = c.requires.2.chart same in
          rw w.held-is (derived _ _ _ _ _ (omega (arith, c.requires.0)) chart (rw w.held-is at c.derives.ensures), chart, same)
    ]
