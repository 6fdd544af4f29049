use Rattle.paper.specs.Terms.{All}
use mathlib.Core.Path.{refl}
use native.Mathlib.Omega.{arith}
use Rattle.terms.proofs.Joining.{join_start, next_room, join_more, join_end}
use Rattle.terms.proofs.term.Goals as goal

pub loop-i-init : goal.loop-i-init
loop-i-init c = join_start _ _ _ _ refl

pub overflow_add-r : goal.overflow_add-r
overflow_add-r c = omega (arith, (c.args.sheet.now.good.counts 3 (omega arith)).1, c.requires.run)

pub add_part-requires : goal.add_part-requires
add_part-requires c =
    let e = c.part.ensures.same All in
    let j = c.loop-i.invariant in (
      c.part.ensures.sound,
      c.part.ensures.small,
      rw e (next_room _ _ _ c.requires _ _ j c.loop-i-test.true),
    )

pub loop-i-preserved : goal.loop-i-preserved
loop-i-preserved c = join_more _ _ _ c.requires _ _ _ _ c.loop-i.invariant c.loop-i-test.true (c.part.ensures.same All) c.add_part.ensures

pub returns : goal.returns
returns c = join_end _ _ _ c.requires _ _ c.loop-i.invariant c.loop-i-test.false
