use native.Mathlib.Omega.{arith}
use lib.ListN.{get_or}
use Rattle.groundwork.specs.Laying.{no_pair}
use Rattle.chart_cells.specs.Steps.{Adds, listed, only, paired}
use Rattle.chart_cells.proofs.Adding.{adds_none, adds_put}
use Rattle.chart_cells.proofs.Splitting.{paired_none, pairs_turn}
use Rattle.chart_cells.proofs.Grounding.{pair_low}
use Rattle.chart_cells.proofs.pairs.Goals as goal

pub loop-pair-init : goal.loop-pair-init
loop-pair-init c =
    let a = c.args in
    adds_none a.sp (paired (listed a.g.now) a.work.now a.left a.right 0) a.work.now (paired_none (listed a.g.now) a.left a.right a.work.now)

pub put-requires : goal.put-requires
put-requires c = (omega arith, rw c.from.ensures (pair_low c.args.g.now c.loop-pair.pair-index c.loop-pair-test.true))

pub loop-pair-preserved : goal.loop-pair-preserved
loop-pair-preserved c =
    let a = c.args in
    let l = c.loop-pair in
    let x = get_or (listed a.g.now) l.pair-index no_pair in
    let one : Adds a.sp (only x.row c.both-on.result) l.work c.put.new.ws = rw (c.put.ensures, c.from.ensures) (adds_put l.work a.sp x.row (pair_low a.g.now l.pair-index c.loop-pair-test.true) (omega arith) c.both-on.result) in
    pairs_turn (listed a.g.now) a.left a.right a.sp l.pair-index a.work.now l.work _ c.requires.3 c.requires.4 l.invariant c.both-on.result c.both-on.ensures one
