use native.Mathlib.Omega.{arith}
use borrow.Author.Rules.{rules}
use Rattle.workspace.proofs.Where.{put_where_is}
use Rattle.maker_options.specs.Prepared.{across}
use Rattle.maker_options.proofs.Entries.{turned_more}
use Rattle.maker_options.proofs.ready.turn.Goals as goal

pub loop-r-preserved : goal.loop-r-preserved
loop-r-preserved c =
    let a = c.args in
    let r = c.loop-r.r-counter in
    turned_more a.from.now a.n r (omega arith) (omega arith) c.loop-r.invariant c.wipe.ensures
    (put_where_is (across a.from.now r) c.put_where.ensures (λ q on h e. search rules))
