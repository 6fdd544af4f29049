use mathlib.Core.Path.{◌≡◌}
use native.Mathlib.Omega.{arith}
use borrow.Author.Rules.{rules}
use Prim.Native.Nat.{◌+◌}
use Rattle.paper.specs.Sheet.{grammar_of}
use Rattle.workspace.proofs.Where.{put_where_is}
use Rattle.sheet.proofs.Rows.{rows_all}
use Rattle.maker_options.specs.Giving.{giving}
use Rattle.maker_options.specs.Prepared.{Given}
use Rattle.maker_options.proofs.Turns.{sheet_few}
use Rattle.maker_options.proofs.Entries.{given_more}
use Rattle.maker_options.proofs.ready.give.Goals.{After-put_where}
use Rattle.maker_options.proofs.ready.give.Goals as goal

-- one length more has its entry
turn : (p : After-put_where) → Given (grammar_of p.args.sheet.now.bytes.now) (p.loop-m.m-counter + 1) p.args.ws.now p.put_where.new.ws
turn p =
    let sheet = p.args.sheet.now in
    let g = grammar_of sheet.bytes.now in
    let m = p.loop-m.m-counter in
    given_more g m sheet.rows.count p.loop-m.auto.m-counter (omega arith) (sheet_few sheet) (rows_all sheet.rows_at) p.loop-m.invariant p.wipe.ensures
    (put_where_is (giving g m) p.put_where.ensures (λ q on h e. search rules))

pub put_where-requires : goal.put_where-requires
put_where-requires c = (omega arith, sheet_few c.args.sheet.now, search rules)

pub loop-m-preserved : goal.loop-m-preserved
loop-m-preserved c = turn (goal.at.loop-m-preserved c).After-put_where

pub returns-2 : goal.returns-2
returns-2 c =
    let last : c.args.n ≡ c.loop-m.m-counter = omega arith in
    rw last (turn (goal.at.returns-2 c).After-put_where)
