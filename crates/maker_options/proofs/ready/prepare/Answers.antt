use native.Mathlib.Omega.{arith}
use Rattle.paper.specs.Sheet.{grammar_of}
use Rattle.sheet.proofs.Rows.{rows_all}
use Rattle.maker_options.proofs.Turns.{sheet_few}
use Rattle.maker_options.proofs.Entries.{ready_is}
use Rattle.maker_options.proofs.ready.prepare.Goals as goal

pub turn-requires : goal.turn-requires
turn-requires c = sheet_few c.args.sheet.now

pub returns : goal.returns
returns c =
    let sheet = c.args.sheet.now in
    ready_is (grammar_of sheet.bytes.now) c.args.n sheet.rows.count _ _ _ _ _ (rows_all sheet.rows_at) (sheet_few sheet) c.nulls-nulls.ensures c.reach.ensures
    c.turn.ensures (omega arith) c.copy.ensures c.give.ensures
