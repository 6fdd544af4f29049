use borrow.Author.Rules.{rules}
use Rattle.paper.specs.Sheet.{grammar_of, sheet_of}
use Rattle.sheet.proofs.Rows.{rows_few, rows_all}
use Rattle.workspace.proofs.Where.{put_where_is}
use Rattle.groundwork.proofs.Laying.{letter_row, ranges_done}
use Rattle.groundwork.proofs.ranges.Goals as goal

pub returns : goal.returns
unfolding sheet_of grammar_of
returns c =
    let sheet = c.args.sheet.now in
    let s = sheet.bytes.now in
    rw (put_where_is (letter_row (sheet_of s) (grammar_of s)) c.put_where.ensures (λ q on h e. search rules))
    (ranges_done (sheet_of s) sheet.rows.count (rows_all sheet.rows_at) (rows_few sheet.good sheet.rows_at))
