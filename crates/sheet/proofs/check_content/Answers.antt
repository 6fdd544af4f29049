use mathlib.Core.Bool.{false}
use mathlib.Core.Path.{◌≡◌}
use lib.Dec.{eqb}
use Rattle.paper.specs.Trailer.{count_of, record_at}
use Rattle.paper.specs.Records.{record_ok, table_ok, bad_record}
use Rattle.sheet_trailer.proofs.Search.{bad_fails, some_bad}
use Rattle.sheet.proofs.check_content.Goals.{After-bad_record}
use Rattle.sheet.proofs.check_content.Goals as goal

-- the table named has a bad record
table_bad : (c : After-bad_record) → eqb (bad_record c.args.tables.now.trailer.sheet.now c.in-Some.t) (count_of c.args.tables.now.trailer.sheet.now c.in-Some.t) ≡ false
unfolding table_ok
table_bad c = bad_fails (table_ok c.args.tables.now.trailer.sheet.now) 5 c.in-Some.t c.in-Some.ensures.0 c.in-Some.ensures.1

pub unwrap-i-requires : goal.unwrap-i-requires
unwrap-i-requires c = some_bad (λ i. record_ok c.args.tables.now.trailer.sheet.now c.in-Some.t (record_at c.args.tables.now.trailer.sheet.now c.in-Some.t i)) (count_of c.args.tables.now.trailer.sheet.now c.in-Some.t) c.bad_record.result c.bad_record.ensures (table_bad c)
