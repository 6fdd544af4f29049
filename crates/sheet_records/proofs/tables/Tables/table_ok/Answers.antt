use Rattle.paper.specs.Trailer.{count_of, record_at}
use Rattle.paper.specs.Records.{record_ok, table_ok}
use Rattle.sheet_trailer.proofs.Search.{none_bad}
use Rattle.sheet_records.proofs.tables.Tables.table_ok.Goals as goal

pub returns : goal.returns
unfolding table_ok
returns c =
    let s = c.args.self.now.trailer.sheet.now in
    none_bad (λ i. record_ok s c.args.t (record_at s c.args.t i)) (count_of s c.args.t) c.bad_record.result c.is_none.result c.bad_record.ensures c.is_none.ensures
