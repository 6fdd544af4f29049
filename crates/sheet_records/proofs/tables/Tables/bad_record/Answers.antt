use mathlib.Core.Path.{refl}
use Rattle.std.proofs.Common.{rules}
use Rattle.paper.specs.Trailer.{record_at}
use Rattle.paper.specs.Records.{record_ok}
use Rattle.sheet_trailer.proofs.Search.{find_bad}
use Rattle.sheet_records.proofs.tables.Tables.bad_record.Goals as goal

pub returns : goal.returns
returns c =
    let table = c.table_of-at.ensures.0 in
    rw (← table.counts)
    (find_bad (λ i. record_ok c.args.self.now.trailer.sheet.now c.args.t (record_at c.args.self.now.trailer.sheet.now c.args.t i)) _ _ _ _ c.find.result refl c.find.ensures.ran (λ k q h. rw (← table.begins) (search rules)) (λ k q h. rw (← table.begins) (search rules)))
