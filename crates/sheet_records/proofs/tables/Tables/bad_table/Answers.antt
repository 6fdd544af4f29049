use mathlib.Core.Path.{refl}
use Rattle.std.proofs.Common.{rules}
use Rattle.paper.specs.Records.{table_ok}
use Rattle.sheet_trailer.proofs.Search.{find_bad}
use Rattle.sheet_records.proofs.tables.Tables.bad_table.Goals as goal

pub returns : goal.returns
returns c = find_bad (table_ok c.args.self.now.trailer.sheet.now) 5 _ _ _ c.find.result refl c.find.ensures.ran (λ k q h. search rules) (λ k q h. search rules)
