use mathlib.Core.Path.{refl}
use Rattle.std.proofs.Common.{rules}
use Rattle.paper.specs.Trailer.{count_ok}
use Rattle.sheet_trailer.proofs.Search.{find_bad}
use Rattle.sheet_trailer.proofs.trailer.Trailer.bad_count.Goals as goal

pub returns : goal.returns
returns c = find_bad (count_ok c.args.self.now.sheet.now) 5 _ _ _ c.find.result refl c.find.ensures.ran (λ k q h. search rules) (λ k q h. search rules)
