use mathlib.Core.Path.{refl, ◌∙◌}
use native.Mathlib.Omega.{arith}
use borrow.Author.Rules.{rules}
use Rattle.std.proofs.lemmas.Iterator.{YieldsList-from_range}
use Rattle.std.proofs.lemmas.Iterator.Search.{any_from_yields_List}
use Rattle.paper.specs.Trailer.{count_of}
use Rattle.alike.proofs.Comparing.{compares_at, some_any}
use Rattle.alike.proofs.compare.some_compares.Goals as goal

pub returns : goal.returns
returns c =
    let s = c.args.sheet.now.bytes.now in
    any_from_yields_List (compares_at s) _ _ c.any.result c.any.ensures.ran
    (YieldsList-from_range 0 c.args.sheet.now.assertions.count (count_of s 4) refl (omega (arith, c.args.sheet.now.assertions_at.counts)))
    (λ x b q k. search rules)
    ∙ some_any s
