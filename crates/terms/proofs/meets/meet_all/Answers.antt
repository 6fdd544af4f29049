use mathlib.Core.Path.{◌∙◌}
use native.Mathlib.Omega.{arith}
use borrow.Author.Rules.{rules}
use borrow.Author.Tests.{tests}
use Rattle.std.specs.Prelude.{ℕ, Option, None}
use Rattle.std.proofs.lemmas.Iterator.{YieldsList-from_slice, YieldsList-from_zip}
use Rattle.std.proofs.lemmas.Iterator.Search.{all_from_yields_List}
use Rattle.paper.specs.Sheet.{sheet_of}
use Rattle.paper.specs.Opens.{meet}
use Rattle.workspace.specs.Places.{place_of}
use Rattle.workspace.proofs.Places.{all_zipped}
use Rattle.terms.specs.Shown.{meet_all}
use Rattle.terms.proofs.meets.meet_all.Goals as goal

pub returns : goal.returns
unfolding meet_all
returns c =
    let s = sheet_of c.args.g.now.sheet.now.bytes.now in
    all_from_yields_List (λ (p : Option ℕ × Option ℕ). meet s (place_of p.0) (place_of p.1)) c.all.new.self _ c.all.result c.all.ensures.ran
    (YieldsList-from_zip (YieldsList-from_slice c.args.p.now cc) (YieldsList-from_slice c.args.q.now cc))
    (λ x b q k. search (rules, tests))
    ∙ all_zipped (λ x y. meet s (place_of x) (place_of y)) c.args.p.now c.args.q.now None None (omega arith)
