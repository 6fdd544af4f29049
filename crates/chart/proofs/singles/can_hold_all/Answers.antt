use Prim.Native.Nat.{ℕ, ◌-◌}
use mathlib.Core.Path.{◌∙◌}
use native.Mathlib.Omega.{arith}
use borrow.Author.Rules.{rules}
use borrow.Author.Tests.{tests}
use lib.ListN.{length, drop, length-drop}
use lib.Seq.{take_all}
use Rattle.std.specs.Prelude.{Option, None}
use Rattle.std.proofs.lemmas.Iterator.{YieldsList-from_slice, YieldsList-from_zip}
use Rattle.std.proofs.lemmas.Iterator.Search.{all_from_yields_List}
use Rattle.paper.specs.Sheet.{sheet_of}
use Rattle.paper.specs.Opens.{allows}
use Rattle.workspace.specs.Places.{place_of}
use Rattle.workspace.proofs.Places.{all_zipped}
use Rattle.chart.proofs.Owning.{fits_all}
use Rattle.chart.proofs.singles.can_hold_all.Goals as goal

pub returns : goal.returns
returns c =
    let a = c.args in
    let s = sheet_of a.g.now.sheet.now.bytes.now in
    let room = length-drop a.i a.places.now in
    all_from_yields_List (λ (p : ℕ × Option ℕ). allows s (place_of p.1) p.0) c.all.new.self _ c.all.result c.all.ensures.ran
    (YieldsList-from_zip (YieldsList-from_slice a.part.now cc) (YieldsList-from_slice (drop a.i a.places.now) (c.zip.ensures.second.0 ∙ take_all (length a.places.now - a.i) (drop a.i a.places.now) (omega arith))))
    (λ x b q k. search (rules, tests))
    ∙ all_zipped (λ b x. allows s (place_of x) b) a.part.now (drop a.i a.places.now) 0 None (omega arith)
    ∙ fits_all s a.places.now a.i a.part.now
