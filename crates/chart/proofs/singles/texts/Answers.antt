use Prim.Native.Nat.{ℕ}
use mathlib.Core.Path.{sym, ◌∙◌}
use mathlib.Core.Bool.{Bool}
use native.Mathlib.Omega.{arith}
use borrow.Author.Rules.{rules}
use Rattle.paper.specs.Rows.{row}
use Rattle.paper.specs.Sheet.{grammar_of, text_of}
use Rattle.sheet.proofs.Rows.{rows_few, rows_all}
use Rattle.workspace.proofs.Where.{put_where_is}
use Rattle.chart_cells.proofs.Adding.{adds_none, adds_same, adds_below}
use Rattle.chart.specs.Cells.{allowed, fitting, among}
use Rattle.chart.proofs.Rows.{texts_passed, texts_none}
use Rattle.chart.proofs.singles.texts.Goals as goal

pub returns-then-not-has_length : goal.returns-then-not-has_length
returns-then-not-has_length c =
    let p = c.requires in
    let none = sym c.has_length.ensures ∙ c.if-not-has_length.true in
    adds_none _ _ _ (texts_none c.args.g.now _ _ _ (omega (arith, p.0, p.1)) none)

pub put_where-requires : goal.put_where-requires
put_where-requires c =
    let s = c.args.g.now.sheet.now in
    (omega arith, rows_few s.good s.rows_at, λ q h. search rules)

pub returns : goal.returns
unfolding among
returns c =
    let a = c.args in
    let s = a.g.now.sheet.now in
    let test : ℕ → Bool = λ q. fitting (text_of s.bytes.now) (allowed s.bytes.now a.places.now) a.m a.i (row (grammar_of s.bytes.now) q) in
    rw (put_where_is test c.put_where.ensures (λ q on h e. search rules))
    (adds_same _ _ _ _ _ (adds_below a.work.now a.sp test s.rows.count (omega arith) (rows_few s.good s.rows_at)) (λ r h. texts_passed _ a.places.now _ (rows_all s.rows_at) _ _ _ r))
