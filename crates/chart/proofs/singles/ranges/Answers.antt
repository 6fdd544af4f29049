use Prim.Native.Nat.{ℕ}
use mathlib.Core.Path.{sym, ◌∙◌}
use mathlib.Core.Bool.{Bool}
use native.Mathlib.Omega.{arith}
use borrow.Author.Rules.{rules}
use Rattle.paper.specs.Rows.{row}
use Rattle.paper.specs.Sheet.{grammar_of}
use Rattle.sheet.proofs.Rows.{rows_few}
use Rattle.workspace.proofs.Where.{put_where_is}
use Rattle.chart_cells.proofs.Adding.{adds_none, adds_below}
use Rattle.chart.specs.Cells.{holding, among}
use Rattle.chart.proofs.Rows.{no_holding}
use Rattle.chart.proofs.singles.ranges.Goals as goal

pub returns-then-no_range : goal.returns-then-no_range
returns-then-no_range c =
    let s = c.args.g.now.sheet.now in
    adds_none _ _ _ (no_holding c.args.g.now _ _ (sym c.no_range.ensures ∙ c.if-no_range.true) (rows_few s.good s.rows_at))

pub put_where-requires : goal.put_where-requires
put_where-requires c =
    let s = c.args.g.now.sheet.now in
    (omega arith, rows_few s.good s.rows_at, λ q h. search rules)

pub returns : goal.returns
unfolding among
returns c =
    let a = c.args in
    let s = a.g.now.sheet.now in
    let test : ℕ → Bool = λ q. holding a.x (row (grammar_of s.bytes.now) q) in
    rw (put_where_is test c.put_where.ensures (λ q on h e. search rules)) (adds_below a.work.now a.sp test s.rows.count (omega arith) (rows_few s.good s.rows_at))
