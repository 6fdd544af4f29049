use native.Mathlib.Omega.{arith}
use borrow.Author.Rules.{rules}
use Prim.Native.Nat.{ℕ}
use lib.ListN.{length}
use mathlib.Core.Path.{◌∙◌}
use Rattle.std.specs.List.{range_with_len}
use Rattle.std.proofs.lemmas.Iterator.{YieldsList-from_map, YieldsList-from_range}
use Rattle.std.proofs.lemmas.Iterator.Consumers.{sum_by_from_yields_List, fits_by_from_yields_list}
use Rattle.paper.specs.Cuts.{entry}
use Rattle.maker_options.specs.Planned.{grammar}
use Rattle.maker_options.proofs.Turns.{entries_sum, group_bound, plan_rows}
use Rattle.maker_options.proofs.plan.Plan.group_length.Goals as goal

pub sum-requires-clause-fits : goal.sum-requires-clause-fits
sum-requires-clause-fits c =
    let g = grammar c.args.self.now in
    let n = c.args.self.now.sheet.now.rows.count in
    let h : ℕ → ℕ = λ r. length (entry g c.args.m r) in
    fits_by_from_yields_list h (range_with_len 0 n) c.map.result _
    (YieldsList-from_map _ h (YieldsList-from_range 0 n n c.map.ensures.source (omega arith)) c.map.ensures.closure (λ x r q k. search rules))
    (omega (arith, entries_sum g c.args.m n (plan_rows c.args.self.now), group_bound c.args.self.now c.args.m c.requires))

pub returns : goal.returns
returns c =
    let g = grammar c.args.self.now in
    let n = c.args.self.now.sheet.now.rows.count in
    let h : ℕ → ℕ = λ r. length (entry g c.args.m r) in
    sum_by_from_yields_List h (range_with_len 0 n) c.map.result _ c.sum.ensures.ran
    (YieldsList-from_map _ h (YieldsList-from_range 0 n n c.map.ensures.source (omega arith)) c.map.ensures.closure (λ x r q k. search rules))
    ∙ entries_sum g c.args.m n (plan_rows c.args.self.now)
