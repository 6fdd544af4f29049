use Prim.Native.Nat.{ℕ, ◌+◌, ◌*◌, ◌≤◌, ◌<◌}
use mathlib.Core.Path.{◌≡◌, refl}
use mathlib.Core.Bool.{true}
use native.Mathlib.Omega.{arith}
use lib.ListN.{length}
use Rattle.std.proofs.Common.{rules}
use Rattle.std.proofs.iter.Serving.{serving}
use Rattle.paper.specs.Trailer.{record_at, count_of}
use Rattle.paper.specs.Records.{record_ok, assert_fits}
use Rattle.sheet_trailer.proofs.Search.{find_bad}
use Rattle.sheet_records.proofs.Kept.{kept}
use Rattle.sheet_records.proofs.tables.Tables.bad_term.Goals.{After-table_of-at}
use Rattle.sheet_records.proofs.tables.Tables.bad_term.Goals as goal

-- assertion i lies in the sheet, and keeps its rule
here : (c : After-table_of-at) (i : ℕ) → i < c.table_of-at.result.count → (c.table_of-at.result.at + 12 * i + 12 ≤ length c.args.self.now.trailer.sheet.now) × (record_ok c.args.self.now.trailer.sheet.now 4 (c.table_of-at.result.at + 12 * i) ≡ true)
here c i l =
    let x = c.table_of-at.ensures.0 in
    let h : i < count_of c.args.self.now.trailer.sheet.now 4 = omega (arith, x.counts) in
    (omega (arith, x.begins, c.args.self.now.laid.placed 4 (omega arith)), rw x.begins (kept c.args.self.now.trailer.sheet.now 4 i c.requires (omega arith) h))

pub find-requires-clause-callable : goal.find-requires-clause-callable
find-requires-clause-callable c = grind (serving, here (goal.at.find-requires-clause-callable c).After-table_of-at)

pub returns : goal.returns
returns c =
    let table = c.table_of-at.ensures.0 in
    rw (← table.counts)
    (find_bad (λ i. assert_fits c.args.self.now.trailer.sheet.now (record_at c.args.self.now.trailer.sheet.now 4 i)) _ _ _ _ c.find.result refl c.find.ensures.ran (λ k q h. rw (← table.begins) (search rules)) (λ k q h. rw (← table.begins) (search rules)))
