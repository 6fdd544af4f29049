use mathlib.Core.Bool.{false}
use mathlib.Core.Path.{◌≡◌, sym, ◌∙◌}
use native.Mathlib.Omega.{arith}
use borrow.Author.Tests.{ne_eqb}
use Rattle.paper.specs.Trailer.{offset_ok, offsets_ok}
use Rattle.sheet_trailer.proofs.Search.{fails_first}
use Rattle.sheet_trailer.proofs.trailer.Trailer.offsets_ok.Goals as goal

pub returns-then-x-at : goal.returns-then-x-at
unfolding offsets_ok offset_ok
returns-then-x-at c =
    let bad : offset_ok c.args.self.now.sheet.now c.loop-t.t ≡ false = ne_eqb _ _ (λ e. c.if-x-at.true (c.table_of-x.ensures.0.begins ∙ e ∙ sym c.loop-t.invariant.1)) in
    rw (fails_first (offset_ok c.args.self.now.sheet.now) 5 c.loop-t.t c.loop-t.invariant.0 (omega arith) bad, ne_eqb c.loop-t.t 5 (λ e. omega arith))
