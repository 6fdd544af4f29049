use mathlib.Core.Path.{sym, ◌∙◌}
use Prim.Native.Nat.{◌+◌}
use borrow.Author.Count.{below_more}
use native.Mathlib.Omega.{arith}
use Rattle.paper.specs.Sheet.{sheet_of}
use Rattle.judge.proofs.Claiming.{here, nowhere}
use Rattle.judge.proofs.claims.can_contain.Goals as goal

pub returns-then-holds_at : goal.returns-then-holds_at
returns-then-holds_at c = here (sheet_of c.args.g.now.sheet.now.bytes.now) _ _ _ _ (omega arith) (sym c.holds_at.ensures ∙ c.if-holds_at.true)

pub loop-end-preserved : goal.loop-end-preserved
loop-end-preserved c = below_more _ _ c.loop-end.invariant (λ _. sym c.holds_at.ensures ∙ c.if-holds_at.false)

pub returns-else-holds_at : goal.returns-else-holds_at
returns-else-holds_at c = nowhere _ _ _ _ (c.loop-end.end + 1) (below_more _ _ c.loop-end.invariant (λ _. sym c.holds_at.ensures ∙ c.if-holds_at.false)) (omega arith)

pub returns : goal.returns
returns c = nowhere _ _ _ _ _ c.loop-end.invariant c.loop-end-test.false
