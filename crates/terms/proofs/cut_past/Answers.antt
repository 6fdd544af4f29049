use Prim.Native.Nat.{◌+◌}
use mathlib.Core.Path.{◌≡◌, refl, sym, ◌∙◌}
use mathlib.Core.Bool.{Bool, true, false, not}
use borrow.Author.Tests.{le-ltb}
use Rattle.paper.specs.Sheet.{sheet_of}
use Rattle.terms.proofs.Joining.{cut_fits, cut_over_rule}
use Rattle.terms.proofs.cut_past.Goals as goal

pub returns-then-a-b : goal.returns-then-a-b
unfolding sheet_of
returns-then-a-b c = cut_over_rule _ _ _ _ c.if-a-b.true ∙ sym c.args.sheet.now.shortens_is ∙ sym (not_not c.args.sheet.now.shortens)
  where
    not_not : (b : Bool) → not (not b) ≡ b
    not_not true = refl
    not_not false = refl

pub returns-else-a-b : goal.returns-else-a-b
returns-else-a-b c = cut_fits _ _ _ _ c.if-a-b.false ∙ rw (le-ltb c.args.n (c.args.a + c.args.b) c.if-a-b.false)
