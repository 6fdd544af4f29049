use Prim.Native.Nat.{◌+◌}
use mathlib.Core.Path.{refl, ◌∙◌}
use native.Mathlib.Omega.{arith}
use borrow.Author.Rules.{rules}
use Rattle.std.proofs.lemmas.Iterator.{YieldsList-from_range}
use Rattle.std.proofs.lemmas.Iterator.Search.{any_from_yields_List}
use Rattle.alike.proofs.Comparing.{of_v_at, uses_any}
use Rattle.alike.proofs.compare.uses_v.Goals as goal

pub returns : goal.returns
returns c =
    let r = c.args.r in
    any_from_yields_List (of_v_at c.args.sheet.now.bytes.now) _ _ c.any.result c.any.ensures.ran (YieldsList-from_range r.first (r.first + r.count) r.count refl (omega arith)) (λ x b q k. search rules)
    ∙ uses_any _ _ (omega (arith, c.args.sheet.now.parts_at.counts))
