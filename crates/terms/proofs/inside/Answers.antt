use Prim.Native.Nat.{◌+◌}
use mathlib.Core.Path.{◌≡◌, sym, ap, ◌∙◌}
use mathlib.Core.Bool.{not}
use lib.ListN.{get_or}
use Rattle.paper.specs.Terms.{All, cut_inside}
use Rattle.paper.specs.Sheet.{sheet_of}
use Rattle.sheet_contents.specs.Read.{as_run}
use Rattle.terms.proofs.Joining.{inside_all, one_past}
use native.Mathlib.Omega.{arith}
use Rattle.terms.proofs.inside.Goals.{After-past}
use Rattle.terms.proofs.inside.Goals as goal

-- part i is tested
tested : (c : After-past) → cut_inside (sheet_of c.args.sheet.now.bytes.now).rules c.args.n (get_or (sheet_of c.args.sheet.now.bytes.now).parts (c.args.r.first + c.loop-i.i) All) ≡ not c.past.result
tested c = ap (cut_inside _ _) (sym (c.part.ensures.same All)) ∙ c.past.ensures

pub overflow_add-r : goal.overflow_add-r
overflow_add-r c = omega (arith, (c.args.sheet.now.good.counts 3 (omega arith)).1, c.args.sheet.now.parts_at.counts, c.requires)

pub returns-then-past : goal.returns-then-past
returns-then-past c = one_past _ (as_run c.args.r) (omega (arith, c.args.sheet.now.parts_at.counts, c.requires)) _ _ c.loop-i-test.true (tested (goal.at.returns-then-past c).After-past ∙ ap not c.if-past.true)

pub returns : goal.returns
returns c = sym (inside_all _ (as_run c.args.r) (omega (arith, c.args.sheet.now.parts_at.counts, c.requires)) _ (λ j l. c.loop-i.invariant j (omega (arith, c.loop-i-test.false))))
