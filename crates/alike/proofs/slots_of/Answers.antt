use mathlib.Core.Path.{refl, sym, ◌∙◌}
use native.Mathlib.Omega.{arith}
use Rattle.paper.specs.Sheet.{sheet_of}
use Rattle.paper.specs.Opens.{opens}
use Rattle.alike.proofs.Holding.{zero_at, holders_start}
use Rattle.alike.proofs.Accepted.{given_classes, none_classes}
use Rattle.alike.proofs.slots_of.Goals as goal

pub returns-then-some_compares : goal.returns-then-some_compares
returns-then-some_compares c = none_classes 256 (opens (sheet_of c.args.sheet.now.bytes.now))

pub invariant_of-result : goal.invariant_of-result
invariant_of-result c = record { small = λ b. omega (arith, zero_at 256 b) }

pub hold_rows-requires : goal.hold_rows-requires
hold_rows-requires c = holders_start _ 1024 refl

pub returns : goal.returns
returns c =
    given_classes c.args.sheet.now.bytes.now c.args.sheet.now.good _ _ _ (sym c.some_compares.ensures ∙ c.if-some_compares.false) c.hold_rows.ensures c.free.ensures c.given.ensures
