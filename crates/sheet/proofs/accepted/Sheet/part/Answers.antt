use mathlib.Core.Path.{sym, ◌∙◌}
use native.Mathlib.Omega.{arith}
use Rattle.sheet.proofs.Contents.{part_here}
use Rattle.sheet.proofs.Records.{record_room, record_below}
use Rattle.sheet.proofs.accepted.Sheet.part.Goals as goal

pub overflow_mul-i : goal.overflow_mul-i
overflow_mul-i c = omega (arith, record_room _ 3 (omega arith) _ _ c.args.self.now.good c.args.self.now.parts_at c.requires)

pub overflow_add-self : goal.overflow_add-self
overflow_add-self c = omega (arith, record_room _ 3 (omega arith) _ _ c.args.self.now.good c.args.self.now.parts_at c.requires)

pub part_at-requires : goal.part_at-requires
part_at-requires c = record_room _ 3 (omega arith) _ _ c.args.self.now.good c.args.self.now.parts_at c.requires

pub returns : goal.returns
returns c =
    let l = record_below c.args.self.now.parts_at c.requires in
    let e = rw c.args.self.now.parts_at.begins at c.part_at.ensures.same in
    record { same = λ d. e ∙ sym (part_here _ _ d l); sound = rw e (c.args.self.now.good.parts c.args.i l); small = c.part_at.ensures.small }
