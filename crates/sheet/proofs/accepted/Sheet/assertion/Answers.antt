use mathlib.Core.Path.{sym, ◌∙◌}
use native.Mathlib.Omega.{arith}
use Rattle.sheet.proofs.Contents.{assertion_here}
use Rattle.sheet.proofs.Records.{record_room, record_below}
use Rattle.sheet.proofs.accepted.Sheet.assertion.Goals as goal

pub overflow_mul-i : goal.overflow_mul-i
overflow_mul-i c = omega (arith, record_room _ 4 (omega arith) _ _ c.args.self.now.good c.args.self.now.assertions_at c.requires)

pub overflow_add-self : goal.overflow_add-self
overflow_add-self c = omega (arith, record_room _ 4 (omega arith) _ _ c.args.self.now.good c.args.self.now.assertions_at c.requires)

pub assertion_at-requires : goal.assertion_at-requires
assertion_at-requires c = record_room _ 4 (omega arith) _ _ c.args.self.now.good c.args.self.now.assertions_at c.requires

pub returns : goal.returns
returns c =
    let l = record_below c.args.self.now.assertions_at c.requires in
    let e = rw c.args.self.now.assertions_at.begins at c.assertion_at.ensures in
    let t = c.args.self.now.good.terms c.args.i l in
    record {
      same = λ d. e ∙ sym (assertion_here _ _ d l);
      told = rw e (record { sound = c.args.self.now.good.assertions c.args.i l; term = t.0; second = t.1 });
    }
