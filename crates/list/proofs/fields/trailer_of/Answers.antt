use native.Mathlib.Omega.{arith}
use lib.ListN.{length}
use Prim.Native.Nat.{◌-◌}
use Rattle.paper.specs.Gate.{trailer_of}
use Rattle.paper.proofs.WellFormed.{Trailer, trailer_of_lem}
use Rattle.list.proofs.ListLaws.{u32_small}
use borrow.Author.Rules.{rules}
use Rattle.list.proofs.fields.trailer_of.Goals.{Start}
use Rattle.list.proofs.fields.trailer_of.Goals as goal

known : (p : Start) → Trailer p.args.list.now
known p = trailer_of_lem _ p.requires.1

pub overflow_sub-result : goal.overflow_sub-result
overflow_sub-result c = omega (arith, known (goal.at.overflow_sub-result c).Start)

pub returns : goal.returns
unfolding trailer_of
returns c =
    let l = c.args.list.now in
    let k = known (goal.at.returns c).Start in
    let z = u32_small l (length l - 8) (λ i. omega (arith, c.type_inv.list i)) in
    record {
      length_is = search rules;
      rows_are = search rules;
      root_is = search rules;
      base_is = search rules;
      room = omega arith;
      small = omega arith;
      short = omega arith;
      some = omega arith;
      few = omega arith;
      below = omega arith;
    }
