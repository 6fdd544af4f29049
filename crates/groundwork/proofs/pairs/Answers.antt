use mathlib.Core.Path.{◌∙◌}
use native.Mathlib.Omega.{arith}
use Prim.Native.Nat.{◌<◌}
use lib.ListN.{length, length-set}
use Rattle.std.proofs.lemmas.List.{take_more_set, length_push}
use Rattle.paper.specs.Sheet.{grammar_of}
use Rattle.sheet.proofs.Rows.{rows_few}
use Rattle.groundwork.specs.Laying.{pairs_below}
use Rattle.groundwork.proofs.Splitting.{pairs_more, pairs_few}
use Rattle.groundwork.proofs.pairs.Goals.{in-Some, in_default}
use Rattle.groundwork.proofs.pairs.Goals as goal

pub loop-q-preserved : goal.loop-q-preserved
loop-q-preserved c =
    let l = c.loop-q in
    let sheet = c.args.sheet.now in
    let g = grammar_of sheet.bytes.now in
    let few = rows_few sheet.good sheet.rows_at in
    elim c.match-pair.branch [
      | in-Some w ↦
          let e = rw c.row.ensures.same at w.in-Some.ensures in
          let x = w.in-Some.x in
          let room : l.j < length l.pairs = omega (arith, c.loop-q-test.true, few, l.invariant.0, l.invariant.1, pairs_few g l.q) in
          rw (w.j-is, w.pairs-is, ← pairs_more g l.q _ e) (length-set l.pairs l.j x ∙ l.invariant.0, omega (arith, l.invariant.1, length_push (pairs_below g l.q) x), take_more_set l.pairs l.j x room ∙ rw l.invariant.2)
      | in_default w ↦ let e = rw c.row.ensures.same at w.in_default.ensures in rw (w.j-is, w.pairs-is, ← pairs_more g l.q _ e) l.invariant
    ]
