use mathlib.Core.Path.{refl}
use native.Mathlib.Omega.{arith}
use Rattle.std.proofs.Common.{rules}
use Rattle.sheet.proofs.Contents.{any_found, in_span, letter_is}
use Rattle.sheet.proofs.accepted.in_ranges.Goals as goal

pub returns : goal.returns
returns c =
    let table = c.requires.1 in
    rw (letter_is c.args.s.now c.args.b (omega arith), ← table.counts)
    (any_found (in_span c.args.s.now c.args.b) _ _ _ _ c.any.result refl c.any.ensures.ran (λ k q h. rw (← table.begins) (search rules)) (λ k q h. rw (← table.begins) (search rules)))
