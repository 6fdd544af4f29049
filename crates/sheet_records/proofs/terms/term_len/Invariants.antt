use Prim.Native.Nat.{◌*◌, ◌≤◌}
use mathlib.Core.Path.{◌≡◌}
use Rattle.paper.specs.Records.{term_len}
use Rattle.sheet_records.proofs.terms.term_len.Given as goal

-- `sum` is the bytes of the first i parts
abbrev pub invariant-loop-i : goal.invariant-loop-i
invariant-loop-i l = (l.sum ≡ term_len l.trailer.sheet.now l.o l.i) × (l.sum ≤ 65535 * l.i)
