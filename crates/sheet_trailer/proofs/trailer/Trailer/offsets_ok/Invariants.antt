use Prim.Native.Nat.{◌*◌, ◌≤◌}
use mathlib.Core.Path.{◌≡◌}
use Rattle.paper.specs.Trailer.{offset_ok, start_of}
use Rattle.sheet_trailer.proofs.Search.{Passed}
use Rattle.sheet_trailer.proofs.trailer.Trailer.offsets_ok.Given as goal

-- each table before t begins where the one before it ends, and table t has to begin at `at`
abbrev pub invariant-loop-t : goal.invariant-loop-t
invariant-loop-t l = Passed (offset_ok l.self.sheet.now) l.t × (l.at ≡ start_of l.self.sheet.now l.t) × (l.at ≤ 786420 * l.t)
