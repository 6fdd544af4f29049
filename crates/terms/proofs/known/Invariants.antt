use mathlib.Core.Path.{◌≡◌}
use lib.ListN.{replicate}
use lib.Seq.{paste}
use Rattle.std.specs.Prelude.{None}
use Rattle.terms.specs.Shown.{known_places}
use Rattle.terms.proofs.known.Given as goal

-- the first i bytes have been written
abbrev pub invariant-loop-i : goal.invariant-loop-i
invariant-loop-i l = l.of ≡ paste (replicate 60 None) 0 (known_places l.bytes) l.i
