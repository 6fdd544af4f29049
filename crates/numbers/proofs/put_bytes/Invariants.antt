use Prim.Native.Nat.{◌+◌}
use mathlib.Core.Path.{◌≡◌}
use lib.ListN.{length, take}
use Rattle.numbers.specs.Put.{Put}
use Rattle.numbers.proofs.put_bytes.Given as goal

-- i bytes of x are written
abbrev pub invariant-loop-i : goal.invariant-loop-i
invariant-loop-i l = Put (take l.i l.x) l.o l.initial.list l.list (l.o + l.i) × (length l.list ≡ length l.initial.list)
