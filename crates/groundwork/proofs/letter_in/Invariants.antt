use Prim.Native.Nat.{ℕ, ◌≤◌, ◌<◌}
use mathlib.Core.Path.{◌≡◌}
use mathlib.Core.Bool.{false}
use Rattle.paper.specs.Sheet.{sheet_of, letter}
use Rattle.groundwork.proofs.letter_in.Given as goal

-- none of the bytes from low on below b is a letter
abbrev pub invariant-loop-b : goal.invariant-loop-b
invariant-loop-b l = (k : ℕ) → l.low ≤ k → k < l.b → letter (sheet_of l.sheet.bytes.now) k ≡ false
