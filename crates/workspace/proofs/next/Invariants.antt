use mathlib.Core.Path.{◌≡◌}
use mathlib.Core.Bool.{false}
use Prim.Native.Nat.{ℕ, ◌≤◌, ◌<◌, ◌-◌}
use Rattle.workspace.specs.Scan.{in_both}
use Rattle.workspace.proofs.next.Given as goal

-- `next` meets its contract. The invariant: no row was passed.
-- no row from p up to q is in both
abbrev pub invariant-loop-q : goal.invariant-loop-q
invariant-loop-q l = (l.p ≤ l.q) × ((k : ℕ) → k < l.q → l.p ≤ k → in_both l.ws l.a l.b k ≡ false)

abbrev pub decreases-loop-q : goal.decreases-loop-q
decreases-loop-q l = l.n - l.q
