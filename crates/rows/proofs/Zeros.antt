-- A table of zeros has no bit.
-- Assumes nothing.
use Prim.Native.Nat.{ℕ, ◌+◌, ◌*◌, ◌/◌, ◌<◌}
use mathlib.Core.Path.{◌≡◌}
use mathlib.Core.Bool.{false, and-false}
use native.Mathlib.Omega.{arith}
use native.Mathlib.Decide.{dec_lt}
use lib.Dec.{ltb}
use lib.ListN.{get_or, replicate, length-replicate, get_or-replicate, get_or-eq_default}
use Rattle.workspace.specs.Bits.{bit_at}
use Rattle.workspace.proofs.Words.{bit_zero}

zero_at : (n i : ℕ) → get_or (replicate {A = ℕ} n 0) i 0 ≡ 0
zero_at n i = go (dec_lt i n)
  where
    go : Dec (i < n) → get_or (replicate {A = ℕ} n 0) i 0 ≡ 0
    go (yes l) = get_or-replicate n i 0 0 l
    go (no l) = get_or-eq_default (replicate n 0) 0 (rw length-replicate (omega arith))

pub zero_bit : (n q r : ℕ) → bit_at (replicate n 0) q r ≡ false
unfolding bit_at
zero_bit n q r = rw (zero_at n (4 * q + r / 64), bit_zero) (and-false (ltb r 256))
