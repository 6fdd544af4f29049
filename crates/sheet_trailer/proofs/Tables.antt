-- Where tables and their records lie.
-- Assumes nothing.
use Prim.Native.Nat.{ℕ, zero, suc, ◌+◌, ◌*◌, ◌-◌, ◌<◌, ◌≤◌}
use mathlib.Core.Path.{◌≡◌, refl}
use mathlib.Core.List.{List}
use mathlib.Core.Bool.{true}
use lib.Dec.{lit≤, eqb}
use borrow.Author.Tests.{eqb-true}
use native.Mathlib.Omega.{arith}
use native.Mathlib.Nat.{mul-suc, mul-le-mul, mul-le-mul_left, zero-add, suc-add, le_refl, le_trans}
use Rattle.paper.specs.Tests.{first_bad}
use Rattle.paper.specs.Trailer.{size, base, offset_of, count_of, start_of, offset_ok, offsets_ok}
use Rattle.paper.proofs.Tests.{and_left, and_right}
use Rattle.sheet_trailer.specs.Placed.{Placed}
use Rattle.sheet_trailer.proofs.Search.{all_good}

-- a record lies in its table
pub room : (k at n i len : ℕ) → i < n → at + k * n ≤ len → at + k * i + k ≤ len
room k at n i len h l = omega (arith, mul-suc k i, mul-le-mul_left k h)

size_most : (t : ℕ) → size t ≤ 12
size_most zero = lit≤ tt
size_most (suc zero) = lit≤ tt
size_most (suc (suc zero)) = lit≤ tt
size_most (suc (suc (suc zero))) = lit≤ tt
size_most (suc (suc (suc (suc zero)))) = lit≤ tt
size_most (suc (suc (suc (suc (suc t))))) = lit≤ tt

-- a table has at most 786,420 bytes, whatever its count
pub table_most : (t n : ℕ) → n < 65536 → size t * n ≤ 786420
table_most t n h =
    let l : n ≤ 65535 = omega arith in
    mul-le-mul (size_most t) l

start_mono : (s : List ℕ) (k t : ℕ) → start_of s t ≤ start_of s (k + t)
unfolding start_of
start_mono s zero t = rw zero-add (le_refl _)
start_mono s (suc k) t = rw suc-add (le_trans (start_mono s k t) (omega arith))

start_suc : (s : List ℕ) (t : ℕ) → start_of s (suc t) ≡ start_of s t + size t * count_of s t
unfolding start_of
start_suc s t = refl

module _ (s : List ℕ) (e : offsets_ok s ≡ true) where
  -- a table begins where the one before it ends
  pub begins : (t : ℕ) → t < 5 → offset_of s t ≡ start_of s t
  unfolding offsets_ok offset_ok
  begins t h = eqb-true _ _ (all_good (offset_ok s) 5 t (eqb-true _ _ (and_left (eqb (first_bad (offset_ok s) 5) 5) _ e)) h)

  -- the tables end at the trailer
  pub ends : start_of s 5 ≡ base s
  unfolding offsets_ok
  ends = eqb-true _ _ (and_right (eqb (first_bad (offset_ok s) 5) 5) _ e)

  -- every table lies before the trailer
  pub before_trailer : (t : ℕ) → t < 5 → offset_of s t + size t * count_of s t ≤ base s
  before_trailer t h =
      let k : 5 - suc t + suc t ≡ 5 = omega arith in
      let m : start_of s (suc t) ≤ start_of s 5 = rw k at (start_mono s (5 - suc t) (suc t)) in
      omega (arith, start_suc s t, begins t h, ends)

  pub placed : Placed s
  unfolding base
  placed t h = omega (arith, before_trailer t h)
