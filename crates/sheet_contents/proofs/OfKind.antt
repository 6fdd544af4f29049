-- The paper's row, part and claim of a byte are those of its kind, or what stands for a byte that names none.
-- Assumes nothing.
use Prim.Native.Nat.{ℕ, ◌<◌}
use mathlib.Core.Path.{◌≡◌}
use mathlib.Core.Bool.{false}
use mathlib.Core.Logic.{inl, inr}
use lib.Dec.{eqb}
use borrow.Author.Tests.{ne_eqb}
use native.Mathlib.Omega.{arith}
use Rattle.std.specs.Prelude.{Option, Some, None}
use Rattle.std.specs.Option.{unwrap_or}
use Rattle.paper.specs.Rows as rows
use Rattle.paper.specs.Terms as terms
use Rattle.paper.specs.Sheet as sheet
use Rattle.sheet_contents.specs.declared.Row.{Row}
use Rattle.sheet_contents.specs.declared.Row.TheVariants.{Empty, Range, Text, Alt, Seq, Star}
use Rattle.sheet_contents.specs.declared.Part.{Part}
use Rattle.sheet_contents.specs.declared.Part.TheVariants.{Const, All, Cut}
use Rattle.sheet_contents.specs.declared.Claim.{Claim}
use Rattle.sheet_contents.specs.declared.Claim.TheVariants.{Derived, Contains, Equals, ContainsTerm}
use Rattle.sheet_contents.specs.Kinds.{RowOf, PartOf, ClaimOf}
use Rattle.sheet_contents.specs.Read.{as_row, as_part, as_claim, SmallPart}

above : (k j : ℕ) → j < k → eqb k j ≡ false
above k j h = ne_eqb k j (λ e. omega arith)

module _ (k a b : ℕ) where
  pub row_is : (o : Option Row) → RowOf k a b o → as_row (unwrap_or o (Range 1 0)) ≡ rows.row_of k a b
  unfolding rows.row_of
  row_is (Some Empty) h = rw h
  row_is (Some (Range x y)) h = rw (h.0, h.1, h.2)
  row_is (Some (Text x y)) h = rw (h.0, h.1, h.2)
  row_is (Some (Alt x y)) h = rw (h.0, h.1, h.2)
  row_is (Some (Seq x y)) h = rw (h.0, h.1, h.2)
  row_is (Some (Star x)) h = rw (h.0, h.1)
  row_is None (inl z) = rw z
  row_is None (inr l) = simp (above k 1 (omega arith), above k 2 (omega arith), above k 3 (omega arith), above k 4 (omega arith), above k 5 (omega arith), above k 6 (omega arith))

  pub part_is : (o : Option Part) → PartOf k a b o → as_part (unwrap_or o (Cut a b)) ≡ terms.part_of k a b
  unfolding terms.part_of
  part_is (Some (Const x y)) h = rw (h.0, h.1, h.2)
  part_is (Some All) h = rw h
  part_is (Some (Cut x y)) h = rw (h.0, h.1, h.2)
  part_is None (inl z) = rw z
  part_is None (inr l) = simp (above k 1 (omega arith), above k 2 (omega arith))

  pub part_small : (o : Option Part) → PartOf k a b o → a < 65536 → b < 65536 → SmallPart (as_part (unwrap_or o (Cut a b)))
  part_small (Some (Const x y)) h p q = (omega (arith, h.1), omega (arith, h.2))
  part_small (Some All) h p q = tt
  part_small (Some (Cut x y)) h p q = (omega (arith, h.1), omega (arith, h.2))
  part_small None h p q = (p, q)

  pub claim_is : (o : Option Claim) → ClaimOf k a b o → as_claim (unwrap_or o (ContainsTerm a b)) ≡ sheet.claim_of k a b
  unfolding sheet.claim_of
  claim_is (Some (Derived x)) h = rw (h.0, h.1)
  claim_is (Some (Contains x y)) h = rw (h.0, h.1, h.2)
  claim_is (Some (Equals x y)) h = rw (h.0, h.1, h.2)
  claim_is (Some (ContainsTerm x y)) h = rw (h.0, h.1, h.2)
  claim_is None (inl z) = rw z
  claim_is None (inr l) = simp (above k 1 (omega arith), above k 2 (omega arith), above k 3 (omega arith))
