-- The kinds of rows, parts and claims, by the byte that names them.
use Rattle.std.specs.Prelude.{ℕ, ◌<◌, ◌≡◌, ◌⊎◌, Option, Some, None}
use Rattle.sheet_contents.specs.declared.Row.{Row}
use Rattle.sheet_contents.specs.declared.Row.TheVariants.{Empty, Range, Text, Alt, Seq, Star}
use Rattle.sheet_contents.specs.declared.Part.{Part}
use Rattle.sheet_contents.specs.declared.Part.TheVariants.{Const, All, Cut}
use Rattle.sheet_contents.specs.declared.Claim.{Claim}
use Rattle.sheet_contents.specs.declared.Claim.TheVariants.{Derived, Contains, Equals, ContainsTerm}

-- the byte is none of 1 to n
abbrev pub NoKind : (n kind : ℕ) → Type 0
NoKind n kind = (kind ≡ 0) ⊎ (n < kind)

-- the row of a kind, with the numbers a and b
abbrev pub RowOf : (kind a b : ℕ) → Option Row → Type 0
RowOf kind a b (Some Empty) = kind ≡ 1
RowOf kind a b (Some (Range x y)) = (kind ≡ 2) × (x ≡ a) × (y ≡ b)
RowOf kind a b (Some (Text x y)) = (kind ≡ 3) × (x ≡ a) × (y ≡ b)
RowOf kind a b (Some (Alt x y)) = (kind ≡ 4) × (x ≡ a) × (y ≡ b)
RowOf kind a b (Some (Seq x y)) = (kind ≡ 5) × (x ≡ a) × (y ≡ b)
RowOf kind a b (Some (Star x)) = (kind ≡ 6) × (x ≡ a)
RowOf kind a b None = NoKind 6 kind

-- the part of a kind
abbrev pub PartOf : (kind a b : ℕ) → Option Part → Type 0
PartOf kind a b (Some (Const x y)) = (kind ≡ 1) × (x ≡ a) × (y ≡ b)
PartOf kind a b (Some All) = kind ≡ 2
PartOf kind a b (Some (Cut x y)) = (kind ≡ 3) × (x ≡ a) × (y ≡ b)
PartOf kind a b None = NoKind 3 kind

-- the claim of a kind
abbrev pub ClaimOf : (kind a b : ℕ) → Option Claim → Type 0
ClaimOf kind a b (Some (Derived x)) = (kind ≡ 1) × (x ≡ a)
ClaimOf kind a b (Some (Contains x y)) = (kind ≡ 2) × (x ≡ a) × (y ≡ b)
ClaimOf kind a b (Some (Equals x y)) = (kind ≡ 3) × (x ≡ a) × (y ≡ b)
ClaimOf kind a b (Some (ContainsTerm x y)) = (kind ≡ 4) × (x ≡ a) × (y ≡ b)
ClaimOf kind a b None = NoKind 4 kind
