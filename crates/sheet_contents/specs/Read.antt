-- The paper's rows, parts and assertions that the code's stand for, and what their readers give.
use Rattle.std.specs.Prelude.{ℕ, ◌+◌, ◌<◌, ◌≡◌, List}
use Rattle.paper.specs.Bytes.{u16_at}
use Rattle.paper.specs.Rows as rows
use Rattle.paper.specs.Terms as terms
use Rattle.paper.specs.Sheet as sheet
use Rattle.sheet_contents.specs.declared.Row.{Row}
use Rattle.sheet_contents.specs.declared.Row.TheVariants.{Empty, Range, Text, Alt, Seq, Star}
use Rattle.sheet_contents.specs.declared.Part.{Part}
use Rattle.sheet_contents.specs.declared.Part.TheVariants.{Const, All, Cut}
use Rattle.sheet_contents.specs.declared.Claim.{Claim}
use Rattle.sheet_contents.specs.declared.Claim.TheVariants.{Derived, Contains, Equals, ContainsTerm}
use Rattle.sheet_contents.specs.declared.Run.{Run}
use Rattle.sheet_contents.specs.declared.Assertion.{Assertion}

abbrev pub as_row : Row → rows.Row
as_row Empty = rows.Empty
as_row (Range a b) = rows.Range a b
as_row (Text a b) = rows.Text a b
as_row (Alt a b) = rows.Alt a b
as_row (Seq a b) = rows.Seq a b
as_row (Star a) = rows.Star a

abbrev pub as_part : Part → terms.Part
as_part (Const a b) = terms.Const a b
as_part All = terms.All
as_part (Cut a b) = terms.Cut a b

abbrev pub as_claim : Claim → sheet.Claim
as_claim (Derived a) = sheet.Derived a
as_claim (Contains a b) = sheet.Contains a b
as_claim (Equals a b) = sheet.Equals a b
as_claim (ContainsTerm a b) = sheet.ContainsTerm a b

abbrev pub as_run : Run → sheet.Run
as_run r = record { first = r.first; count = r.count }

abbrev pub as_assertion : Assertion → sheet.Assertion
as_assertion a = record { claim = as_claim a.claim; denied = a.denied; term = as_run a.term }

-- the two numbers at o, of two bytes each
abbrev pub PairRead : List ℕ → ℕ → ℕ × ℕ → Type 0
PairRead s o p = (p.0 ≡ u16_at s o) × (p.1 ≡ u16_at s (o + 2)) × (p.0 < 65536) × (p.1 < 65536)

-- the row at o
abbrev pub RowRead : List ℕ → ℕ → Row → Type 0
RowRead s o r = as_row r ≡ sheet.row_at s o

-- a part's numbers have two bytes each
abbrev pub SmallPart : terms.Part → Type 0
SmallPart (terms.Const a b) = (a < 65536) × (b < 65536)
SmallPart terms.All = Unit {0}
SmallPart (terms.Cut a b) = (a < 65536) × (b < 65536)

-- the part at o
pub record PartRead (s : List ℕ) (o : ℕ) (r : Part) : Type 0 where
  pub same : as_part r ≡ sheet.part_at s o
  pub small : SmallPart (as_part r)

-- the assertion at o
abbrev pub AssertionRead : List ℕ → ℕ → Assertion → Type 0
AssertionRead s o r = as_assertion r ≡ sheet.assertion_at s o
