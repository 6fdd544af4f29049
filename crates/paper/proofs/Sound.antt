-- Rows, parts and assertions as the sheet's rules allow them, and a grammar of such rows.
-- Assumes nothing.
use Prim.Native.Nat.{ℕ, ◌+◌, ◌≤◌, ◌<◌}
use lib.ListN.{length}
use Rattle.paper.specs.Terms.{Part, Const, All, Cut}
use Rattle.paper.specs.Sheet.{Claim, Derived, Contains, Equals, ContainsTerm, Assertion, second_run}
use Rattle.paper.specs.Rows.{Row, Empty, Range, Text, Alt, Seq, Star, Grammar, row}

-- a row's numbers, over a text of so many bytes and so many rows
abbrev pub SoundRow : (text rows : ℕ) → Row → Type 0
SoundRow text rows Empty = Unit {0}
SoundRow text rows (Range a b) = (a ≤ b) × (b ≤ 255)
SoundRow text rows (Text a b) = a + b ≤ text
SoundRow text rows (Alt a b) = (a < rows) × (b < rows)
SoundRow text rows (Seq a b) = (a < rows) × (b < rows)
SoundRow text rows (Star a) = a < rows

-- a part's
abbrev pub SoundPart : (text : ℕ) → Part → Type 0
SoundPart text (Const a b) = a + b ≤ text
SoundPart text All = Unit {0}
SoundPart text (Cut a b) = Unit {0}

-- a claim's, and those of an assertion with its runs of parts
abbrev pub SoundClaim : (text rows parts : ℕ) → Claim → Type 0
SoundClaim text rows parts (Derived r) = r < rows
SoundClaim text rows parts (Contains a b) = a + b ≤ text
SoundClaim text rows parts (Equals a b) = a + b ≤ parts
SoundClaim text rows parts (ContainsTerm a b) = a + b ≤ parts

pub record SoundAssertion (text rows parts : ℕ) (a : Assertion) : Type 0 where
  pub run : a.term.first + a.term.count ≤ parts
  pub second : (second_run a.claim).first + (second_run a.claim).count ≤ parts
  pub claim : SoundClaim text rows parts a.claim

pub record Sound (g : Grammar) : Type 0 where
  pub some : 1 ≤ length g.rows
  pub few : length g.rows ≤ 256
  pub short : length g.text ≤ 1024
  pub each : (r : ℕ) → r < length g.rows → SoundRow (length g.text) (length g.rows) (row g r)
