-- What the readers of an accepted sheet give.
use Rattle.std.specs.Prelude.{ℕ, ◌≡◌, true, List, get_or}
use Rattle.paper.specs.Trailer.{count_of}
use Rattle.paper.specs.Rows.{row}
use Rattle.paper.specs.Terms as paper
use Rattle.paper.specs.Sheet as contents
use Rattle.paper.specs.Sheet.{grammar_of, sheet_of, second_run}
use Rattle.paper.specs.Records.{term_fits}
use Rattle.paper.proofs.Sound.{SoundRow, SoundPart, SoundAssertion}
use Rattle.sheet_contents.specs.declared.Row.{Row}
use Rattle.sheet_contents.specs.declared.Part.{Part}
use Rattle.sheet_contents.specs.declared.Assertion.{Assertion}
use Rattle.sheet_contents.specs.Read.{as_row, as_part, as_assertion, SmallPart}

-- row i
pub record RowRead (s : List ℕ) (i : ℕ) (r : Row) : Type 0 where
  pub same : as_row r ≡ row (grammar_of s) i
  pub sound : SoundRow (count_of s 1) (count_of s 2) (as_row r)

-- part i, whatever stands for a part that is not there
pub record PartRead (s : List ℕ) (i : ℕ) (p : Part) : Type 0 where
  pub same : (d : paper.Part) → as_part p ≡ get_or (sheet_of s).parts i d
  pub sound : SoundPart (count_of s 1) (as_part p)
  pub small : SmallPart (as_part p)

-- an assertion of an accepted sheet: its rule, and its terms' lengths
pub record Told (s : List ℕ) (a : contents.Assertion) : Type 0 where
  pub sound : SoundAssertion (count_of s 1) (count_of s 2) (count_of s 3) a
  pub term : term_fits s a.term ≡ true
  pub second : term_fits s (second_run a.claim) ≡ true

-- assertion i, whatever stands for an assertion that is not there
pub record AssertionRead (s : List ℕ) (i : ℕ) (a : Assertion) : Type 0 where
  pub same : (d : contents.Assertion) → as_assertion a ≡ get_or (sheet_of s).assertions i d
  pub told : Told s (as_assertion a)
