-- Letters that nothing in a sheet tells apart: the same range rows hold them, the text has neither, and v is compared with v nowhere.
use Rattle.std.specs.Prelude.{ℕ, ◌+◌, ◌≤◌, ◌<◌, ◌≡◌, Bool, true, false, ◌&&◌, List, length, get_or}
use Rattle.paper.specs.Tests.{any_of, Every}
use Rattle.paper.specs.Rows.{Text, row}
use Rattle.paper.specs.Terms.{Part, Const, All, Cut}
use Rattle.paper.specs.Sheet.{Sheet, Assertion, Run, second_run, letter, parts_of}
use Rattle.paper.proofs.Sound.{SoundPart, SoundAssertion}
use Rattle.sheet_contents.specs.Ranges.{holds_byte}

-- the byte is none of the text's
abbrev pub Absent : List ℕ → ℕ → Type 0
Absent text b = (j : ℕ) → j < length text → get_or text j 0 ≡ b → ⊥

-- a part is all of v or a cut of it
unfoldable pub of_v : Part → Bool
of_v (Const a b) = false
of_v All = true
of_v (Cut a b) = true

-- a term has such a part
unfoldable pub uses_v : Sheet → Run → Bool
uses_v s r = any_of of_v (parts_of s r)

-- an assertion compares v with v: both its terms have such a part
unfoldable pub compares_v : Sheet → Assertion → Bool
compares_v s a = uses_v s a.term && uses_v s (second_run a.claim)

-- some assertion does
unfoldable pub some_compares : Sheet → Bool
some_compares s = any_of (compares_v s) s.assertions

-- an assertion's numbers are within the sheet
abbrev pub SoundIn : Sheet → Assertion → Type 0
SoundIn s a = SoundAssertion (length s.grammar.text) (length s.grammar.rows) (length s.parts) a

-- each constant that the sheet names lies in its text
pub record Inside (s : Sheet) : Type 0 where
  pub rows : (r a b : ℕ) → row s.grammar r ≡ Text a b → a + b ≤ length s.grammar.text
  pub parts : Every (SoundPart (length s.grammar.text)) s.parts
  pub assertions : Every (SoundIn s) s.assertions

-- b and c are letters that rows and text do not tell apart
pub record Untold (s : Sheet) (b c : ℕ) : Type 0 where
  pub letter_one : letter s b ≡ true
  pub letter_two : letter s c ≡ true
  pub rows : (r : ℕ) → holds_byte (row s.grammar r) b ≡ holds_byte (row s.grammar r) c
  pub absent_one : Absent s.grammar.text b
  pub absent_two : Absent s.grammar.text c
