-- The rows of an accepted sheet: how many, and what their numbers are at most.
-- Assumes nothing.
use Prim.Native.Nat.{ℕ, ◌≤◌}
use mathlib.Core.Path.{◌≡◌, sym, ◌∙◌}
use mathlib.Core.List.{List}
use lib.ListN.{length}
use native.Mathlib.Omega.{arith}
use Rattle.paper.specs.Rows.{Row, Empty, Range, Text, Alt, Seq, Star}
use Rattle.paper.specs.Sheet.{grammar_of}
use Rattle.paper.proofs.Sound.{SoundRow}
use Rattle.sheet_trailer.specs.declared.Table.{Table}
use Rattle.sheet_trailer.specs.Tables.{TableOf}
use Rattle.sheet_contents.specs.declared.Row as read
use Rattle.sheet_contents.specs.Read.{as_row}
use Rattle.sheet.specs.Good.{Good}
use Rattle.sheet.specs.Readers.{RowRead}
use Rattle.sheet.proofs.Contents.{rows_length}

module _ {s : List ℕ} {t : Table} where
  pub rows_few : Good s → TableOf s 2 t → t.count ≤ 256
  rows_few g e = omega (arith, e.counts, (g.counts 2 (omega arith)).1)

  pub rows_all : TableOf s 2 t → t.count ≡ length (grammar_of s).rows
  rows_all e = e.counts ∙ sym (rows_length s)

-- the rules hold of more text and more rows
sound_wider : (text rows : ℕ) → text ≤ 1024 → rows ≤ 256 → (x : Row) → SoundRow text rows x → SoundRow 1024 256 x
sound_wider text rows p q Empty h = tt
sound_wider text rows p q (Range a b) h = h
sound_wider text rows p q (Text a b) h = omega arith
sound_wider text rows p q (Alt a b) h = (omega arith, omega arith)
sound_wider text rows p q (Seq a b) h = (omega arith, omega arith)
sound_wider text rows p q (Star a) h = omega arith

-- whatever the counts of the sheet
pub row_wide : {s : List ℕ} {i : ℕ} {r : read.Row} → Good s → RowRead s i r → SoundRow 1024 256 (as_row r)
row_wide {r = r} g h = sound_wider _ _ (g.counts 1 (omega arith)).1 (g.counts 2 (omega arith)).1 (as_row r) h.sound
