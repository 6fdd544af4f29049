-- The ranges among the rows: which bytes they hold.
use Rattle.std.specs.Prelude.{ℕ, Bool, false, ◌&&◌, leb}
use Rattle.paper.specs.Rows.{Row, Empty, Range, Text, Alt, Seq, Star}

-- the row is a range that holds the byte
unfoldable pub holds_byte : Row → ℕ → Bool
holds_byte Empty b = false
holds_byte (Range lo hi) b = leb lo b && leb b hi
holds_byte (Text off len) b = false
holds_byte (Alt x y) b = false
holds_byte (Seq x y) b = false
holds_byte (Star x) b = false
