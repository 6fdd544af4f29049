-- Where a table lies, as the code hands it on: the one way in which it is said.
use Rattle.std.specs.Prelude.{ℕ, ◌≡◌, List}
use Rattle.paper.specs.Trailer.{offset_of, count_of}
use Rattle.sheet_trailer.specs.declared.Table.{Table}

pub record TableOf (s : List ℕ) (t : ℕ) (x : Table) : Type 0 where
  pub begins : x.at ≡ offset_of s t
  pub counts : x.count ≡ count_of s t
