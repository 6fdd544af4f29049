-- What must hold of a sheet before its trailer and its records are read.
use Rattle.std.specs.Prelude.{ℕ, ◌+◌, ◌*◌, ◌<◌, ◌≤◌, List, length}
use Rattle.paper.specs.Trailer.{edition, trailer_size, size, most, limit, longest, offset_of, count_of}

-- there is room for the edition's trailer
abbrev pub Trailed : List ℕ → Type 0
Trailed s = trailer_size (edition s) ≤ length s

-- every table lies inside the sheet
abbrev pub Placed : List ℕ → Type 0
Placed s = (t : ℕ) → t < 5 → offset_of s t + size t * count_of s t ≤ length s

-- what 13 to 15 leave: there is room for the trailer, counts and lengths are within their limits, and every table lies inside the sheet
pub record Laid (s : List ℕ) : Type 0 where
  pub trailed : Trailed s
  pub counts : (t : ℕ) → t < 5 → count_of s t ≤ most t
  pub short : longest s ≤ limit
  pub placed : Placed s
