-- A term's places as the code has them: a byte that is known, or none.
use Rattle.std.specs.Prelude.{ℕ, Option, Some, None, List, map}
use Rattle.paper.specs.Terms.{Place, Known, Unknown}

unfoldable pub place_of : Option ℕ → Place
place_of (Some x) = Known x
place_of None = Unknown

unfoldable pub places_in : List (Option ℕ) → List Place
places_in xs = map place_of xs
