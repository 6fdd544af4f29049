-- The places that a `Places` of the code stands for.
use Rattle.std.specs.Prelude.{ℕ, ◌+◌, ◌≤◌, ◌≡◌, Bool, true, Option, Some, None, List, ◌++◌, length, get_or, take, map}
use Rattle.paper.specs.Tests.{all_below}
use Rattle.paper.specs.Trailer.{count_of, longest}
use Rattle.paper.specs.Records.{term_fits}
use Rattle.paper.specs.Terms.{Place, Known, Part, piece, full_length}
use Rattle.paper.specs.Sheet.{Sheet, Run}
use Rattle.paper.specs.Opens.{meet}
use Rattle.workspace.specs.Places.{place_of, places_in}
use Rattle.terms.specs.declared.places.Places.{Places}

-- the first `len` of them
abbrev pub placed : Places → List (Option ℕ)
placed p = take p.len p.of

unfoldable pub shown : Places → List Place
shown p = places_in (placed p)

-- the places of q can hold the bytes that those of p hold, one by one
unfoldable pub meet_all : Sheet → (p q : List (Option ℕ)) → Bool
meet_all s p q = all_below (length p) (λ j. meet s (place_of (get_or p j None)) (place_of (get_or q j None)))

-- bytes as places that are known
unfoldable pub known_places : List ℕ → List (Option ℕ)
known_places s = map Some s

-- the part x stands behind p
pub record Added (text : List ℕ) (p v : Places) (x : Part) (r : Places) : Type 0 where
  pub same : shown r ≡ shown p ++ piece Known text (shown v) x
  pub len : r.len ≤ p.len + full_length v.len x

-- a run of an accepted sheet whose term can be laid out at length n
pub record Readable (s : List ℕ) (n : ℕ) (r : Run) : Type 0 where
  pub short : n ≤ longest s
  pub run : r.first + r.count ≤ count_of s 3
  pub fits : term_fits s r ≡ true
