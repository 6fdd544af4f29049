-- What a row gives by itself at a length, and what a row has from the rows that it reaches.
use Rattle.std.specs.Prelude.{ℕ, ◌≡◌, Bool, cond, not, List, [], eqb, length}
use Rattle.paper.specs.Tests.{gather}
use Rattle.paper.specs.Rows.{Row, Grammar, row}
use Rattle.paper.specs.Decide.{reaches}
use Rattle.paper.specs.Cuts.{Opt, own_opts}

-- a row gives so many options by itself at length m
abbrev pub Gives : ℕ → Row → ℕ → Type 0
Gives m x count = (q : ℕ) → length (own_opts m q x) ≡ count

-- row q gives an option by itself at length m
unfoldable pub giving : Grammar → (m q : ℕ) → Bool
giving g m q = not (eqb (length (own_opts m q (row g q))) 0)

-- what row q gives to row r at length m, m at least 1
unfoldable pub from_row : Grammar → (m r q : ℕ) → List Opt
from_row g m r q = cond (reaches g r q) (own_opts m q (row g q)) []

-- what the rows below q give to row r
unfoldable pub from_below : Grammar → (m r q : ℕ) → List Opt
from_below g m r q = gather 0 q (from_row g m r)
