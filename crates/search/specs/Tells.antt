-- What a search's end holds of what is to be said.
use Rattle.std.specs.Prelude.{◌≡◌, ℕ, ◌≤◌, length, take}
use Rattle.paper.specs.Answers as paper
use Rattle.search.specs.declared.Sought.{Sought}
use Rattle.search.specs.declared.Sought.TheVariants.{Found, None, Spent}

-- what is said where a search ended so
unfoldable pub said_by : Sought → paper.Said
said_by (Found p t) = paper.Found (take p.len p.bytes) t
said_by (None t) = paper.None t
said_by (Spent t) = paper.Spent t

-- the word found has at most `hi` bytes of the 60
abbrev pub Short : ℕ → Sought → Type 0
Short hi (Found p t) = (p.len ≤ hi) × (length p.bytes ≡ 60)
Short hi (None t) = Unit {0}
Short hi (Spent t) = Unit {0}

-- the search's end r holds what is said, a
pub record Tells (hi : ℕ) (a : paper.Said) (r : Sought) : Type 0 where
  pub within : Short hi r
  pub said : a ≡ said_by r
