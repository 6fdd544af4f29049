-- A set of letters as an array holds it.
use Rattle.std.specs.Prelude.{◌≡◌, ℕ, Bool, false, ◌&&◌, ◌||◌, List, Option, leb}
use Rattle.workspace.specs.Bits.{bit_at}
use Rattle.workspace.specs.Scan.{FirstOf}

-- b is a letter, its bit of the four words: the only way in which others look into them
unfoldable pub has_letter : List ℕ → ℕ → Bool
has_letter of b = bit_at of 0 b

-- no byte is a letter
abbrev pub NoLetter : List ℕ → Type 0
NoLetter of = (x : ℕ) → has_letter of x ≡ false

-- the letters of `of`, and those from low to high
abbrev pub Joined : (of : List ℕ) (low high : ℕ) (r : List ℕ) → Type 0
Joined of low high r = (x : ℕ) → has_letter r x ≡ ((leb low x && leb x high) || has_letter of x)

-- o is the first letter at or after c; None where there is none
abbrev pub FirstFrom : (is : ℕ → Bool) (c : ℕ) → Option ℕ → Type 0
FirstFrom is c o = FirstOf is c 256 o
