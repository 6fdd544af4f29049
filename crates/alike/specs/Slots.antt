-- What the functions that give slots promise to each other.
use Rattle.std.specs.Prelude.{ℕ, ◌+◌, ◌≤◌, ◌<◌, ◌≡◌, Bool, true, false, ◌&&◌, ◌||◌, List, Option, Some, None, eqb, ltb, leb, length, get_or}
use Rattle.paper.specs.Rows.{Grammar, row}
use Rattle.paper.specs.Sheet.{Sheet, letter}
use Rattle.workspace.specs.Bits.{bit_at}
use Rattle.sheet_contents.specs.Ranges.{holds_byte}
use Rattle.alike.specs.Untold.{Absent}

-- ---- a table of four words a byte: entry b has the range rows that hold b

-- the bytes from lo on that are below x
abbrev pub between : (lo x b : ℕ) → Bool
between lo x b = leb lo b && ltb b x

-- row r into the entries of the bytes that pass the test, and nothing else
pub record Added (test : ℕ → Bool) (r : ℕ) (ws ws' : List ℕ) : Type 0 where
  pub long : length ws' ≡ length ws
  pub bits : (b q : ℕ) → b < 256 → q < 256 → bit_at ws' b q ≡ ((eqb q r && test b) || bit_at ws b q)

-- of the rows below n
pub record Holders (g : Grammar) (n : ℕ) (ws : List ℕ) : Type 0 where
  pub long : length ws ≡ 1024
  pub bits : (b q : ℕ) → b < 256 → q < 256 → bit_at ws b q ≡ (ltb q n && holds_byte (row g q) b)

-- the same range rows hold b and c
abbrev pub SameRows : List ℕ → (b c : ℕ) → Type 0
SameRows ws b c = (q : ℕ) → bit_at ws b q ≡ bit_at ws c q

-- ---- which bytes may have a slot

-- of the bytes below k, letters alone
abbrev pub Letters : Sheet → ℕ → List Bool → Type 0
Letters s k free = (b : ℕ) → b < k → get_or free b false ≡ true → letter s b ≡ true

-- what may have a slot could before, and is none of the first j bytes of the text
pub record Without (text : List ℕ) (old now : List Bool) (j : ℕ) : Type 0 where
  pub kept : (b : ℕ) → get_or now b false ≡ true → get_or old b false ≡ true
  pub apart : (b : ℕ) → get_or now b false ≡ true → (i : ℕ) → i < j → get_or text i 0 ≡ b → ⊥

-- a byte that may have a slot is a letter and none of the text's
pub record Free (s : Sheet) (free : List Bool) : Type 0 where
  pub letters : Letters s 256 free
  pub text : (b : ℕ) → get_or free b false ≡ true → Absent s.grammar.text b

-- ---- slots, each with the last byte that was given it: its owner. The owner of slot k + 1 stands at place k.

-- k is a place for b: it has no owner, or one whose rows are those of b
pub record PlaceFor (ws : List ℕ) (may : List Bool) (owners : List (Option ℕ)) (b k : ℕ) : Type 0 where
  pub small : k < 7
  pub free : get_or may b false ≡ true
  pub like : (c : ℕ) → get_or owners k None ≡ Some c → SameRows ws b c

-- the first i bytes have their slots
pub record Slotted (ws : List ℕ) (may : List Bool) (owners : List (Option ℕ)) (slot : List ℕ) (i : ℕ) : Type 0 where
  pub long : length slot ≡ 256
  pub seven : length owners ≡ 7
  pub below : (b : ℕ) → get_or slot b 0 < 8
  pub later : (b : ℕ) → i ≤ b → get_or slot b 0 ≡ 0
  pub free : (b : ℕ) → 0 < get_or slot b 0 → get_or may b false ≡ true
  pub like : (b k : ℕ) → get_or slot b 0 ≡ k + 1 → (c : ℕ) × (get_or owners k None ≡ Some c) × SameRows ws b c

-- bytes of one slot may have it, and the same rows hold them
pub record Given (ws : List ℕ) (may : List Bool) (slot : List ℕ) : Type 0 where
  pub free : (b : ℕ) → b < 256 → 0 < get_or slot b 0 → get_or may b false ≡ true
  pub alike : (b c : ℕ) → b < 256 → c < 256 → 0 < get_or slot b 0 → get_or slot b 0 ≡ get_or slot c 0 → SameRows ws b c
