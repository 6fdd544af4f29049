-- "Little-endian": numbers of two and four bytes, the lowest byte first. Past the end of a run of bytes a byte reads as 0.
use Rattle.std.specs.Prelude.{ℕ, ◌+◌, ◌*◌, ◌/◌, ◌%◌, ◌<◌, Bool, ◌&&◌, List, [], ◌∷◌, ◌++◌, eqb, get_or}

-- the byte at o
abbrev pub u8_at : List ℕ → ℕ → ℕ
u8_at s o = get_or s o 0

-- a run of bytes, as whatever is lent as bytes is: each is below 256
abbrev pub OfBytes : List ℕ → Type 0
OfBytes s = (i : ℕ) → u8_at s i < 256

-- the number of two bytes at o
unfoldable pub u16_at : List ℕ → ℕ → ℕ
u16_at s o = u8_at s o + 256 * u8_at s (o + 1)

-- the number of four bytes at o
unfoldable pub u32_at : List ℕ → ℕ → ℕ
u32_at s o = u16_at s o + 65536 * u16_at s (o + 2)

-- a number's two bytes
unfoldable pub u16 : ℕ → List ℕ
u16 n = n % 256 ∷ n / 256 % 256 ∷ []

-- a number's four bytes
unfoldable pub u32 : ℕ → List ℕ
u32 n = u16 (n % 65536) ++ u16 (n / 65536)

-- the four bytes at o are these: a mark at the end of a sheet or a list
unfoldable pub mark_at : List ℕ → (o a b c d : ℕ) → Bool
mark_at s o a b c d = eqb (u8_at s o) a && (eqb (u8_at s (o + 1)) b && (eqb (u8_at s (o + 2)) c && eqb (u8_at s (o + 3)) d))
