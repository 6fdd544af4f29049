-- The problem sheet's trailer, and where its five tables lie: 0 letters, 1 text, 2 rows, 3 parts, 4 assertions.
use Rattle.std.specs.Prelude.{ℕ, zero, suc, ◌+◌, ◌*◌, ◌-◌, List, [], ◌∷◌, Bool, cond, ◌&&◌, length, get_or, leb, eqb}
use Rattle.paper.specs.Bytes.{u8_at, u16_at, u32_at, mark_at}
use Rattle.paper.specs.Tests.{first_bad}
use Rattle.paper.specs.Rules.{Rules}

-- a record's bytes, and the least and the greatest count, by table
abbrev pub size : ℕ → ℕ
size t = get_or (2 ∷ 1 ∷ 6 ∷ 6 ∷ 12 ∷ []) t 0

abbrev pub least : ℕ → ℕ
least t = get_or (1 ∷ 0 ∷ 0 ∷ 0 ∷ 0 ∷ []) t 0

abbrev pub most : ℕ → ℕ
most t = get_or (8 ∷ 1024 ∷ 256 ∷ 64 ∷ 32 ∷ []) t 0

-- the greatest length of v, and of a term
abbrev pub limit : ℕ
limit = 60

-- the edition that the last byte of the mark names: `1` is byte 49
unfoldable pub edition : List ℕ → ℕ
edition s = u8_at s (length s - 1) - 48

-- the bytes of an edition's trailer: 32 for `PRM1`, 36 for `PRM2`
abbrev pub trailer_size : ℕ → ℕ
trailer_size e = 28 + 4 * e

-- the bytes of the longest sheet of an edition: full tables and its trailer, 3,376 for `PRM1`, 3,380 for `PRM2`
abbrev pub sheet_most : ℕ → ℕ
sheet_most e = 3344 + trailer_size e

-- where the trailer begins
unfoldable pub base : List ℕ → ℕ
base s = length s - trailer_size (edition s)

-- the trailer's fields of two bytes, by number
unfoldable pub field : List ℕ → ℕ → ℕ
field s k = u16_at s (base s + 2 * k)

abbrev pub shortest : List ℕ → ℕ
shortest s = field s 0

abbrev pub longest : List ℕ → ℕ
longest s = field s 1

abbrev pub offset_of : List ℕ → ℕ → ℕ
offset_of s t = field s (2 + 2 * t)

abbrev pub count_of : List ℕ → ℕ → ℕ
count_of s t = field s (3 + 2 * t)

-- "after the table fields four new bytes, namely cut rule .., comparison rule .. and two zeros"; `PRM1` has none, and each counts as 0
unfoldable pub new_byte : List ℕ → ℕ → ℕ
new_byte s k = cond (leb 2 (edition s)) (u8_at s (base s + 24 + k)) 0

unfoldable pub rules_of : List ℕ → Rules
rules_of s = record { cut = new_byte s 0; comparison = new_byte s 1 }

-- where record i of table t stands
abbrev pub record_at : List ℕ → (t i : ℕ) → ℕ
record_at s t i = offset_of s t + size t * i

-- "end to end from offset 0 in this order": where table t begins, given the counts
unfoldable pub start_of : List ℕ → ℕ → ℕ
start_of s zero = 0
start_of s (suc t) = start_of s t + size t * count_of s t

-- 12: the last four bytes are `PRM` and the digit of an edition that the call reads, `first` to `last`
unfoldable pub mark_ok : (first last : ℕ) → List ℕ → Bool
mark_ok first last s = leb first (edition s) && (leb (edition s) last && mark_at s (length s - 4) 80 82 77 (48 + edition s))

-- 13: there is room for the edition's trailer, and the stored total is the length lent
unfoldable pub total_ok : List ℕ → Bool
total_ok s = leb (trailer_size (edition s)) (length s) && eqb (u32_at s (length s - 8)) (length s)

-- 14: a count is within its limits
unfoldable pub count_ok : List ℕ → ℕ → Bool
count_ok s t = leb (least t) (count_of s t) && leb (count_of s t) (most t)

-- 141: "shortest is at most longest; longest is at most 60"
unfoldable pub lengths_ok : List ℕ → Bool
lengths_ok s = leb (shortest s) (longest s) && leb (longest s) limit

-- 16: "cut rule (0 or 1), comparison rule (0 for now) and two zeros"
unfoldable pub rules_ok : List ℕ → Bool
rules_ok s = leb (new_byte s 0) 1 && (eqb (new_byte s 1) 0 && (eqb (new_byte s 2) 0 && eqb (new_byte s 3) 0))

-- 15: a table begins where the one before it ends
unfoldable pub offset_ok : List ℕ → ℕ → Bool
offset_ok s t = eqb (offset_of s t) (start_of s t)

-- 15: every table does, and the tables end at the trailer
unfoldable pub offsets_ok : List ℕ → Bool
offsets_ok s = eqb (first_bad (offset_ok s) 5) 5 && eqb (start_of s 5) (base s)
