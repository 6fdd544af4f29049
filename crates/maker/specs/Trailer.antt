-- A list's trailer as the maker writes it, one part behind the other.
use Rattle.std.specs.Prelude.{ℕ, ◌+◌, List, [], ◌∷◌, ◌++◌, get_or}
use Rattle.paper.specs.Bytes.{u16, u32}
use Rattle.paper.specs.Tests.{gather}

-- the bytes of offset m
unfoldable pub offset_bytes : List ℕ → ℕ → List ℕ
offset_bytes offsets m = u32 (get_or offsets m 0)

-- the trailer after the offsets, up to the mark `CUT1`
unfoldable pub ending_bytes : (root rows n total : ℕ) → List ℕ
ending_bytes root rows n total = u16 root ++ (u16 rows ++ ((n ∷ 0 ∷ 0 ∷ 0 ∷ []) ++ (u32 total ++ (67 ∷ 85 ∷ 84 ∷ 49 ∷ []))))

-- the trailer, with the offsets from a table
unfoldable pub trailer_bytes : List ℕ → (root rows n total : ℕ) → List ℕ
trailer_bytes offsets root rows n total = gather 0 (n + 1) (offset_bytes offsets) ++ ending_bytes root rows n total
