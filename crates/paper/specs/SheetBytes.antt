-- A sheet's bytes from its five tables: what `Sheet` reads.
use Rattle.std.specs.Prelude.{ℕ, ◌+◌, ◌/◌, List, [], ◌∷◌, ◌++◌, length}
use Rattle.paper.specs.Bytes.{u16, u32}

-- a row's or a part's 6 bytes, an assertion's 12
unfoldable pub record6 : (kind a b : ℕ) → List ℕ
record6 kind a b = kind ∷ 0 ∷ u16 a ++ u16 b

unfoldable pub record12 : (kind sign first count a b : ℕ) → List ℕ
record12 kind sign first count a b = kind ∷ sign ∷ u16 first ++ (u16 count ++ (u16 a ++ (u16 b ++ u16 0)))

-- the tables end to end, then the trailer that points back; `new` are the bytes behind the table fields, four in the second edition
unfoldable pub edition_bytes : (new : List ℕ) (shortest longest : ℕ) (letters text rows parts assertions : List ℕ) → List ℕ
edition_bytes new shortest longest letters text rows parts assertions =
    let a = length letters in
    let b = a + length text in
    let c = b + length rows in
    let d = c + length parts in
    let e = d + length assertions in
    letters ++ (text ++ (rows ++ (parts ++ (assertions ++ (u16 shortest ++ (u16 longest ++
    (u16 0 ++ (u16 (a / 2) ++ (u16 a ++ (u16 (length text) ++ (u16 b ++ (u16 (length rows / 6) ++
    (u16 c ++ (u16 (length parts / 6) ++ (u16 d ++ (u16 (length assertions / 12) ++ (new ++ (u32 (e + 32 + length new) ++ (80 ∷ 82 ∷ 77 ∷ (49 + length new / 4) ∷ [])))))))))))))))))))

-- a sheet of the first edition
unfoldable pub sheet_bytes : (shortest longest : ℕ) (letters text rows parts assertions : List ℕ) → List ℕ
sheet_bytes = edition_bytes []
