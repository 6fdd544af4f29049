-- The cut list's bytes, as the maker writes them for a root row and a length n.
use Rattle.std.specs.Prelude.{ℕ, zero, suc, ◌+◌, ◌*◌, ◌-◌, cond, List, [], ◌∷◌, ◌++◌, eqb, length}
use Rattle.paper.specs.Bytes.{u16, u32}
use Rattle.paper.specs.Tests.{gather}
use Rattle.paper.specs.Rows.{Row, Empty, Range, Text, Alt, Seq, Star, Grammar, row}
use Rattle.paper.specs.Decide.{nullable, reaches}

pub data Opt : Type 0 where
  Byte : ℕ → ℕ → Opt  -- 1: one byte from a to b
  Stretch : ℕ → ℕ → Opt  -- 2: text from offset a, b bytes
  Split : ℕ → ℕ → ℕ → Opt  -- 3: the first k bytes by row a at length k, the rest by row b
  Nil : Opt  -- 4: the empty word

-- option 3 for k = 1 to m - 1
unfoldable pub splits : (m a b : ℕ) → List Opt
splits m a b = gather 1 (m - 1) (λ k. Split k a b ∷ [])

-- what the row q, given as a row, gives by itself at length m, m at least 1
unfoldable pub own_opts : ℕ → ℕ → Row → List Opt
own_opts m q Empty = []
own_opts m q (Range lo hi) = cond (eqb m 1) (Byte lo hi ∷ []) []
own_opts m q (Text off len) = cond (eqb len m) (Stretch off len ∷ []) []
own_opts m q (Alt a b) = []
own_opts m q (Seq a b) = splits m a b
own_opts m q (Star a) = splits m a q

-- the options of row r at length m: those of the rows that it reaches, in rising row order
unfoldable pub options : Grammar → ℕ → ℕ → List Opt
options g zero r = cond (nullable g r) (Nil ∷ []) []
options g (suc m) r = gather 0 (length g.rows) (λ q. cond (reaches g r q) (own_opts (suc m) q (row g q)) [])

-- an option's 8 bytes: kind u8, k u8, a u16, b u16, zero u16
unfoldable pub option_bytes : Opt → List ℕ
option_bytes (Byte lo hi) = 1 ∷ 0 ∷ u16 lo ++ u16 hi ++ u16 0
option_bytes (Stretch off len) = 2 ∷ 0 ∷ u16 off ++ u16 len ++ u16 0
option_bytes (Split k a b) = 3 ∷ k ∷ u16 a ++ u16 b ++ u16 0
option_bytes Nil = 4 ∷ 0 ∷ u16 0 ++ u16 0 ++ u16 0

unfoldable pub all_bytes : List Opt → List ℕ
all_bytes [] = []
all_bytes (o ∷ os) = option_bytes o ++ all_bytes os

-- a head's 8 bytes: row u16, m u8, zero u8, option count u32
unfoldable pub head_bytes : (r m count : ℕ) → List ℕ
head_bytes r m count = u16 r ++ (m ∷ 0 ∷ u32 count)

-- a head and its options
unfoldable pub entry : Grammar → ℕ → ℕ → List ℕ
entry g m r = head_bytes r m (length (options g m r)) ++ all_bytes (options g m r)

-- "in it, for each row number in rising order, a head .. and its options"
unfoldable pub group : Grammar → ℕ → List ℕ
group g m = gather 0 (length g.rows) (entry g m)

-- the first m groups
unfoldable pub groups : Grammar → ℕ → List ℕ
groups g m = gather 0 m (group g)

-- n + 1 group offsets (u32), root u16, row count u16, n u8, three zero bytes, total u32, the four bytes `CUT1`
unfoldable pub list_trailer : Grammar → (root n : ℕ) → List ℕ
list_trailer g root n =
    gather 0 (suc n) (λ m. u32 (length (groups g m))) ++
    (u16 root ++ (u16 (length g.rows) ++ (n ∷ 0 ∷ 0 ∷ 0 ∷ u32 (length (groups g (suc n)) + (4 * n + 20)) ++ (67 ∷ 85 ∷ 84 ∷ 49 ∷ []))))

-- "for m = 0 to n, a group", then the trailer
unfoldable pub cut_list : Grammar → (root n : ℕ) → List ℕ
cut_list g root n = groups g (suc n) ++ list_trailer g root n
