-- What the groundwork of a sheet holds, a part each.
use Rattle.std.specs.Prelude.{ℕ, zero, suc, ◌+◌, ◌-◌, ◌<◌, ◌≤◌, ◌≡◌, Bool, false, List, [], ◌∷◌, ◌++◌, Option, Some, None}
use Rattle.paper.specs.Tests.{any_below}
use Rattle.paper.specs.Rows.{Row, Empty, Range, Text, Alt, Seq, Star, Grammar, row}
use Rattle.paper.specs.Sheet.{Sheet, letter}
use Rattle.workspace.specs.Bits.{bit, bit_at}
use Rattle.groundwork.specs.declared.splits.Pair.{Pair}

-- the byte that lies k past low is a letter
abbrev pub letter_from : Sheet → (low k : ℕ) → Bool
letter_from s low k = letter s (low + k)

-- some byte of a range row is a letter
unfoldable pub some_letter : Sheet → Row → Bool
some_letter s Empty = false
some_letter s (Range lo hi) = any_below (suc hi - lo) (λ k. letter s (lo + k))
some_letter s (Text off len) = false
some_letter s (Alt a b) = false
some_letter s (Seq a b) = false
some_letter s (Star a) = false

-- a set of four words is that of the ranges that hold a letter
abbrev pub RangesIn : Sheet → List ℕ → Type 0
RangesIn s ranges = (q : ℕ) → bit_at ranges 0 q ≡ some_letter s (row s.grammar q)

-- a set of four words is that of the letters
abbrev pub LettersIn : Sheet → List ℕ → Type 0
LettersIn s letters = (b : ℕ) → bit_at letters 0 b ≡ letter s b

-- row q splits its word into a word of row a and a word of row b
abbrev pub pair : (q a b : ℕ) → Pair
pair q a b = record { row = q; left = a; right = b }

-- what stands where there is none
abbrev pub no_pair : Pair
no_pair = pair 0 0 0

-- the pair of row q, given as a row
abbrev pub pair_of : ℕ → Row → Option Pair
pair_of q (Seq a b) = Some (pair q a b)
pair_of q (Star a) = Some (pair q a q)
pair_of q Empty = None
pair_of q (Range lo hi) = None
pair_of q (Text off len) = None
pair_of q (Alt a b) = None

-- the pair, if there is one, behind others
abbrev pub with_pair : List Pair → Option Pair → List Pair
with_pair xs (Some x) = xs ++ x ∷ []
with_pair xs None = xs

-- the pairs of the rows below n, in the order of the rows
abbrev pub pairs_below : Grammar → ℕ → List Pair
pairs_below g zero = []
pairs_below g (suc n) = with_pair (pairs_below g n) (pair_of n (row g n))

-- a row has had its turn: its length, if it is a text row of at most 60 bytes, is a bit of the mask
pub record LengthTold (r : Row) (old now : ℕ) : Type 0 where
  pub kept : (m : ℕ) → bit old m ≡ 1 → bit now m ≡ 1
  pub told : (off m : ℕ) → r ≡ Text off m → m ≤ 60 → bit now m ≡ 1

-- the mask holds the lengths of the text rows below n
abbrev pub LengthsBelow : Grammar → (n mask : ℕ) → Type 0
LengthsBelow g n mask = (q off m : ℕ) → q < n → row g q ≡ Text off m → m ≤ 60 → bit mask m ≡ 1

-- the mask holds the lengths of the text rows
abbrev pub Lengths : Grammar → (mask : ℕ) → Type 0
Lengths g mask = (q off m : ℕ) → row g q ≡ Text off m → m ≤ 60 → bit mask m ≡ 1
