-- A table's bits: four words a span, and bit r of a span, r below 256, is bit r % 64 of its word r / 64.
-- A table of four words has the one span 0, and a table of 256 sets of rows the spans 0 to 255.
use Rattle.std.specs.Prelude.{ℕ, ◌+◌, ◌*◌, ◌/◌, ◌%◌, ◌^◌, Bool, cond, ◌&&◌, List, [], ◌∷◌, get_or, set, eqb, ltb}
use Rattle.std.specs.Int.Bits.{bit_or}

-- bit k of the word x, 0 or 1
unfoldable pub bit : ℕ → ℕ → ℕ
bit x k = x / 2 ^ k % 2

-- bit r of span s: no row past 255 has one
unfoldable pub bit_at : List ℕ → (s r : ℕ) → Bool
bit_at ws s r = ltb r 256 && eqb (bit (get_or ws (4 * s + r / 64) 0) (r % 64)) 1

-- the table with bit r of span s set
unfoldable pub set_bit : List ℕ → (s r : ℕ) → List ℕ
set_bit ws s r = set ws (4 * s + r / 64) (bit_or (get_or ws (4 * s + r / 64) 0) (2 ^ (r % 64)))

-- the same, where the test passed
unfoldable pub put_bit : Bool → List ℕ → (s r : ℕ) → List ℕ
put_bit on ws s r = cond on (set_bit ws s r) ws

-- the table with the words a, b, c, d in span s
unfoldable pub four_at : List ℕ → (s a b c d : ℕ) → List ℕ
four_at ws s a b c d = set (set (set (set ws (4 * s) a) (4 * s + 1) b) (4 * s + 2) c) (4 * s + 3) d

-- word k of span s
abbrev pub word_at : List ℕ → (s k : ℕ) → ℕ
word_at ws s k = get_or ws (4 * s + k) 0

-- the words of span s
abbrev pub words_at : List ℕ → (s : ℕ) → List ℕ
words_at ws s = get_or ws (4 * s) 0 ∷ word_at ws s 1 ∷ word_at ws s 2 ∷ word_at ws s 3 ∷ []

-- four words, each with the bits of the other's
abbrev pub either_of : (x y : List ℕ) → List ℕ
either_of x y =
    bit_or (get_or x 0 0) (get_or y 0 0) ∷ bit_or (get_or x 1 0) (get_or y 1 0) ∷ bit_or (get_or x 2 0) (get_or y 2 0) ∷ bit_or (get_or x 3 0) (get_or y 3 0) ∷ []

-- the table with no bit in span s
unfoldable pub wiped : List ℕ → ℕ → List ℕ
wiped ws s = four_at ws s 0 0 0 0

-- the table with the bits of entry q of another one in span s
unfoldable pub copied : List ℕ → ℕ → List ℕ → ℕ → List ℕ
copied ws s from q = four_at ws s (get_or from (4 * q) 0) (word_at from q 1) (word_at from q 2) (word_at from q 3)

-- the table with the bits of entry q of another one joined to those of span s
unfoldable pub joined : List ℕ → ℕ → List ℕ → ℕ → List ℕ
joined ws s from q =
    four_at ws s
    (bit_or (get_or ws (4 * s) 0) (get_or from (4 * q) 0))
    (bit_or (word_at ws s 1) (word_at from q 1))
    (bit_or (word_at ws s 2) (word_at from q 2))
    (bit_or (word_at ws s 3) (word_at from q 3))

-- span s has no bit
unfoldable pub none_at : List ℕ → ℕ → Bool
none_at ws s = eqb (bit_or (bit_or (bit_or (get_or ws (4 * s) 0) (word_at ws s 1)) (word_at ws s 2)) (word_at ws s 3)) 0
