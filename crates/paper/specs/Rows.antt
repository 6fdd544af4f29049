-- Rows, the words that a row derives, and the steps from row to row that keep the length.
use Rattle.std.specs.Prelude.{ℕ, zero, suc, ◌≤◌, ◌≡◌, true, cond, List, [], ◌∷◌, ◌++◌, eqb, get_or}
use Rattle.paper.specs.Compare.{same_byte, Same}

-- n elements from place i on; past the end the default d
unfoldable pub stretch : {A : Type 0} → A → List A → ℕ → ℕ → List A
stretch d t i zero = []
stretch d t i (suc n) = get_or t i d ∷ stretch d t (suc i) n

pub data Row : Type 0 where
  Empty : Row  -- 1: the empty word
  Range : ℕ → ℕ → Row  -- 2: one byte from a to b
  Text : ℕ → ℕ → Row  -- 3: text from offset a, b bytes
  Alt : ℕ → ℕ → Row  -- 4: row a or row b
  Seq : ℕ → ℕ → Row  -- 5: row a then row b
  Star : ℕ → Row  -- 6: zero or more of row a

-- a row of no kind derives nothing: a range with no byte in it
abbrev pub no_row : Row
no_row = Range 1 0

-- the row of a kind with its a and b
unfoldable pub row_of : (kind a b : ℕ) → Row
row_of kind a b =
    cond (eqb kind 1) Empty
    (cond (eqb kind 2) (Range a b)
    (cond (eqb kind 3) (Text a b)
    (cond (eqb kind 4) (Alt a b)
    (cond (eqb kind 5) (Seq a b)
    (cond (eqb kind 6) (Star a)
    no_row)))))

-- "regular expressions and context-free grammars share one table of rows", over the text
pub record Grammar : Type 0 where
  pub rows : List Row
  pub text : List ℕ

-- row number r; a number that is not in the table is no row
unfoldable pub row : Grammar → ℕ → Row
row g r = get_or g.rows r no_row

-- "a row derives a word when a finite derivation shows it": a value of this type is one
pub data Derives (g : Grammar) : ℕ → List ℕ → Type 0 where
  empty : {r : ℕ} → row g r ≡ Empty → Derives g r []
  range : {r lo hi a b : ℕ} → row g r ≡ Range lo hi → lo ≤ a → a ≤ hi → same_byte a b ≡ true → Derives g r (b ∷ [])
  text : {r off len : ℕ} {w : List ℕ} → row g r ≡ Text off len → Same (stretch 0 g.text off len) w → Derives g r w
  alt_left : {r a b : ℕ} {w : List ℕ} → row g r ≡ Alt a b → Derives g a w → Derives g r w
  alt_right : {r a b : ℕ} {w : List ℕ} → row g r ≡ Alt a b → Derives g b w → Derives g r w
  seq : {r a b : ℕ} {u v : List ℕ} → row g r ≡ Seq a b → Derives g a u → Derives g b v → Derives g r (u ++ v)
  star_none : {r a : ℕ} → row g r ≡ Star a → Derives g r []
  star_more : {r a : ℕ} {u v : List ℕ} → row g r ≡ Star a → Derives g a u → Derives g r v → Derives g r (u ++ v)

-- a step that keeps the length: 4 to either child; 5 to one child if the other derives the empty word; 6 to its child
pub data Keeps (g : Grammar) : ℕ → ℕ → Type 0 where
  keep_left : {r a b : ℕ} → row g r ≡ Alt a b → Keeps g r a
  keep_right : {r a b : ℕ} → row g r ≡ Alt a b → Keeps g r b
  keep_first : {r a b : ℕ} → row g r ≡ Seq a b → Derives g b [] → Keeps g r a
  keep_second : {r a b : ℕ} → row g r ≡ Seq a b → Derives g a [] → Keeps g r b
  keep_star : {r a : ℕ} → row g r ≡ Star a → Keeps g r a

-- none or more such steps
pub data Reach (g : Grammar) : ℕ → ℕ → Type 0 where
  here : {r : ℕ} → Reach g r r
  step : {r p q : ℕ} → Keeps g r p → Reach g p q → Reach g r q
