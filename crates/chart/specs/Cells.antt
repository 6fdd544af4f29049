-- A cell: what each row does by itself with the m places from i on, by the row's kind; and the table as it fills.
use Rattle.std.specs.Prelude.{ℕ, ◌+◌, ◌<◌, ◌≤◌, ◌≡◌, Bool, false, ◌&&◌, Option, List, eqb, ltb, length}
use Rattle.paper.specs.Rows.{Row, Empty, Range, Text, Alt, Seq, Star, Grammar, row, stretch}
use Rattle.paper.specs.Decide.{Pattern, Test, fits, some_in, split, accepts}
use Rattle.paper.specs.Sheet.{Sheet, sheet_of, grammar_of, letter}
use Rattle.paper.specs.Opens.{pattern}
use Rattle.sheet_contents.specs.Ranges.{holds_byte}
use Rattle.workspace.specs.Spans.{span_at}
use Rattle.workspace.specs.Bits.{bit_at, none_at}
use Rattle.workspace.specs.Places.{places_in}
use Rattle.chart_cells.specs.Steps.{Kept}

-- the bytes that the places allow
abbrev pub allowed : List ℕ → List (Option ℕ) → Pattern
allowed s places = pattern (sheet_of s) (places_in places)

-- a range that holds the byte x
unfoldable pub holding : ℕ → Row → Bool
holding x r = holds_byte r x

-- the byte x is a letter, and the ranges that hold one are none
unfoldable pub no_range : Sheet → List ℕ → ℕ → Bool
no_range s ranges x = none_at ranges 0 && letter s x

-- a range, of one byte, with a byte that is allowed at place i
unfoldable pub ranged : Pattern → (m i : ℕ) → Row → Bool
ranged pat m i Empty = false
ranged pat m i (Range lo hi) = eqb m 1 && some_in pat i lo hi
ranged pat m i (Text off len) = false
ranged pat m i (Alt a b) = false
ranged pat m i (Seq a b) = false
ranged pat m i (Star a) = false

-- a text of m bytes that fits from place i on
unfoldable pub fitting : List ℕ → Pattern → (m i : ℕ) → Row → Bool
fitting text pat m i Empty = false
fitting text pat m i (Range lo hi) = false
fitting text pat m i (Text off len) = eqb len m && fits pat i (stretch 0 text off len)
fitting text pat m i (Alt a b) = false
fitting text pat m i (Seq a b) = false
fitting text pat m i (Star a) = false

-- a row, with its number q, that splits
unfoldable pub splitting : Test → (m i q : ℕ) → Row → Bool
splitting acc m i q Empty = false
splitting acc m i q (Range lo hi) = false
splitting acc m i q (Text off len) = false
splitting acc m i q (Alt a b) = false
splitting acc m i q (Seq a b) = split acc a b m i
splitting acc m i q (Star a) = split acc a q m i

-- row r is one of the first n and passes
unfoldable pub among : Grammar → (Row → Bool) → (n r : ℕ) → Bool
among g f n r = ltb r n && f (row g r)

-- row r passes
unfoldable pub passing : Grammar → (Row → Bool) → ℕ → Bool
passing g f r = f (row g r)

-- ---- the table

-- what the bits of a sheet's chart are
abbrev pub derivable : List ℕ → List (Option ℕ) → Test
derivable s places = accepts (grammar_of s) (allowed s places)

-- what the bits of the empty spans are, by the groundwork's set of the rows that derive the empty word
unfoldable pub emptied : List ℕ → Test
emptied empty m i r = bit_at empty 0 r

-- the bits of the span of m places from i on are right, and no other span has changed
pub record Cell (acc : Test) (m i : ℕ) (old new : List ℕ) : Type 0 where
  pub kept : Kept (span_at i m) old new
  pub bits : (r : ℕ) → r < 256 → bit_at new (span_at i m) r ≡ acc m i r

-- every span of fewer than M of the n places is filled, and of those of M places the first I
pub record Filled (acc : Test) (n M I : ℕ) (work : List ℕ) : Type 0 where
  pub shorter : (m i r : ℕ) → m < M → i + m ≤ n → r < 256 → bit_at work (span_at i m) r ≡ acc m i r
  pub here : (i r : ℕ) → i < I → i + M ≤ n → r < 256 → bit_at work (span_at i M) r ≡ acc M i r

-- THE PROMISE: each span's bits are the rows that derive it
pub record Charted (s : List ℕ) (places : List (Option ℕ)) (work : List ℕ) : Type 0 where
  pub bits : (m i r : ℕ) → i + m ≤ length places → r < 256 → bit_at work (span_at i m) r ≡ derivable s places m i r
