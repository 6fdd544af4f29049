-- Derivation, decided by length over a pattern: which rows derive a word of m bytes that fits from place i on.
use Rattle.std.specs.Prelude.{ℕ, zero, suc, ◌+◌, ◌-◌, Bool, true, false, ◌&&◌, ◌||◌, List, [], ◌∷◌, eqb, length, get_or}
use Rattle.paper.specs.Tests.{any_below, table_from}
use Rattle.paper.specs.Compare.{same_byte}
use Rattle.paper.specs.Rows.{Row, Empty, Range, Text, Alt, Seq, Star, Grammar, row, stretch}

-- ---- the least set of numbers below R that a rule puts in, found by R rounds from the empty set; a set is a list of R tests

-- what is in a set: outside the list nothing is
abbrev pub has : List Bool → ℕ → Bool
has s k = get_or s k false

unfoldable pub rounds : ℕ → ((ℕ → Bool) → ℕ → Bool) → ℕ → List Bool
rounds R rule zero = []
rounds R rule (suc n) = table_from 0 R (rule (has (rounds R rule n)))

unfoldable pub closure : ℕ → ((ℕ → Bool) → ℕ → Bool) → List Bool
closure R rule = rounds R rule R

-- ---- the rows that derive the empty word

-- a row derives it, given a set of rows that do
unfoldable pub null_row : (ℕ → Bool) → Row → Bool
null_row s Empty = true
null_row s (Range lo hi) = false
null_row s (Text off len) = eqb len 0
null_row s (Alt a b) = s a || s b
null_row s (Seq a b) = s a && s b
null_row s (Star a) = true

unfoldable pub null_rule : Grammar → (ℕ → Bool) → ℕ → Bool
null_rule g s r = null_row s (row g r)

unfoldable pub nullable : Grammar → ℕ → Bool
nullable g r = has (closure (length g.rows) (null_rule g)) r

-- ---- the rows from which steps that keep the length lead to a row of a set: the set's rows, and a row with a step to such a row

unfoldable pub reach_row : (ℕ → Bool) → (ℕ → Bool) → Row → Bool
reach_row null s Empty = false
reach_row null s (Range lo hi) = false
reach_row null s (Text off len) = false
reach_row null s (Alt a b) = s a || s b
reach_row null s (Seq a b) = (null b && s a) || (null a && s b)
reach_row null s (Star a) = s a

unfoldable pub reach_rule : Grammar → (ℕ → Bool) → (ℕ → Bool) → ℕ → Bool
reach_rule g seed s r = seed r || reach_row (nullable g) s (row g r)

-- from r a row is reached that passes the test `seed`
unfoldable pub carried : Grammar → (ℕ → Bool) → ℕ → Bool
carried g seed r = has (closure (length g.rows) (reach_rule g seed)) r

-- from r the row q is reached
unfoldable pub reaches : Grammar → ℕ → ℕ → Bool
reaches g r q = carried g (λ p. eqb p q) r

-- ---- a pattern says which bytes are allowed at which place: the only way in which letters and unknown places enter derivation

abbrev pub Pattern : Type 0
Pattern = ℕ → ℕ → Bool

-- the pattern of a word: each place has its own byte
unfoldable pub exactly : List ℕ → Pattern
exactly w i b = same_byte b (get_or w i 0)

-- the word, laid from place i on, has only bytes that are allowed at their places
unfoldable pub fits : Pattern → ℕ → List ℕ → Bool
fits pat i [] = true
fits pat i (b ∷ w) = pat i b && fits pat (suc i) w

-- some byte from lo to hi is allowed at place i
unfoldable pub some_in : Pattern → (i lo hi : ℕ) → Bool
some_in pat i lo hi = any_below (suc hi - lo) (λ k. pat i (lo + k))

-- ---- row r derives a word of m bytes that fits from place i on

-- a test of a length, a place and a row
abbrev pub Test : Type 0
Test = ℕ → ℕ → ℕ → Bool

-- m bytes from place i as 1 to m - 1 bytes by row a and the rest by row b
unfoldable pub split : Test → ℕ → ℕ → ℕ → ℕ → Bool
split acc a b m i = any_below (m - 1) (λ j. acc (suc j) i a && acc (m - suc j) (i + suc j) b)

-- what the row q, given as a row, does by itself with m bytes, m at least 1
unfoldable pub own_row : Grammar → Pattern → Test → ℕ → Row → ℕ → ℕ → Bool
own_row g pat acc q Empty m i = false
own_row g pat acc q (Range lo hi) m i = eqb m 1 && some_in pat i lo hi
own_row g pat acc q (Text off len) m i = eqb len m && fits pat i (stretch 0 g.text off len)
own_row g pat acc q (Alt a b) m i = false
own_row g pat acc q (Seq a b) m i = split acc a b m i
own_row g pat acc q (Star a) m i = split acc a q m i

-- a length from the shorter ones: what the rows that r reaches do by themselves
unfoldable pub level : Grammar → Pattern → Test → Test
level g pat acc zero i r = nullable g r
level g pat acc (suc m) i r = any_below (length g.rows) (λ q. reaches g r q && own_row g pat acc q (row g q) (suc m) i)

-- all lengths up to f
unfoldable pub up_to : Grammar → Pattern → ℕ → Test
up_to g pat zero m i r = level g pat (λ k j q. false) m i r
up_to g pat (suc f) m i r = level g pat (λ k j q. up_to g pat f k j q) m i r

unfoldable pub accepts : Grammar → Pattern → Test
accepts g pat m i r = up_to g pat m m i r
