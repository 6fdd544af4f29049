-- The two sets that are made once a call, as bits of a table: the rows that derive the empty word, and for each row the rows that reach it.
use Rattle.std.specs.Prelude.{ℕ, ◌<◌, ◌≤◌, ◌≡◌, Bool, true, false, List, Option, Some, None, eqb, length}
use Rattle.std.specs.Bool.{then_some}
use Rattle.paper.specs.Rows.{Row, Empty, Range, Text, Alt, Seq, Star, Grammar, Keeps, Reach}
use Rattle.paper.specs.Decide.{null_rule, nullable, reaches}
use Rattle.workspace.specs.Bits.{bit_at, joined}

-- entry 0 holds the rows that derive the empty word
pub record Nulls (g : Grammar) (ws : List ℕ) : Type 0 where
  pub bits : (r : ℕ) → bit_at ws 0 r ≡ nullable g r

-- entry q holds the rows that reach row q
pub record Reached (g : Grammar) (ws : List ℕ) : Type 0 where
  pub bits : (q r : ℕ) → q < length g.rows → bit_at ws q r ≡ reaches g r q

-- the children of a row to which a step leads that keeps the length, given the rows that derive the empty word
abbrev pub steps_of : (ℕ → Bool) → Row → Option ℕ × Option ℕ
steps_of null Empty = (None, None)
steps_of null (Range lo hi) = (None, None)
steps_of null (Text off len) = (None, None)
steps_of null (Alt a b) = (Some a, Some b)
steps_of null (Seq a b) = (then_some (null b) a, then_some (null a) b)
steps_of null (Star a) = (Some a, None)

-- where there is a step from r to p, what reaches r is joined to what reaches p
abbrev pub passed_on : Option ℕ → (r : ℕ) → List ℕ → List ℕ
passed_on (Some p) r ws = joined ws p ws r
passed_on None r ws = ws

-- of the first n entries, each holds its own row alone; the later ones hold none
pub record Started (n : ℕ) (ws : List ℕ) : Type 0 where
  pub own : (q r : ℕ) → q < n → bit_at ws q r ≡ eqb r q
  pub later : (q r : ℕ) → n ≤ q → bit_at ws q r ≡ false

-- what the passes that find the empty words keep: no other row is in
abbrev pub NullSound : Grammar → List ℕ → Type 0
NullSound g ws = (r : ℕ) → bit_at ws 0 r ≡ true → nullable g r ≡ true

-- row r is in where the rule asks for it
abbrev pub NullSettled : Grammar → List ℕ → ℕ → Type 0
NullSettled g ws r = null_rule g (bit_at ws 0) r ≡ true → bit_at ws 0 r ≡ true

-- what the passes that find the reaching rows keep: a row reaches itself, and what is in reaches
pub record ReachSound (g : Grammar) (ws : List ℕ) : Type 0 where
  pub self : (q : ℕ) → q < length g.rows → bit_at ws q q ≡ true
  pub right : (q r : ℕ) → q < length g.rows → bit_at ws q r ≡ true → Reach g r q

-- what reaches row r reaches the rows to which r has a step
abbrev pub ReachSettled : Grammar → List ℕ → ℕ → Type 0
ReachSettled g ws r = (p x : ℕ) → Keeps g r p → bit_at ws r x ≡ true → bit_at ws p x ≡ true
