-- What the groundwork of a sheet says of its rows, its letters and its pairs.
use Rattle.std.specs.Prelude.{ℕ, ◌<◌, ◌≤◌, ◌≡◌, true, length, get_or}
use Rattle.paper.specs.Tests.{any_below}
use Rattle.paper.specs.Rows.{Row, Text, Seq, Star, row}
use Rattle.paper.specs.Decide.{nullable, reaches}
use Rattle.paper.specs.Sheet.{Sheet, letter}
use Rattle.workspace.specs.Bits.{bit, bit_at}
use Rattle.groundwork.specs.declared.splits.Pair.{Pair}
use Rattle.groundwork.specs.declared.ground.Groundwork.{Groundwork}
use Rattle.groundwork.specs.Laying.{some_letter, pair, no_pair}

-- row q, given as a row, splits into a and b: "kind 5 .. its children; kind 6, the same with a its child and b the star row"
pub data Splits (q : ℕ) : Row → ℕ → ℕ → Type 0 where
  by_seq : {a b : ℕ} → Splits q (Seq a b) a b
  by_star : {a : ℕ} → Splits q (Star a) a q

-- the pair is that of its row, given as a row
pub record PairOf (r : Row) (p : Pair) : Type 0 where
  pub row : p.row < 256
  pub left : p.left < 256
  pub right : p.right < 256
  pub splits : Splits p.row r p.left p.right

pub record Ground (s : Sheet) (g : Groundwork) : Type 0 where
  pub reached : (q r : ℕ) → q < length s.grammar.rows → r < 256 → bit_at g.reach.now q r ≡ reaches s.grammar r q
  pub empties : (r : ℕ) → r < 256 → bit_at g.empty 0 r ≡ nullable s.grammar r
  pub ranges : (q : ℕ) → q < 256 → bit_at g.ranges 0 q ≡ some_letter s (row s.grammar q)
  pub letters : (b : ℕ) → bit_at g.letters 0 b ≡ letter s b
  pub some : any_below 256 (letter s) ≡ true
  pub few : g.count ≤ length s.grammar.rows
  pub pairs : (j : ℕ) → j < g.count → PairOf (row s.grammar (get_or g.pairs j no_pair).row) (get_or g.pairs j no_pair)
  pub all : (q a b : ℕ) → Splits q (row s.grammar q) a b → (j : ℕ) × (j < g.count) × (get_or g.pairs j no_pair ≡ pair q a b)
  pub lengths : (q off m : ℕ) → row s.grammar q ≡ Text off m → m ≤ 60 → bit g.lengths m ≡ 1
