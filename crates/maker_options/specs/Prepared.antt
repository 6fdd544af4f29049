-- What is made once a call: for each row the rows that it reaches, and for each length the rows that give an option there.
use Rattle.std.specs.Prelude.{ℕ, ◌+◌, ◌≤◌, ◌<◌, ◌≡◌, Bool, List, length, get_or}
use Rattle.paper.specs.Rows.{Grammar}
use Rattle.paper.specs.Decide.{nullable, reaches}
use Rattle.paper.specs.Cuts.{groups}
use Rattle.workspace.specs.Bits.{bit_at}
use Rattle.workspace.specs.Scan.{in_both}
use Rattle.maker_options.specs.Giving.{giving}

-- entry r holds the rows that row r reaches; entry 256 the rows that derive the empty word; entry 256 + m, m from 1 to n, the rows that give an option at length m
pub record Ready (g : Grammar) (n : ℕ) (ws : List ℕ) : Type 0 where
  pub reached : (r q : ℕ) → r < length g.rows → q < length g.rows → bit_at ws r q ≡ reaches g r q
  pub nil : (r : ℕ) → bit_at ws 256 r ≡ nullable g r
  pub gives : (m q : ℕ) → 1 ≤ m → m ≤ n → q < length g.rows → bit_at ws (256 + m) q ≡ giving g m q

-- row r reaches a row, which gives an option at length m
abbrev pub chosen : List ℕ → (r m : ℕ) → ℕ → Bool
chosen ws r m = in_both ws r (256 + m)

-- the rows whose entry in a table holds row r
abbrev pub across : List ℕ → (r q : ℕ) → Bool
across ws r q = bit_at ws q r

-- the first k group offsets
pub record Offsets (g : Grammar) (k : ℕ) (offsets : List ℕ) : Type 0 where
  pub each : (m : ℕ) → m < k → get_or offsets m 0 ≡ length (groups g m)

-- the rows below n and the first k entries: entry r holds the rows whose entry of another table holds row r
pub record Turned (from : List ℕ) (n k : ℕ) (ws : List ℕ) : Type 0 where
  pub each : (r q : ℕ) → r < k → q < n → bit_at ws r q ≡ bit_at from q r

-- the lengths from 1 to k - 1 have their entries; those of the rows and of length 0 are as they were
pub record Given (g : Grammar) (k : ℕ) (old now : List ℕ) : Type 0 where
  pub each : (m q : ℕ) → 1 ≤ m → m < k → q < length g.rows → bit_at now (256 + m) q ≡ giving g m q
  pub kept : (t q : ℕ) → t ≤ 256 → bit_at now t q ≡ bit_at old t q
