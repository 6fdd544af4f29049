-- Which table and which record a fault names: the meaning, where `Refusals` computes them.
use Rattle.std.specs.Prelude.{ℕ, ◌<◌, ◌≡◌, Bool, true, false, ◌≢◌, ◌⊎◌, List}
use Rattle.paper.specs.Trailer.{count_of, count_ok, rules_ok, record_at}
use Rattle.paper.specs.Records.{record_ok, table_ok, assert_fits}
use Rattle.paper.specs.Refusals.{Fault}

-- i is the first of the numbers below n that fails the test
pub record FirstFails (ok : ℕ → Bool) (n i : ℕ) : Type 0 where
  pub below : i < n
  pub fails : ok i ≡ false
  pub before : (j : ℕ) → j < i → ok j ≡ true

-- a new byte is bad
pub record NewByte (s : List ℕ) (f : Fault) : Type 0 where
  pub bad : rules_ok s ≡ false
  pub table : f.table ≡ 5
  pub «record» : f.«record» ≡ 0

-- the new bytes are good, and this is the first record that is not
pub record FirstRecord (s : List ℕ) (f : Fault) : Type 0 where
  pub good : rules_ok s ≡ true
  pub table : FirstFails (table_ok s) 5 f.table
  pub «record» : FirstFails (λ i. record_ok s f.table (record_at s f.table i)) (count_of s f.table) f.«record»

pub record Names (s : List ℕ) (f : Fault) : Type 0 where
  -- "14 stays for counts and names the first table at fault, record 0"
  pub counts : f.number ≡ 14 → FirstFails (count_ok s) 5 f.table × (f.«record» ≡ 0)
  -- 16: "a bad new byte .., before any table's record, told as table 5, record 0"; else "the first offending record in table order"
  pub records : f.number ≡ 16 → NewByte s f ⊎ FirstRecord s f
  -- "17 names the first assertion with an overlong term"
  pub terms : f.number ≡ 17 → (f.table ≡ 4) × FirstFails (λ i. assert_fits s (record_at s 4 i)) (count_of s 4) f.«record»
  -- "all other answers carry table 0, record 0"
  pub others : f.number ≢ 14 → f.number ≢ 16 → f.number ≢ 17 → (f.table ≡ 0) × (f.«record» ≡ 0)
