-- The rows that two sets of a table have in common, looked through in rising order.
use Rattle.std.specs.Prelude.{ℕ, ◌≤◌, ◌<◌, ◌≡◌, Bool, true, false, ◌&&◌, List, Option, Some, None}
use Rattle.workspace.specs.Bits.{bit_at}

-- row k is in the set at entry a and in that at entry b
unfoldable pub in_both : List ℕ → (a b k : ℕ) → Bool
in_both ws a b k = bit_at ws a k && bit_at ws b k

-- q is the first from p on and below n that passes the test, or n
pub record First (is : ℕ → Bool) (p n q : ℕ) : Type 0 where
  pub low : p ≤ q
  pub high : q ≤ n
  pub hit : q < n → is q ≡ true
  pub gap : (k : ℕ) → k < q → p ≤ k → is k ≡ false

-- o is the first row from p on and below n that passes the test; None where none does
abbrev pub FirstOf : (is : ℕ → Bool) (p n : ℕ) → Option ℕ → Type 0
FirstOf is p n (Some q) = (q < n) × First is p n q
FirstOf is p n None = First is p n n
