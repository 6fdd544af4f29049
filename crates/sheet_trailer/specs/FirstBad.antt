-- The first number that fails a test, as the code tells it.
use Rattle.std.specs.Prelude.{ℕ, ◌≡◌, ◌<◌, Bool, Option, Some, None}
use Rattle.paper.specs.Tests.{first_bad}

-- the first number below n that fails, or none where each passes
abbrev pub FirstBad : (ok : ℕ → Bool) (n : ℕ) → Option ℕ → Type 0
FirstBad ok n None = first_bad ok n ≡ n
FirstBad ok n (Some k) = (first_bad ok n ≡ k) × (k < n)
