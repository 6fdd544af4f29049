-- The 1,891 spans (start i, length m, i + m at most 60) of a term, numbered by their end i + m and then by their start.
use Rattle.std.specs.Prelude.{ℕ, zero, suc, ◌+◌}

-- 0 + 1 + .. + n
unfoldable pub tri : ℕ → ℕ
tri zero = zero
tri (suc n) = tri n + suc n

-- the number of the span of m places from place i on
unfoldable pub span_at : ℕ → ℕ → ℕ
span_at i m = tri (i + m) + i
