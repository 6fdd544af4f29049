-- The rows below n that pass a test, put into a span in rising order.
use Rattle.std.specs.Prelude.{ℕ, zero, suc, ◌<◌, ◌≡◌, Bool, List}
use Rattle.workspace.specs.Bits.{put_bit}

-- the rows below n that pass are in span s besides
unfoldable pub put_below : (ℕ → Bool) → List ℕ → (s n : ℕ) → List ℕ
put_below passes ws s zero = ws
put_below passes ws s (suc n) = put_bit (passes n) (put_below passes ws s n) s n

-- the same of a test that is known by what its calls answer: `answers q on`, it may answer `on` at row q
pub record PutWhere (answers : ℕ → Bool → Type 0) (s n : ℕ) (old new : List ℕ) : Type 0 where
  pub passes : ℕ → Bool
  pub told : (q : ℕ) → q < n → answers q (passes q)
  pub put : new ≡ put_below passes old s n
