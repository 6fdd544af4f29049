-- A closure adds bits to a table until a pass adds none: what tells a change, and what falls with each one.
use Rattle.std.specs.Prelude.{ℕ, ◌+◌, ◌-◌, ◌^◌, ◌<◌, ◌≡◌, Bool, true, false, List, [], ◌∷◌}

-- what the words lack to 2 ^ 64, summed
unfoldable pub room : List ℕ → ℕ
room [] = 0
room (w ∷ ws) = 2 ^ 64 - w + room ws

-- `new` tells whether a bit was added
pub record Grows (new : Bool) (old now : List ℕ) : Type 0 where
  pub still : new ≡ false → now ≡ old
  pub less : new ≡ true → room now < room old
