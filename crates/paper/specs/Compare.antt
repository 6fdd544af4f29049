-- How bytes and words are compared: rows, constants, containment and equality all cite this.
use Rattle.std.specs.Prelude.{ℕ, ◌≡◌, Bool, true, List, [], ◌∷◌, ◌++◌, eqb}

-- the byte b of a row, a constant or a second term is the byte c
abbrev pub same_byte : ℕ → ℕ → Bool
same_byte b c = eqb b c

-- two words are the same, place by place
abbrev pub Same : List ℕ → List ℕ → Type 0
Same [] [] = Unit {0}
Same [] (c ∷ w) = ⊥
Same (b ∷ u) [] = ⊥
Same (b ∷ u) (c ∷ w) = (same_byte b c ≡ true) × Same u w

-- u stands in t: t is x, then u, then y
pub record StandsIn (u t : List ℕ) : Type 0 where
  pub before : List ℕ
  pub middle : List ℕ
  pub behind : List ℕ
  pub joined : t ≡ before ++ (middle ++ behind)
  pub same : Same u middle
