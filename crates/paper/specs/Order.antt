-- The order in which the walk comes to words, and what it means that a walk's outcome is the first of those asked for.
use Rattle.std.specs.Prelude.{ℕ, ◌<◌, ◌≡◌, ◌⊎◌, List, [], ◌∷◌, length}
use Rattle.paper.specs.Walk.{Walked, found, none}

-- "bytes rising": the lower byte where two words first differ
abbrev pub Lower : List ℕ → List ℕ → Type 0
Lower [] w = ⊥
Lower (a ∷ u) [] = ⊥
Lower (a ∷ u) (b ∷ w) = (a < b) ⊎ ((a ≡ b) × Lower u w)

-- "lengths n rise from shortest to longest": u is before w when it is shorter, or as long and lower
abbrev pub Before : List ℕ → List ℕ → Type 0
Before u w = (length u < length w) ⊎ ((length u ≡ length w) × Lower u w)

-- the outcome is right for the words of C: the word found is one of them and none of them is before it; none is said only where there is none
abbrev pub FirstOf : (List ℕ → Type 0) → Walked → Type 0
FirstOf C (found w t) = C w × ((u : List ℕ) → C u → Before u w → ⊥)
FirstOf C (none t) = (u : List ℕ) → C u → ⊥
