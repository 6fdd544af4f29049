-- A closure in place: passes over the rows, in rising and falling order by turns, until one adds nothing. Over what the passes keep (`Sound`) and
-- what a row asks for (`Settled`).
use Rattle.std.specs.Prelude.{ℕ, ◌-◌, ◌<◌, ◌≡◌, Bool, true, false, List}
use Rattle.workspace.specs.Room.{Grows}

-- the row whose turn is turn j of n
abbrev pub turn_of : Bool → ℕ → ℕ → ℕ
turn_of false n j = j
turn_of true n j = n - 1 - j

module _ (Sound : List ℕ → Type 0) (Settled : List ℕ → ℕ → Type 0) where
  -- row r has had its turn
  pub record Turn (r : ℕ) (new : Bool) (old now : List ℕ) : Type 0 where
    pub grows : Grows new old now
    pub sound : Sound old → Sound now
    pub settled : new ≡ false → Settled now r

  -- i turns of n are done
  pub record Turns (down : Bool) (n i : ℕ) (new : Bool) (old now : List ℕ) : Type 0 where
    pub grows : Grows new old now
    pub sound : Sound old → Sound now
    pub settled : new ≡ false → (j : ℕ) → j < i → Settled now (turn_of down n j)

  -- a pass is done
  pub record Pass (n : ℕ) (new : Bool) (old now : List ℕ) : Type 0 where
    pub grows : Grows new old now
    pub sound : Sound old → Sound now
    pub settled : new ≡ false → (r : ℕ) → r < n → Settled now r

  -- passes were done until one added nothing
  pub record Done (n : ℕ) (old now : List ℕ) : Type 0 where
    pub sound : Sound old → Sound now
    pub rows : (r : ℕ) → r < n → Settled now r
