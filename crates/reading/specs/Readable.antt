-- What the reading is handed.
use Rattle.std.specs.Prelude.{ℕ, ◌≡◌, true, List, length}
use Rattle.paper.specs.Gate.{n_of, well_formed}

-- a list that is well formed with the text, and a word of its length
pub record Readable (l text word : List ℕ) : Type 0 where
  pub formed : well_formed l (length text) ≡ true
  pub fit : length word ≡ n_of l
