-- Bytes written into space that is lent, one part behind the other.
use Rattle.std.specs.Prelude.{ℕ, ◌+◌, ◌≡◌, List, length}
use Rattle.std.proofs.lemmas.List.Edits.{sets}

-- the bytes x stand at o, with the space else as it was, and end at `end`
pub record Put (x : List ℕ) (o : ℕ) (old now : List ℕ) (end : ℕ) : Type 0 where
  pub bytes : now ≡ sets old o x
  pub stop : end ≡ o + length x
