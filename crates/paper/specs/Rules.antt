-- The rules that a sheet carries.
use Rattle.std.specs.Prelude.{ℕ, Bool, ◌&&◌, eqb}

pub record Rules : Type 0 where
  pub cut : ℕ  -- 0: a cut past the end of v is not met; 1: it is shortened
  pub comparison : ℕ  -- 0: bytes are compared as they are

-- "cut rule 1 gives the bytes up to the end of v"
abbrev pub shortens : Rules → Bool
shortens r = eqb r.cut 1

-- every rule is 0, as it is where the edition has none
unfoldable pub no_rule : Rules → Bool
no_rule r = eqb r.cut 0 && eqb r.comparison 0
