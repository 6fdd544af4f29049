-- When a sheet is moved.
use Rattle.std.specs.Prelude.{ℕ, ◌≤◌, ◌≡◌, true, List, length}
use Rattle.paper.specs.Rules.{no_rule}
use Rattle.paper.specs.Trailer.{edition, rules_of}
use Rattle.paper.specs.Refusals.{Accepted}
use Rattle.paper.specs.Editions.{Move, from, to, in_edition}

-- none of 10 to 17, 40 and 41: an accepted sheet of the edition that is moved from, with no rule, and so many bytes of space are enough
pub record Movable (m : Move) (s : List ℕ) (space : ℕ) : Type 0 where
  pub accepted : Accepted s
  pub given : edition s ≡ from m
  pub no_rule : no_rule (rules_of s) ≡ true
  pub room : length (in_edition (to m) s) ≤ space
